pub mod ByteLemmas
pub mod MixingLemmas
