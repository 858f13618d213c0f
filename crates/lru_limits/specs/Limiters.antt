-- What the limiters of this crate decide. The limiters by cost are in `Budget`, and the limiter by bytes is in `Bytes`.
--     `length_rules`, `length_terms`, `length_offers`: the limiter by length, whose state is the limit.
--     `memory_rules`: the rules of the limiter by memory usage, whose state is the limit.
--     `no_rules`: the rules of a limiter that limits nothing.
--     `all_terms`, `all_offers`: the terms and offers of a limiter that accepts each entry.
use Rattle.std.specs.Prelude.{ℕ, true, false, nat_lt, nat_le}
use Rattle.lru_limits.specs.Rules.{Rules, Offers}
use Rattle.lru_limits.specs.Admissions.{Terms, offers_of, never_changes}
use Rattle.lru_limits.specs.Stores.{plain}

-- a map of more than `most` entries is over the limit, and any growth is permitted
abbrev pub length_rules : {K V : Type 0} → Rules K V ℕ
length_rules = plain (λ most length. nat_lt most length) (λ _ _. true)

-- every entry is accepted if `most` is above 0
abbrev pub length_terms : {K V : Type 0} → Terms K V ℕ
length_terms = never_changes (λ most _ _. nat_lt 0 most)

abbrev pub length_offers : {K V : Type 0} → Offers K V ℕ K
length_offers = offers_of length_terms

-- no map is over the limit, and a table of more than `most` bytes is refused
abbrev pub memory_rules : {K V : Type 0} → Rules K V ℕ
memory_rules = plain (λ _ _. false) (λ most bytes. nat_le bytes most)

abbrev pub no_rules : {K V S : Type 0} → Rules K V S
no_rules = plain (λ _ _. false) (λ _ _. true)

abbrev pub all_terms : {K V S : Type 0} → Terms K V S
all_terms = never_changes (λ _ _ _. true)

abbrev pub all_offers : {K V S : Type 0} → Offers K V S K
all_offers = offers_of all_terms
