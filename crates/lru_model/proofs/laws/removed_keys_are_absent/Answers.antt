use Rattle.std.proofs.Common.{ap, ◌∙◌}
use Rattle.lru_model.specs.Lists.{lookup_entry}
use Rattle.lru_model.proofs.PairLists.DistinctKeys.{absent_without}
use Rattle.lru_model.proofs.laws.removed_keys_are_absent.Goals as goal

pub returns : goal.returns
returns g c = λ key old result new distinct step.
    ap (λ st. lookup_entry (g.I.LookupKey.names key) st.pairs) step.state.is
    ∙ absent_without _ (g.I.LookupKey.names key) (g.met.I.LookupKey.laws.one key) old.pairs distinct
