use Rattle.std.proofs.Common.{refl, sym, ◌∙◌}
use Rattle.std.proofs.lemmas.List.{nil_from_length}
use Rattle.lru_model.specs.Place.{nothing_to_evict}
use Rattle.lru_model.proofs.PairLists.Emptiness.{empty-length}
use Rattle.schnellru.proofs.map.LruMap.store_without_growth.Goals as goal

pub returns-then-is_empty-clause-passed : goal.returns-then-is_empty-clause-passed
returns-then-is_empty-clause-passed g c =
    let none = nil_from_length c.args.self.now.pairs
    (empty-length c.args.self.now.pairs (sym c.is_empty.ensures ∙ c.if-is_empty.true)) in
    λ first before taken.
    let (after, had, away) = c.pass_unstored.ensures.passed first before taken in
    (after, had, nothing_to_evict none refl away)
