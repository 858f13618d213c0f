use Rattle.std.proofs.Common.{◌∷◌, nat_eq, refl, ap, ◌∙◌}
use Rattle.lru_limits.specs.Limiters.{no_rules, all_terms}
use Rattle.lru_model.specs.State.{contents}
use Rattle.lru_model.specs.Lists.{lookup_entry}
use Rattle.lru_model.proofs.CallerLemmas.{offers_of-accepts}
use Rattle.schnellru_tests.proofs.callers.put_and_keep_all.Goals as goal

pub returns-clause-added : goal.returns-clause-added
returns-clause-added c =
    let mid = c.try_reserve.new.self in
    let stay = c.try_reserve.ensures.pairs in
    let absent = ap (lookup_entry (nat_eq c.args.key)) stay ∙ c.requires in
    let accepts = offers_of-accepts all_terms no_rules nat_eq c.args.key c.args.value (contents mid) refl refl in
    let law = c.inserts_with_room_are_exact.ensures.added c.args.key c.args.value (c.args.key, c.args.value) mid in
    (law c.insert.result c.insert.new.self c.in_ok-try_reserve.ensures.growth_left absent accepts c.insert.ensures.step).pairs
    ∙ ap (λ pairs. (c.args.key, c.args.value) ∷ pairs) stay
