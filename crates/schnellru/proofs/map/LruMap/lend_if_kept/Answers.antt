use Rattle.std.proofs.Common.{Ok, refl, ap, sym, ◌∙◌}
use Rattle.schnellru.proofs.map.LruMap.lend_if_kept.Goals as goal

pub returns-in-Ok-true : goal.returns-in-Ok-true
returns-in-Ok-true g c =
    let kept = sym (c.in-Ok-true.is ∙ ap Ok c.in-Ok-true.field-0-test) in
    let lent = c.newest_value_mut.ensures in
    ((refl, λ w _. (c.args.self.now, (kept, refl), lent.value, refl, lent.map w), tt), record { writes_back = tt })
