use Rattle.std.proofs.Common.{◌≤◌, length, sym, subst}
use Rattle.lru_limits.specs.Limits.{length-limits}
use Rattle.lru_model.specs.Runs.Step.{inserts}
use Rattle.schnellru_tests.proofs.callers.put_within.Goals as goal

pub returns : goal.returns
returns c =
    let old = c.args.map.now in let new = c.insert.new.self in
    let law = c.calls_keep_the_length.ensures in
    let step = inserts c.args.key c.args.value c.insert.result c.insert.ensures.step in
    subst (λ most. length new.pairs ≤ most) (sym (law.limit _ length-limits old new step))
    (law.length _ length-limits old new step c.requires)
