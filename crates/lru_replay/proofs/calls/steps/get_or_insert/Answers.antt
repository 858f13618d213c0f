use Rattle.std.proofs.Common.{rules, true, false, Ok, Err, ap, refl}
use Rattle.lru_replay.specs.Replies.{value}
use Rattle.lru_replay.proofs.MadeValues.{made-value, made-flag}
use Rattle.lru_replay.proofs.calls.steps.get_or_insert.Goals as goal

pub returns-in-Ok-true : goal.returns-in-Ok-true
returns-in-Ok-true g c = (
  Ok true,
  made-flag c.args.value (λ v h. search rules) c.in-Ok-true.field-0 true c.in-Ok-true.field-0-test
      c.in-Ok-true.ensures.step,
  ap value c.newest_value.ensures,
)

pub returns-in-Ok-false : goal.returns-in-Ok-false
returns-in-Ok-false g c = (
  Ok false,
  made-flag c.args.value (λ v h. search rules) c.in-Ok-false.field-0 false c.in-Ok-false.field-0-test
      c.in-Ok-false.ensures.step,
  refl,
)

pub returns-in-Err : goal.returns-in-Err
returns-in-Err g c =
    (Err c.in-Err.field-0, made-value c.args.value (λ v h. search rules) c.in-Err.ensures.step, refl)
