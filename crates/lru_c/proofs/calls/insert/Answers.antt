use Rattle.std.proofs.Common.{rules, Ok, Err}
use Rattle.lru_c.proofs.calls.insert.Goals as goal

pub returns-in-Ok : goal.returns-in-Ok
returns-in-Ok c = let (passed, evicted, step, one) = c.in-Ok.ensures.passed in record {
  result = Ok c.in-Ok.inserted.kept;
  passed = passed;
  step = step;
  evicted = search (rules, evicted);
  untouched = search rules;
  one_evicted = one;
  returned = search rules;
}

pub returns-in-Err : goal.returns-in-Err
returns-in-Err c = let (passed, evicted, step, one) = c.in-Err.ensures.passed in record {
  result = Err c.in-Err.field-0;
  passed = passed;
  step = step;
  evicted = search (rules, evicted);
  untouched = search rules;
  one_evicted = one;
  returned = search rules;
}
