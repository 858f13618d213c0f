use Rattle.std.proofs.Common.{◌∷◌, [], arith, sym, ap, ◌∙◌, length}
use Rattle.std.proofs.lemmas.List.{length-append}
use Rattle.lru_replay.proofs.CallRuns.{next_run, next_items, whole_run}
use Rattle.lru_replay.proofs.calls.run_calls.Goals as goal

pub loop-call-preserved : goal.loop-call-preserved
loop-call-preserved g c =
    let h = c.loop-call.invariant in
    let first = c.in-Some.ensures.steps.0 in
    record {
      items = next_items c.loop-call.yielded first h.items;
      left = omega (arith, c.in-Some.ensures.steps.1, h.left, ap length first);
      run = next_run _ _ _ c.loop-call.yielded _ _ _ _ _ _ c.push_reserved.ensures.items h.run
          c.make_call.ensures.step c.make_call.ensures.map;
      len = omega (arith, c.push_reserved.ensures.len, h.len, length-append c.loop-call.yielded (c.in-Some.call ∷ []));
      capacity = omega (arith, c.push_reserved.ensures.capacity, h.capacity);
    }

pub returns-clause-run : goal.returns-clause-run
returns-clause-run g c =
    let h = c.loop-call.invariant in
    whole_run _ _ _ c.loop-call.yielded _ _ _ _ (sym h.left ∙ c.in-None.ensures.steps.0) h.items h.run
