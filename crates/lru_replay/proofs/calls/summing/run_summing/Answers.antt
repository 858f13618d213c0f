use Rattle.std.proofs.Common.{◌∷◌, [], arith, sym, ap, ◌∙◌, length}
use Rattle.std.proofs.lemmas.List.{length-append}
use Rattle.lru_model.specs.Theorems.{IsSummed}
use Rattle.lru_replay.proofs.CallRuns.{next_run, next_items, whole_run}
use Rattle.lru_replay.proofs.calls.summing.run_summing.Goals as goal

pub loop-call-preserved : goal.loop-call-preserved
loop-call-preserved g c =
    let h = c.loop-call.invariant in
    let first = c.in-Some.ensures.steps.0 in
    let cost = g.L.Summing.cost_of in
    let account = g.L.Summing.account in
    let sum : IsSummed cost account c.args.map.now → IsSummed cost account c.make_summing_call.new.map =
    λ begun. c.make_summing_call.ensures.account (h.account begun) in
    record {
      items = next_items c.loop-call.yielded first h.items;
      left = omega (arith, c.in-Some.ensures.steps.1, h.left, ap length first);
      run = next_run _ _ _ c.loop-call.yielded _ _ _ _ _ _ c.push_reserved.ensures.items h.run
          c.make_summing_call.ensures.step c.make_summing_call.ensures.map;
      sums = λ begun. next_run _ _ _ c.loop-call.yielded _ _ _ _ _ _ c.push_reserved.ensures.items (h.sums begun)
          c.make_summing_call.ensures.step (c.make_summing_call.ensures.map, sum begun);
      account = sum;
      len = omega (arith, c.push_reserved.ensures.len, h.len, length-append c.loop-call.yielded (c.in-Some.call ∷ []));
      capacity = omega (arith, c.push_reserved.ensures.capacity, h.capacity);
    }

pub returns-clause-run : goal.returns-clause-run
returns-clause-run g c =
    let h = c.loop-call.invariant in
    whole_run _ _ _ c.loop-call.yielded _ _ _ _ (sym h.left ∙ c.in-None.ensures.steps.0) h.items h.run

pub returns-clause-sums : goal.returns-clause-sums
returns-clause-sums g c =
    let h = c.loop-call.invariant in
    λ begun. whole_run _ _ _ c.loop-call.yielded _ _ _ _ (sym h.left ∙ c.in-None.ensures.steps.0) h.items
    (h.sums begun)
