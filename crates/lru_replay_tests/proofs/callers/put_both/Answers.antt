use Rattle.std.proofs.Common.{◌≡◌, true, subst}
use Rattle.std.proofs.lemmas.Bool.{eqb-true}
use Rattle.std.specs.List.{AllByRecursion}
use Rattle.lru_limits.specs.Limiters.{length_rules, length_terms, memory_rules, all_terms}
use Rattle.lru_limits.specs.Limits.{length-limits, memory-limits, both-first_length, both-second_memory}
use Rattle.lru_replay.specs.CallRuns.{SetsNoLimiter}
use Rattle.lru_replay_tests.proofs.Results.{follows}
use Rattle.lru_replay_tests.proofs.callers.put_both.Goals as goal

pub returns : goal.returns
returns c =
    let old = c.args.map.now in let new = c.run_calls.new.map in let calls = c.in_ok-calls.calls.items in
    let none : AllByRecursion SetsNoLimiter calls = rw c.in_ok-calls.ensures.items (tt, (tt, tt)) in
    let short = both-first_length length_rules memory_rules length_terms all_terms length-limits in
    let small = both-second_memory length_rules memory_rules length_terms all_terms memory-limits in
    let steps = c.lists_are_runs.ensures.calls old new calls in record {
      length = follows c.run_calls.result (λ answers run. c.runs_keep_the_length.ensures.length _ short old new
          ((steps _ run).limited none) c.requires.length) c.run_calls.ensures.run;
      usage = follows c.run_calls.result (λ answers run. c.runs_keep_the_memory_usage.ensures.usage _ small old new
          ((steps _ run).limited none) c.requires.usage) c.run_calls.ensures.run;
      oldest = λ test is too.
          follows c.run_calls.result (λ answers run. c.runs_evict_the_oldest.ensures.others test old new
          ((steps _ run).among test (rw c.in_ok-calls.ensures.items (
            (λ k named. subst (λ k. test k ≡ true) (eqb-true c.args.first.0 k named) is),
            ((λ k named. subst (λ k. test k ≡ true) (eqb-true c.args.second.0 k named) too), tt),
          )))) c.run_calls.ensures.run;
      paid = follows c.run_calls.result (λ answers run. c.runs_pay_for_moves.ensures.rise old new (steps _ run).any
          c.len-len.ensures.map.sized) c.run_calls.ensures.run;
    }
