use Rattle.std.specs.List.{AllByRecursion}
use Rattle.lru_limits.specs.Budget.{charges-sums}
use Rattle.lru_replay.specs.CallRuns.{SetsNoLimiter}
use Rattle.lru_replay_tests.proofs.Results.{follows}
use Rattle.lru_replay_tests.proofs.callers.charge_both.Goals as goal

pub returns : goal.returns
returns c =
    let old = c.args.map.now in let new = c.run_summing.new.map in let calls = c.in_ok-calls.calls.items in
    let none : AllByRecursion SetsNoLimiter calls = rw c.in_ok-calls.ensures.items (tt, (tt, tt)) in record {
      within = follows c.run_summing.result (λ answers run. c.runs_keep_the_budget.ensures.total old new
          ((c.lists_are_runs.ensures.summing _ _ old new calls _ run).1 none) c.requires.summed c.requires.within)
          c.run_summing.ensures.run;
      summed = follows c.run_summing.result (λ answers run. c.runs_keep_sums.ensures.sum (λ k v. v) (λ b. b.cost)
          (charges-sums (λ v. v)) old new ((c.lists_are_runs.ensures.summing _ _ old new calls _ run).1 none)
          c.requires.summed) c.run_summing.ensures.run;
    }
