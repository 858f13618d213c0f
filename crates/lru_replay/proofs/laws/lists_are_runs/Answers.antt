use Rattle.lru_replay.proofs.CallLaws.{are_steps, call_kinds, summing_kinds, kept_run}
use Rattle.lru_replay.proofs.laws.lists_are_runs.Goals as goal

pub returns-clause-calls : goal.returns-clause-calls
returns-clause-calls g c = λ old new calls replies run. are_steps call_kinds old calls replies new run

pub returns-clause-summing : goal.returns-clause-summing
returns-clause-summing g c = λ cost account old new calls replies run.
    (are_steps (summing_kinds cost account) old calls replies new run, kept_run cost account old calls replies new run)
