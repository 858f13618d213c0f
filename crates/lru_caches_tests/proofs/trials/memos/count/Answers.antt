use Rattle.lru_caches_tests.proofs.trials.memos.count.Goals as goal

pub load-requires-clause-callable : goal.load-requires-clause-callable
load-requires-clause-callable g c = rw c.loop.invariant.source c.requires.can_load

pub load-requires-in-loop-clause-callable : goal.load-requires-in-loop-clause-callable
load-requires-in-loop-clause-callable g c =
    rw (c.load.ensures.function, c.loop.invariant.source) c.requires.can_load
