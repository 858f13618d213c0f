use Rattle.lru_caches_tests.proofs.trials.recursion.+fibonacci.Given as goal

abbrev pub decreases-fibonacci : goal.decreases-fibonacci
decreases-fibonacci l = l.n
