use Rattle.lru_trace.proofs.tree.Tree.+new.Given as goal

abbrev pub decreases-new : goal.decreases-new
decreases-new l = l.slots
