use Rattle.lru_caches_tests.proofs.examples.of_memo_loader.Goals as goal
use Rattle.lru_caches_tests.proofs.examples.of_memo_loader.Goals.{then-eq, else-eq}

pub remove-requires-then-remove : goal.remove-requires-then-remove
remove-requires-then-remove g c = elim c.if-eq.branch [
  | then-eq w ↦ record { known = rw w.blocks-is w.remove.ensures.known }
  | else-eq w ↦ record { known = rw w.blocks-is c.load-3.ensures.known }
]
