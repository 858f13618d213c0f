use Rattle.lru_replay.proofs.ReferenceLoops.{hit, miss, keeps_after}
use Rattle.lru_replay.proofs.references.programs_make_references.Goals as goal

pub returns : goal.returns
returns g c = record {
  hits = λ trace missed key value old mid new run found h. hit trace missed key value mid new run found h;
  misses = λ trace missed key old mid new run none h. miss trace missed key mid new run none h;
  keeps = λ trace missed old new run keeps. keeps_after trace missed new run keeps;
}
