use Rattle.lru_model.proofs.Theorems.NewestInserts.{leaves_newest, leaves_with_room, leaves_newest_of}
use Rattle.lru_model.proofs.laws.kept.inserts_leave_the_newest.Goals as goal

pub returns-clause-newest : goal.returns-clause-newest
returns-clause-newest g c = λ key value old result new keeps step. leaves_newest _ key value old result new keeps step

pub returns-clause-with_room : goal.returns-clause-with_room
returns-clause-with_room g c = λ key value old result new few some step.
    leaves_with_room _ key value old result new few some step

pub returns-clause-lists : goal.returns-clause-lists
returns-clause-lists g c = λ inserted old new keeps run. (leaves_newest_of _ old keeps inserted new run).pairs
