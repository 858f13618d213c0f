use Rattle.lru_model.proofs.EveryCall.{any_steps, tries_pop}
use Rattle.schnellru_tests.proofs.every_call.release.Goals as goal

pub returns : goal.returns
returns g c = any_steps (tries_pop c.try_pop_oldest.ensures.map.sized c.try_pop_oldest.ensures.step)
