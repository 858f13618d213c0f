use Rattle.std.proofs.Common.{refl, ap}
use Rattle.lru_tenants.specs.declared.call.TenantAnswer.TheVariants as answers
use Rattle.lru_tenants.proofs.Changes.{only-same}
use Rattle.lru_tenants.proofs.runs.answer_to.Goals as goal

pub returns-in-Cost : goal.returns-in-Cost
returns-in-Cost g c = rw (c.in-Cost.is) (
  refl,
  ((ap answers.Cost c.cost.ensures.cost, refl), only-same (g.met.N.Eq.laws.congr c.in-Cost.name) _),
)
