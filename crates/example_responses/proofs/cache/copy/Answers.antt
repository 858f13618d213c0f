use Rattle.std.proofs.Common.{inl, refl, ◌∙◌}
use Rattle.example_responses.proofs.cache.copy.Goals as goal

pub returns-in-Ok : goal.returns-in-Ok
returns-in-Ok c = inl (_, (c.in-Ok.ensures.items ∙ c.deref.ensures.value, refl), refl)
