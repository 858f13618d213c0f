use Rattle.std.proofs.Common.{◌≡◌, ℕ, ◌<◌, Ok, Err, true, false, List, [], ◌∷◌, length, refl, ap, ◌∙◌, subst, arith}
use Rattle.std.proofs.Common.{inl, inr}
use Rattle.lru_limits.specs.Rules.{Rules}
use Rattle.lru_model.specs.Sizes.{new_table}
use Rattle.lru_model.specs.State.{State, MovesTo}
use Rattle.lru_model.specs.Place.{table_for}
use Rattle.lru_model.specs.Reservations.{NeedsGrowthFor, Reserve, reserved, asked_only}
use Rattle.lru_model.specs.declared.results.ReserveError.TheVariants.{Refused, Memory}

pub some_there : {X : Type 0} (xs : List X) → (xs ≡ [] → ⊥) → 0 < length xs
some_there [] some = absurd (some refl)
some_there (x ∷ xs) some = omega arith

module _ {K V S H : Type 0} (rules : Rules K V S) (n : ℕ) (old new : State K V S H)
    (needs_growth : NeedsGrowthFor n old)
    (count bytes : ℕ) (is : table_for n old ≡ new_table count bytes)
    (s : S) (queried : s ≡ (rules.on_grow old.limiter bytes).limiter) where
  pub is_reserved : (rules.on_grow old.limiter bytes).allowed ≡ true → MovesTo count (record old { limiter = s }) new
      → Reserve rules n old (Ok tt) new
  is_reserved granted step = reserved needs_growth count bytes is granted refl
      (subst (λ l. MovesTo count (record old { limiter = l }) new) queried step)

  pub asked_only_granted : (rules.on_grow old.limiter bytes).allowed ≡ true → new ≡ record old { limiter = s }
      → Reserve rules n old (Err Memory) new
  asked_only_granted granted step = asked_only needs_growth count bytes is (inl (granted, refl))
      (step ∙ ap {A = S} {B = State K V S H} (λ l. record old { limiter = l }) queried)

  pub is_denied : (rules.on_grow old.limiter bytes).allowed ≡ false → new ≡ record old { limiter = s }
      → Reserve rules n old (Err Refused) new
  is_denied refusal step = asked_only needs_growth count bytes is (inr (refusal, refl))
      (step ∙ ap {A = S} {B = State K V S H} (λ l. record old { limiter = l }) queried)
