-- Calls that reserve growth only when no growth is left. `PaysForInsertions` holds for any sequence of these calls.
use Rattle.std.specs.Prelude.{◌≡◌, ℕ, Bool, Result}
use Rattle.lru_limits.specs.Rules.{Rules}
use Rattle.lru_limits.specs.Admissions.{Terms, offers_of}
use Rattle.lru_model.specs.State.{State, growth_left}
use Rattle.lru_model.specs.TryInserts.{TryInsert}
use Rattle.lru_model.specs.Runs.{AnyStep, calls, reserves}

module _ {K V S H : Type 0} (terms : Terms K V S) (rules : Rules K V S) (eq : K → K → Bool)
    (hash_of : H → K → ℕ) where
  -- if the step is a reservation, no growth was left before this step
  abbrev pub ReservesIfFull : (old new : State K V S H) → AnyStep rules (offers_of terms) eq hash_of old new → Type 0
  ReservesIfFull old new (calls (reserves n result h)) = growth_left old ≡ 0
  ReservesIfFull old new step = Unit {0}

  -- a `try_insert`, or an `AnyStep` that satisfies `ReservesIfFull`
  pub data PaidStep (old new : State K V S H) : Type 0 where
    tries : (key : K) (value : V) (result : Result (Unit {0}) (K × V)) →
        TryInsert terms rules key value old eq hash_of result new → PaidStep old new
    others : (step : AnyStep rules (offers_of terms) eq hash_of old new) → ReservesIfFull old new step → PaidStep old new
