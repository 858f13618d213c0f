-- What `pop_oldest_if` and `try_pop_oldest` do: a closure decides whether the oldest pair is popped.
--     `says pair answer`: the closure may return `answer` for the pair.
use Rattle.std.specs.Prelude.{◌≡◌, Bool, true, false, Option, Some, None, Result, Ok, Err}
use Rattle.std.specs.Borrow.{Bor}
use Rattle.lru_limits.specs.Rules.{Rules}
use Rattle.lru_model.specs.Lists.{last}
use Rattle.lru_model.specs.State.{State}
use Rattle.lru_model.specs.Calls.{PopOldest}

-- a call of the closure with references to the key and the value of the pair may return `answer`
abbrev pub Says : {K V A : Type 0} → (Bor K → Bor V → A → Type 0) → K × V → A → Type 0
Says {K} {V} returns pair answer = (key : Bor K) × (value : Bor V)
    × (key.now ≡ pair.0) × (value.now ≡ pair.1) × returns key value answer

module _ {K V S H : Type 0} (rules : Rules K V S) where
  -- if the closure accepts the oldest pair, the call removes and returns this pair
  pub data PopOldestIf (says : K × V → Bool → Type 0) (old : State K V S H) (result : Option (K × V))
      (new : State K V S H) : Type 0 where
    empty : last old.pairs ≡ None → result ≡ None → new ≡ old →
        PopOldestIf says old result new
    rejected : (pair : K × V) → last old.pairs ≡ Some pair → says pair false →
        result ≡ None → new ≡ old →
        PopOldestIf says old result new
    accepted : (pair : K × V) → last old.pairs ≡ Some pair → says pair true →
        PopOldest rules old result new →
        PopOldestIf says old result new

  -- if the closure succeeds for the oldest pair, the call removes and returns this pair
  pub data TryPopOldest {E : Type 0} (says : K × V → Result (Unit {0}) E → Type 0) (old : State K V S H)
      (result : Result (Option (K × V)) E) (new : State K V S H) : Type 0 where
    no_pair : last old.pairs ≡ None → result ≡ Ok None → new ≡ old →
        TryPopOldest says old result new
    failed : (pair : K × V) → last old.pairs ≡ Some pair → (e : E) → says pair (Err e) →
        result ≡ Err e → new ≡ old →
        TryPopOldest says old result new
    popped : (pair : K × V) → last old.pairs ≡ Some pair → says pair (Ok tt) →
        (left : Option (K × V)) → result ≡ Ok left → PopOldest rules old left new →
        TryPopOldest says old result new
