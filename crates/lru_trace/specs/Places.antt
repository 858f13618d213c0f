-- The places of `lru_theory` (`place_call`), as the curve `DeleteCurve` stores them.
use Rattle.std.specs.Prelude.{◌≡◌, ℕ, ◌<◌, ◌≤◌, Bool, true, false, if◌then◌else◌, List, [], ◌∷◌, length}
use Rattle.std.specs.Prelude.{get_or, is_some, nat_eq, Option, Some, None, IfSome}
use Rattle.std.specs.Map.{lookup}
use Rattle.std.specs.BTreeMap.{is_at}
use Rattle.std.specs.Ordering.{nat_cmp}
use Rattle.lru_theory.specs.Places.{keys_in, vacated, freed}
use Rattle.lru_theory.specs.Traces.{is_in}
use Rattle.lru_trace.specs.Slots.{Recent}

abbrev pub time_in : List ℕ → ℕ → ℕ
time_in times id = get_or times id 0

-- the free place whose last reference was at this time
abbrev pub free_at : List (ℕ × ℕ) → ℕ → Option ℕ
free_at free time = lookup (is_at (nat_cmp time)) free

abbrev pub is_free : List (ℕ × ℕ) → List ℕ → ℕ → Bool
is_free free times id = is_some (free_at free (time_in times id))

-- `None` if the place with this number is free. Otherwise the key in the place, which has the same number.
abbrev pub mark : (ℕ → Bool) → ℕ → Option ℕ
mark is_free id = if is_free id then None else Some id

abbrev pub owns : Option ℕ → ℕ → Bool
owns None id = false
owns (Some own) id = nat_eq own id

-- the times are below `bound`, and fall along the list
abbrev pub Falls : (ℕ → ℕ) → ℕ → List ℕ → Type 0
Falls time bound [] = Unit {0}
Falls time bound (id ∷ ids) = (time id < bound) × Falls time (time id) ids

pub record ArePlaces (recent : Recent) (times : List ℕ) (free : List (ℕ × ℕ)) (clock : ℕ) : Type 0 where
  pub aligned : length times ≡ recent.keys
  pub plain : recent.weights ≡ []
  pub falls : Falls (time_in times) clock recent.recency
  pub known : (id : ℕ) → is_in nat_eq id recent.recency ≡ true → id < recent.keys
  pub found : (time id : ℕ) → free_at free time ≡ Some id → (is_in nat_eq id recent.recency ≡ true) × (time_in times id ≡ time)

-- The free place with this time is taken, and the place of the key `own` becomes free.
abbrev pub after_taken : Option ℕ → List ℕ → ℕ → List (ℕ × ℕ) → ℕ → Option ℕ
after_taken None times taken free time = if is_at (nat_cmp taken) time then None else free_at free time
after_taken (Some own) times taken free time = if is_at (nat_cmp taken) time then None
    else if is_at (nat_cmp (time_in times own)) time then Some own else free_at free time

abbrev pub IsSomeAnd : Option ℕ → (ℕ → Type 0) → Type 0
IsSomeAnd None Holds = ⊥
IsSomeAnd (Some id) Holds = Holds id

-- The place that a reference moves to the front: the newest free place (`takes`), or the place of the key `own` if no
-- free place is newer (`stays`).
pub data Chosen (own : Option ℕ) (times : List ℕ) (old new : List (ℕ × ℕ)) (chosen : Option ℕ) : Type 0 where
  stays : chosen ≡ own → new ≡ old
      → ((time : ℕ) → is_some (free_at old time) ≡ true → IsSomeAnd own (λ id. time ≤ time_in times id))
      → Chosen own times old new chosen
  takes : (time id : ℕ) → chosen ≡ Some id → free_at old time ≡ Some id
      → ((t : ℕ) → is_some (free_at old t) ≡ true → t ≤ time) → IfSome own (λ o. time_in times o < time)
      → ((t : ℕ) → free_at new t ≡ after_taken own times time old t) → Chosen own times old new chosen

-- The places after a reference to the key `own`, or to a new key if `own` is `None`. The key now has the number `id`.
pub record Referred (own : Option ℕ) (id : ℕ) (old new : List (Option ℕ)) : Type 0 where
  pub places : new ≡ Some id ∷ vacated (owns own) old
  pub fresh : is_in nat_eq id (keys_in (vacated (owns own) old)) ≡ false
  pub gone : IfSome own (λ i. is_in nat_eq i (keys_in (vacated (owns own) old)) ≡ false)

pub record Freed (id : ℕ) (old new : List (Option ℕ)) : Type 0 where
  pub places : new ≡ freed (nat_eq id) old
  pub gone : is_in nat_eq id (keys_in new) ≡ false
