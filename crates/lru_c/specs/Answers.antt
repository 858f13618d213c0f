-- What the functions of the C library return.
use Rattle.std.specs.Prelude.{◌≡◌, ◌≤◌, length, ℕ, suc, Bool, true, false, Option, None, Some, Result, Ok, Err, List, [], ◌∷◌}
use Rattle.std.specs.Prelude.{if◌then◌else◌, nat_eq, MatchOption}
use Rattle.std.specs.declared.alloc.AllocError.{AllocError}
use Rattle.lru_limits.specs.Limiters.{length_rules, length_offers}
use Rattle.lru_model.specs.Callbacks.{InsertPasses}
use Rattle.lru_model.specs.Calls.{promoted}
use Rattle.lru_model.specs.Kept.{most_exact_length}
use Rattle.lru_model.specs.Lists.{lookup}
use Rattle.lru_model.specs.Theorems.{others}
use Rattle.lru_c.specs.Handle.{Map, hash_of}
use Rattle.lru_c.specs.declared.answers.Entry.{Entry}
use Rattle.lru_c.specs.declared.answers.Found.{Found}
use Rattle.lru_c.specs.declared.answers.Inserted.{Inserted}
use Rattle.lru_c.specs.declared.answers.Pair.{Pair}

abbrev pub found_of : Option ℕ → Found
found_of None = record { value = 0; found = false }
found_of (Some value) = record { value = value; found = true }

abbrev pub pair_of : Option (ℕ × ℕ) → Pair
pair_of None = record { key = 0; value = 0; found = false }
pair_of (Some pair) = record { key = pair.0; value = pair.1; found = true }

abbrev pub inserted_of : ℕ → Option ℕ → Bool → Inserted
inserted_of code None evicted = record { old_value = 0; code = code; replaced = false; evicted = evicted }
inserted_of code (Some old_value) evicted =
    record { old_value = old_value; code = code; replaced = true; evicted = evicted }

abbrev pub noted_pair : Bool → Entry → Option (ℕ × ℕ)
noted_pair noted place = if noted then Some (place.key, place.value) else None

-- The caller's slots after pairs were copied into the slots. The copying ends when no pair or no slot is left.
abbrev pub filled : List (ℕ × ℕ) → List Entry → List Entry
filled [] slots = slots
filled (pair ∷ pairs) [] = []
filled (pair ∷ pairs) (slot ∷ slots) = record { key = pair.0; value = pair.1 } ∷ filled pairs slots

abbrev pub fitting : List (ℕ × ℕ) → List Entry → ℕ
fitting [] slots = 0
fitting (pair ∷ pairs) [] = 0
fitting (pair ∷ pairs) (slot ∷ slots) = suc (fitting pairs slots)

-- If a pair was noted before, the result is this pair. Otherwise the result is `pair`, or `None` if the key of `pair`
-- is `key`.
abbrev pub noting_other : ℕ → Option (ℕ × ℕ) → ℕ × ℕ → Option (ℕ × ℕ)
noting_other key None pair = if nat_eq key pair.0 then None else Some pair
noting_other key (Some noted) pair = Some noted

abbrev pub first_other : ℕ → List (ℕ × ℕ) → Option (ℕ × ℕ)
first_other key [] = None
first_other key (pair ∷ pairs) = if nat_eq key pair.0 then first_other key pairs else Some pair

abbrev pub put_code : Result Bool AllocError → ℕ
put_code (Ok true) = 0
put_code (Ok false) = 1
put_code (Err error) = 2

-- An insert that may write a pair to an entry of the caller. The entry is `place` before the insert, and `left` after
-- the insert. If the insert evicts pairs of other keys, `left` is the first of these pairs. Otherwise `left` is
-- `place`.
pub record Inserts (key value : ℕ) (old : Map) (answer : Inserted) (place left : Entry) (new : Map) : Type 0 where
  pub result : Result Bool AllocError
  pub passed : List (ℕ × ℕ)
  pub step : InsertPasses length_rules length_offers nat_eq hash_of key value old result passed new
  pub evicted : noted_pair answer.evicted left ≡ first_other key passed
  pub untouched : answer.evicted ≡ false → left ≡ place
  -- `most_exact_length` is 939,524,096.
  pub one_evicted : old.limiter ≤ most_exact_length → length (others (nat_eq key) passed) ≤ 1
  pub returned : answer ≡ inserted_of (put_code result) (lookup (nat_eq key) old.pairs) answer.evicted

-- If the map contains the key, the pair of the key becomes the newest, and its value is returned as the old value.
-- Otherwise, the value is inserted.
abbrev pub GetsOrInserts : ℕ → ℕ → Map → Inserted → Entry → Entry → Map → Type 0
GetsOrInserts key value old answer place left new = MatchOption (lookup (nat_eq key) old.pairs)
    (Inserts key value old answer place left new)
    (λ there. (answer ≡ inserted_of 0 (Some there) false) × (left ≡ place) × (new ≡ promoted (nat_eq key) old))

-- If the handle has a map, the map changes as `step` says. If the handle has no map, it has none after the call, and
-- `returns_nothing` is true.
abbrev pub OnMap : {M : Type 0} → Type 0 → (M → M → Type 0) → Option M → Option M → Type 0
OnMap returns_nothing step None None = returns_nothing
OnMap returns_nothing step None (Some after) = ⊥
OnMap returns_nothing step (Some before) None = ⊥
OnMap returns_nothing step (Some before) (Some after) = step before after
