-- What `try_insert` does: it inserts a new pair only if no pair has to be evicted.
use Rattle.std.specs.Prelude.{◌≡◌, ℕ, ◌+◌, ◌<◌, ◌∷◌, Bool, true, false, not, if◌then◌else◌, length, Some, None}
use Rattle.std.specs.Prelude.{Result, Ok, Err, OnOk, OnErr, IfErr}
use Rattle.lru_limits.specs.Rules.{Rules}
use Rattle.lru_limits.specs.Admissions.{Terms, offers_of}
use Rattle.lru_model.specs.Lists.{lookup_entry}
use Rattle.lru_model.specs.State.{State, Contents, contents, growth_left, IsSized}
use Rattle.lru_model.specs.Reservations.{Reserve}
use Rattle.lru_model.specs.Inserts.{Insert}
use Rattle.lru_model.specs.Runs.{Step, Run}
use Rattle.lru_model.specs.declared.results.ReserveError.{ReserveError}

-- `ready` is the map just before the insert: `old`, or if no growth is left, `old` after a reservation of growth.
pub data IsReady {K V S H : Type 0} (rules : Rules K V S) (old ready : State K V S H) : Type 0 where
  has_growth : 0 < growth_left old → ready ≡ old →
      IsReady rules old ready
  reserved : growth_left old ≡ 0 → Reserve rules 1 old (Ok tt) ready → IsSized ready →
      IsReady rules old ready

module _ {K V S : Type 0} (terms : Terms K V S) (rules : Rules K V S) where
  -- whether the limiter accepts the pair of a new key, and the map would not be over the limit with this pair
  abbrev pub can_store : K → V → Contents K V S → Bool
  can_store key value c = if terms.accepts c.limiter (length c.pairs) key value
      then not (rules.is_over_the_limit (terms.admit c.limiter (length c.pairs) key value) (length c.pairs + 1))
      else false

  module _ {H : Type 0} (key : K) (value : V) (old : State K V S H) where
    pub data IsUnready (left : State K V S H) : Type 0 where
      not_reserved : growth_left old ≡ 0 → (error : ReserveError) → Reserve rules 1 old (Err error) left →
          IsUnready left
      cannot_store_then : growth_left old ≡ 0 → Reserve rules 1 old (Ok tt) left →
          can_store key value (contents left) ≡ false →
          IsUnready left

    module _ (eq : K → K → Bool) (hash_of : H → K → ℕ) where
      pub data TryInsert (result : Result (Unit {0}) (K × V)) (new : State K V S H) : Type 0 where
        -- If the map already contains the key, or if `can_store` is false, nothing changes.
        there : (pair : K × V) → lookup_entry (eq key) old.pairs ≡ Some pair →
            result ≡ Err (key, value) → new ≡ old →
            TryInsert result new
        cannot_store : lookup_entry (eq key) old.pairs ≡ None → can_store key value (contents old) ≡ false →
            result ≡ Err (key, value) → new ≡ old →
            TryInsert result new
        -- `can_store` is true, but no growth is left. Either the reservation of growth fails, or `can_store` is false
        -- after the reservation.
        unready : lookup_entry (eq key) old.pairs ≡ None → can_store key value (contents old) ≡ true →
            IsUnready new → result ≡ Err (key, value) →
            TryInsert result new
        -- The pair is inserted: the key is new, growth is left or was reserved, and `can_store` is true.
        inserted : lookup_entry (eq key) old.pairs ≡ None → can_store key value (contents old) ≡ true →
            (ready : State K V S H) → IsReady rules old ready → can_store key value (contents ready) ≡ true →
            result ≡ Ok tt → Insert rules (offers_of terms) eq hash_of key value ready (Ok true) new →
            TryInsert result new

      -- If the result is `Ok`, the pair is the newest, nothing is evicted (`added`), and the limiter is within its
      -- limit (`within`). If the result is `Err`, the call returns the key and the value (`returned`), and the pairs
      -- stay (`keeps`). If growth was left and the result is `Err`, nothing has changed (`unchanged`). In a run, the
      -- call is at most two steps: a reservation, and an insert (`calls`).
      pub record TryInsertEnds (result : Result (Unit {0}) (K × V)) (new : State K V S H) : Type 0 where
        pub calls : Run (Step rules (offers_of terms) eq hash_of) new old
        pub added : OnOk result (new.pairs ≡ (key, value) ∷ old.pairs)
        pub within : OnOk result (rules.is_over_the_limit new.limiter (length new.pairs) ≡ false)
        pub returned : IfErr result (λ back. back ≡ (key, value))
        pub keeps : OnErr result (new.pairs ≡ old.pairs)
        pub unchanged : 0 < growth_left old → OnErr result (new ≡ old)
        pub hasher : new.hasher ≡ old.hasher
