-- What an insert does.
--     `names i k`: the inserted key i names k.
--     `hash_of h k`: the hash of k by the hasher h.
use Rattle.std.specs.Prelude.{◌≡◌, ℕ, ◌+◌, ◌⊎◌, ◌<◌, Bool, true, false, not, if◌then◌else◌, ◌∷◌, length, Option, Some}
use Rattle.std.specs.Prelude.{None, option_map, Result, Ok, Err, IsErr}
use Rattle.std.specs.declared.alloc.AllocError.{AllocError}
use Rattle.lru_limits.specs.Rules.{Rules, Offers, Replaced}
use Rattle.lru_model.specs.Lists.{is_empty, lookup_entry, without}
use Rattle.lru_model.specs.declared.results.Inserted.{Inserted}
use Rattle.lru_model.specs.State.{State, buckets, growth_left, Contents, contents, Leaves, pop, trim}
use Rattle.lru_model.specs.Place.{Place, Outcome, placed, refused, no_memory}

-- The value that the map does not keep: the old value if the limiter accepted the new value, or else the new value.
abbrev pub unkept_of : {K V S : Type 0} → Replaced K V S → V
unkept_of r = if r.taken then r.old_value else r.new_value

-- the result of an insert, with the flag `kept` instead of the record `Inserted`
abbrev pub kept_of : {V E : Type 0} → Result (Inserted V) E → Result Bool E
kept_of (Ok inserted) = Ok inserted.kept
kept_of (Err e) = Err e

-- if the limiter would be over its limit with one more pair, the oldest pair is evicted
abbrev pub make_room : {K V S : Type 0} → Rules K V S → Contents K V S → Contents K V S
make_room rules c = if rules.is_over_the_limit c.limiter (length c.pairs + 1) then pop rules c else c

module _ {K V S H : Type 0} (rules : Rules K V S) where
  -- How an insert goes on after the insertion into the table. If the pair was stored, a trim follows, and the result
  -- says whether the map still has pairs. If the pair was not stored, nothing more changes.
  abbrev pub Settles : Outcome → State K V S H → Result Bool AllocError → State K V S H → Type 0
  Settles placed landed result new =
      (result ≡ Ok (not (is_empty new.pairs))) × Leaves landed (trim rules (contents landed)) new
  Settles refused landed result new = (result ≡ Ok false) × (new ≡ landed)
  Settles no_memory landed result new = IsErr result × (new ≡ landed)

  -- the pair of a new key is inserted into the table (`Place`), and then the insert goes on (`Settles`)
  abbrev pub PlacesAndTrims : (H → K → ℕ) → K × V → State K V S H → Result Bool AllocError → State K V S H → Type 0
  PlacesAndTrims hash_of pair old result new = (outcome : Outcome) × (landed : State K V S H)
      × Place rules hash_of pair old outcome landed × Settles outcome landed result new

  abbrev pub PlacesNew : (H → K → ℕ) → K × V → State K V S H → Result Bool AllocError → State K V S H → Type 0
  PlacesNew hash_of pair old result new = (ready : State K V S H) × Leaves old (make_room rules (contents old)) ready
      × PlacesAndTrims hash_of pair ready result new

module _ {K V S I : Type 0} (rules : Rules K V S) (offers : Offers K V S I) (names : I → K → Bool) where
  -- what `on_replace` of the limiter returns if the value v is offered for this pair
  abbrev pub replacement : K × V → I → V → Contents K V S → Replaced K V S
  replacement pair i v c = offers.on_replace c.limiter (length c.pairs) pair.0 i pair.1 v

  -- if the value v is offered for this pair, the limiter rejects the value
  abbrev pub Rejects : I → V → Contents K V S → K × V → Type 0
  Rejects i v c pair = (replacement pair i v c).taken ≡ false

  -- the pair's key and the new value, as `on_replace` leaves them
  abbrev pub with_new_value : K × V → I → V → Contents K V S → K × V
  with_new_value pair i v c = let r = replacement pair i v c in (r.key, r.new_value)

  -- the pair's key and the old value, as `on_replace` leaves them
  abbrev pub with_old_value : K × V → I → V → Contents K V S → K × V
  with_old_value pair i v c = let r = replacement pair i v c in (r.key, r.old_value)

  -- the contents after the limiter accepted the new value: the pair is now `with_new_value`, and is the newest
  abbrev pub with_replaced : K × V → I → V → Contents K V S → Contents K V S
  with_replaced pair i v c = record {
    pairs = with_new_value pair i v c ∷ without (names i) c.pairs;
    limiter = (replacement pair i v c).limiter;
  }

  -- the contents after the limiter rejected the new value: the pair is removed, and the limiter is notified
  abbrev pub with_removed : K × V → I → V → Contents K V S → Contents K V S
  with_removed pair i v c = let r = replacement pair i v c in
      record { pairs = without (names i) c.pairs; limiter = (rules.on_removed r.limiter r.key r.old_value).limiter }

  -- the value that an insert leaves out of the map, or `None` if the key was new
  abbrev pub unkept_value : I → V → Contents K V S → Option V
  unkept_value i v c = option_map (λ pair. unkept_of (replacement pair i v c)) (lookup_entry (names i) c.pairs)

  -- If a new key is offered, `on_insert` may return `given` (a pair to store, or `None`), and change the limiter to s.
  abbrev pub MayGive : I → V → Contents K V S → S → Option (K × V) → Type 0
  MayGive i v c s given = offers.on_insert c.limiter (length c.pairs) i v s given

  module _ {H : Type 0} (hash_of : H → K → ℕ) where
    pub data Insert (i : I) (v : V) (old : State K V S H) (result : Result Bool AllocError)
        (new : State K V S H) : Type 0 where
      -- The map contains the key, and the limiter accepts the new value. The pair becomes the newest, and a trim
      -- follows.
      replaced : (pair : K × V) → lookup_entry (names i) old.pairs ≡ Some pair →
          (replacement pair i v (contents old)).taken ≡ true →
          result ≡ Ok (not (is_empty new.pairs)) → Leaves old (trim rules (with_replaced pair i v (contents old))) new →
          Insert i v old result new
      -- The map contains the key, and the limiter rejects the new value: the pair is removed.
      not_replaced : (pair : K × V) → lookup_entry (names i) old.pairs ≡ Some pair →
          (replacement pair i v (contents old)).taken ≡ false →
          result ≡ Ok false → Leaves old (with_removed pair i v (contents old)) new →
          Insert i v old result new
      -- The key is new, and the limiter either runs out of memory or returns no pair to store. All pairs of the map
      -- stay.
      no_memory_to_admit : lookup_entry (names i) old.pairs ≡ None →
          offers.may_run_out old.limiter (length old.pairs) i v →
          IsErr result → new ≡ old →
          Insert i v old result new
      not_admitted : lookup_entry (names i) old.pairs ≡ None →
          (s : S) → MayGive i v (contents old) s None →
          result ≡ Ok false → new ≡ record old { limiter = s } →
          Insert i v old result new
      -- The key is new, and the limiter returns a pair. The insertion of this pair into the table may fail. The map may
      -- evict pairs before and after the insertion.
      admitted : lookup_entry (names i) old.pairs ≡ None →
          (s : S) (pair : K × V) → MayGive i v (contents old) s (Some pair) →
          PlacesNew rules hash_of pair (record old { limiter = s }) result new →
          Insert i v old result new

    -- The table needs memory for a new pair only if no growth is left, and if it has no buckets or the map contains a
    -- pair after `make_room`. A rehash of a table without pairs needs no memory.
    pub record NeedsMemory (i : I) (v : V) (old : State K V S H) : Type 0 where
      pub no_growth_left : growth_left old ≡ 0
      pub s : S
      pub pair : K × V
      pub given : MayGive i v (contents old) s (Some pair)
      pub needed : (buckets old ≡ 0) ⊎ (0 < length (make_room rules (record { pairs = old.pairs; limiter = s })).pairs)

    -- An insert runs out of memory only if the key is new. Either `on_insert` ran out of memory and nothing changed, or
    -- the table needed memory.
    abbrev pub IsOutOfMemory : I → V → State K V S H → State K V S H → Type 0
    IsOutOfMemory i v old new = (lookup_entry (names i) old.pairs ≡ None)
        × ((offers.may_run_out old.limiter (length old.pairs) i v × (new ≡ old)) ⊎ NeedsMemory i v old)
