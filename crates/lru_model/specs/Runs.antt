-- How a map changes by one call (`Step`), and by several calls, one after another (`Run`). What each insert and update
-- evicts (`EvictsFromOldEnd`).
--     `names i k`: the key i of a call names k.
--     `hash_of h k`: the hash of k by the hasher h.
use Rattle.std.specs.Prelude.{◌≡◌, ◌⊎◌, ℕ, Bool, true, false, List, ◌∷◌, Option, IfSome, Result, Contains, map}
use Rattle.std.specs.declared.alloc.AllocError.{AllocError}
use Rattle.lru_limits.specs.Rules.{Rules, Offers}
use Rattle.lru_model.specs.Lists.{lookup_entry, set_entry, without}
use Rattle.lru_model.specs.State.{State, contents, IsSized, Leaves, Trims}
use Rattle.lru_model.specs.Calls.{promoted, demoted, written, Remove, PopOldest, PopNewest, cleared}
use Rattle.lru_model.specs.Drains.{Drained}
use Rattle.lru_model.specs.Inserts.{Insert, Rejects}
use Rattle.lru_model.specs.Reservations.{Reserve}
use Rattle.lru_model.specs.Retains.{retained}
use Rattle.lru_model.specs.Shrinks.{Shrink}
use Rattle.lru_model.specs.Theorems.{EvictsOldest}
use Rattle.lru_model.specs.Updates.{Update}
use Rattle.lru_model.specs.declared.results.Updated.{Updated}
use Rattle.lru_model.specs.declared.results.ReserveError.{ReserveError}

-- each named key passes the test
abbrev pub AreAmong : {K : Type 0} → (K → Bool) → (K → Bool) → Type 0
AreAmong {K} named test = (key : K) → named key ≡ true → test key ≡ true

module _ {K V S H I : Type 0} (rules : Rules K V S) (offers : Offers K V S I) (names : I → K → Bool)
    (hash_of : H → K → ℕ) where
  -- How one call changes a map. A call that only reads is no step. `gets` is a look-up, by a hash or by a key of any
  -- type, that promotes the pair that it finds. A get that inserts a missing key is a `gets` or an `inserts`. All
  -- inserted and updated keys have one type, I.
  pub data Step (old new : State K V S H) : Type 0 where
    inserts : (key : I) (value : V) (result : Result Bool AllocError)
        → Insert rules offers names hash_of key value old result new → Step old new
    updates : (key : I) (value : V) (result : Updated V) → Update rules offers names key value old result new
        → Step old new
    gets : (test : K → Bool) → new ≡ promoted test old → Step old new
    demotes : (test : K → Bool) → new ≡ demoted test old → Step old new
    removes : (test : K → Bool) (result : Option V) → Remove rules test old result new → Step old new
    pops_oldest : (result : Option (K × V)) → PopOldest rules old result new → Step old new
    pops_newest : (result : Option (K × V)) → PopNewest rules old result new → Step old new
    drains : (newest oldest : ℕ) (result : List (K × V)) → Drained rules newest oldest old result new → Step old new
    clears : new ≡ cleared rules old → Step old new
    reserves : (n : ℕ) (result : Result (Unit {0}) ReserveError) → Reserve rules n old result new → Step old new
    shrinks : (result : Result Bool AllocError) → Shrink old result new → Step old new
    trims : Trims rules old new → Step old new
    retains : (asked : List ((K × V) × Bool)) → map (λ one. one.0) asked ≡ old.pairs
        → Leaves old (retained rules asked old.limiter) new → Step old new

  -- a `Step`, a write of a value through a reference, or a change of the limiter
  pub data AnyStep (old new : State K V S H) : Type 0 where
    calls : Step old new → AnyStep old new
    writes : (test : K → Bool) (value : V) → new ≡ written test value old → AnyStep old new
    sets_limiter : (limiter : S) → new ≡ record old { limiter = limiter } → AnyStep old new

  -- a `Step`, or a write of a value through a reference
  abbrev pub StepOrWrite : State K V S H → State K V S H → Type 0
  StepOrWrite old new = Step old new ⊎ ((test : K → Bool) × (value : V) × (new ≡ written test value old))

  -- a `Step`, or a write of a value that costs as much as the old value
  abbrev pub StepOrKeptWrite : (cost : K → V → ℕ) → State K V S H → State K V S H → Type 0
  StepOrKeptWrite cost old new = Step old new ⊎ ((test : K → Bool) × (value : V)
      × IfSome (lookup_entry test old.pairs) (λ there. cost there.0 value ≡ cost there.0 there.1)
      × (new ≡ written test value old))

  -- The step is not `pop_newest`, and names only keys that pass the test. A retain names the keys of the pairs that its
  -- closure rejects.
  abbrev pub NamesOnly : (test : K → Bool) → (old new : State K V S H) → AnyStep old new → Type 0
  NamesOnly test old new (calls (inserts key value result h)) = AreAmong (names key) test
  NamesOnly test old new (calls (updates key value result h)) = AreAmong (names key) test
  NamesOnly test old new (calls (gets named e)) = AreAmong named test
  NamesOnly test old new (calls (demotes named e)) = AreAmong named test
  NamesOnly test old new (calls (removes named result h)) = AreAmong named test
  NamesOnly test old new (calls (pops_newest result h)) = ⊥
  NamesOnly test old new (calls (retains asked each h)) =
      (pair : K × V) → Contains asked (pair, false) → test pair.0 ≡ true
  NamesOnly test old new (writes named value e) = AreAmong named test
  NamesOnly test old new step = Unit {0}

  -- a step that names only keys that pass the test
  abbrev pub StepAmong : (K → Bool) → State K V S H → State K V S H → Type 0
  StepAmong test old new = (step : AnyStep old new) × NamesOnly test old new step

  -- An insert makes its pair the newest, and an update leaves its pair in its place. Both evict only the oldest pairs,
  -- but if the limiter rejects the new value, they remove only the pair of the given key.
  abbrev pub EvictsFromOldEnd : (old new : State K V S H) → AnyStep old new → Type 0
  EvictsFromOldEnd old new (calls (inserts key value result h)) = EvictsOldest (names key)
      (Rejects rules offers names key value (contents old)) (λ pair. pair ∷ without (names key) old.pairs)
      old.pairs new.pairs
  EvictsFromOldEnd old new (calls (updates key value result h)) = EvictsOldest (names key)
      (Rejects rules offers names key value (contents old)) (λ pair. set_entry (names key) pair old.pairs)
      old.pairs new.pairs
  EvictsFromOldEnd old new step = Unit {0}

-- the `names` of calls that neither insert nor update a key
abbrev pub no_keys : {K : Type 0} → ⊥ → K → Bool
no_keys key k = false

-- the `offers` of calls that offer the limiter nothing
abbrev pub no_offers : {K V S : Type 0} → Offers K V S ⊥
no_offers = record {
  on_insert = λ limiter n key value left pair. ⊥;
  may_run_out = λ limiter n key value. ⊥;
  on_replace = λ limiter n stored key was value. record {
    limiter = limiter;
    taken = false;
    key = stored;
    old_value = was;
    new_value = value;
  };
}

-- `Run IsStep new old` says that steps, one after another, lead from `old` to `new`. The table is sound after each
-- step.
pub data Run {K V S H : Type 0} (IsStep : State K V S H → State K V S H → Type 0) (new : State K V S H) : State K V S H
    → Type 0 where
  ends : Run IsStep new new
  goes_on : {old : State K V S H} (mid : State K V S H) → IsStep old mid → IsSized mid → Run IsStep new mid
      → Run IsStep new old

module _ {K V S H : Type 0} {IsStep : State K V S H → State K V S H → Type 0}
    (Holds : (old new : State K V S H) → IsStep old new → Type 0) where
  -- `Holds` is true of each step of the run
  abbrev pub EachStep : {new old : State K V S H} → Run IsStep new old → Type 0
  EachStep ends = Unit {0}
  EachStep (goes_on {old} mid step sized run) = Holds old mid step × EachStep run

module _ {K V S H : Type 0} (rules : Rules K V S) (hash_of : H → K → ℕ) where
  -- A run without inserts and updates of keys. It is also a `Run` for any type I of inserted keys (`run_without_insert`
  -- in `proofs/EveryCall`).
  abbrev pub RunWithoutInsert : (new old : State K V S H) → Type 0
  RunWithoutInsert = Run (AnyStep rules no_offers no_keys hash_of)
