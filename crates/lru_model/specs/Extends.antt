-- Inserts of a list of pairs, one after another.
use Rattle.std.specs.Prelude.{ℕ, Bool, List, [], ◌∷◌, ◌++◌, Ok, Err}
use Rattle.std.specs.declared.alloc.AllocError.{AllocError}
use Rattle.lru_limits.specs.Rules.{Rules, Offers}
use Rattle.lru_model.specs.State.{State, IsSized}
use Rattle.lru_model.specs.Inserts.{Insert}

module _ {K V S H I : Type 0} (rules : Rules K V S) (offers : Offers K V S I) (names : I → K → Bool)
    (hash_of : H → K → ℕ) (old : State K V S H) where
  -- The pairs of the list were inserted, in their order. No insert failed, and each insert left a sound table.
  pub data InsertsAll : List (I × V) → State K V S H → Type 0 where
    no_insert : InsertsAll [] old
    one_insert_more : {pairs : List (I × V)} {before : State K V S H} → InsertsAll pairs before
        → (key : I) (value : V) (kept : Bool) (new : State K V S H)
        → Insert rules offers names hash_of key value before (Ok kept) new → IsSized new
        → InsertsAll (pairs ++ (key, value) ∷ []) new

  -- All `pairs` were inserted, in their order. The insert of the next pair, `failed`, ran out of memory.
  pub record FailsAt (pairs : List (I × V)) (failed : I × V) (new : State K V S H) : Type 0 where
    pub before : State K V S H
    pub inserted : InsertsAll pairs before
    pub error : AllocError
    pub fails : Insert rules offers names hash_of failed.0 failed.1 before (Err error) new
