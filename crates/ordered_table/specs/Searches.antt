-- The pairs of an `OrderedTable` that a search by a hash passes to its closure.
use Rattle.std.specs.Prelude.{◌≡◌, ℕ, Bool, true, false, List, [], ◌∷◌, ◌++◌, Some, Contains}
use Rattle.std.specs.List.{FoldsTo}
use Rattle.std.specs.Borrow.{Bor}
use Rattle.std.specs.Fn.{Mut}
use Rattle.group_table.specs.Bucket.{Slot, entry_at, IsFull}
use Rattle.group_table.specs.Fits.{Fits}
use Rattle.group_table.specs.Search.{IsSearch}
use Rattle.lru_model.specs.ByHash.{Asks}

module _ {K V F : Type 0} (closure : Mut F (Bor K × (Bor V × Unit {0})) Bool) (slots : List (Slot (K × V))) where
  -- f was called with the pair in bucket b, and returned `answer`; this call changed f into g
  pub record AnswersPair (f : F) (b : ℕ) (answer : Bool) (g : F) : Type 0 where
    pub pair : K × V
    pub there : entry_at slots b ≡ Some pair
    pub asked : Asks closure f pair answer g

  -- In a search for the hash, f rejected the pairs in the buckets `before`, one after another, and then accepted the
  -- pair in bucket b.
  pub record FindsPair (hash : ℕ) (f : F) (b : ℕ) : Type 0 where
    pub before : List ℕ
    pub search : IsSearch slots hash (before ++ b ∷ [])
    pub between : F
    pub refused : FoldsTo (λ p c q. AnswersPair p c false q) f before between
    pub last : F
    pub accepted : AnswersPair between b true last

  -- In a search for the hash, f rejected the pairs in the buckets `asked`, one after another. If the hashes `hash_of`
  -- fit the table, `asked` contains each full bucket b for which `hash_of b` is the searched hash.
  pub record FindsNoPair (hash : ℕ) (f : F) : Type 0 where
    pub asked : List ℕ
    pub search : IsSearch slots hash asked
    pub last : F
    pub refused : FoldsTo (λ p c q. AnswersPair p c false q) f asked last
    pub complete : (hash_of : ℕ → ℕ) → Fits slots hash_of → (b : ℕ) → IsFull slots b → hash_of b ≡ hash
        → Contains asked b
