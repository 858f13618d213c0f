-- How a search by a hash calls its closure, pair after pair, and what the search returns.
use Rattle.std.specs.Prelude.{◌≡◌, ℕ, Bool, true, false, List, [], ◌∷◌, ◌++◌, Contains}
use Rattle.std.specs.List.{FoldsTo, IsDistinct}
use Rattle.std.specs.Borrow.{Bor}
use Rattle.std.specs.Fn.{Mut, Called}
use Rattle.group_table.specs.Probe.{hash_tag}
use Rattle.lru_model.specs.Lists.{keys_of}

module _ {K V F : Type 0} (closure : Mut F (Bor K × (Bor V × Unit {0})) Bool) where
  -- a call of the closure f with references to the pair may return `answer`, and change f into g
  pub record Asks (f : F) (pair : K × V) (answer : Bool) (g : F) : Type 0 where
    pub key : Bor K
    pub value : Bor V
    pub shows : (key.now ≡ pair.0) × (value.now ≡ pair.1)
    pub called : Called closure f (key, (value, tt)) answer g

  -- f was called with these pairs, one after another, and returned false for each; these calls change f into g
  abbrev pub Refuses : F → List (K × V) → F → Type 0
  Refuses f pairs g = FoldsTo (λ p pair q. Asks p pair false q) f pairs g

module _ {K V : Type 0} (eq : K → K → Bool) (hash_of : K → ℕ) (all : List (K × V)) (hash : ℕ) where
  -- The candidates are pairs of the map, and no two candidates have equal keys. The hash of each candidate's key has
  -- the tag (the top 7 bits) of `hash`.
  pub record AreCandidates (pairs : List (K × V)) : Type 0 where
    pub distinct : IsDistinct eq (keys_of pairs)
    pub there : (pair : K × V) → Contains pairs pair → Contains all pair
    pub tags : (pair : K × V) → Contains pairs pair → hash_tag (hash_of pair.0) ≡ hash_tag hash

  module _ {F : Type 0} (closure : Mut F (Bor K × (Bor V × Unit {0})) Bool) where
    -- The closure, which began as f, returned false for each candidate in `before`, one after another, and then true
    -- for the candidate `pair`.
    pub record GivesByHash (f : F) (pair : K × V) : Type 0 where
      pub before : List (K × V)
      pub candidates : AreCandidates (before ++ pair ∷ [])
      pub between : F
      pub refused : Refuses closure f before between
      pub last : F
      pub accepted : Asks closure between pair true last

    -- The closure, which began as f, returned false for each of some candidates, one after another. If a key of the map
    -- has the searched hash, the pair of this key is one of these candidates.
    pub record GivesNoneByHash (f : F) : Type 0 where
      pub asked : List (K × V)
      pub candidates : AreCandidates asked
      pub last : F
      pub refused : Refuses closure f asked last
      pub complete : (pair : K × V) → Contains all pair → hash_of pair.0 ≡ hash → Contains asked pair
