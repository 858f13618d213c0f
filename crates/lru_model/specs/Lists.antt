-- Functions on lists, mostly of pairs, newest first. The function `names` tests whether a key is the named key.
use Rattle.std.specs.Prelude.{◌≡◌, ℕ, zero, suc, Bool, true, false, if◌then◌else◌, List, [], ◌∷◌, ◌++◌, Option, Some}
use Rattle.std.specs.Prelude.{None, ◌+◌, slice_get, option_map, option_to_list, position}
use Rattle.std.specs.Option.{option_and_then}
pub use Rattle.std.specs.Map.{lookup, lookup_entry, remove_entry as without, keys_of}

module _ {X : Type 0} where
  abbrev pub is_empty : List X → Bool
  is_empty [] = true
  is_empty (x ∷ xs) = false

  abbrev pub first : List X → Option X
  first [] = None
  first (x ∷ xs) = Some x

  abbrev pub without_first : List X → List X
  without_first [] = []
  without_first (x ∷ xs) = xs

  abbrev pub last : List X → Option X
  last [] = None
  last (x ∷ []) = Some x
  last (x ∷ y ∷ ys) = last (y ∷ ys)

  abbrev pub without_last : List X → List X
  without_last [] = []
  without_last (x ∷ []) = []
  without_last (x ∷ y ∷ ys) = x ∷ without_last (y ∷ ys)

  -- the n-th element of the list, counted from 1, or `None` if the list has fewer than n elements
  abbrev pub last_of : ℕ → List X → Option X
  last_of zero xs = None
  last_of (suc n) xs = slice_get xs n

  abbrev pub after : Option X → List X → List X
  after None xs = xs
  after (Some x) xs = x ∷ xs

  -- the list ys begins with the list xs
  abbrev pub IsFront : List X → List X → Type 0
  IsFront xs ys = (rest : List X) × (ys ≡ xs ++ rest)

module _ {K V : Type 0} where
  -- the list after the pair of the named key moved to the front
  abbrev pub front : (K → Bool) → List (K × V) → List (K × V)
  front names pairs = after (lookup_entry names pairs) (without names pairs)

  -- the list after the pair of the named key moved to the end
  abbrev pub back : (K → Bool) → List (K × V) → List (K × V)
  back names pairs = without names pairs ++ option_to_list (lookup_entry names pairs)

  -- The place (the bucket number) of the named key's pair. `places` lists the place of each pair, in the order of the
  -- pairs.
  abbrev pub place_of : (K → Bool) → List (K × V) → List ℕ → Option ℕ
  place_of names [] places = None
  place_of names (pair ∷ pairs) [] = None
  place_of names (pair ∷ pairs) (b ∷ places) = if names pair.0 then Some b else place_of names pairs places

  -- the places of all pairs except the named key's pair
  abbrev pub other_places : (K → Bool) → List (K × V) → List ℕ → List ℕ
  other_places names [] places = places
  other_places names (pair ∷ pairs) [] = []
  other_places names (pair ∷ pairs) (b ∷ places) = if names pair.0 then places else b ∷ other_places names pairs places

  -- the list of places, after the place of the named key's pair moved to the front
  abbrev pub front_places : (K → Bool) → List (K × V) → List ℕ → List ℕ
  front_places names pairs places = after (place_of names pairs places) (other_places names pairs places)

  -- the list of places, after the place of the named key's pair moved to the end
  abbrev pub back_places : (K → Bool) → List (K × V) → List ℕ → List ℕ
  back_places names pairs places = other_places names pairs places ++ option_to_list (place_of names pairs places)

  -- the pair behind the pair of the named key: the next older pair
  abbrev pub next_older : (K → Bool) → List (K × V) → Option (K × V)
  next_older names pairs = option_and_then (λ i. slice_get pairs (i + 1)) (position (λ pair. names pair.0) pairs)

  -- the pair before the pair of the named key: the next newer pair
  abbrev pub next_newer : (K → Bool) → List (K × V) → Option (K × V)
  next_newer names pairs = option_and_then (λ i. last_of i pairs) (position (λ pair. names pair.0) pairs)

  -- the list with `entry` instead of the named key's pair
  abbrev pub set_entry : (K → Bool) → K × V → List (K × V) → List (K × V)
  set_entry names entry [] = []
  set_entry names entry (pair ∷ pairs) = if names pair.0 then entry ∷ pairs else pair ∷ set_entry names entry pairs

  abbrev pub newest_value : List (K × V) → Option V
  newest_value pairs = option_map (λ p. p.1) (first pairs)

  -- the list after the value of the pair at position i (counted from 0) became w
  abbrev pub set_value_at : List (K × V) → ℕ → V → List (K × V)
  set_value_at [] i w = []
  set_value_at (pair ∷ pairs) zero w = (pair.0, w) ∷ pairs
  set_value_at (pair ∷ pairs) (suc i) w = pair ∷ set_value_at pairs i w

  abbrev pub set_newest : List (K × V) → V → List (K × V)
  set_newest pairs w = set_value_at pairs 0 w
