-- The miss-ratio curve of a trace with deletes. A call references or removes a key.
use Rattle.std.specs.Prelude.{◌≡◌, ℕ, ◌+◌, ◌≤◌, ◌<◌, List, [], ◌∷◌, length, take, sum, set, get_or, nat_eq, true, String}
use Rattle.std.specs.Prelude.{Option, Some, None, IfSome, ◌==◌, if◌then◌else◌, map}
use Rattle.std.specs.Global.{Global}
use Rattle.std.specs.Map.{lookup}
use Rattle.std.specs.Option.{option_map}
use Rattle.std.specs.Str.{bytes_eq}
use Rattle.std.specs.String.{string_bytes}
use Rattle.lru_theory.specs.Inclusion.{KeyCall, refers, promotes, removes, clears, looks, after_calls}
use Rattle.lru_theory.specs.Places.{keys_in, place_of, vacated, place_calls, call_faults}
use Rattle.lru_theory.specs.Traces.{is_in}

-- the call that a line makes: a delete if the size is 0, and otherwise a reference
abbrev pub call_of : List ℕ × ℕ → KeyCall (List ℕ)
call_of reference = if reference.1 == 0 then removes reference.0 else refers reference.0

abbrev pub calls_of : List (List ℕ × ℕ) → List (KeyCall (List ℕ))
calls_of references = map call_of references

-- the number of references among the calls
abbrev pub referred : List (KeyCall (List ℕ)) → ℕ
referred [] = 0
referred (refers key ∷ calls) = referred calls + 1
referred (promotes key ∷ calls) = referred calls
referred (removes key ∷ calls) = referred calls
referred (clears ∷ calls) = referred calls
referred (looks ∷ calls) = referred calls

abbrev pub cache_of : ℕ → List (KeyCall (List ℕ)) → List (KeyCall (List ℕ)) → List (List ℕ)
cache_of n warm trace = after_calls bytes_eq n trace (after_calls bytes_eq n warm [])

-- the number of misses of the trace in an LRU cache of n places, after a warm-up
abbrev pub missed_calls : ℕ → List (KeyCall (List ℕ)) → List (KeyCall (List ℕ)) → ℕ
missed_calls n warm trace = call_faults bytes_eq n trace (after_calls bytes_eq n warm [])

abbrev pub places_of : List (KeyCall (List ℕ)) → List (KeyCall (List ℕ)) → List (Option (List ℕ))
places_of warm trace = place_calls bytes_eq trace (place_calls bytes_eq warm [])

pub record Deleting : Type 0 where
  pub names : List (String Global × ℕ)
  -- the places, with numbers instead of keys
  pub places : List (Option ℕ)
  -- for each n, the number of counted references whose key was behind exactly n newer places
  pub counts : List ℕ
  pub references : ℕ

-- the number of the place of a key
abbrev pub place_number : List (String Global × ℕ) → List ℕ → Option ℕ
place_number names key = lookup (λ name. bytes_eq key (string_bytes name)) names

-- the second list is the first list, with each key replaced by its number
abbrev pub AreNumbers : (List ℕ → Option ℕ) → List (Option (List ℕ)) → List (Option ℕ) → Type 0
AreNumbers number [] [] = Unit {0}
AreNumbers number [] (id ∷ ids) = ⊥
AreNumbers number (place ∷ places) [] = ⊥
AreNumbers number (place ∷ places) (id ∷ ids) =
    (option_map number place ≡ option_map Some id) × AreNumbers number places ids

-- the curve counts the references of `trace`, after the warm-up `warm`
pub record IsDeleteOf (warm trace : List (KeyCall (List ℕ))) (curve : Deleting) : Type 0 where
  pub placed : AreNumbers (place_number curve.names) (places_of warm trace) curve.places
  pub caches : (n : ℕ) → keys_in (take n (places_of warm trace)) ≡ cache_of n warm trace
  pub hits : (n : ℕ) → missed_calls n warm trace + sum (take n curve.counts) ≡ curve.references
  pub all : curve.references ≡ referred trace

pub record IsDeleting (names : List (String Global × ℕ)) (places : List (Option ℕ)) (counts : List ℕ) (references : ℕ)
    : Type 0 where
  pub within : (key : List ℕ) (number : ℕ) → place_number names key ≡ Some number → is_in nat_eq number (keys_in places) ≡ true
  pub apart : (a b : List ℕ) (number : ℕ) → place_number names a ≡ Some number → place_number names b ≡ Some number → a ≡ b
  pub few : length places ≤ length counts
  pub total : sum counts ≤ references

-- nothing changed, except the order of the names
pub record IsSame (old new : Deleting) : Type 0 where
  pub names : (key : List ℕ) → place_number new.names key ≡ place_number old.names key
  pub rest : new ≡ record old { names = new.names }

-- the key was referenced, but the reference is not yet counted
pub record Placed (key : List ℕ) (place : Option ℕ) (old new : Deleting) : Type 0 where
  pub numbers : (places : List (Option (List ℕ))) → AreNumbers (place_number old.names) places old.places →
      AreNumbers (place_number new.names) (Some key ∷ vacated (bytes_eq key) places) new.places
  pub found : (places : List (Option (List ℕ))) → AreNumbers (place_number old.names) places old.places →
      place ≡ (if is_in bytes_eq key (keys_in places) then Some (place_of (bytes_eq key) places) else None)
  pub within : IfSome place (λ n. n < length old.places)
  pub rest : new ≡ record old { names = new.names; places = new.places }

abbrev pub counted_at : Option ℕ → List ℕ → List ℕ
counted_at None counts = counts
counted_at (Some place) counts = set counts place (get_or counts place 0 + 1)
