-- The miss-ratio curve of a trace. Each reference says the size of the referenced key.
use Rattle.std.specs.Prelude.{◌≡◌, ℕ, ◌+◌, ◌^◌, ◌<◌, Bool, true, nat_lt, List, [], ◌∷◌, ◌++◌, length, map, take, sum, sum_by}
use Rattle.std.specs.Prelude.{get_or, Option, Some, None, nat_eq}
use Rattle.std.specs.List.Sorted.{IsNonDecreasing}
use Rattle.std.specs.Map.{lookup, keys_of}
use Rattle.std.specs.Option.{unwrap_or, option_map}
use Rattle.std.specs.Str.{bytes_eq}
use Rattle.lru_theory.specs.Traces.{is_in, recency, past_after}
use Rattle.lru_theory.specs.Budgets.{misses_within}
use Rattle.lru_trace.specs.Counted.{AreAdded}
use Rattle.lru_trace.specs.Names.{number_in}
use Rattle.std.specs.Set.{remove_key}
use Rattle.lru_trace.specs.Slots.{Recent, position, weight_in}

abbrev pub first_size : List (List ℕ × ℕ) → List ℕ → Option ℕ
first_size references key = lookup (bytes_eq key) references

abbrev pub size_in : List (List ℕ × ℕ) → List ℕ → ℕ
size_in references key = unwrap_or (first_size references key) 0

-- The number of misses of `trace`, after the warm-up, in an LRU cache with this limit of bytes. The first reference to
-- a key gives the size of the key, even if this reference is in the warm-up.
abbrev pub missed_within : ℕ → List (List ℕ × ℕ) → List (List ℕ × ℕ) → ℕ
missed_within limit warm trace =
    misses_within bytes_eq (size_in (warm ++ trace)) limit (past_after [] (keys_of warm)) (keys_of trace)

-- how many bytes the entries of all keys take together
abbrev pub bytes_of : List (List ℕ × ℕ) → ℕ
bytes_of references = sum_by (size_in references) (recency bytes_eq (past_after [] (keys_of references)))

pub record Sized : Type 0 where
  -- the texts of the keys: each key has the index of its text as its number
  pub names : List (List ℕ)
  pub recency : List ℕ
  pub sizes : List ℕ
  pub limits : List ℕ
  -- For each limit, the number of counted references that hit at this limit and miss at every earlier limit. The last
  -- count is the number of counted references that miss at every limit.
  pub counts : List ℕ
  pub references : ℕ

abbrev pub total_of : Sized → ℕ
total_of curve = sum_by (weight_in curve.sizes) curve.recency

-- The size of the key, plus the sizes of the keys before this key in the recency list. If the list does not contain the
-- key, the result is `None`.
abbrev pub need_of : (ℕ → ℕ) → ℕ → List ℕ → Option ℕ
need_of size key recency = option_map (λ behind. size key + behind) (position size key recency)

-- whether a reference with this need (`need_of`) misses in a cache with this limit
abbrev pub exceeds : Option ℕ → ℕ → Bool
exceeds None limit = true
exceeds (Some need) limit = nat_lt limit need

-- A reference to the key was made (the curve changed from `old` to `new`), but is not yet counted.
pub record Made (key : List ℕ) (bytes : ℕ) (need : Option ℕ) (old new : Sized) : Type 0 where
  pub number : ℕ
  pub named : number_in new.names key ≡ Some number
  pub others : (other : List ℕ) (n : ℕ) → number_in old.names other ≡ Some n → number_in new.names other ≡ Some n
  pub sizes : (other : List ℕ) (n : ℕ) → number_in old.names other ≡ Some n →
      weight_in new.sizes n ≡ weight_in old.sizes n
  pub first : number_in old.names key ≡ None → weight_in new.sizes number ≡ bytes
  pub only : (other : List ℕ) (n : ℕ) → number_in new.names other ≡ Some n → number_in old.names other ≡ None → other ≡ key
  pub recency : new.recency ≡ number ∷ remove_key (nat_eq number) old.recency
  pub needs : need ≡ need_of (weight_in new.sizes) number old.recency

-- the curve counts the references of `trace`, after the warm-up `warm`
pub record IsSizedOf (warm trace : List (List ℕ × ℕ)) (curve : Sized) : Type 0 where
  pub before : List ℕ
  pub numbers : List ℕ
  pub warmed : map (number_in curve.names) (keys_of warm) ≡ map Some before
  pub named : map (number_in curve.names) (keys_of trace) ≡ map Some numbers
  pub sized : (key : List ℕ) (number : ℕ) → number_in curve.names key ≡ Some number →
      first_size (warm ++ trace) key ≡ Some (weight_in curve.sizes number)
  pub order : curve.recency ≡ recency nat_eq (past_after (past_after [] before) numbers)
  pub hits : (i : ℕ) → i < length curve.limits →
      misses_within nat_eq (weight_in curve.sizes) (get_or curve.limits i 0) (past_after [] before) numbers
      + sum (take (i + 1) curve.counts) ≡ curve.references
  pub all : curve.references ≡ length trace

pub record IsSized (names : List (List ℕ)) (recent : Recent) (limits counts : List ℕ)
    (references total : ℕ) : Type 0 where
  pub numbered : length names ≡ recent.keys
  pub aligned : length recent.weights ≡ recent.keys
  pub within : AreAdded recent
  pub known : (key : List ℕ) (number : ℕ) → number_in names key ≡ Some number → is_in nat_eq number recent.recency ≡ true
  pub whole : total ≡ sum_by (weight_in recent.weights) recent.recency
  pub small : total < 2 ^ 64
  pub rising : IsNonDecreasing limits
  pub long : length counts ≡ length limits + 1
  pub counted : sum counts ≡ references
