-- The numbers that a report contains for each size.
use Rattle.std.specs.Prelude.{ℕ, zero, suc, max, ◌+◌, ◌*◌, ◌/◌, ◌^◌, nat_lt, nat_le, ◌==◌, if◌then◌else◌, List, [], ◌∷◌, ◌++◌, length, drop}
use Rattle.std.specs.Prelude.{Bool, true, false, Option, Some, None}
use Rattle.std.specs.List.{fold}
use Rattle.std.specs.Option.{unwrap_or}
use Rattle.std.specs.Str.{bytes_eq}
use Rattle.std.specs.Map.{keys_of}
use Rattle.lru_theory.specs.Best.{min_misses, bypass_misses}
use Rattle.lru_theory.specs.Traces.{misses, recency, past_after}
use Rattle.lru_trace.specs.declared.rows.BestMisses.{BestMisses}
use Rattle.lru_trace.specs.declared.rows.Counts.{Counts}
use Rattle.lru_trace.specs.declared.rows.Row.{Row}
use Rattle.lru_trace.specs.declared.options.Measure.{Measure}
use Rattle.lru_trace.specs.declared.options.Measure.TheVariants.{Places, PlacesWithDeletes, Bytes}
use Rattle.lru_trace.specs.Deletes.{calls_of, missed_calls, places_of, referred}
use Rattle.lru_trace.specs.Sized.{missed_within, bytes_of}

abbrev pub best_in : List (List ℕ) → Bool → ℕ → Option BestMisses
best_in trace false n = None
best_in trace true n = Some (record { min = min_misses bytes_eq n trace; bypass = bypass_misses bytes_eq n trace })

-- The expected number of references in a sample of one key in 2 ^ bits, rounded down.
abbrev pub expected_of : ℕ → Counts → ℕ
expected_of bits counts = (counts.references + unwrap_or counts.skipped 0) / 2 ^ bits

abbrev pub keys : List (List ℕ) → List (List ℕ) → ℕ
keys warm trace = length (recency bytes_eq (past_after (past_after [] warm) trace))

-- The number of misses of `trace`, after the warm-up, in a cache of this size.
abbrev pub missed : Measure → List (List ℕ × ℕ) → List (List ℕ × ℕ) → ℕ → ℕ
missed Places warm trace size = misses bytes_eq size (past_after [] (keys_of warm)) (keys_of trace)
missed PlacesWithDeletes warm trace size = missed_calls size (calls_of warm) (calls_of trace)
missed Bytes warm trace size = missed_within size warm trace

-- the least size of a cache that has room for all keys
abbrev pub needed : Measure → List (List ℕ × ℕ) → List (List ℕ × ℕ) → ℕ
needed Places warm trace = keys (keys_of warm) (keys_of trace)
needed PlacesWithDeletes warm trace = length (places_of (calls_of warm) (calls_of trace))
needed Bytes warm trace = bytes_of (warm ++ trace)

abbrev pub references_of : Measure → List (List ℕ × ℕ) → ℕ
references_of Places trace = length trace
references_of PlacesWithDeletes trace = referred (calls_of trace)
references_of Bytes trace = length trace

-- The number of different keys that were referenced. With deletes, this is the largest number of keys that an unlimited
-- cache contained at once.
abbrev pub keys_among : Measure → List (List ℕ × ℕ) → List (List ℕ × ℕ) → ℕ
keys_among Places warm trace = keys (keys_of warm) (keys_of trace)
keys_among PlacesWithDeletes warm trace = length (places_of (calls_of warm) (calls_of trace))
keys_among Bytes warm trace = keys (keys_of warm) (keys_of trace)

-- The powers of two from 2 ^ level on. The list ends with the first power that is at least `most`, or after n powers.
unfoldable pub powers : ℕ → ℕ → ℕ → List ℕ
powers most zero level = []
powers most (suc n) level = 2 ^ level ∷ (if nat_le most (2 ^ level) then [] else powers most n (suc level))

-- `trace` contains the counted references, and `warm` contains the earlier references of the warm-up.
module _ (measure : Measure) (warm trace : List (List ℕ × ℕ)) where
  -- In a sample of one key in 2 ^ bits, a cache of the size n / 2 ^ bits stands for a cache of the size n.
  abbrev pub row_of : ℕ → ℕ → Bool → ℕ → Row
  row_of bits expected best n =
      let size : ℕ = n / 2 ^ bits in
      record {
        size = n;
        expected = expected;
        misses = missed measure warm trace size;
        best = best_in (keys_of trace) best size;
      }

  abbrev pub axis_in : ℕ → List ℕ
  axis_in bits = powers (max (needed measure warm trace) 1 * 2 ^ bits) 64 0

  -- The powers of two on the axis, from 2 ^ bits on. In the sample, a cache of the size 1 stands for the size 2 ^ bits.
  abbrev pub powers_in : ℕ → List ℕ
  powers_in bits = drop bits (axis_in bits)

-- the rising list of sizes with n inserted, unless the list contains n already
abbrev pub with_size : List ℕ → ℕ → List ℕ
with_size [] n = n ∷ []
with_size (size ∷ sizes) n =
    if nat_lt size n then size ∷ with_size sizes n else if size == n then size ∷ sizes else n ∷ size ∷ sizes

abbrev pub points : List ℕ → List ℕ → List ℕ
points sizes others = fold with_size (fold with_size [] others) sizes
