-- The miss-ratio curve of a trace, for sizes in entries or in bytes.
use Rattle.std.specs.Prelude.{◌≡◌, ◌≤◌, ◌<◌, ◌/◌, ◌^◌, ℕ, nat_eq, Bool, true, false, List, [], ◌++◌, Option, Some, None}
use Rattle.std.specs.Prelude.{is_some, IfSome}
use Rattle.std.specs.List.{All}
use Rattle.std.specs.Map.{keys_of}
use Rattle.lru_trace.specs.Counted.{IsOf}
use Rattle.lru_theory.specs.Traces.{is_in}
use Rattle.lru_trace.specs.References.{bits_of, measure_of, wants_best}
use Rattle.lru_trace.specs.Deletes.{IsDeleteOf, calls_of}
use Rattle.lru_trace.specs.Rows.{powers}
use Rattle.lru_trace.specs.Sized.{IsSizedOf, bytes_of}
use Rattle.lru_trace.specs.declared.curves.AnyCurve.{AnyCurve}
use Rattle.lru_trace.specs.declared.curves.AnyCurve.TheVariants as curves
use Rattle.lru_trace.specs.declared.options.Measure.{Measure}
use Rattle.lru_trace.specs.declared.options.Measure.TheVariants.{Places, PlacesWithDeletes, Bytes}
use Rattle.lru_trace.specs.declared.options.Options.{Options}

abbrev pub measure_in : AnyCurve → Measure
measure_in (curves.Places curve) = Places
measure_in (curves.Deletes curve) = PlacesWithDeletes
measure_in (curves.Bytes curve) = Bytes

abbrev pub references_of : AnyCurve → ℕ
references_of (curves.Places curve) = curve.references
references_of (curves.Deletes curve) = curve.references
references_of (curves.Bytes curve) = curve.references

-- whether the curve keeps the keys of all counted references
abbrev pub keeps : AnyCurve → Bool
keeps (curves.Places curve) = is_some curve.kept
keeps (curves.Deletes curve) = false
keeps (curves.Bytes curve) = false

-- The limits of bytes. A curve for sizes in entries has no limits, because it counts the misses for every size.
abbrev pub limits_of : AnyCurve → Option (List ℕ)
limits_of (curves.Places curve) = None
limits_of (curves.Deletes curve) = None
limits_of (curves.Bytes curve) = Some curve.limits

-- the curve counts the misses in a cache of this size
abbrev pub Has : AnyCurve → ℕ → Type 0
Has curve size = IfSome (limits_of curve) (λ limits. is_in nat_eq size limits ≡ true)

-- The sample has one key in 2 ^ bits. For each size of `sizes`, the curve counts the misses in a cache of the size
-- `size / 2 ^ bits`.
abbrev pub HasAll : AnyCurve → ℕ → List ℕ → Type 0
HasAll curve bits sizes = All (λ size. Has curve (size / 2 ^ bits)) sizes

-- the curve counts the references of `trace`, after the warm-up `warm`
abbrev pub IsCurveOf : List (List ℕ × ℕ) → List (List ℕ × ℕ) → AnyCurve → Type 0
IsCurveOf warm trace (curves.Places curve) = IsOf (keys_of warm) (keys_of trace) curve
IsCurveOf warm trace (curves.Deletes curve) = IsDeleteOf (calls_of warm) (calls_of trace) curve
IsCurveOf warm trace (curves.Bytes curve) = IsSizedOf warm trace curve

-- the facts about a curve that further references do not change
pub record AreAlike (old new : AnyCurve) : Type 0 where
  pub measure : measure_in new ≡ measure_in old
  pub keeps : keeps new ≡ keeps old
  pub limits : limits_of new ≡ limits_of old

-- The curve has every count that a report with these `options` needs, if the first line names `sizes`.
pub record Fits (options : Options) (sizes : List ℕ) (curve : AnyCurve) : Type 0 where
  pub measure : measure_in curve ≡ measure_of options.policies
  pub keeps : keeps curve ≡ wants_best options.policies
  pub named : HasAll curve (bits_of options) sizes
  pub powers : (most : ℕ) → most < 2 ^ 128 → HasAll curve (bits_of options) (powers most 64 0)

-- `old` was the curve of a warm-up and a trace. The further references are added to the warm-up if `is_warm` is true,
-- and to the trace if `is_warm` is false. After this, `Holds` is true of the warm-up and the trace.
pub record Leads (is_warm : Bool) (old : AnyCurve) (references : List (List ℕ × ℕ))
    (Holds : List (List ℕ × ℕ) → List (List ℕ × ℕ) → Type 0) : Type 0 where
  pub counted : is_warm ≡ false → (warm trace : List (List ℕ × ℕ)) → IsCurveOf warm trace old
      → Holds warm (trace ++ references)
  pub warmed : is_warm ≡ true → (warm : List (List ℕ × ℕ)) → IsCurveOf warm [] old → Holds (warm ++ references) []

-- `new` is the curve after further `references`
abbrev pub Follows : Bool → AnyCurve → List (List ℕ × ℕ) → AnyCurve → Type 0
Follows is_warm old references new = Leads is_warm old references (λ warm trace. IsCurveOf warm trace new)

-- the entries of all keys together take 2 ^ 64 bytes or more
abbrev pub AreTooLarge : List (List ℕ × ℕ) → List (List ℕ × ℕ) → Type 0
AreTooLarge warm trace = 2 ^ 64 ≤ bytes_of (warm ++ trace)
