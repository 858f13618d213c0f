-- The references that lines make. A reference is a key, and the size of the key's entry. With the policy `Deletes`, a
-- line has the size 1 if it references its key, and 0 if it deletes its key.
use Rattle.std.specs.Prelude.{ℕ, zero, suc, List, [], ◌∷◌, take, drop, min, filter_map, length, Bool, true, false, not, nat_lt, nat_eq}
use Rattle.std.specs.Prelude.{if◌then◌else◌, codes}
use Rattle.std.specs.List.{starts_with}
use Rattle.std.specs.Prelude.{Option, Some, None, is_some}
use Rattle.std.specs.List.{filter}
use Rattle.std.specs.Option.{option_map}
use Rattle.lru_trace.specs.declared.lines.Others.{Others}
use Rattle.lru_trace.specs.declared.options.Measure.{Measure}
use Rattle.lru_trace.specs.declared.options.Measure.TheVariants.{Places, PlacesWithDeletes, Bytes}
use Rattle.lru_trace.specs.declared.options.Options.{Options}
use Rattle.lru_trace.specs.declared.options.Policies.{Policies}
use Rattle.lru_trace.specs.declared.options.Policies.TheVariants.{Lru, Deletes, Best, Sized}
use Rattle.lru_trace.specs.Lines.{text_in, cell, is_key}
use Rattle.lru_trace.specs.Samples.{sampled, skipped}
use Rattle.lru_trace.specs.Sizes.{number_from}

abbrev pub warm_up_of : Policies → ℕ
warm_up_of (Lru n) = n
warm_up_of (Deletes n) = n
warm_up_of Best = 0
warm_up_of (Sized n column) = n

abbrev pub wants_best : Policies → Bool
wants_best (Lru n) = false
wants_best (Deletes n) = false
wants_best Best = true
wants_best (Sized n column) = false

abbrev pub measure_of : Policies → Measure
measure_of (Lru n) = Places
measure_of (Deletes n) = PlacesWithDeletes
measure_of Best = Places
measure_of (Sized n column) = Bytes

abbrev pub bits_of : Options → ℕ
bits_of options = min options.sample 20

abbrev pub deletes : Policies → List ℕ → Bool
deletes (Lru n) line = false
deletes (Deletes n) line = starts_with nat_eq line (codes "- ")
deletes Best line = false
deletes (Sized n column) line = false

-- the line without the `- ` of a delete
abbrev pub body : Policies → List ℕ → List ℕ
body policies line = if deletes policies line then drop 2 line else line

-- The size that a line spells. Without a column of sizes, each entry has the size 1.
abbrev pub size_of : Policies → List ℕ → Option ℕ
size_of (Lru n) line = Some 1
size_of (Deletes n) line = Some (if deletes (Deletes n) line then 0 else 1)
size_of Best line = Some 1
size_of (Sized n column) line = number_from None (cell column.separator column.index line)

-- whether a line with this key and size is a reference, not a delete
abbrev pub refers_to : Policies → List ℕ × ℕ → Bool
refers_to (Lru n) reference = true
refers_to (Deletes n) reference = nat_lt 0 reference.1
refers_to Best reference = true
refers_to (Sized n column) reference = true

-- how many of these lines are in a warm-up of n references
abbrev pub warm_long : (List ℕ × ℕ → Bool) → ℕ → List (List ℕ × ℕ) → ℕ
warm_long test zero references = 0
warm_long test (suc n) [] = 0
warm_long test (suc n) (reference ∷ references) =
    suc (warm_long test (if test reference then n else suc n) references)

module _ (options : Options) where
  -- the reference that the line makes, or `None` if the line is malformed
  abbrev pub reference_of : List ℕ → Option (List ℕ × ℕ)
  reference_of line = if is_key (text_in options.column (body options.policies line))
      then option_map (λ size. (text_in options.column (body options.policies line), size)) (size_of options.policies line)
      else None

  abbrev pub is_reference : List ℕ × ℕ → Bool
  is_reference = refers_to options.policies

  module _ (lines : List (List ℕ)) where
    abbrev pub references_in : List (List ℕ × ℕ)
    references_in = filter_map reference_of lines

    abbrev pub malformed_in : ℕ
    malformed_in = length (filter (λ line. not (is_some (reference_of line))) lines)

    abbrev pub deleted_in : ℕ
    deleted_in = length (filter (λ reference. not (is_reference reference)) references_in)

    abbrev pub warm_up_in : ℕ
    warm_up_in = warm_long is_reference (warm_up_of options.policies) references_in

    abbrev pub warm_in : List (List ℕ × ℕ)
    warm_in = sampled (bits_of options) (take warm_up_in references_in)

    -- the counted references: the references of the sample after the warm-up
    abbrev pub counted_in : List (List ℕ × ℕ)
    counted_in = sampled (bits_of options) (drop warm_up_in references_in)

    -- three counts: malformed lines, references to keys outside the sample (after the warm-up), and lines that delete a
    -- key
    abbrev pub others_in : Others
    others_in = record {
      malformed = malformed_in;
      skipped = skipped (bits_of options) (filter is_reference (drop warm_up_in references_in));
      deleted = deleted_in;
    }

    -- `others_in` if all lines are in the warm-up (`warm` is true), or if no line is in it (`warm` is false)
    abbrev pub others_so : Bool → Others
    others_so warm = record {
      malformed = malformed_in;
      skipped = if warm then 0 else skipped (bits_of options) (filter is_reference references_in);
      deleted = deleted_in;
    }
