-- What holds for every table follows from the invariant of its fields.
use Rattle.std.proofs.Common.{◌≡◌, ℕ, ◌+◌, ◌-◌, ◌<◌, ◌≤◌, List, length, Option, ap, sym, ◌∙◌, arith, inl, inr, count_by}
use Rattle.group_table.specs.Sizes.{full_capacity, IsBucketCount}
use Rattle.group_table.specs.Bucket.{empty, bucket_at, is_used, is_deleted, growth_left}
use Rattle.group_table.specs.Table.{IsTable}
use Rattle.group_table.specs.Layout.{slots_of, states_by, IsValid}
use Rattle.group_table.proofs.SizeLemmas.{full_capacity-lt, full_capacity-small}
use Rattle.group_table.proofs.BucketLemmas.{some_empty, room_is, used_count-bucket_states, deleted_count-bucket_states}
use Rattle.group_table.proofs.BucketLemmas.{deleted_count-none, empty_not_deleted, bucket_at-past}
use Rattle.group_table.proofs.LayoutLemmas.{length-laid_out, length-states_by, power_of}

module _ {T : Type 0} (control : List ℕ) (entries : List (Option T)) (r : ℕ) (valid : IsValid control entries r) where
  bucket_count : IsBucketCount (length entries)
  bucket_count = elim valid.laid_out.counts [ inl w ↦ inl w.0 | inr w ↦ inr w.0 ]

  used_is : count_by is_used (states_by control entries) + r ≡ full_capacity (length entries)
  used_is = omega (arith, used_count-bucket_states (slots_of control entries), valid.room_left)

  pub room_by : r ≡ growth_left (states_by control entries)
  room_by = let e = room_is (states_by control entries) in let same = length-states_by control entries valid.laid_out in
      (let f : r ≡ full_capacity (length entries) - count_by is_used (states_by control entries) = omega
      (arith, used_is) in f)
      ∙ ap (λ n. full_capacity n - count_by is_used (states_by control entries)) (sym same) ∙ sym e

  pub room_within : r ≤ length entries
  room_within = elim valid.laid_out.counts [
    | inl w ↦ let none : full_capacity (length entries) ≡ full_capacity 0 = ap full_capacity w.0 in
        omega (arith, used_is, none, full_capacity-small 0 (omega arith))
    | inr w ↦ omega (arith, used_is, full_capacity-lt (length entries) w.0)
  ]

  pub used_lt : 0 < length entries → count_by is_used (states_by control entries) < length entries
  used_lt pos = omega (arith, used_is, full_capacity-lt (length entries) (power_of control entries valid.laid_out pos))

  none_deleted_small : length entries ≤ 16 → count_by is_deleted (states_by control entries) ≡ 0
  none_deleted_small small =
      deleted_count-bucket_states (slots_of control entries) ∙ deleted_count-none (slots_of control entries) (λ b e.
      let none : length entries ≡ 0 = valid.none_deleted small b e in
      empty_not_deleted _
      (bucket_at-past (slots_of control entries) b
      (omega (arith, none, length-laid_out control entries valid.laid_out))) e)

  pub empty_there : 0 < length entries → (b : ℕ) × (b < length (states_by control entries))
      × (bucket_at (states_by control entries) b ≡ empty)
  empty_there pos =
      some_empty (states_by control entries) (omega (arith, used_lt pos, length-states_by control entries valid.laid_out))

  pub IsTable-by : IsTable (states_by control entries)
  IsTable-by =
      let same = length-states_by control entries valid.laid_out in record {
        count = rw same bucket_count;
        addressable = elim valid.laid_out.counts
            [ inl w ↦ omega (arith, w.0, same) | inr w ↦ omega (arith, w.1, same, valid.laid_out.fits) ];
        used_within = omega (arith, used_is, ap full_capacity same);
        none_deleted = λ small. none_deleted_small (omega (arith, small, same));
      }
