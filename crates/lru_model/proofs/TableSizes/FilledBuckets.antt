-- A table with a deleted bucket has more than 16 buckets, and not all of its growth is left.
use Rattle.std.proofs.Common.{inl, inr, ◌≡◌, ℕ, ◌+◌, ◌<◌, ◌⊎◌, List, ◌∷◌, length, refl, sym, ap, ◌∙◌, arith, count_by}
use Rattle.std.proofs.Common.{slice_set, if◌then◌else◌}
use Rattle.std.proofs.lemmas.Bool.{false≢true}
use Rattle.std.proofs.lemmas.List.{get_or_past}
use native.Mathlib.Decide.{dec_lt}
use Rattle.group_table.specs.Sizes.{full_capacity}
use Rattle.group_table.specs.Bucket.{BucketState, empty, deleted, full, bucket_at, is_full, is_used, is_deleted, growth_left, growth_left_at}
use Rattle.group_table.specs.Probe.{IsFirstFree}
use Rattle.group_table.proofs.BucketLemmas.{count_by-pos, used_count-split, room_is}
use Rattle.lru_model.specs.State.{TableState, Counts, FirstFreeIs, IsSound}
use Rattle.lru_model.specs.Place.{FillsBucket}

empty-not_deleted : ◌≡◌ {A = BucketState} empty deleted → ⊥
empty-not_deleted e = cc

module _ {n entry_bytes max : ℕ} {states : List BucketState} {counts : Counts} (ok : IsSound n entry_bytes max states counts)
  where
    pub deleted_large : (b : ℕ) → b < length states → bucket_at states b ≡ deleted → (16 < length states)
        × (n + growth_left states < full_capacity (length states))
    deleted_large b within there = (
      large (dec_lt 16 (length states)),
      omega (arith, some, used_count-split states, ok.table.used_within, ok.taken, room_is states),
    )
      where
        some : 0 < count_by is_deleted states
        some = count_by-pos is_deleted states b within (ap is_deleted there)

        large : Dec (16 < length states) → 16 < length states
        large (yes l) = l
        large (no l) = absurd (omega (arith, some, ok.table.none_deleted (omega arith)))

    pub deleted_first_large : (hash : ℕ) → FirstFreeIs deleted hash states → (16 < length states)
        × (n + growth_left states < full_capacity (length states))
    deleted_first_large hash (b, first, there) = go (dec_lt b (length states))
      where
        go : Dec (b < length states) → (16 < length states) × (n + growth_left states < full_capacity (length states))
        go (yes within) = deleted_large b within there
        go (no past) = absurd (empty-not_deleted (sym (get_or_past states b empty (omega (arith, past))) ∙ there))

module _ {n entry_bytes max : ℕ} {counts : Counts} (old new : TableState)
    (ok : IsSound n entry_bytes max old.states counts) (hash : ℕ) where
  pub fills_exact : FillsBucket hash old new → n + growth_left old.states ≡ full_capacity (length old.states)
      → growth_left new.states + 1 ≡ growth_left old.states
  fills_exact fills exact = elim fills.spends [
    | inl e ↦ e.1
    | inr d ↦ absurd (omega (arith, (deleted_first_large ok hash (fills.bucket, fills.first, d.0)).1, exact))
  ]

  module _ (b : ℕ) (within : b < length old.states) (first : IsFirstFree old.states hash b)
      (filled : growth_left new.states + growth_left_at old.states b ≡ growth_left old.states)
      (states : new.states ≡ slice_set old.states b (full tt)) (places : new.places ≡ b ∷ old.places) where
    abbrev Spends : Type 0
    Spends = ((bucket_at old.states b ≡ empty) × (growth_left new.states + 1 ≡ growth_left old.states))
        ⊎ ((bucket_at old.states b ≡ deleted) × (16 < length old.states) × (growth_left new.states ≡ growth_left old.states))

    pub fills_free : FillsBucket hash old new
    fills_free = record {
      bucket = b;
      first = first;
      states = states;
      places = places;
      spends = go (bucket_at old.states b) refl;
    }
      where
        free : (m : BucketState) → bucket_at old.states b ≡ m → growth_left_at old.states b ≡ (if is_used m then 0 else 1)
        free m e = ap (λ x. if is_used x then 0 else 1) e

        go : (m : BucketState) → bucket_at old.states b ≡ m → Spends
        go empty e = inl (e, omega (arith, filled, free empty e))
        go deleted e = inr (e, (deleted_large ok b within e).0, omega (arith, filled, free deleted e))
        go (full held) e = absurd (false≢true (sym first.free_there ∙ ap is_full e))
