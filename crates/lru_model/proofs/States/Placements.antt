use Rattle.std.proofs.Common.{◌≡◌, ℕ, suc, ◌+◌, ◌-◌, ◌/◌, ◌<◌, ◌≤◌, ◌⊎◌, inl, inr, Bool, true, false, List, [], length}
use Rattle.std.proofs.Common.{None, Result, Ok, Err, refl, sym, ap, ◌∙◌, subst, arith}
use Rattle.std.specs.Prelude.{IsOk}
use Rattle.std.specs.declared.alloc.AllocError.{AllocError}
use native.Mathlib.Decide.{dec_lt}
use Rattle.std.proofs.lemmas.List.{nil_from_length}
use Rattle.group_table.specs.Sizes.{IsPowerFromFour, full_capacity}
use Rattle.group_table.specs.Bucket.{BucketState}
use Rattle.group_table.specs.Change.{HasNoPlace}
use Rattle.lru_limits.specs.Rules.{Rules}
use Rattle.lru_model.specs.Sizes.{no_table, new_table}
use Rattle.lru_model.specs.State.{State, TableState, buckets, contents, IsSized, Leaves, pop, pops}
use Rattle.lru_model.specs.Place.{Place, rehashed, grown, not_grown, HasNoBucket, IsOutgrown, CannotGrow}
use Rattle.lru_model.specs.Place.{no_target, denied, Evicts, nothing_to_evict, finds_bucket, rehashes, OldestEvicted}
use Rattle.lru_model.specs.Place.{Outcome, outcome_of, placed, no_memory, IsPlaced, IsPlacedIfMemory}
use Rattle.lru_model.specs.Place.{HasPairsButNoGrowth, NoBucketTakes, FillsBucket, table_for}
use Rattle.lru_model.proofs.TableSizes.SizedStates.{fits, exact}
use Rattle.lru_model.proofs.TableSizes.Growth.{full_capacity-at_most, full_capacity-even}
use Rattle.lru_model.proofs.Theorems.OutOfMemory.{no_growth_left}
use Rattle.lru_model.proofs.States.Outcomes.{placed-not_no_memory, refused-not_no_memory}
use Rattle.lru_model.proofs.States.LeavingPairs.{length-without_last, length-pops, known_is, leaves_more, oldest_leaves}
use Rattle.lru_model.proofs.States.LeavingPairs.{room_after}
use Rattle.lru_model.proofs.TableSizes.FilledBuckets.{deleted_first_large}
use Rattle.lru_model.proofs.Theorems.Fronts.{front_pops, front_absent}
use Rattle.lru_model.specs.Lists.{lookup_entry, IsFront}

module _ {K V S H : Type 0} (st : State K V S H) (ok : IsSized st) where
  pub none_without_buckets : buckets st ≡ 0 → st.pairs ≡ []
  none_without_buckets none = nil_from_length st.pairs
      (omega (arith, fits ok, full_capacity-at_most (buckets st), none))

  pub power_with_pairs : 0 < length st.pairs → IsPowerFromFour (buckets st)
  power_with_pairs some = go ok.table.count
    where
      go : (buckets st ≡ 0) ⊎ IsPowerFromFour (buckets st) → IsPowerFromFour (buckets st)
      go (inl none) = absurd (omega (arith, ap length (none_without_buckets none), some))
      go (inr power) = power

module _ {K V S H : Type 0} (rules : Rules K V S) (hash_of : H → K → ℕ) (pair : K × V) (old new : State K V S H)
    (ok : IsSized old) where
  pub rehash_place : (result : Result Bool AllocError) → HasNoBucket (hash_of old.hasher pair.0) old
      → length old.pairs < full_capacity (buckets old) / 2 →
      IsPlacedIfMemory rules pair (buckets old) (full_capacity (buckets old) - length old.pairs - 1)
      (length old.pairs) old (outcome_of result) new →
      (old.pairs ≡ [] → IsOk result) → Place rules hash_of pair old (outcome_of result) new
  rehash_place result none few step succeeds = rehashed none (omega (arith, few)) (some result succeeds) step
    where
      some : (r : Result Bool AllocError) → (old.pairs ≡ [] → IsOk r) → outcome_of r ≡ no_memory
          → 0 < length old.pairs
      some (Ok true) h q = placed-not_no_memory q
      some (Ok false) h q = refused-not_no_memory q
      some (Err e) h q = elim (dec_lt 0 (length old.pairs)) [
        | yes l ↦ l
        | no l ↦ absurd (grind (arith, h (nil_from_length old.pairs (omega (arith, l)))))
      ]

  module _ (hash : ℕ) (is_hash : hash ≡ hash_of old.hasher pair.0) (outgrown : IsOutgrown hash old)
      (outcome : Outcome) where
    outgrown_by : IsOutgrown (hash_of old.hasher pair.0) old
    outgrown_by = subst (λ h. IsOutgrown h old) is_hash outgrown

    evicts_place : (mid : State K V S H) → CannotGrow rules old mid → Evicts rules hash pair mid mid outcome new
        → Place rules hash_of pair old outcome new
    evicts_place mid cannot e = not_grown outgrown_by mid cannot
        (go (subst (λ h. Evicts rules h pair mid mid outcome new) is_hash e))
      where
        known : mid ≡ record old { limiter = mid.limiter }
        known = known_is rules old mid cannot

        same : buckets mid ≡ buckets old
        same = ap buckets known

        pairs : length mid.pairs ≡ length old.pairs
        pairs = ap (λ st. length st.pairs) known

        go : Evicts rules (hash_of old.hasher pair.0) pair mid mid outcome new
            → Evicts rules (hash_of old.hasher pair.0) pair old mid outcome new
        go (nothing_to_evict e o n) = nothing_to_evict (sym (ap (λ st. st.pairs) known) ∙ e) o n
        go (finds_bucket n pos one half left gone fills o p) = finds_bucket n pos
            (λ small. one (omega (arith, same, small)))
            (omega (arith, half, pairs, ap full_capacity same)) left gone fills o
            (subst (λ b. IsPlaced pair b 0 left new) same p)
        go (rehashes some n pos one half left gone m) = rehashes (omega (arith, some, pairs)) n pos
            (λ small. one (omega (arith, same, small)))
            (omega (arith, half, pairs, ap full_capacity same)) left gone
            (subst (λ b. IsPlacedIfMemory rules pair b (full_capacity b / 2) (length left.pairs) left outcome new) same
            m)

    module _ (count bytes : ℕ) (next : table_for 1 old ≡ new_table count bytes) (s : S)
        (queried : s ≡ (rules.on_grow old.limiter bytes).limiter) where
      pub grown_place : (rules.on_grow old.limiter bytes).allowed ≡ true →
          IsPlacedIfMemory rules pair count (full_capacity count - length old.pairs - 1) (length old.pairs)
          (record old { limiter = s }) outcome new →
          Place rules hash_of pair old outcome new
      grown_place granted step = grown outgrown_by count bytes next granted
          (subst (λ l. IsPlacedIfMemory rules pair count (full_capacity count - length old.pairs - 1)
          (length old.pairs) (record old { limiter = l }) outcome new) queried step)

      pub denied_place : (rules.on_grow old.limiter bytes).allowed ≡ false →
          Evicts rules hash pair (record old { limiter = s }) (record old { limiter = s }) outcome new
          → Place rules hash_of pair old outcome new
      denied_place refusal step = evicts_place (record old { limiter = s })
          (denied count bytes next refusal (ap {A = S} {B = State K V S H} (λ l. record old { limiter = l }) queried))
          step

    pub no_target_place : table_for 1 old ≡ no_table → Evicts rules hash pair old old outcome new
        → Place rules hash_of pair old outcome new
    no_target_place none step = evicts_place old (no_target none refl) step

module _ {K V S H : Type 0} (st : State K V S H) (ok : IsSized st) (hash : ℕ) where
  pub fills_within : (new : TableState) → FillsBucket hash st.table new → length st.pairs < full_capacity (buckets st)
  fills_within new fills = elim fills.spends [
    | inl e ↦ omega (arith, e.1, fits ok)
    | inr d ↦ omega (arith, (deleted_first_large ok hash (fills.bucket, fills.first, d.0)).1)
  ]

  pub no_place_bucket : HasNoPlace st.table.states hash → HasNoBucket hash st
  no_place_bucket (inl none) = record {
    no_growth_left = no_growth_left st.table.states none;
    first_empty = λ some. absurd (omega (arith, ap length (none_without_buckets st ok none), some));
  }
  no_place_bucket (inr (none, b, first, is)) = record { no_growth_left = none; first_empty = λ some. (b, first, is) }

-- no bucket takes a pair of this hash, and the map contains at least `least` pairs
pub record IsStuck (hash least : ℕ) (states : List BucketState) (pairs : ℕ) : Type 0 where
  pub some : 0 < pairs
  pub half : least ≤ pairs
  pub no_bucket : NoBucketTakes hash pairs states

module _ {K V S H : Type 0} (rules : Rules K V S) (hash : ℕ) (pair : K × V) (old before left : State K V S H)
    (ok : IsSized old) (is_full : HasPairsButNoGrowth old) (n : ℕ) (gone : OldestEvicted rules hash n old before)
    (stuck : IsStuck hash (full_capacity (buckets old) / 2) before.table.states (length before.pairs))
    (step : Leaves before (pop rules (contents before)) left) where
  pub one_more : OldestEvicted rules hash (suc n) old left
  one_more = (before, gone, stuck.no_bucket, step)

  leaves : Leaves old (pops rules n (contents old)) before
  leaves = oldest_leaves rules hash n old before gone

  pub one_fewer : length left.pairs + 1 ≡ length before.pairs
  one_fewer = omega (arith, ap (λ st. length st.pairs) step.is, length-without_last before.pairs, stuck.some)

  in_all : length old.pairs ≡ n + length before.pairs
  in_all = omega (arith, ap (λ st. length st.pairs) leaves.is, length-pops rules n (contents old), stuck.some)

  only_one : buckets old ≤ 16 → suc n ≡ 1
  only_one small = omega (
    arith,
    room_after rules n old before leaves small (omega (arith, in_all)) is_full.1
        stuck.no_bucket.no_growth_left,
  )

  pub same_buckets : buckets left ≡ buckets old
  same_buckets = step.growth_left.table ∙ leaves.growth_left.table

  pub left_absent : (names : K → Bool) → lookup_entry names old.pairs ≡ None → lookup_entry names left.pairs ≡ None
  left_absent names absent = front_absent names left.pairs old.pairs
      (subst (λ xs. IsFront xs old.pairs)
      (sym (ap (λ st. st.pairs) (leaves_more rules n old before left leaves step).is))
      (front_pops rules (suc n) (contents old))) absent

  module _ (new : State K V S H) where
    pub finds : full_capacity (buckets old) / 2 ≤ length left.pairs
        → IsPlaced pair (buckets left) 0 left new → FillsBucket hash left.table new.table
        → Evicts rules hash pair old old placed new
    finds enough p fills = finds_bucket (suc n) (omega arith) only_one
        (omega (arith, enough, one_fewer, in_all)) left one_more fills refl
        (subst (λ b. IsPlaced pair b 0 left new) same_buckets p)

    pub rehashes_then : (outcome : Outcome) → length left.pairs < full_capacity (buckets old) / 2 →
        IsPlacedIfMemory rules pair (buckets old) (full_capacity (buckets old) - length left.pairs - 1)
        (length left.pairs) left outcome new →
        Evicts rules hash pair old old outcome new
    rehashes_then outcome few m = rehashes is_full.0 (suc n) (omega arith) only_one
        (omega (arith, few, stuck.half, one_fewer, in_all)) left one_more
        (subst (λ s. IsPlacedIfMemory rules pair (buckets old) s (length left.pairs) left outcome new)
        (spare (dec_lt 8 (buckets old))) m)
      where
        spare : Dec (8 < buckets old) → full_capacity (buckets old) - length left.pairs - 1
            ≡ full_capacity (buckets old) / 2
        spare (yes large) = omega (
          arith,
          few,
          stuck.half,
          one_fewer,
          full_capacity-even (buckets old)
              (power_with_pairs old ok is_full.0) large,
        )
        spare (no small) = absurd
            (omega (
              arith,
              exact ok (omega (arith, small)),
              is_full.1,
              only_one (omega (arith, small)),
              in_all,
              few,
              stuck.half,
              one_fewer,
            ))
