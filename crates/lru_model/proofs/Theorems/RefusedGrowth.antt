use Rattle.std.proofs.Common.{◌≡◌, ◌≢◌, ℕ, suc, ◌+◌, ◌-◌, ◌/◌, ◌<◌, ◌≤◌, ◌⊎◌, inl, inr, ◌∷◌, length}
use Rattle.std.proofs.Common.{refl, sym, ap, ◌∙◌, arith}
use Rattle.std.proofs.lemmas.Bool.{true≢false}
use Rattle.group_table.specs.Sizes.{full_capacity}
use Rattle.lru_limits.specs.Rules.{Rules}
use Rattle.lru_model.specs.Lists.{without_last}
use Rattle.lru_model.specs.State.{State, buckets, growth_left, contents, pops}
use Rattle.lru_model.specs.Sizes.{no_table, new_table}
use Rattle.lru_model.specs.Place.{Place, in_bucket, rehashed, grown, not_grown}
use Rattle.lru_model.specs.Place.{nothing_to_evict, finds_bucket, rehashes}
use Rattle.lru_model.specs.Place.{CannotGrow, no_target, denied, Outcome, placed, refused, no_memory, IsPlaced}
use Rattle.lru_model.specs.Place.{IsPlacedIfMemory, Grants, asked, table_for, HasPairsButNoGrowth, FillsBucket}
use Rattle.lru_model.specs.Place.{OldestEvicted}
use Rattle.lru_model.specs.Theorems.{IsRefusedGrowth}
use Rattle.lru_model.proofs.States.Outcomes.{placed-not_no_memory, refused-not_no_memory, refused-not_placed}
use Rattle.lru_model.proofs.States.LeavingPairs.{length-pops, known_is, oldest_leaves}

module _ {K V S H : Type 0} (rules : Rules K V S) (hash_of : H → K → ℕ) (pair : K × V) (old : State K V S H) where
  -- After refused growth, the map has at least half as many pairs as the table may hold, including the new pair. In a
  -- table of up to 16 buckets only the oldest pair is evicted.
  pub record GivesWay (new : State K V S H) : Type 0 where
    pub half : full_capacity (buckets old) / 2 ≤ length new.pairs
    pub one : buckets old ≤ 16 → new.pairs ≡ pair ∷ without_last old.pairs
    pub same_table : buckets new ≡ buckets old

  pub record KeepsAll (new : State K V S H) : Type 0 where
    pub pairs : new.pairs ≡ pair ∷ old.pairs
    pub large : IsRefusedGrowth rules old → 16 < buckets old

  pub placed_if : (st new : State K V S H) (count spare moves : ℕ) (outcome : Outcome) → outcome ≡ placed
      → IsPlacedIfMemory rules pair count spare moves st outcome new → IsPlaced pair count moves st new × (growth_left new ≡ spare)
  placed_if st new count spare moves placed o h = h
  placed_if st new count spare moves no_memory o h = placed-not_no_memory (sym o)
  placed_if st new count spare moves refused o h = absurd h

  left_if : (st new : State K V S H) (count spare moves : ℕ) (outcome : Outcome) → outcome ≡ no_memory
      → IsPlacedIfMemory rules pair count spare moves st outcome new → new.pairs ≡ st.pairs
  left_if st new count spare moves placed o h = placed-not_no_memory o
  left_if st new count spare moves no_memory o h = ap (λ x. x.pairs) h
  left_if st new count spare moves refused o h = absurd h

  not_granted : {A : Type 0} (count bytes : ℕ) → table_for 1 old ≡ new_table count bytes → Grants rules bytes old
      → (mid : State K V S H) → CannotGrow rules old mid → A
  not_granted count bytes t g mid (no_target u e) = absurd (no (sym t ∙ u))
    where
      no : new_table count bytes ≡ no_table → ⊥
      no h = grind arith
  not_granted count bytes t g mid (denied count' bytes' u d e) = absurd
      (true≢false (sym g ∙ ap (λ n. (rules.on_grow old.limiter n).allowed) (same (sym t ∙ u)) ∙ d))
    where
      same : new_table count bytes ≡ new_table count' bytes' → bytes ≡ bytes'
      same h = grind arith

  pub left_length : (n : ℕ) (mid left : State K V S H) → CannotGrow rules old mid
      → OldestEvicted rules (hash_of old.hasher pair.0) n mid left
      → length left.pairs ≡ length old.pairs - n
  left_length n mid left c gone = let gone = oldest_leaves rules _ n mid left gone in
      ap (λ st. length st.pairs) gone.is ∙ length-pops rules n (contents mid)
      ∙ ap (λ st. length st.pairs - n) (known_is rules old mid c)

  eviction_keeps_half : HasPairsButNoGrowth old → full_capacity (buckets old) / 2 < length old.pairs + 1
      → (mid : State K V S H)
      → CannotGrow rules old mid → (n : ℕ) → (buckets old ≤ 16 → n ≡ 1)
      → (left : State K V S H) → OldestEvicted rules (hash_of old.hasher pair.0) n mid left → (new : State K V S H)
      → (length left.pairs ≡ length old.pairs - n → full_capacity (buckets old) / 2 ≤ suc (length left.pairs))
      → new.pairs ≡ pair ∷ left.pairs → buckets new ≡ buckets old
      → KeepsAll new ⊎ (IsRefusedGrowth rules old × GivesWay new)
  eviction_keeps_half f l mid c n one left gone new half there same = inr (
    record { is_full = f; above_half = l; mid = mid; refused = c },
    record {
      half = omega (arith, ap length there, half (left_length n mid left c gone));
      one = λ small.
          there ∙ ap (λ xs. pair ∷ xs) (ap (λ st. st.pairs) (oldest_leaves rules _ n mid left gone).is)
          ∙ ap (λ k. pair ∷ (pops rules k (contents mid)).pairs) (one small)
          ∙ ap (λ st. pair ∷ without_last st.pairs) (known_is rules old mid c);
      same_table = same;
    },
  )

  pub place_keeps : (outcome : Outcome) (new : State K V S H) → outcome ≡ placed
      → Place rules hash_of pair old outcome new → KeepsAll new ⊎ (IsRefusedGrowth rules old × GivesWay new)
  place_keeps outcome new q (in_bucket l f s o n) = inl
      (record { pairs = ap (λ st. st.pairs) n.state; large = large s })
    where
      large : FillsBucket (hash_of old.hasher pair.0) old.table new.table → IsRefusedGrowth rules old → 16 < buckets old
      large fills refusal =
          elim fills.spends [ inl e ↦ absurd (omega (arith, e.1, refusal.is_full.1)) | inr d ↦ d.1 ]
  place_keeps outcome new q (rehashed b l some m) =
      inl (record {
        pairs = ap (λ st. st.pairs) (placed_if old new _ _ _ outcome q m).0.state;
        large = λ refusal. absurd (omega (arith, l, refusal.above_half));
      })
  place_keeps outcome new q (grown b count bytes t g m) =
      inl (record {
        pairs = ap (λ st. st.pairs) (placed_if (asked rules bytes old) new _ _ _ outcome q m).0.state;
        large = λ refusal. not_granted count bytes t g refusal.mid refusal.refused;
      })
  place_keeps outcome new q (not_grown b mid c (nothing_to_evict e o n)) = refused-not_placed (sym o ∙ q)
  place_keeps outcome new q (not_grown b mid c (finds_bucket n pos one half left gone fills o p)) =
      eviction_keeps_half (omega (arith, pos, half), b.no_bucket.no_growth_left) b.above_half mid c n one left gone new
      (λ taken. omega (arith, half, taken)) (ap (λ st. st.pairs) p.state) p.table
  place_keeps outcome new q (not_grown b mid c (rehashes some n pos one half left gone m)) =
      let p = (placed_if left new _ _ _ outcome q m).0 in
      eviction_keeps_half (some, b.no_bucket.no_growth_left) b.above_half mid c n one left gone new
      (λ taken. omega (arith, half, taken)) (ap (λ st. st.pairs) p.state) p.table

  pub place_runs_out_half : IsRefusedGrowth rules old → (outcome : Outcome) (new : State K V S H) → outcome ≡ no_memory
      → Place rules hash_of pair old outcome new
      → full_capacity (buckets old) / 2 ≤ length new.pairs + 1
  place_runs_out_half refusal outcome new q (in_bucket l f s o n) = placed-not_no_memory (sym o ∙ q)
  place_runs_out_half refusal outcome new q (rehashed b l some m) = absurd (omega (arith, l, refusal.above_half))
  place_runs_out_half refusal outcome new q (grown b count bytes t g m) =
      not_granted count bytes t g refusal.mid refusal.refused
  place_runs_out_half refusal outcome new q (not_grown b mid c (nothing_to_evict e o n)) =
      refused-not_no_memory (sym o ∙ q)
  place_runs_out_half refusal outcome new q (not_grown b mid c (finds_bucket n pos one half left gone fills o p)) =
      placed-not_no_memory (sym o ∙ q)
  place_runs_out_half refusal outcome new q (not_grown b mid c (rehashes some n pos one half left gone m)) =
      omega (arith, ap length (left_if left new _ _ _ outcome q m), left_length n mid left c gone, half)

  pub place_runs_out_keeps : (outcome : Outcome) (new : State K V S H) → outcome ≡ no_memory
      → Place rules hash_of pair old outcome new → (new.pairs ≡ old.pairs) ⊎ IsRefusedGrowth rules old
  place_runs_out_keeps outcome new q (in_bucket l f s o n) = placed-not_no_memory (sym o ∙ q)
  place_runs_out_keeps outcome new q (rehashed b l some m) = inl (left_if old new _ _ _ outcome q m)
  place_runs_out_keeps outcome new q (grown b count bytes t g m) = inl
      (left_if (asked rules bytes old) new _ _ _ outcome q m)
  place_runs_out_keeps outcome new q (not_grown b mid c (nothing_to_evict e o n)) = refused-not_no_memory (sym o ∙ q)
  place_runs_out_keeps outcome new q (not_grown b mid c (finds_bucket n pos one half left gone fills o p)) =
      placed-not_no_memory (sym o ∙ q)
  place_runs_out_keeps outcome new q (not_grown b mid c (rehashes some n pos one half left gone m)) = inr
      (record {
        is_full = (some, b.no_bucket.no_growth_left);
        above_half = b.above_half;
        mid = mid;
        refused = c;
      })

  module _ (new : State K V S H) (step : Place rules hash_of pair old placed new) where
    pub refused_half : IsRefusedGrowth rules old → full_capacity (buckets old) / 2 ≤ length new.pairs
    refused_half refusal = elim (place_keeps placed new refl step) [
      | inl k ↦ omega (arith, refusal.above_half, ap length k.pairs)
      | inr w ↦ w.1.half
    ]

    pub refused_one : IsRefusedGrowth rules old → buckets old ≤ 16 → new.pairs ≡ pair ∷ without_last old.pairs
    refused_one refusal small = elim (place_keeps placed new refl step) [
      | inl k ↦ absurd (omega (arith, k.large refusal, small))
      | inr w ↦ w.1.one small
    ]

    pub grown_keeps : buckets new ≢ buckets old → new.pairs ≡ pair ∷ old.pairs
    grown_keeps other = elim (place_keeps placed new refl step) [
      | inl k ↦ k.pairs
      | inr w ↦ absurd
          (other w.1.same_table)
    ]

    pub keeps_or_refused : (new.pairs ≡ pair ∷ old.pairs) ⊎ IsRefusedGrowth rules old
    keeps_or_refused = elim (place_keeps placed new refl step) [ inl k ↦ inl k.pairs | inr w ↦ inr w.0 ]
