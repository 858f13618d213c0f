use Rattle.std.proofs.Common.{◌≡◌, ℕ, ◌+◌, ◌<◌, inl, inr, length, sym, ap, ◌∙◌, arith}
use Rattle.group_table.specs.Sizes.{IsBucketCount}
use Rattle.group_table.proofs.SizeLemmas.{power_pos}
use Rattle.group_table.specs.Bucket.{BucketState, empty, deleted, bucket_at}
use Rattle.group_table.proofs.FirstFree.{IsFirstFree-unique}
use Rattle.lru_limits.specs.Rules.{Rules}
use Rattle.lru_model.specs.State.{State, buckets, growth_left, FirstFreeIs}
use Rattle.lru_model.specs.Place.{Place, in_bucket, rehashed, grown, not_grown, FillsBucket}
use Rattle.lru_model.specs.Place.{nothing_to_evict, finds_bucket, rehashes, Outcome, placed, IsPlaced, asked}
use Rattle.lru_model.proofs.Theorems.RefusedGrowth.{left_length, placed_if}
use Rattle.lru_model.proofs.TableSizes.Growth.{target_doubles}
use Rattle.lru_model.proofs.Theorems.Potential.{IsBounded, no_buckets}

module _ {K V S H : Type 0} (rules : Rules K V S) (hash_of : H → K → ℕ) (pair : K × V) (old : State K V S H)
    (some : 0 < length old.pairs) (no_growth_left : growth_left old ≡ 0) where
  abbrev hash : ℕ
  hash = hash_of old.hasher pair.0

  not_both : FirstFreeIs deleted hash old.table.states → FirstFreeIs empty hash old.table.states → ⊥
  not_both p q = let states = old.table.states in
      no (sym p.2 ∙ ap (bucket_at states) (IsFirstFree-unique states _ p.0 q.0 p.1 q.1) ∙ q.2)
    where
      no : ◌≡◌ {A = BucketState} deleted empty → ⊥
      no h = grind arith

  of_deleted : FirstFreeIs deleted hash old.table.states → (new : State K V S H)
      → FillsBucket hash old.table new.table → growth_left new ≡ 0
  of_deleted p new f = elim f.spends [
    | inl e ↦ absurd (not_both p (f.bucket, f.first, e.0))
    | inr d ↦ omega (arith, d.2, no_growth_left)
  ]

  pub deleted_serves : FirstFreeIs deleted hash old.table.states → (outcome : Outcome) (new : State K V S H)
      → Place rules hash_of pair old outcome new
      → (outcome ≡ placed) × IsPlaced pair (buckets old) 0 old new × FillsBucket hash old.table new.table
  deleted_serves p outcome new (in_bucket l f s o n) = (o, n, s)
  deleted_serves p outcome new (rehashed b l any m) = absurd (not_both p (b.first_empty some))
  deleted_serves p outcome new (grown g count bytes t y m) = absurd (not_both p (g.no_bucket.first_empty some))
  deleted_serves p outcome new (not_grown g mid c e) = absurd (not_both p (g.no_bucket.first_empty some))

  pub only_deleted : IsBounded old → (outcome : Outcome) (new : State K V S H) → outcome ≡ placed
      → Place rules hash_of pair old outcome new → IsPlaced pair (buckets old) 0 old new → growth_left new ≡ 0
      → FirstFreeIs deleted hash old.table.states
  only_deleted ok outcome new q (in_bucket l f s o n) p none_left = elim s.spends [
    | inl e ↦ absurd (omega (arith, e.1, no_growth_left))
    | inr d ↦ (s.bucket, s.first, d.0)
  ]
  only_deleted ok outcome new q (rehashed b l any m) p none_left =
      absurd (omega (
        arith,
        l,
        some,
        none_left,
        (placed_if rules hash_of pair old old new _ _ _ outcome q m).1,
      ))
  only_deleted ok outcome new q (grown g count bytes t y m) p none_left = absurd (larger ok.count)
    where
      same : count ≡ buckets old
      same = sym (placed_if rules hash_of pair old (asked rules bytes old) new _ _ _ outcome q m).0.table ∙ p.table

      larger : IsBucketCount (buckets old) → ⊥
      larger (inl z) = absurd (no_buckets old ok some z)
      larger (inr k) = absurd
          (omega (
            arith,
            same,
            power_pos (buckets old) k,
            target_doubles k.0 old.max old.entry_bytes (buckets old)
                (length old.pairs + 1) count bytes k.1 t,
          ))
  only_deleted ok outcome new q (not_grown g mid c (nothing_to_evict e o n)) p none_left = absurd
      (omega (arith, ap length e, some))
  only_deleted ok outcome new q (not_grown g mid c (finds_bucket n pos one half left gone fills o is)) p none_left =
      absurd (omega (
        arith,
        pos,
        half,
        ap (λ st. length st.pairs) is.state,
        ap (λ st. length st.pairs) p.state,
        left_length rules hash_of pair old n mid left c gone,
      ))
  only_deleted ok outcome new q (not_grown g mid c (rehashes any n pos one half left gone m)) p none_left =
      absurd (omega (
        arith,
        pos,
        half,
        some,
        ap (λ st. length st.pairs)
            (placed_if rules hash_of pair old left new _ _ _ outcome q m).0.state,
        ap (λ st. length st.pairs) p.state,
        left_length rules hash_of pair old n mid left c gone,
      ))
