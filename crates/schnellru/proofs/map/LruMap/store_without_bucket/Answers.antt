use Rattle.std.proofs.Common.{◌≡◌, ◌⊎◌, inl, inr, ◌<◌, ◌/◌, length, ap, ◌∙◌, subst, arith}
use Rattle.group_table.specs.Sizes.{full_capacity, IsBucketCount}
use Rattle.lru_model.specs.State.{buckets}
use Rattle.lru_model.specs.Place.{HasNoBucket}
use Rattle.lru_model.specs.Callbacks.{noting, noted}
use Rattle.lru_model.proofs.TableSizes.Growth.{full_capacity-at_most, full_capacity-some}
use Rattle.lru_model.proofs.TableSizes.SizedStates.{own_count}
use Rattle.lru_model.proofs.States.Placements.{rehash_place}
use Rattle.schnellru.proofs.map.LruMap.store_without_bucket.Goals as goal

pub store_after_move-requires-clause-count : goal.store_after_move-requires-clause-count
store_after_move-requires-clause-count g c =
    let table = c.bucket_count-buckets.ensures in
    let takes = c.full_capacity.ensures ∙ ap full_capacity table.count in
    rw table.count (own_count table.map.sized
    (omega (arith, c.if-len-full_capacity.true, takes, full_capacity-at_most (buckets c.args.self.now))))

pub store_after_move-requires-clause-usable : goal.store_after_move-requires-clause-usable
store_after_move-requires-clause-usable g c =
    rw c.bucket_count-buckets.ensures.count c.bucket_count-buckets.ensures.map.sized.usable

pub store_after_growth-requires-clause-outgrown : goal.store_after_growth-requires-clause-outgrown
store_after_growth-requires-clause-outgrown g c =
    let st = c.args.self.now in let table = c.bucket_count-buckets.ensures in
    let takes = c.full_capacity.ensures ∙ ap full_capacity table.count in let len = c.len.ensures.len in
    let begun : IsBucketCount (buckets st) → (buckets st ≡ 0) ⊎ (0 < length st.pairs) = (λ count. elim count [
      | inl none ↦ inl none
      | inr power ↦ inr
          (omega (arith, full_capacity-some (buckets st) power, takes, len, c.if-len-full_capacity.false))
    ]) in record {
      no_bucket = c.requires.no_bucket;
      above_half = omega (arith, takes, len, c.if-len-full_capacity.false);
      begun = begun table.map.sized.table.count;
    }

pub returns-then-len-full_capacity-clause-passed : goal.returns-then-len-full_capacity-clause-passed
returns-then-len-full_capacity-clause-passed g c =
    let e = c.store_after_move.ensures in let old = c.args.self.now in let table = c.bucket_count-buckets.ensures in
    let takes = c.full_capacity.ensures ∙ ap full_capacity table.count in
    let fewer : length old.pairs < full_capacity (buckets old) / 2 = omega
    (arith, takes, c.if-len-full_capacity.true, c.len.ensures.len) in
    let none = subst (λ h. HasNoBucket h old) c.requires.hash c.requires.no_bucket in
    λ first before taken.
    let (after, had, step) = e.passed first before taken in (
      after,
      had,
      rehash_place (noting g.L.Limiter.rules) _ c.args.pair (noted before old)
          (noted after c.store_after_move.new.self) table.map.sized c.store_after_move.result
          none fewer (rw table.count at step) (λ none. e.succeeds none table.count),
    )
