use Rattle.std.proofs.Common.{◌≡◌, ◌/◌, ◌<◌, ◌≤◌, suc, None, [], ◌∷◌, ◌++◌, length, refl, ap, sym, ◌∙◌, subst}
use Rattle.std.proofs.Common.{arith}
use Rattle.group_table.specs.Sizes.{full_capacity}
use Rattle.lru_model.specs.Lists.{lookup_entry}
use Rattle.lru_model.specs.State.{buckets}
use Rattle.lru_model.specs.Place.{HasPairsButNoGrowth}
use Rattle.lru_model.specs.MayTake.{MayTakeEach}
use Rattle.lru_model.specs.Callbacks.{noting, noted}
use Rattle.lru_model.proofs.TableSizes.Growth.{full_capacity-some}
use Rattle.lru_model.proofs.States.CallablePairs.{oldest_callable_with, rest_callable_with}
use Rattle.lru_model.proofs.States.LeavingPairs.{leaves_self, leaves_more}
use Rattle.schnellru.proofs.Maps.NotedStates.{takes_more, noted_placed, noted_pop}
use Rattle.lru_model.proofs.States.Placements.{one_more, one_fewer, left_absent, finds, rehashes_then}
use Rattle.lru_model.proofs.States.Placements.{power_with_pairs}
use Rattle.schnellru.proofs.map.LruMap.store_after_eviction.Goals as goal

pub store_after_move-requires-clause-absent : goal.store_after_move-requires-clause-absent
store_after_move-requires-clause-absent g c =
    let i = c.evictions.invariant in
    subst (λ p. lookup_entry (g.K.PartialEq.eq p.0) c.take_oldest-key.new.self.pairs ≡ None) (sym i.same_pair)
    (left_absent g.L.Limiter.rules c.args.hash c.args.pair c.args.self.now c.evictions.self c.take_oldest-key.new.self
    c.bucket_count-buckets.ensures.map.sized (c.requires.some, c.requires.outgrown.no_bucket.no_growth_left)
    i.n i.gone i.stuck c.take_oldest-key.ensures.step.state
    (g.K.PartialEq.eq c.args.pair.0) c.requires.absent)

pub store_after_move-requires-clause-count : goal.store_after_move-requires-clause-count
store_after_move-requires-clause-count g c = rw c.bucket_count-buckets.ensures.count
    (power_with_pairs c.args.self.now c.bucket_count-buckets.ensures.map.sized c.requires.some)

pub store_after_move-requires-clause-usable : goal.store_after_move-requires-clause-usable
store_after_move-requires-clause-usable g c =
    let buckets = c.bucket_count-buckets.ensures in
    let bytes : c.take_oldest-key.new.self.entry_bytes ≡ c.args.self.now.entry_bytes =
    ap (λ st. st.entry_bytes) c.take_oldest-key.ensures.step.state.is
    ∙ ap (λ st. st.entry_bytes) c.evictions.invariant.leaves.is in
    rw (bytes, buckets.count) buckets.map.sized.usable

pub store_in_bucket-requires-clause-absent : goal.store_in_bucket-requires-clause-absent
store_in_bucket-requires-clause-absent g c =
    let i = c.evictions.invariant in
    subst (λ p. lookup_entry (g.K.PartialEq.eq p.0) c.take_oldest-key.new.self.pairs ≡ None) (sym i.same_pair)
    (left_absent g.L.Limiter.rules c.args.hash c.args.pair c.args.self.now c.evictions.self c.take_oldest-key.new.self
    c.bucket_count-buckets.ensures.map.sized (c.requires.some, c.requires.outgrown.no_bucket.no_growth_left)
    i.n i.gone i.stuck c.take_oldest-key.ensures.step.state
    (g.K.PartialEq.eq c.args.pair.0) c.requires.absent)

pub returns-then-len-half-clause-passed : goal.returns-then-len-half-clause-passed
returns-then-len-half-clause-passed g c =
    let i = c.evictions.invariant in
    let rules = g.L.Limiter.rules in let old = c.args.self.now in let st = c.evictions.self in
    let u = c.take_oldest-key.new.self in let pair = c.take_oldest-key.result in
    let same = c.bucket_count-buckets.ensures.count in
    let takes = c.full_capacity-half.ensures ∙ ap full_capacity same in
    let few : length u.pairs < full_capacity (buckets old) / 2 = omega
    (arith, takes, c.len.ensures.len, c.if-len-half.true) in
    let sized = c.bucket_count-buckets.ensures.map.sized in
    λ first before taken.
    let (mid, had, gone) = i.passed first before taken in
    let more = mid ++ pair ∷ [] in
    let (after, has, step) = c.store_after_move.ensures.passed first more
    (takes_more g.F.FnMut first mid c.evictions.sink pair c.sink.new.self had c.sink.ensures) in (
      after,
      has,
      rehashes_then (noting rules) c.args.hash c.args.pair (noted before old) (noted mid st) (noted more u)
          sized (c.requires.some, c.requires.outgrown.no_bucket.no_growth_left) i.n gone i.stuck
          (noted_pop rules mid st u pair c.take_oldest-key.ensures.step) (noted after c.store_after_move.new.self) _ few
          (rw (i.same_pair, same) at step),
    )

pub returns-in-Ok-clause-passed : goal.returns-in-Ok-clause-passed
returns-in-Ok-clause-passed g c =
    let i = c.evictions.invariant in
    let rules = g.L.Limiter.rules in let old = c.args.self.now in let st = c.evictions.self in
    let u = c.take_oldest-key.new.self in let pair = c.take_oldest-key.result in
    let new = c.store_in_bucket.new.self in
    let takes = c.full_capacity-half.ensures ∙ ap full_capacity c.bucket_count-buckets.ensures.count in
    let enough : full_capacity (buckets old) / 2 ≤ length u.pairs = omega
    (arith, takes, c.len.ensures.len, c.if-len-half.false) in
    let sized = c.bucket_count-buckets.ensures.map.sized in
    let placed = rw i.same_pair at c.in-Ok.ensures.placed in
    λ first before taken.
    let (mid, had, gone) = i.passed first before taken in
    let more = mid ++ pair ∷ [] in (
      more,
      takes_more g.F.FnMut first mid c.evictions.sink pair c.sink.new.self had c.sink.ensures,
      finds (noting rules) c.args.hash c.args.pair (noted before old) (noted mid st) (noted more u)
          sized (c.requires.some, c.requires.outgrown.no_bucket.no_growth_left) i.n gone i.stuck
          (noted_pop rules mid st u pair c.take_oldest-key.ensures.step) (noted more new) enough
          (noted_placed more c.args.pair (buckets u) 0 u new placed)
          c.in-Ok.ensures.fills,
    )

pub evictions-init : goal.evictions-init
evictions-init g c =
    let old = c.args.self.now in
    let sized = c.bucket_count-buckets.ensures.map.sized in
    record {
      callable = c.requires.callable;
      n = 0;
      gone = refl;
      passed = λ first before taken. (before, taken, refl);
      leaves = leaves_self old;
      stuck = record {
        some = c.requires.some;
        half = omega (arith, c.requires.outgrown.above_half);
        no_bucket = c.requires.outgrown.no_bucket;
      };
      same_pair = refl;
    }

pub sink-requires : goal.sink-requires
sink-requires g c = oldest_callable_with g.L.Limiter.rules g.F.FnMut c.evictions.self c.take_oldest-key.new.self
    c.take_oldest-key.result c.take_oldest-key.ensures.step c.evictions.pair c.evictions.sink
    c.evictions.invariant.callable

pub store_after_move-requires-clause-callable : goal.store_after_move-requires-clause-callable
store_after_move-requires-clause-callable g c = rest_callable_with g.L.Limiter.rules g.F.FnMut c.evictions.self
    c.take_oldest-key.new.self c.take_oldest-key.result c.take_oldest-key.ensures.step c.evictions.pair c.evictions.sink
    c.sink.new.self c.sink.ensures c.evictions.invariant.callable

pub returns-in-Ok-clause-callable : goal.returns-in-Ok-clause-callable
returns-in-Ok-clause-callable g c = λ yes.
    subst (λ pairs. MayTakeEach g.L.Limiter.rules g.F.FnMut pairs c.sink.new.self)
    (sym (ap (λ st. st.pairs) c.in-Ok.ensures.placed.state))
    (rest_callable_with g.L.Limiter.rules g.F.FnMut c.evictions.self c.take_oldest-key.new.self c.take_oldest-key.result
    c.take_oldest-key.ensures.step c.evictions.pair c.evictions.sink c.sink.new.self c.sink.ensures
    c.evictions.invariant.callable)

pub evictions-smaller : goal.evictions-smaller
evictions-smaller g c =
    let i = c.evictions.invariant in
    let one = one_fewer g.L.Limiter.rules c.args.hash c.args.pair c.args.self.now c.evictions.self
    c.take_oldest-key.new.self c.bucket_count-buckets.ensures.map.sized
    (c.requires.some, c.requires.outgrown.no_bucket.no_growth_left) i.n i.gone i.stuck c.take_oldest-key.ensures.step.state in
    let fewer : length c.store_in_bucket.new.self.pairs < length c.evictions.self.pairs = omega
    (arith, one, ap (λ st. length st.pairs) c.in-Err.ensures.unchanged) in fewer

pub evictions-preserved : goal.evictions-preserved
evictions-preserved g c =
    let i = c.evictions.invariant in
    let rules = g.L.Limiter.rules in let old = c.args.self.now in let st = c.evictions.self in
    let u = c.take_oldest-key.new.self in let pair = c.take_oldest-key.result in
    let sized = c.bucket_count-buckets.ensures.map.sized in
    let is_full : HasPairsButNoGrowth old = (c.requires.some, c.requires.outgrown.no_bucket.no_growth_left) in
    let takes = c.full_capacity-half.ensures ∙ ap full_capacity c.bucket_count-buckets.ensures.count in
    let enough : full_capacity (buckets old) / 2 ≤ length u.pairs = omega
    (arith, takes, c.len.ensures.len, c.if-len-half.false) in
    rw c.in-Err.ensures.unchanged (record {
      callable = subst (λ p. MayTakeEach rules g.F.FnMut (p ∷ u.pairs) c.sink.new.self) (sym c.in-Err.ensures.returned)
          (rest_callable_with rules g.F.FnMut st u pair c.take_oldest-key.ensures.step c.evictions.pair c.evictions.sink
          c.sink.new.self c.sink.ensures i.callable);
      n = suc i.n;
      gone = one_more rules c.args.hash c.args.pair old st u sized is_full i.n i.gone i.stuck
          c.take_oldest-key.ensures.step.state;
      passed = λ first before taken.
          let (mid, had, gone) = i.passed first before taken in (
            mid ++ pair ∷ [],
            takes_more g.F.FnMut first mid c.evictions.sink pair c.sink.new.self had c.sink.ensures,
            one_more (noting rules) c.args.hash c.args.pair (noted before old) (noted mid st)
                (noted (mid ++ pair ∷ []) u) sized is_full i.n gone i.stuck
                (noted_pop rules mid st u pair c.take_oldest-key.ensures.step),
          );
      leaves = leaves_more rules i.n old st u i.leaves c.take_oldest-key.ensures.step.state;
      stuck = record {
        some = omega (arith, enough, full_capacity-some (buckets old) (power_with_pairs old sized c.requires.some));
        half = enough;
        no_bucket = c.in-Err.ensures.no_bucket;
      };
      same_pair = c.in-Err.ensures.returned ∙ i.same_pair;
    })
