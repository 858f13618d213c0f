use Rattle.std.proofs.Common.{◌<◌, refl, ap, ◌∙◌, arith}
use Rattle.std.proofs.lemmas.Bool.{false≢true}
use Rattle.group_table.specs.Sizes.{full_capacity}
use Rattle.lru_model.proofs.TableSizes.Growth.{full_capacity-at_most}
use Rattle.lru_model.specs.State.{buckets}
use Rattle.lru_model.specs.Reservations.{NeedsGrowthFor, unchanged, rehashed, too_many, enough_room}
use Rattle.lru_model.specs.Reservations.{no_memory_to_rehash}
use Rattle.lru_model.proofs.TableSizes.NextTable.{stays}
use Rattle.lru_model.proofs.TableSizes.SizedStates.{own_count}
use Rattle.lru_model.proofs.States.Reservations.{some_there}
use Rattle.lru_model.proofs.Theorems.Reservations.{makes_room_if_ok}
use Rattle.schnellru.proofs.map.LruMap.try_reserve.Goals as goal

pub returns-in-None-clause-step : goal.returns-in-None-clause-step
returns-in-None-clause-step g c =
    unchanged (too_many (omega (arith, c.in-None.ensures, c.len.ensures.len)) refl) refl

pub returns-then-n-growth_left-clause-step : goal.returns-then-n-growth_left-clause-step
returns-then-n-growth_left-clause-step g c = unchanged
    (enough_room (omega (arith, c.if-n-growth_left.true, c.growth_left.ensures.growth_left))
    (omega (arith, c.in-Some.ensures.0, c.len.ensures.len)) refl) refl

pub returns-then-full_capacity-pairs-clause-growth_left : goal.returns-then-full_capacity-pairs-clause-growth_left
returns-then-full_capacity-pairs-clause-growth_left g c =
    makes_room_if_ok g.L.Limiter.rules c.args.n c.args.self.now c.len.ensures.map.sized c.reserve_larger.result
    c.reserve_larger.new.self c.reserve_larger.ensures.step

pub move_to-requires-clause-count : goal.move_to-requires-clause-count
move_to-requires-clause-count g c =
    let table = c.bucket_count-buckets.ensures in
    let takes = c.full_capacity.ensures ∙ ap full_capacity table.count in
    let some : 0 < buckets c.args.self.now = omega (
      arith,
      c.if-n-growth_left.false,
      c.in-Some.ensures.1,
      c.if-full_capacity-pairs.false,
      takes,
      full_capacity-at_most (buckets c.args.self.now),
    ) in
    rw table.count (own_count table.map.sized some)

pub move_to-requires-clause-usable : goal.move_to-requires-clause-usable
move_to-requires-clause-usable g c =
    rw c.bucket_count-buckets.ensures.count c.bucket_count-buckets.ensures.map.sized.usable

pub returns-in-Ok-clause-step : goal.returns-in-Ok-clause-step
returns-in-Ok-clause-step g c =
    let st = c.args.self.now in let table = c.bucket_count-buckets.ensures in
    let takes = c.full_capacity.ensures ∙ ap full_capacity table.count in let len = c.len.ensures.len in
    let needs_growth : NeedsGrowthFor c.args.n st =
    (omega (arith, c.growth_left.ensures.growth_left, c.if-n-growth_left.false), omega (arith, c.in-Some.ensures.0, len)) in
    let same = stays c.args.n st table.map.sized (omega (arith, c.if-n-growth_left.false))
    (omega (arith, c.if-full_capacity-pairs.false, takes, c.in-Some.ensures.1, len)) in
    rehashed needs_growth same refl (rw table.count at c.in-Ok.ensures.moved)

pub returns-in-Err-clause-step : goal.returns-in-Err-clause-step
returns-in-Err-clause-step g c =
    let st = c.args.self.now in let table = c.bucket_count-buckets.ensures in
    let takes = c.full_capacity.ensures ∙ ap full_capacity table.count in let len = c.len.ensures.len in
    let needs_growth : NeedsGrowthFor c.args.n st =
    (omega (arith, c.growth_left.ensures.growth_left, c.if-n-growth_left.false), omega (arith, c.in-Some.ensures.0, len)) in
    let same = stays c.args.n st table.map.sized (omega (arith, c.if-n-growth_left.false))
    (omega (arith, c.if-full_capacity-pairs.false, takes, c.in-Some.ensures.1, len)) in
    let some = some_there st.pairs (λ none. false≢true (c.in-Err.ensures.succeeds none table.count)) in
    unchanged (no_memory_to_rehash needs_growth same some refl) c.in-Err.ensures.unchanged
