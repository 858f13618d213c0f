use Rattle.std.proofs.Common.{◌≡◌, ◌-◌, ◌∷◌, length, ap, sym, ◌∙◌, subst, arith, rules}
use Rattle.group_table.specs.Sizes.{full_capacity}
use Rattle.lru_model.specs.State.{growth_left}
use Rattle.lru_model.specs.Place.{IsPlaced, unstored}
use Rattle.lru_model.specs.Callbacks.{noting, noted}
use Rattle.lru_model.specs.MayTake.{MayTakeEach}
use Rattle.schnellru.proofs.Maps.NotedStates.{noted_placed}
use Rattle.lru_model.proofs.TableSizes.Growth.{full_capacity-some}
use Rattle.schnellru.proofs.map.LruMap.store_after_move.Goals as goal

pub store_in_room-requires-clause-growth_left : goal.store_in_room-requires-clause-growth_left
store_in_room-requires-clause-growth_left g c =
    omega (
      arith,
      c.in-Ok.ensures.moved.exact,
      ap growth_left c.count_moves.ensures,
      c.requires.half,
      full_capacity-some c.args.count c.requires.count,
    )

pub returns-in-Ok-clause-passed : goal.returns-in-Ok-clause-passed
returns-in-Ok-clause-passed g c =
    let old = c.args.self.now in let new = c.store_in_room.new.self in
    let placed : IsPlaced c.args.pair c.args.count (length old.pairs) old new = search rules in
    let left : growth_left new ≡ full_capacity c.args.count - length old.pairs - 1 = search rules in
    λ first before taken. (before, taken, (noted_placed before c.args.pair c.args.count _ old new placed, left))

pub returns-in-Err-clause-passed : goal.returns-in-Err-clause-passed
returns-in-Err-clause-passed g c =
    λ first before taken.
    let (after, had, away) = c.pass_unstored.ensures.passed first before taken in (
      after,
      had,
      away ∙ ap (λ st. unstored (noting g.L.Limiter.rules) c.args.pair (noted before st))
          c.in-Err.ensures.unchanged,
    )

pub returns-in-Ok-clause-callable : goal.returns-in-Ok-clause-callable
returns-in-Ok-clause-callable g c = λ yes.
    let moved = ap (λ st. st.pairs) c.count_moves.ensures ∙ ap (λ st. st.pairs) c.in-Ok.ensures.moved.state in
    let is = ap (λ st. st.pairs) c.store_in_room.ensures.placed.state ∙ ap (λ pairs. c.args.pair ∷ pairs) moved in
    subst (λ pairs. MayTakeEach g.L.Limiter.rules g.F.FnMut pairs c.args.sink.now) (sym is) c.requires.callable
