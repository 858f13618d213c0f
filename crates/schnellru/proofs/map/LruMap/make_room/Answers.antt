use Rattle.std.proofs.Common.{◌≡◌, ◌+◌, true, [], ◌∷◌, ◌++◌, length, ap, sym, ◌∙◌, subst}
use Rattle.lru_model.specs.State.{contents, Leaves}
use Rattle.lru_model.specs.Callbacks.{noting, noted}
use Rattle.ordered_table.proofs.Tables.BucketPairs.{pairs-length}
use Rattle.lru_model.proofs.States.CallablePairs.{oldest_callable_with, rest_callable_with}
use Rattle.schnellru.proofs.Maps.NotedStates.{takes_more, noted_pop, make_room-over, make_room-within, make_room-empty}
use Rattle.lru_model.proofs.States.LeavingPairs.{leaves_self}
use Rattle.lru_model.specs.Inserts.{make_room}
use Rattle.schnellru.proofs.map.LruMap.make_room.Goals.{else-not-is_empty-via-then-not-is_empty+else-is_over_the_limit}
use Rattle.schnellru.proofs.map.LruMap.make_room.Goals.{else-not-is_empty-via-else-not-is_empty}
use Rattle.schnellru.proofs.map.LruMap.make_room.Goals as goal

pub returns-then-is_over_the_limit-clause-passed : goal.returns-then-is_over_the_limit-clause-passed
returns-then-is_over_the_limit-clause-passed g c =
    let m = c.self.inside in let rules = g.L.Limiter.rules in let st = c.args.self.now in
    let u = c.take_oldest-key.new.self in let pair = c.take_oldest-key.result in
    let over : rules.is_over_the_limit st.limiter (length st.pairs + 1) ≡ true = rw (← c.self.view_is)
    (ap (λ n. rules.is_over_the_limit m.limiter (n + 1))
    (pairs-length m.entries c.self.invariant.linked ∙ sym c.len.ensures.len)
    ∙ sym c.is_over_the_limit.ensures ∙ c.if-is_over_the_limit.true) in
    λ first before taken. (
      before ++ pair ∷ [],
      takes_more g.F.FnMut first before c.args.sink.now pair c.sink.new.self taken c.sink.ensures,
      subst (λ left. Leaves (noted before st) left (noted (before ++ pair ∷ []) u))
          (sym (make_room-over (noting rules) (contents (noted before st)) over))
          (noted_pop rules before st u pair c.take_oldest-key.ensures.step),
    )

pub returns-else-not-is_empty-clause-passed : goal.returns-else-not-is_empty-clause-passed
returns-else-not-is_empty-clause-passed g c =
    let m = c.self.inside in let rules = g.L.Limiter.rules in let st = c.args.self.now in
    λ first before taken.
    let here = contents (noted before st) in
    let stays : make_room (noting rules) here ≡ here = elim c.else-not-is_empty.branch [
      | else-not-is_empty-via-then-not-is_empty+else-is_over_the_limit w ↦
          make_room-within (noting rules) here (rw (← c.self.view_is)
          (ap (λ n. rules.is_over_the_limit m.limiter (n + 1))
          (pairs-length m.entries c.self.invariant.linked ∙ sym w.len.ensures.len)
          ∙ sym w.is_over_the_limit.ensures ∙ w.if-is_over_the_limit.false))
      | else-not-is_empty-via-else-not-is_empty w ↦
          make_room-empty (noting rules) here (sym c.is_empty.ensures ∙ w.if-not-is_empty.false)
    ] in (
      before,
      taken,
      subst (λ left. Leaves (noted before st) left (noted before st)) (sym stays)
          (leaves_self (noted before st)),
    )

pub sink-requires : goal.sink-requires
sink-requires g c = let (pair, callable) = c.requires.callable in
    oldest_callable_with g.L.Limiter.rules g.F.FnMut c.args.self.now c.take_oldest-key.new.self
    c.take_oldest-key.result c.take_oldest-key.ensures.step pair c.args.sink.now callable

pub returns-then-is_over_the_limit-clause-callable : goal.returns-then-is_over_the_limit-clause-callable
returns-then-is_over_the_limit-clause-callable g c = λ pair. rest_callable_with g.L.Limiter.rules g.F.FnMut
    c.args.self.now c.take_oldest-key.new.self c.take_oldest-key.result c.take_oldest-key.ensures.step pair
    c.args.sink.now c.sink.new.self c.sink.ensures
