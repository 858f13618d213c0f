use Rattle.std.proofs.Common.{◌<◌, length, refl, ap, sym, ◌∙◌, subst, arith}
use Rattle.lru_model.specs.State.{contents, Leaves}
use Rattle.lru_model.specs.Callbacks.{noting, noted}
use Rattle.lru_model.proofs.PairLists.Emptiness.{empty-length, some-length}
use Rattle.lru_model.proofs.States.CallablePairs.{oldest_callable, rest_callable}
use Rattle.lru_model.proofs.States.LeavingPairs.{length-without_last, leaves_self, trim-within, trim-empty}
use Rattle.schnellru.proofs.Maps.Trims.{trims_more}
use Rattle.schnellru.proofs.map.LruMap.evict_while_over.Goals as goal

pub evictions-init : goal.evictions-init
evictions-init g c = record {
  some = c.requires.some;
  over = c.requires.over;
  callable = c.requires.callable;
  passed = λ first before taken. (before, taken, (leaves_self (noted before c.args.self.now), refl));
}

pub sink-requires : goal.sink-requires
sink-requires g c = oldest_callable g.L.Limiter.rules g.F.FnMut c.evictions.self c.take_oldest-key.new.self
    c.take_oldest-key.result c.take_oldest-key.ensures.step c.evictions.sink c.evictions.invariant.callable

pub evictions-smaller : goal.evictions-smaller
evictions-smaller g c =
    let one = ap (λ st. length st.pairs) c.take_oldest-key.ensures.step.state.is
    ∙ length-without_last c.evictions.self.pairs in
    let fewer : length c.take_oldest-key.new.self.pairs < length c.evictions.self.pairs = omega
    (arith, one, c.evictions.invariant.some) in
    fewer

pub evictions-preserved : goal.evictions-preserved
evictions-preserved g c =
    let i = c.evictions.invariant in let rules = g.L.Limiter.rules in
    let st = c.evictions.self in let u = c.take_oldest-key.new.self in let pair = c.take_oldest-key.result in record {
      some = some-length u.pairs (sym c.is_empty.ensures ∙ c.if-is_empty.false);
      over = sym c.is_over_the_limit.ensures ∙ c.if-not-is_over_the_limit.false;
      callable = rest_callable rules g.F.FnMut st u pair c.take_oldest-key.ensures.step c.evictions.sink
          c.sink.new.self c.sink.ensures i.callable;
      passed = trims_more rules g.F.FnMut c.args.self.now c.args.sink.now st u c.evictions.sink c.sink.new.self pair
          i.some i.over c.take_oldest-key.ensures.step c.sink.ensures i.passed;
    }

pub returns-then-not-is_over_the_limit-clause-passed : goal.returns-then-not-is_over_the_limit-clause-passed
returns-then-not-is_over_the_limit-clause-passed g c =
    let i = c.evictions.invariant in let rules = g.L.Limiter.rules in
    let st = c.evictions.self in let u = c.take_oldest-key.new.self in let pair = c.take_oldest-key.result in
    let within = sym c.is_over_the_limit.ensures ∙ c.if-not-is_over_the_limit.true in
    λ first before taken.
    let (after, had, trimmed) = trims_more rules g.F.FnMut c.args.self.now c.args.sink.now st u c.evictions.sink
    c.sink.new.self pair i.some i.over c.take_oldest-key.ensures.step c.sink.ensures i.passed first before taken in (
      after,
      had,
      subst (λ left. Leaves (noted before c.args.self.now) left (noted after u))
          (sym (trimmed.1 ∙ trim-within (noting rules) (contents (noted after u)) within)) trimmed.0,
    )

pub returns-then-is_empty-clause-passed : goal.returns-then-is_empty-clause-passed
returns-then-is_empty-clause-passed g c =
    let i = c.evictions.invariant in let rules = g.L.Limiter.rules in
    let st = c.evictions.self in let u = c.take_oldest-key.new.self in let pair = c.take_oldest-key.result in
    let none = empty-length u.pairs (sym c.is_empty.ensures ∙ c.if-is_empty.true) in
    λ first before taken.
    let (after, had, trimmed) = trims_more rules g.F.FnMut c.args.self.now c.args.sink.now st u c.evictions.sink
    c.sink.new.self pair i.some i.over c.take_oldest-key.ensures.step c.sink.ensures i.passed first before taken in (
      after,
      had,
      subst (λ left. Leaves (noted before c.args.self.now) left (noted after u))
          (sym (trimmed.1 ∙ trim-empty (noting rules) (contents (noted after u)) none)) trimmed.0,
    )
