use Rattle.std.proofs.Common.{ap, arith, sym, subst, ◌∙◌}
use Rattle.lru_model.specs.Lists.{last_of}
use Rattle.lru_model.proofs.CallbackLemmas.{takes_always}
use Rattle.lru_model.proofs.Theorems.PlainInserts.{plain_retains}
use Rattle.schnellru.proofs.Maps.Retains.{IsRetainedTo, many_retained, retains_none, retains_more, removes_more}
use Rattle.schnellru.proofs.Maps.Retains.{removed_callable, others_callable, retains_all}
use Rattle.schnellru.proofs.Positions.{last_some, last_none, last_place}
use Rattle.schnellru.proofs.map.LruMap.retain_with.Goals as goal

pub pairs-init : goal.pairs-init
pairs-init g c = let st = c.args.self.now in record {
  keep = c.requires.keep;
  next = c.ends-next.ensures.oldest ∙ ap (λ n. last_of n st.table.places) (sym c.len-left.ensures.len);
  places = c.ends-next.ensures.places;
  callable = c.requires.callable;
  asked = subst (λ left. IsRetainedTo g.L.Limiter.rules g.F.FnMut g.G.FnMut st c.args.keep c.args.sink.now left st
      c.args.keep c.args.sink.now) (sym c.len-left.ensures.len)
      (retains_none g.L.Limiter.rules g.F.FnMut g.G.FnMut st c.args.keep c.args.sink.now);
}

pub overflow_sub-left : goal.overflow_sub-left
overflow_sub-left g c =
    last_some c.pairs.self.table.places c.pairs.left c.in-Some.b (sym c.pairs.invariant.next ∙ c.in-Some.is)

pub newer-next-requires : goal.newer-next-requires
newer-next-requires g c =
    let is = sym c.pairs.invariant.next ∙ c.in-Some.is in let places = c.pairs.self.table.places in
    last_place places c.pairs.left c.in-Some.b (last_some places c.pairs.left c.in-Some.b is) is

pub sink-requires : goal.sink-requires
sink-requires g c =
    let i = c.pairs.invariant in let (pair, there, asks) = c.if-not-passes.ensures.asked in
    let some = last_some c.pairs.self.table.places c.pairs.left c.in-Some.b (sym i.next ∙ c.in-Some.is) in
    removed_callable g.L.Limiter.rules g.F.FnMut g.G.FnMut c.args.self.now c.args.keep c.args.sink.now c.pairs.left some
    c.pairs.self c.pairs.keep c.pairs.sink i.asked pair there c.take_from-key.new.self c.take_from-key.result
    c.take_from-key.ensures.step i.callable

pub pairs-preserved-then-not-passes : goal.pairs-preserved-then-not-passes
pairs-preserved-then-not-passes g c =
    let i = c.pairs.invariant in let (pair, there, asks) = c.if-not-passes.ensures.asked in
    let some = last_some c.pairs.self.table.places c.pairs.left c.in-Some.b (sym i.next ∙ c.in-Some.is) in record {
      keep = c.passes.ensures.callable;
      next = c.newer-next.ensures ∙ sym c.take_from-key.ensures.next;
      places = c.take_from-key.ensures.places;
      callable = others_callable g.L.Limiter.rules g.F.FnMut g.G.FnMut c.args.self.now c.args.keep c.args.sink.now
          c.pairs.left some c.pairs.self c.pairs.keep c.pairs.sink i.asked pair there c.take_from-key.new.self
          c.take_from-key.result c.take_from-key.ensures.step c.sink.new.self c.sink.ensures i.callable;
      asked = removes_more g.L.Limiter.rules g.F.FnMut g.G.FnMut c.args.self.now c.args.keep c.args.sink.now
          c.pairs.left some c.pairs.self c.pairs.keep c.pairs.sink i.asked pair there c.take_from-key.new.self
          c.take_from-key.result c.take_from-key.ensures.step c.passes.new.keep asks c.sink.new.self c.sink.ensures;
    }

pub pairs-preserved : goal.pairs-preserved
pairs-preserved g c =
    let i = c.pairs.invariant in let (pair, there, asks) = c.if-not-passes.ensures.asked in
    let some = last_some c.pairs.self.table.places c.pairs.left c.in-Some.b (sym i.next ∙ c.in-Some.is) in record {
      keep = c.passes.ensures.callable;
      next = c.newer-next.ensures;
      places = i.places;
      callable = i.callable;
      asked = retains_more g.L.Limiter.rules g.F.FnMut g.G.FnMut c.args.self.now c.args.keep c.args.sink.now
          c.pairs.left some c.pairs.self c.pairs.keep c.pairs.sink i.asked pair there c.passes.new.keep asks;
    }

pub returns-clause-passed : goal.returns-clause-passed
returns-clause-passed g c =
    let i = c.pairs.invariant in
    let few = many_retained g.L.Limiter.rules g.F.FnMut g.G.FnMut c.args.self.now c.args.keep c.args.sink.now
    c.pairs.left c.pairs.self c.pairs.keep c.pairs.sink i.asked in
    let none = last_none c.pairs.self.table.places c.pairs.left (omega (arith, few, i.places))
    (sym i.next ∙ c.in_default.is) in
    let asked = subst (λ left. IsRetainedTo g.L.Limiter.rules g.F.FnMut g.G.FnMut c.args.self.now c.args.keep
    c.args.sink.now left c.pairs.self c.pairs.keep c.pairs.sink) none i.asked in (
      asked.passed,
      asked.takes,
      retains_all g.L.Limiter.rules g.F.FnMut g.G.FnMut c.args.self.now c.args.keep c.args.sink.now c.pairs.self
          c.pairs.keep c.pairs.sink asked,
    )

pub returns-clause-step : goal.returns-clause-step
returns-clause-step g c = let (passed, taken, step) = returns-clause-passed g c in
    plain_retains g.L.Limiter.rules g.F.FnMut c.args.keep passed c.args.self.now c.pairs.self step

pub returns-clause-callable : goal.returns-clause-callable
returns-clause-callable g c = let (passed, taken, step) = returns-clause-passed g c in
    takes_always g.G.FnMut passed c.args.sink.now c.pairs.sink taken
