use Rattle.std.proofs.Common.{arith, sym, ◌∙◌, refl}
use Rattle.lru_model.specs.Lists.{set_value_at}
use Rattle.ordered_table.proofs.Tables.Places.{get_none}
use Rattle.schnellru.proofs.Maps.WrittenPairs.{written_none, written_more, written_all, length-set}
use Rattle.std.proofs.lemmas.Option.{slice_get_past, slice_get_within}
use Rattle.schnellru.proofs.Maps.WrittenPairs.{with_others}
use Rattle.schnellru.proofs.map.LruMap.for_each_mut.Goals as goal

pub pairs-init : goal.pairs-init
pairs-init g c = let ends = rw c.settle.ensures at c.ends-next.ensures in rw c.settle.ensures record {
  callable = c.requires.callable;
  next = ends.newest;
  written = written_none g.F.FnMut c.args.self.now.pairs c.args.f;
  state = refl;
  places = ends.places;
  many = refl;
}

pub pairs-preserved : goal.pairs-preserved
pairs-preserved g c =
    let i = c.pairs.invariant in let (pair, value, there, writes, same) = c.write_at.ensures.writes in
    rw same (record {
      callable = c.write_at.ensures.callable;
      next = c.older-next.ensures.next;
      written = written_more g.F.FnMut c.args.self.now.pairs c.args.f c.pairs.at c.pairs.self.pairs c.pairs.f
          i.written
          pair value c.write_at.new.f there writes;
      state = with_others c.pairs.self c.args.self.now (set_value_at c.pairs.self.pairs c.pairs.at value) i.state;
      places = i.places ∙ sym (length-set c.pairs.self.pairs c.pairs.at value);
      many = length-set c.pairs.self.pairs c.pairs.at value ∙ i.many;
    })

pub pairs-smaller : goal.pairs-smaller
pairs-smaller g c =
    let i = c.pairs.invariant in
    omega (
      arith,
      slice_get_within c.pairs.self.table.places c.pairs.at c.in-Some.b (sym i.next ∙ c.in-Some.is),
      i.places,
      i.many,
    )

pub overflow_add-at : goal.overflow_add-at
overflow_add-at g c =
    let i = c.pairs.invariant in
    omega (
      arith,
      slice_get_within c.pairs.self.table.places c.pairs.at c.in-Some.b (sym i.next ∙ c.in-Some.is),
      i.places,
      i.many,
      rw c.settle.ensures at c.len.ensures.len,
    )

pub returns-clause-step : goal.returns-clause-step
returns-clause-step g c = let i = c.pairs.invariant in record {
  last = c.pairs.f;
  each = written_all g.F.FnMut c.args.self.now.pairs c.args.f c.pairs.at c.pairs.self.pairs c.pairs.f i.written
      (slice_get_past c.pairs.self.pairs c.pairs.at
      (omega (arith, get_none c.pairs.self.table.places c.pairs.at (sym i.next ∙ c.in_default.is), i.places)));
  state = i.state;
}
