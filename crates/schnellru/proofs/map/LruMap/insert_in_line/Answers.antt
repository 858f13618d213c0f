use Rattle.std.proofs.Common.{Some, None, refl, ap, sym, ◌∙◌, subst}
use Rattle.ordered_table.specs.OrderedTable.{pairs_of}
use Rattle.schnellru.specs.Inside.Holds.{state_of}
use Rattle.lru_model.specs.Inserts.{no_memory_to_admit, not_admitted, admitted}
use Rattle.lru_model.specs.Callbacks.{noted}
use Rattle.schnellru.specs.Inside.Fields.{fields_of}
use Rattle.ordered_table.proofs.Tables.BucketPairs.{pairs-length}
use Rattle.ordered_table.proofs.Tables.Searches.{lookup_alike}
use Rattle.schnellru.proofs.map.LruMap.insert_in_line.Goals as goal

pub insert_pair-requires-clause-hash : goal.insert_pair-requires-clause-hash
insert_pair-requires-clause-hash g c =
    let m = c.self.inside in let pair = c.in-Ok-Some.pair in
    let given : g.L.Insertion.offers.on_insert m.limiter c.len.result c.args.key c.args.value c.on_insert.new.self
    (Some pair) = rw c.in-Ok-Some.field-0-is at c.in-Ok-Some.ensures.offered in
    let named = g.met.L.Insertion.laws.names_given m.limiter c.len.result c.args.key c.args.value c.on_insert.new.self
    pair.0 pair.1 given in
    (rw (← c.self.view_is) at c.requires.hash) pair.0 named

pub insert_pair-requires-clause-absent : goal.insert_pair-requires-clause-absent
insert_pair-requires-clause-absent g c =
    let m = c.self.inside in let pair = c.in-Ok-Some.pair in
    let given : g.L.Insertion.offers.on_insert m.limiter c.len.result c.args.key c.args.value c.on_insert.new.self
    (Some pair) = rw c.in-Ok-Some.field-0-is at c.in-Ok-Some.ensures.offered in
    let named = g.met.L.Insertion.laws.names_given m.limiter c.len.result c.args.key c.args.value c.on_insert.new.self
    pair.0 pair.1 given in
    sym (lookup_alike (g.I.LookupKey.names c.args.key) (g.K.PartialEq.eq pair.0)
    (λ k. g.met.I.LookupKey.laws.one c.args.key pair.0 k named) (pairs_of m.entries))
    ∙ (rw (← c.self.view_is) at c.requires.absent)

pub returns-in-Ok-Some : goal.returns-in-Ok-Some
returns-in-Ok-Some g c = record {
  passed =
      let m = c.self.inside in let len = c.len.ensures.len ∙ sym (pairs-length m.entries c.self.invariant.linked) in
      let absent = rw (← c.self.view_is) at c.requires.absent in
      let given = subst (λ n. g.L.Insertion.offers.on_insert m.limiter n c.args.key c.args.value c.on_insert.new.self
      (Some c.in-Ok-Some.pair)) len (rw c.in-Ok-Some.field-0-is at c.in-Ok-Some.ensures.offered) in
      λ first before taken.
      let (after, had, step) = c.insert_pair.ensures.passed first before taken in (
        after,
        had,
        rw (← c.self.view_is) (admitted absent (c.on_insert.new.self, before) c.in-Ok-Some.pair (given, refl) step),
      );
}

pub returns-in-Ok-None : goal.returns-in-Ok-None
returns-in-Ok-None g c = record {
  passed =
      let m = c.self.inside in let len = c.len.ensures.len ∙ sym (pairs-length m.entries c.self.invariant.linked) in
      let absent = rw (← c.self.view_is) at c.requires.absent in
      let given = subst (λ n. g.L.Insertion.offers.on_insert m.limiter n c.args.key c.args.value c.on_insert.new.self
      None) len (rw c.in-Ok-None.field-0-is at c.in-Ok-None.ensures.offered) in
      λ first before taken. (
        before,
        taken,
        rw (← c.self.view_is) (not_admitted absent (c.on_insert.new.self, before) (given, refl) refl refl),
      );
}

pub returns-in-Err : goal.returns-in-Err
returns-in-Err g c = record {
  passed =
      let m = c.self.inside in
      let rest = fields_of m (g.L.LinkType.LinkType.number g.L.LinkType.LinkType.MAX) in
      let len = c.len.ensures.len ∙ sym (pairs-length m.entries c.self.invariant.linked) in
      let absent = rw (← c.self.view_is) at c.requires.absent in
      let out_of_memory = subst (λ n. g.L.Insertion.offers.may_run_out m.limiter n c.args.key c.args.value) len
      c.in-Err.ensures.out_of_memory in
      λ first before taken. (
        before,
        taken,
        rw (← c.self.view_is) (no_memory_to_admit absent out_of_memory refl
            (ap (λ l. noted before (state_of m.entries (record rest { limiter = l }))) c.in-Err.ensures.unchanged)),
      );
}

pub insert_pair-requires-clause-callable : goal.insert_pair-requires-clause-callable
insert_pair-requires-clause-callable g c =
    let m = c.self.inside in let len = c.len.ensures.len ∙ sym (pairs-length m.entries c.self.invariant.linked) in
    let given = subst (λ n. g.L.Insertion.offers.on_insert m.limiter n c.args.key c.args.value c.on_insert.new.self
    (Some c.in-Ok-Some.pair)) len (rw c.in-Ok-Some.field-0-is at c.in-Ok-Some.ensures.offered) in
    (rw (← c.self.view_is) at c.requires.callable) (rw (← c.self.view_is) at c.requires.absent) c.on_insert.new.self
    c.in-Ok-Some.pair given
