use Rattle.std.proofs.Common.{◌≡◌, ◌+◌, ◌-◌, ◌^◌, ◌<◌, ◌≤◌, min, length, refl, sym, ap, ◌∙◌, subst, arith}
use Rattle.std.proofs.lemmas.Bool.{false≢true}
use Rattle.std.specs.Prelude.{IfSome}
use Rattle.group_table.specs.Sizes.{buckets_for}
use Rattle.group_table.specs.Change.{count_up}
use Rattle.group_table.proofs.BucketLemmas.{length-bucket_states}
use Rattle.lru_model.specs.State.{buckets, MovesTo}
use Rattle.lru_model.specs.Shrinks.{shrink_counted, kept, shrunk, no_memory_to_shrink}
use Rattle.ordered_table.specs.OrderedTable.{pairs_of}
use Rattle.schnellru.specs.Inside.Holds.{state_of, Holds}
use Rattle.ordered_table.proofs.Tables.BucketPairs.{pairs-length}
use Rattle.schnellru.specs.Inside.Fields.{fields_of}
use Rattle.lru_model.proofs.States.Reservations.{some_there}
use Rattle.lru_model.proofs.States.SomeShrink.{none_needed}
use Rattle.schnellru.proofs.Maps.ShrunkMaps.{needs, shrinks_to, shrinks_holds}
use Rattle.schnellru.proofs.map.LruMap.shrink_to_fit.Goals as goal

pub returns-in-None-clause-step : goal.returns-in-None-clause-step
returns-in-None-clause-step g c =
    let m = c.self.inside in
    let rest = fields_of m (g.L.LinkType.LinkType.number g.L.LinkType.LinkType.MAX) in
    let st = state_of m.entries rest in
    let is = needs rest m.entries c.self.invariant.linked
    (c.into_usize.ensures ∙ ap g.L.LinkType.LinkType.number c.MAX.ensures) c.len-len.ensures.len
    c.in-None.ensures.value in
    rw (← c.self.view_is)
    (kept (subst (λ need. IfSome need (λ count. buckets st ≤ count)) (sym is) tt) refl refl)

pub returns-then-buckets-count-clause-step : goal.returns-then-buckets-count-clause-step
returns-then-buckets-count-clause-step g c =
    let m = c.self.inside in
    let rest = fields_of m (g.L.LinkType.LinkType.number g.L.LinkType.LinkType.MAX) in
    let st = state_of m.entries rest in
    let is = needs rest m.entries c.self.invariant.linked
    (c.into_usize.ensures ∙ ap g.L.LinkType.LinkType.number c.MAX.ensures) c.len-len.ensures.len
    c.in-Some.ensures.value in
    let few : buckets st ≤ c.in-Some.count = omega
    (arith, c.if-buckets-count.true, c.buckets.ensures.buckets, length-bucket_states m.entries.slots) in
    rw (← c.self.view_is)
    (kept (subst (λ need. IfSome need (λ count. buckets st ≤ count)) (sym is) few) refl refl)

pub returns-in_err-move_to-clause-step : goal.returns-in_err-move_to-clause-step
returns-in_err-move_to-clause-step g c =
    let m = c.self.inside in
    let rest = fields_of m (g.L.LinkType.LinkType.number g.L.LinkType.LinkType.MAX) in
    let st = state_of m.entries rest in
    let is = needs rest m.entries c.self.invariant.linked
    (c.into_usize.ensures ∙ ap g.L.LinkType.LinkType.number c.MAX.ensures) c.len-len.ensures.len
    c.in-Some.ensures.value in
    let fewer : c.in-Some.count < buckets st = omega
    (arith, c.if-buckets-count.false, c.buckets.ensures.buckets, length-bucket_states m.entries.slots) in
    let some = some_there st.pairs
    (λ none. false≢true (c.in_err-move_to.ensures.gives_back
    (none_needed rest.max c.in-Some.count (ap (λ pairs. buckets_for rest.max (length pairs)) (sym none) ∙ is)))) in
    rw (← c.self.view_is)
    (no_memory_to_shrink c.in-Some.count (is, fewer) some c.from_residual.ensures.0
    (ap (λ t. state_of t rest) c.in_err-move_to.ensures.unchanged))

pub invariant_of-self-2 : goal.invariant_of-self-2
invariant_of-self-2 g c =
    let m = c.self.inside in let e = c.in_ok-move_to.ensures in let holds = c.self.invariant in
    let rest = fields_of m (g.L.LinkType.LinkType.number g.L.LinkType.LinkType.MAX) in
    let rises : c.saturating_add-self-inside.result ≡ count_up m.shrunk (length (pairs_of m.entries)) =
    c.saturating_add-self-inside.ensures ∙ ap (λ n. min (m.shrunk + n) (2 ^ 64 - 1))
    (c.len-len.ensures.len ∙ sym (pairs-length m.entries holds.linked)) in
    let hash_of = g.S.KeyHasher.hash_of in
    subst (λ n. Holds g.K.PartialEq.eq hash_of c.move_to.new.self (record rest { shrunk = n })) (sym rises)
    (shrinks_holds m.entries c.move_to.new.self c.in-Some.count holds.linked e.linked e.buckets e.pairs e.growth_left
    e.insertions rest g.K.PartialEq.eq hash_of holds e.fits
    (omega (arith, c.if-buckets-count.false, c.buckets.ensures.buckets)))

pub returns-clause-step : goal.returns-clause-step
returns-clause-step g c =
    let m = c.self.inside in let e = c.in_ok-move_to.ensures in let holds = c.self.invariant in
    let rest = fields_of m (g.L.LinkType.LinkType.number g.L.LinkType.LinkType.MAX) in
    let st = state_of m.entries rest in
    let is = needs rest m.entries holds.linked (c.into_usize.ensures ∙ ap g.L.LinkType.LinkType.number c.MAX.ensures)
    c.len-len.ensures.len c.in-Some.ensures.value in
    let fewer : c.in-Some.count < buckets st = omega
    (arith, c.if-buckets-count.false, c.buckets.ensures.buckets, length-bucket_states m.entries.slots) in
    let rises : c.saturating_add-self-inside.result ≡ count_up m.shrunk (length (pairs_of m.entries)) =
    c.saturating_add-self-inside.ensures ∙ ap (λ n. min (m.shrunk + n) (2 ^ 64 - 1))
    (c.len-len.ensures.len ∙ sym (pairs-length m.entries holds.linked)) in
    rw (← c.self.view_is)
    (shrunk c.in-Some.count (is, fewer) refl
    (subst (λ n. MovesTo c.in-Some.count (shrink_counted st)
    (state_of c.move_to.new.self (record rest { shrunk = n }))) (sym rises)
    (shrinks_to m.entries c.move_to.new.self c.in-Some.count holds.linked e.linked e.buckets e.pairs e.growth_left
    e.insertions rest)))

pub returns-clause-map : goal.returns-clause-map
returns-clause-map g c = (invariant_of-self-2 g c).map
