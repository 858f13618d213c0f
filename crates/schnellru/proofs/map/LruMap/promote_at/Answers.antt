use Rattle.std.proofs.Common.{subst, sym}
use Rattle.std.specs.Prelude.{Contains}
use Rattle.group_table.specs.Bucket.{bucket_at}
use Rattle.group_table.proofs.SearchLemmas.{entry_by_full}
use Rattle.schnellru.proofs.Maps.NewestPair.{promoted_state, promoted_holds}
use Rattle.lru_model.proofs.PairLists.Members.{Contains-here}
use Rattle.ordered_table.proofs.Tables.Searches.{pair_of_place}
use Rattle.schnellru.proofs.map.LruMap.promote_at.Goals as goal

pub promote-requires : goal.promote-requires
promote-requires g c = c.self.invariant.linked.only c.args.b (rw (← c.self.view_is) at c.requires)

pub invariant_of-self : goal.invariant_of-self
invariant_of-self g c =
    let m = c.self.inside in let t = m.entries in let holds = c.self.invariant in let e = c.promote.ensures in
    let laws = g.met.K.Eq.laws in
    let (p, there) = entry_by_full (bucket_at t.slots c.args.b)
    (holds.linked.only c.args.b (rw (← c.self.view_is) at c.requires)) in
    promoted_holds t c.promote.new.self holds.linked c.args.b p there e.slots e.order e.insertions
    (g.K.PartialEq.eq p.0) laws (λ x y h. laws.congr p.0 x y h) (laws.refl p.0) holds.map.distinct _
    g.S.KeyHasher.hash_of holds e.linked

pub returns-clause-there : goal.returns-clause-there
returns-clause-there g c = subst (λ order. Contains order c.args.b) (sym c.promote.ensures.order)
    (Contains-here c.args.b _)

pub returns-clause-promoted : goal.returns-clause-promoted
returns-clause-promoted g c = λ names one at.
    let m = c.self.inside in let t = m.entries in let holds = c.self.invariant in let e = c.promote.ensures in
    let laws = g.met.K.Eq.laws in
    let (p, there, named) = pair_of_place t holds.linked names laws one holds.map.distinct c.args.b
    (rw (← c.self.view_is) at at) in
    rw (← c.self.view_is) (promoted_state t c.promote.new.self holds.linked c.args.b p there e.slots e.order
    e.insertions names laws one named holds.map.distinct _)

pub returns-clause-map : goal.returns-clause-map
returns-clause-map g c = (invariant_of-self g c).map
