use Rattle.std.proofs.Common.{[], ◌∷◌, sym, ap, ◌∙◌, subst}
use Rattle.std.specs.Prelude.{Contains}
use Rattle.std.proofs.lemmas.List.Elements.{Contains-append_right}
use Rattle.group_table.specs.Bucket.{bucket_at, entry_at}
use Rattle.group_table.proofs.SearchLemmas.{entry_by_full}
use Rattle.schnellru.proofs.Maps.LastPair.{demoted_state, demoted_holds}
use Rattle.lru_model.proofs.PairLists.Members.{Contains-here}
use Rattle.ordered_table.specs.OrderedTable.{without_bucket}
use Rattle.ordered_table.proofs.Tables.BucketPairs.{place_found}
use Rattle.ordered_table.proofs.Tables.Searches.{pair_of_place}
use Rattle.schnellru.proofs.map.LruMap.demote_at.Goals as goal

pub demote-requires : goal.demote-requires
demote-requires g c = c.self.invariant.linked.only c.args.b (rw (← c.self.view_is) at c.requires)

pub invariant_of-self : goal.invariant_of-self
invariant_of-self g c =
    let m = c.self.inside in let t = m.entries in let holds = c.self.invariant in let e = c.demote.ensures in
    let laws = g.met.K.Eq.laws in
    let (p, there) = entry_by_full (bucket_at t.slots c.args.b)
    (holds.linked.only c.args.b (rw (← c.self.view_is) at c.requires)) in
    demoted_holds t c.demote.new.self holds.linked c.args.b p there e.slots e.order e.insertions
    (g.K.PartialEq.eq p.0) laws (λ x y h. laws.congr p.0 x y h) (laws.refl p.0) holds.map.distinct _
    g.S.KeyHasher.hash_of holds e.linked

pub returns-clause-demoted : goal.returns-clause-demoted
returns-clause-demoted g c = λ names one at.
    let m = c.self.inside in let t = m.entries in let holds = c.self.invariant in let e = c.demote.ensures in
    let laws = g.met.K.Eq.laws in
    let (p, there, named) = pair_of_place t holds.linked names laws one holds.map.distinct c.args.b
    (rw (← c.self.view_is) at at) in
    rw (← c.self.view_is) (demoted_state t c.demote.new.self holds.linked c.args.b p there e.slots e.order e.insertions
    names laws one named holds.map.distinct _)

pub returns-clause-place : goal.returns-clause-place
returns-clause-place g c = λ names one at.
    let t = c.self.inside.entries in let holds = c.self.invariant in let e = c.demote.ensures in
    let laws = g.met.K.Eq.laws in
    let (p, there, named) = pair_of_place t holds.linked names laws one holds.map.distinct c.args.b
    (rw (← c.self.view_is) at at) in
    place_found c.demote.new.self e.linked c.args.b p (ap (λ s. entry_at s c.args.b) e.slots ∙ there) names laws one
    (invariant_of-self g c).map.distinct named

pub returns-clause-there : goal.returns-clause-there
returns-clause-there g c = let b = c.args.b in subst (λ order. Contains order b) (sym c.demote.ensures.order)
    (Contains-append_right (without_bucket b c.self.inside.entries.order) (b ∷ []) b (Contains-here b []))

pub returns-clause-map : goal.returns-clause-map
returns-clause-map g c = (invariant_of-self g c).map
