use Rattle.std.proofs.Common.{sym, ◌∙◌}
use Rattle.ordered_table.proofs.Tables.BucketPairs.{pair_found}
use Rattle.ordered_table.proofs.Tables.Searches.{pair_of_place}
use Rattle.schnellru.proofs.map.LruMap.pair_in.Goals as goal

pub pair-requires : goal.pair-requires
pair-requires g c = c.self.invariant.linked.only c.args.b (rw (← c.self.view_is) at c.requires)

pub returns : goal.returns
returns g c = λ names one at.
    let t = c.self.inside.entries in let holds = c.self.invariant in let laws = g.met.K.Eq.laws in
    let (p, there, named) = pair_of_place t holds.linked names laws one holds.map.distinct c.args.b
    (rw (← c.self.view_is) at at) in
    rw (← c.self.view_is) (pair_found t holds.linked c.args.b p there names laws one holds.map.distinct named
    ∙ sym there ∙ c.pair.ensures.pair)
