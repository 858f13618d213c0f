use Rattle.std.proofs.Common.{◌≡◌, Some, slice_get, ap, sym, ◌∙◌, subst}
use Rattle.ordered_table.proofs.Tables.Places.{same_position}
use Rattle.lru_model.proofs.PairLists.Positions.{placed, nowhere}
use Rattle.schnellru.proofs.map.LruMap.get_index_of.Goals as goal

pub returns-in_err-b : goal.returns-in_err-b
returns-in_err-b g c =
    c.from_residual.ensures
    ∙ sym (nowhere (g.Q.LookupKey.names c.args.key.now) c.args.self.now.pairs c.in_err-b.ensures.none)

pub index_of-requires : goal.index_of-requires
index_of-requires g c =
    c.self.invariant.linked.only c.in_ok-b.b (rw (← c.self.view_is) at c.in_ok-b.ensures.there)

pub returns : goal.returns
returns g c =
    let st = c.args.self.now in
    let (i, at, there) = placed (g.Q.LookupKey.names c.args.key.now) c.in_ok-b.b st.pairs st.table.places
    c.in_ok-b.ensures.found in
    sym (at ∙ ap Some (same_position c.self.inside.entries.order i c.index_of.result c.in_ok-b.b
    c.self.invariant.linked.distinct
    (subst (λ st. slice_get st.table.places i ≡ Some c.in_ok-b.b) (sym c.self.view_is) there)
    c.index_of.ensures.index))
