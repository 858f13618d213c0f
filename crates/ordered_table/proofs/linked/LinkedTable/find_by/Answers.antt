use Rattle.std.proofs.Common.{rules, refl}
use denote.Param.Always.{always_mut, mut_by, mut_next}
use Rattle.std.proofs.lemmas.Option.{IfSome_then}
use Rattle.lru_model.specs.ByHash.{Asks}
use Rattle.ordered_table.proofs.Tables.PairSlots.{pair_of}
use Rattle.ordered_table.proofs.Tables.AskedPairs.{finds_pair, finds_no_pair}
use Rattle.ordered_table.proofs.Tables.KeyHashes.{if_none}
use Rattle.ordered_table.proofs.linked.LinkedTable.find_by.Goals as goal

pub find-requires : goal.find-requires
find-requires g c = mut_by _ (λ w. always_mut g.F.FnMut w.0) (λ s a i. search rules) (λ s a r t i k.
    let asked : Asks g.F.FnMut s.0 (pair_of a.0.now) r t.0 = search rules in
    mut_next g.F.FnMut s.0 (asked.key, (asked.value, tt)) r t.0 t.0 asked.called refl i) _
    (record { at = c.requires.at })

pub returns-clause-found : goal.returns-clause-found
returns-clause-found g c = rw (← c.self.view_is) (IfSome_then c.find.result c.find.ensures.found (λ b found.
    finds_pair g.F.FnMut _ (λ (w : record { 0 : g.row.F.Denot }). w.0)
    (λ w x r u k. search rules) c.self.inside.chain.table.slots c.args.hash _ b found))

pub returns-clause-none : goal.returns-clause-none
returns-clause-none g c = rw (← c.self.view_is) (if_none c.find.result (λ none.
    finds_no_pair g.F.FnMut _ (λ (w : record { 0 : g.row.F.Denot }). w.0)
    (λ w x r u k. search rules) c.self.inside.chain.table.slots c.args.hash _ none) c.find.ensures.none)
