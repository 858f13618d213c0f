use Rattle.std.proofs.Common.{refl, ap, ◌∙◌}
use Rattle.std.specs.Prelude.{option_map}
use Rattle.ordered_table.proofs.Tables.PairSlots.{pair_of, entry_at-pair_slots}
use Rattle.ordered_table.proofs.Tables.KeyHashes.{KeysFit-refilled}
use Rattle.ordered_table.proofs.Chains.WholeChains.{IsWhole-shown, IsWhole-refilled, view-refilled, IsLinked-refilled}
use Rattle.ordered_table.proofs.linked.LinkedTable.pair_mut.Goals as goal

pub invariant_of-self-lent : goal.invariant_of-self-lent
invariant_of-self-lent g c w =
    let entry = c.get_mut-entry.result.now in
    IsWhole-shown g.met.N.LinkType.laws
    (IsWhole-refilled g.met.N.LinkType.laws c.self.invariant c.args.b entry c.get_mut-entry.ensures.entry
    (record entry { value = w }) refl refl)

pub returns : goal.returns
returns g c =
    let entry = c.get_mut-entry.result.now in let there = c.get_mut-entry.ensures.entry in
    let pair = entry_at-pair_slots c.self.inside.chain.table.slots c.args.b ∙ ap (option_map pair_of) there in
    let laws = g.met.N.LinkType.laws in (
      (
        refl,
        λ w. rw (← c.self.view_is)
            (view-refilled laws c.self.invariant c.args.b entry there (record entry { value = w }) refl refl c.self.inside.chain.table.insertions),
      ),
      record {
        writes_back = tt;
        pair = rw (← c.self.view_is) pair;
        fits = λ hash_of fits last.
            KeysFit-refilled hash_of c.args.self.now.slots c.args.b (pair_of entry) (entry.key, last) c.requires
            (rw (← c.self.view_is) pair) refl fits;
        linked = λ last.
            rw (← c.self.view_is) (IsLinked-refilled laws c.self.invariant c.args.b entry there
            (record entry { value = last }) refl refl c.get_mut-entry.ensures.table);
      },
    )
