use Rattle.std.proofs.Common.{ap, ◌∙◌}
use Rattle.std.specs.Prelude.{option_map}
use Rattle.ordered_table.proofs.Tables.PairSlots.{same_states, pair_of, entry_at-pair_slots}
use Rattle.ordered_table.proofs.Tables.TakenEntries.{taken_removes, taken_room, taken_fits, taken_whole, taken_order}
use Rattle.ordered_table.proofs.Chains.LinkWrites.{IsGap-taken}
use Rattle.ordered_table.proofs.Chains.WholeChains.{IsLinked-view}
use Rattle.ordered_table.proofs.Chains.LinkReads.{full_entry, inside, none_older}
use Rattle.ordered_table.proofs.linked.LinkedTable.take.Goals as goal

pub close_gap-requires-clause-last : goal.close_gap-requires-clause-last
close_gap-requires-clause-last g c last = none_older g.met.N.LinkType.laws c.self.invariant c.args.b
    (rw (← c.self.view_is) at (c.requires.last last)) _ c.take-key.ensures.entry

pub close_gap-requires-clause-gap : goal.close_gap-requires-clause-gap
close_gap-requires-clause-gap g c =
    let there = inside g.met.N.LinkType.laws c.self.invariant c.args.b (rw (← c.self.view_is) at c.requires.full) in (
      _,
      c.args.b,
      IsGap-taken g.met.N.LinkType.laws c.self.invariant.chain c.args.b there _
          c.take-key.ensures.entry _ c.take-key.ensures.removed,
    )

pub invariant_of-self : goal.invariant_of-self
invariant_of-self g c =
    let laws = g.met.N.LinkType.laws in let removed = c.take-key.ensures.removed in
    let shown = rw (← c.self.view_is) at c.requires.full in
    let gap = IsGap-taken laws c.self.invariant.chain c.args.b (inside laws c.self.invariant c.args.b shown) _
    c.take-key.ensures.entry _ removed in
    taken_whole _ _ _ c.args.b removed c.close_gap.ensures.pairs laws c.self.invariant
    (full_entry laws c.self.invariant c.args.b shown)
    (c.close_gap.ensures.chain _ c.args.b gap)

pub returns : goal.returns
returns g c =
    let laws = g.met.N.LinkType.laws in let whole = c.self.invariant in
    let removed = c.take-key.ensures.removed in let same = c.close_gap.ensures.pairs in
    let shown = rw (← c.self.view_is) at c.requires.full in
    let full = full_entry laws whole c.args.b shown in
    let gap = IsGap-taken laws whole.chain c.args.b (inside laws whole c.args.b shown) _ c.take-key.ensures.entry _
    removed in
    let chain = c.close_gap.ensures.chain _ c.args.b gap in
    let same_insertions = c.close_gap.ensures.insertions ∙ c.take-key.ensures.insertions in
    rw (← c.self.view_is) (record {
      pair = entry_at-pair_slots _ c.args.b ∙ ap (option_map pair_of) c.take-key.ensures.entry;
      removed = taken_removes _ _ _ c.args.b removed same;
      order = taken_order _ _ _ c.args.b removed same laws whole full chain;
      insertions = same_insertions;
      growth_left = taken_room _ _ _ c.args.b removed same c.take-key.ensures.growth_left;
      fits = taken_fits _ _ _ c.args.b removed same full c.take-key.ensures.fits;
      linked = IsLinked-view laws (invariant_of-self g c)
          (rw (same_states c.take-key.new.self.slots c.close_gap.new.self.table.slots same)
          c.take-key.ensures.table);
    })
