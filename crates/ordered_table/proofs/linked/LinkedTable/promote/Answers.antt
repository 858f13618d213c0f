use Rattle.std.proofs.Common.{refl, ◌∙◌}
use Rattle.ordered_table.proofs.Chains.Orders.{without_in}
use Rattle.ordered_table.proofs.Tables.PairSlots.{same_states}
use Rattle.ordered_table.proofs.Chains.WholeChains.{whole_order, IsWhole-shown, IsLinked-view, IsWhole-promoted}
use Rattle.ordered_table.proofs.Chains.LinkReads.{full_entry, inside}
use Rattle.ordered_table.proofs.Chains.LinkReads.{newest_already, newest_left}
use Rattle.ordered_table.proofs.Chains.LinkWrites.{newer_leads}
use Rattle.ordered_table.proofs.linked.LinkedTable.promote.Goals as goal

pub leads-requires-clause-there : goal.leads-requires-clause-there
leads-requires-clause-there g c =
    let there = inside g.met.N.LinkType.laws c.self.invariant c.args.b (rw (← c.self.view_is) at c.requires) in
    newer_leads g.met.N.LinkType.laws c.self.invariant.chain c.args.b there _ c.get.ensures.entry

pub returns-then-not-leads-clause-order : goal.returns-then-not-leads-clause-order
returns-then-not-leads-clause-order g c =
    let full = rw (← c.self.view_is) at c.requires in
    let none = rw c.if-not-leads.true at c.leads.ensures in
    rw (← c.self.view_is) (newest_already g.met.N.LinkType.laws c.self.invariant c.args.b full c.get.result.now
    c.get.ensures.entry none)

pub returns-then-not-leads-clause-linked : goal.returns-then-not-leads-clause-linked
returns-then-not-leads-clause-linked g c = rw (← c.self.view_is)
    (IsLinked-view g.met.N.LinkType.laws c.self.invariant c.get.ensures.table)

pub link_newest-requires-clause-some : goal.link_newest-requires-clause-some
link_newest-requires-clause-some g c =
    let full = rw (← c.self.view_is) at c.requires in
    let there = inside g.met.N.LinkType.laws c.self.invariant c.args.b full in
    let newer = rw c.if-not-leads.false at c.leads.ensures in
    newest_left g.met.N.LinkType.laws c.self.invariant c.args.b full c.get.result.now c.get.ensures.entry
    newer (c.unlink.ensures.chain _ c.self.invariant.chain there)

pub link_newest-requires-clause-chained : goal.link_newest-requires-clause-chained
link_newest-requires-clause-chained g c =
    let full = rw (← c.self.view_is) at c.requires in
    let there = inside g.met.N.LinkType.laws c.self.invariant c.args.b full in
    (_, c.unlink.ensures.chain _ c.self.invariant.chain there, λ w. (without_in c.args.b c.args.b _ w).1 refl)

pub invariant_of-self : goal.invariant_of-self
invariant_of-self g c =
    let full = rw (← c.self.view_is) at c.requires in
    let there = inside g.met.N.LinkType.laws c.self.invariant c.args.b full in
    let left = c.unlink.ensures.chain _ c.self.invariant.chain there in
    let chain = c.link_newest.ensures.chain _ left (λ w. (without_in c.args.b c.args.b _ w).1 refl) in
    IsWhole-shown g.met.N.LinkType.laws (IsWhole-promoted g.met.N.LinkType.laws c.self.invariant c.args.b
    (full_entry g.met.N.LinkType.laws c.self.invariant c.args.b full) (c.link_newest.ensures.pairs
    ∙ c.unlink.ensures.pairs) chain)

pub returns-clause-order : goal.returns-clause-order
returns-clause-order g c =
    let full = rw (← c.self.view_is) at c.requires in
    let there = inside g.met.N.LinkType.laws c.self.invariant c.args.b full in
    let left = c.unlink.ensures.chain _ c.self.invariant.chain there in
    let chain = c.link_newest.ensures.chain _ left (λ w. (without_in c.args.b c.args.b _ w).1 refl) in
    rw (← c.self.view_is) (whole_order g.met.N.LinkType.laws
    (IsWhole-promoted g.met.N.LinkType.laws c.self.invariant c.args.b
    (full_entry g.met.N.LinkType.laws c.self.invariant c.args.b full) (c.link_newest.ensures.pairs
    ∙ c.unlink.ensures.pairs) chain))

pub returns-clause-linked : goal.returns-clause-linked
returns-clause-linked g c =
    let states = same_states c.self.inside.chain.table.slots c.link_newest.new.self.table.slots
    (c.link_newest.ensures.pairs
    ∙ c.unlink.ensures.pairs) in
    IsLinked-view g.met.N.LinkType.laws (invariant_of-self g c) (rw states c.get.ensures.table)
