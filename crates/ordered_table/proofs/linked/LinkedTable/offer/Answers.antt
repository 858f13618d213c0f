use Rattle.std.proofs.Common.{◌≡◌, Some, ap, sym, ◌∙◌, subst}
use Rattle.std.specs.Prelude.{option_map}
use Rattle.group_table.specs.Bucket.{entry_at}
use Rattle.ordered_table.proofs.Tables.PairSlots.{pair_of, entry_at-pair_slots}
use Rattle.ordered_table.proofs.Tables.KeyHashes.{KeysFit-refilled}
use Rattle.ordered_table.proofs.Chains.WholeChains.{IsWhole-shown, IsWhole-refilled, view-refilled, IsLinked-refilled}
use Rattle.ordered_table.specs.OrderedTable.{IsLinked, KeysFit, with_pair}
use Rattle.ordered_table.proofs.linked.LinkedTable.offer.Goals as goal

pub invariant_of-self : goal.invariant_of-self
invariant_of-self g c =
    let offered = c.offer_entry.ensures in
    IsWhole-shown g.met.N.LinkType.laws
    (IsWhole-refilled g.met.N.LinkType.laws c.self.invariant c.args.b c.get_mut.result.now c.get_mut.ensures.entry
    c.offer_entry.new.entry offered.newer offered.older)

pub returns-clause-offered : goal.returns-clause-offered
returns-clause-offered g c =
    let was = c.get_mut.result.now in let there = c.get_mut.ensures.entry in let offered = c.offer_entry.ensures in
    record {
      pair = pair_of was;
      there = rw (← c.self.view_is) (entry_at-pair_slots c.self.inside.chain.table.slots c.args.b
          ∙ ap (option_map pair_of) there);
      after = pair_of c.offer_entry.new.entry;
      offered = offered.offered;
      table = rw (← c.self.view_is) (view-refilled g.met.N.LinkType.laws c.self.invariant c.args.b was there
          c.offer_entry.new.entry offered.newer offered.older c.self.inside.chain.table.insertions);
    }

pub returns-clause-linked : goal.returns-clause-linked
returns-clause-linked g c =
    let was = c.get_mut.result.now in let there = c.get_mut.ensures.entry in let offered = c.offer_entry.ensures in
    let laws = g.met.N.LinkType.laws in let next = c.offer_entry.new.entry in
    subst IsLinked (sym (view-refilled laws c.self.invariant c.args.b was there next offered.newer offered.older c.self.inside.chain.table.insertions))
    (IsLinked-refilled laws c.self.invariant c.args.b was there next offered.newer offered.older
    c.get_mut.ensures.table)

pub returns-clause-fits : goal.returns-clause-fits
returns-clause-fits g c = λ hash_of fits same.
    let was = c.get_mut.result.now in let there = c.get_mut.ensures.entry in let offered = c.offer_entry.ensures in
    let next = c.offer_entry.new.entry in
    let pair : entry_at c.args.self.now.slots c.args.b ≡ Some (pair_of was) = rw (← c.self.view_is)
    (entry_at-pair_slots c.self.inside.chain.table.slots c.args.b ∙ ap (option_map pair_of) there) in
    subst (λ t. KeysFit hash_of t.slots)
    (sym (view-refilled g.met.N.LinkType.laws c.self.invariant c.args.b was there next offered.newer offered.older c.self.inside.chain.table.insertions))
    (subst (λ t. KeysFit hash_of (with_pair t c.args.b (pair_of next)).slots) (sym c.self.view_is)
    (KeysFit-refilled hash_of c.args.self.now.slots c.args.b (pair_of was) (pair_of next) c.requires pair
    (ap (λ p. hash_of p.0) offered.offered.after_is ∙ sym (same (pair_of was) pair)) fits))
