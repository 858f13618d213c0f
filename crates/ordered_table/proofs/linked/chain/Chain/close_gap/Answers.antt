use Rattle.std.proofs.Common.{◌∙◌, inl, inr, refl, arith}
use Rattle.group_table.proofs.BucketLemmas.{full_lt}
use Rattle.ordered_table.proofs.Tables.PairSlots.{same_full, same_length}
use Rattle.ordered_table.proofs.Chains.LinkWrites.{gap_newer_leads, gap_older_leads, gap_reached, none_written}
use Rattle.ordered_table.proofs.Chains.LinkWrites.{IsChain-unlinked}
use Rattle.ordered_table.proofs.linked.chain.Chain.close_gap.Goals as goal

pub set_older-requires-clause-there : goal.set_older-requires-clause-there
set_older-requires-clause-there g c = gap_newer_leads g.met.N.LinkType.laws c.requires.gap.2

pub set_older-requires-else-last-clause-there : goal.set_older-requires-else-last-clause-there
set_older-requires-else-last-clause-there g c = gap_newer_leads g.met.N.LinkType.laws c.requires.gap.2

pub set_newer-requires-clause-there : goal.set_newer-requires-clause-there
set_newer-requires-clause-there g c = elim (gap_older_leads g.met.N.LinkType.laws c.requires.gap.2) [
  | inl none ↦ inl none
  | inr full ↦ inr (same_full _ _ c.set_older-else-last.ensures.slots.pairs _ ∙ full)
]

pub set_newer-requires-clause-some : goal.set_newer-requires-clause-some
set_newer-requires-clause-some g c =
    let gap = c.requires.gap.2 in
    omega (
      arith,
      full_lt gap.before c.requires.gap.1 (gap.chain.only _ gap.there),
      gap.same,
      same_length _ _ c.set_older-else-last.ensures.slots.pairs,
    )

pub returns-then-last-clause-chain : goal.returns-then-last-clause-chain
returns-then-last-clause-chain g c order b gap =
    let laws = g.met.N.LinkType.laws in
    let sets = rw c.MAX.ensures at c.set_older.ensures in
    IsChain-unlinked laws b (rw (c.requires.last c.if-last.true) at gap) sets.slots sets.newest
    (none_written laws _ (omega (arith, same_length _ _ sets.slots.pairs, gap_reached laws gap)) c.args.newer)
    (record { ends = λ none. refl; stays = λ other. absurd (other refl) })

pub returns-else-last-clause-chain : goal.returns-else-last-clause-chain
returns-else-last-clause-chain g c order b gap =
    rw c.set_newer.ensures.newest (IsChain-unlinked g.met.N.LinkType.laws b gap
    c.set_older-else-last.ensures.slots c.set_older-else-last.ensures.newest c.set_newer.ensures.slots
    (rw c.set_older-else-last.ensures.oldest at c.set_newer.ensures.oldest))
