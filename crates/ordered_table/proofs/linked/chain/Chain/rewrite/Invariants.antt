use Rattle.std.proofs.Common.{◌≡◌}
use Rattle.ordered_table.proofs.Chains.MovedChain.{MovedUpTo}
use Rattle.ordered_table.proofs.linked.chain.Chain.rewrite.Given as goal

abbrev pub invariant-loop-old : goal.invariant-loop-old
invariant-loop-old g l = record {
  links : MovedUpTo g.N.LinkType.number g.N.LinkType.MAX l.fn.self.table.slots l.self.table.slots l.links l.old;
  newest : l.self.newest ≡ l.fn.self.newest;
  oldest : l.self.oldest ≡ l.fn.self.oldest;
  insertions : l.self.table.insertions ≡ l.fn.self.table.insertions;
}
