use Rattle.std.proofs.Common.{ap, ◌∙◌}
use Rattle.ordered_table.specs.OrderedTable.{without_bucket, in_front}
use Rattle.ordered_table.proofs.ordered.OrderedTable.take.Goals as goal

pub returns-clause-taken : goal.returns-clause-taken
returns-clause-taken g c = let took = c.take.ensures in rw (← c.self.view_is, ← c.settle.ensures.slots) (record {
  pair = took.pair;
  removed = took.removed;
  order = ap (λ o. in_front o c.take.new.self.order) c.settle.ensures.none ∙ took.order
      ∙ ap (without_bucket c.args.b) c.settle.ensures.order;
  insertions = took.insertions ∙ c.settle.ensures.insertions;
  growth_left = took.growth_left;
})
