use Rattle.std.proofs.Common.{sym, ap, ◌∙◌}
use Rattle.lru_model.specs.Lists.{last as last_bucket}
use Rattle.ordered_table.specs.OrderedTable.{without_bucket, in_front}
use Rattle.ordered_table.proofs.Tables.BucketPairs.{oldest_full}
use Rattle.ordered_table.proofs.ordered.OrderedTable.take_oldest.Goals as goal

pub take-requires-clause-full : goal.take-requires-clause-full
take-requires-clause-full g c = oldest_full c.settle.new.table c.settle.ensures.linked c.oldest-b.result
    c.oldest-b.ensures.oldest

pub returns-clause-taken : goal.returns-clause-taken
returns-clause-taken g c = let took = c.take.ensures in rw (← c.self.view_is, ← c.settle.ensures.slots) (
  c.oldest-b.result,
  ap last_bucket (sym c.settle.ensures.order) ∙ c.oldest-b.ensures.oldest,
  record {
    pair = took.pair;
    removed = took.removed;
    order = ap (λ o. in_front o c.take.new.self.order) c.settle.ensures.none ∙ took.order
        ∙ ap (without_bucket c.oldest-b.result) c.settle.ensures.order;
    insertions = took.insertions ∙ c.settle.ensures.insertions;
    growth_left = took.growth_left;
  },
)
