use Rattle.ordered_table.proofs.ordered.OrderedTable.find.Goals as goal

pub returns-clause-found : goal.returns-clause-found
returns-clause-found g c = rw (← c.self.view_is) c.find.ensures.found
