use Rattle.std.proofs.Common.{ap, length, arith, ◌<◌}
use Rattle.ordered_table.proofs.Tables.WalkRests.{front-full, front-next, front-cut}
use Rattle.ordered_table.proofs.walk.WalkIterator.next.Goals as goal

pub pair-pair-requires : goal.pair-pair-requires
pair-pair-requires g c =
    let a = c.self.inside in let some : 0 < a.left = omega (arith, c.if-self-eq0.false) in
    front-full a.entries.now a.front a.back a.left c.self.invariant some

pub invariant_of-self : goal.invariant_of-self
invariant_of-self g c =
    let a = c.self.inside in let some : 0 < a.left = omega (arith, c.if-self-eq0.false) in
    front-next a.entries.now a.front a.back a.left c.self.invariant some c.older_unless_last-self-inside.result
    c.older_unless_last-self-inside.ensures.older

pub returns-clause-steps : goal.returns-clause-steps
returns-clause-steps g c =
    let a = c.self.inside in let some : 0 < a.left = omega (arith, c.if-self-eq0.false) in
    rw (← c.self.view_is)
    (front-cut a.entries.now a.front a.back a.left c.self.invariant some c.older_unless_last-self-inside.result
    c.older_unless_last-self-inside.ensures.older _ c.pair-pair.ensures.pair)

pub returns-clause-goes : goal.returns-clause-goes
returns-clause-goes g c =
    let a = c.self.inside in let some : 0 < a.left = omega (arith, c.if-self-eq0.false) in
    rw (← c.self.view_is)
    (omega (
      arith,
      ap length
          (front-cut a.entries.now a.front a.back a.left c.self.invariant some c.older_unless_last-self-inside.result
          c.older_unless_last-self-inside.ensures.older _ c.pair-pair.ensures.pair),
    ))
