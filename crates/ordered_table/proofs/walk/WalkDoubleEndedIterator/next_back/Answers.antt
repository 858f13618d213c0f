use Rattle.std.proofs.Common.{arith, ◌<◌, ◌-◌}
use Rattle.ordered_table.proofs.Tables.WalkRests.{back-full, back-next, back-cut, rest-length}
use Rattle.ordered_table.proofs.walk.WalkDoubleEndedIterator.next_back.Goals as goal

pub pair-pair-requires : goal.pair-pair-requires
pair-pair-requires g c =
    let a = c.self.inside in let some : 0 < a.left = omega (arith, c.if-self-eq0.false) in
    back-full a.entries.now a.front a.back a.left c.self.invariant some

pub invariant_of-self : goal.invariant_of-self
invariant_of-self g c =
    let a = c.self.inside in let some : 0 < a.left = omega (arith, c.if-self-eq0.false) in
    back-next a.entries.now a.front a.back a.left c.self.invariant some c.newer_unless_first-self-inside.result
    c.newer_unless_first-self-inside.ensures.newer

pub returns-clause-steps : goal.returns-clause-steps
returns-clause-steps g c =
    let a = c.self.inside in let some : 0 < a.left = omega (arith, c.if-self-eq0.false) in
    rw (← c.self.view_is)
    (back-cut a.entries.now a.front a.back a.left c.self.invariant some c.newer_unless_first-self-inside.result
    c.newer_unless_first-self-inside.ensures.newer _ c.pair-pair.ensures.pair)

pub returns-clause-goes : goal.returns-clause-goes
returns-clause-goes g c =
    let a = c.self.inside in let some : 0 < a.left = omega (arith, c.if-self-eq0.false) in
    let next = back-next a.entries.now a.front a.back a.left c.self.invariant some
    c.newer_unless_first-self-inside.result c.newer_unless_first-self-inside.ensures.newer in
    rw (← c.self.view_is)
    (omega (
      arith,
      rest-length a.entries.now a.front a.back a.left c.self.invariant,
      rest-length a.entries.now a.front c.newer_unless_first-self-inside.result (a.left - 1) next,
      some,
    ))
