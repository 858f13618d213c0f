use Rattle.std.proofs.Common.{Some, ap, sym, arith}
use Rattle.ordered_table.proofs.Tables.WalkRests.{rest-length}
use Rattle.ordered_table.proofs.walk.WalkIterator.size_hint.Goals as goal

pub returns-clause-lower : goal.returns-clause-lower
returns-clause-lower g c =
    rw (← c.self.view_is)
    (λ _. omega (
      arith,
      rest-length c.self.inside.entries.now c.self.inside.front c.self.inside.back
          c.self.inside.left c.self.invariant,
    ))

pub returns-clause-upper : goal.returns-clause-upper
returns-clause-upper g c =
    rw (← c.self.view_is) (
      tt,
      omega (
        arith,
        rest-length c.self.inside.entries.now c.self.inside.front c.self.inside.back
            c.self.inside.left c.self.invariant,
      ),
    )

pub returns-clause-exact : goal.returns-clause-exact
returns-clause-exact g c =
    let a = c.self.inside in
    rw (← c.self.view_is)
    (ap (λ n. (n, Some n)) (sym (rest-length a.entries.now a.front a.back a.left c.self.invariant)))
