use Rattle.std.proofs.Common.{nat_eq, sym}
use Rattle.lru_model.proofs.CallerLemmas.{written-found}
use Rattle.schnellru_tests.proofs.callers.overwrite.Goals as goal

pub returns-in-Some : goal.returns-in-Some
returns-in-Some c = λ _.
    let found = sym c.in-Some.ensures.value in
    written-found (nat_eq c.args.key) c.args.map.now c.in-Some.place.now c.args.value found
