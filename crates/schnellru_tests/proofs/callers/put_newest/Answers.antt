use Rattle.std.proofs.Common.{nat_eq}
use Rattle.std.proofs.lemmas.Bool.{eqb-true}
use Rattle.lru_model.specs.Runs.{inserts}
use Rattle.lru_model.proofs.CallerLemmas.{stored_key-same}
use Rattle.schnellru_tests.proofs.callers.put_newest.Goals as goal

pub returns-clause-newest : goal.returns-clause-newest
returns-clause-newest c =
    let law = c.inserts_leave_the_newest.ensures in
    let left = law.newest c.args.key c.args.value c.args.map.now c.insert.result c.insert.new.self c.requires
    c.insert.ensures.step in
    rw (stored_key-same (nat_eq c.args.key) c.args.key c.args.map.now.pairs (eqb-true c.args.key)) at left.newest

pub returns-clause-keeps : goal.returns-clause-keeps
returns-clause-keeps c =
    let step = inserts c.args.key c.args.value c.insert.result c.insert.ensures.step in
    let law = c.maps_keep_to_their_length.ensures.goes_on in
    law c.args.map.now c.insert.new.self c.requires c.insert.ensures.map.sized step
