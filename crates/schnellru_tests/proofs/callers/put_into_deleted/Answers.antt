use Rattle.std.proofs.Common.{arith}
use Rattle.std.proofs.lemmas.Bool.Decides.{nat_tests}
use Rattle.std.specs.String.{string_eq}
use Rattle.lru_limits.specs.Limiters.{length_rules, length_terms}
use Rattle.lru_model.specs.State.{contents}
use Rattle.lru_model.proofs.CallerLemmas.{offers_of-accepts}
use Rattle.schnellru_tests.proofs.callers.put_into_deleted.Goals as goal

pub returns : goal.returns
returns c =
    let old = c.args.map.now in
    let accepts = offers_of-accepts length_terms length_rules string_eq c.args.key c.args.value (contents old)
    (grind (arith, nat_tests, c.requires.within)) (grind (arith, nat_tests, c.requires.within)) in
    let added = c.deleted_buckets_serve.ensures.added c.args.key c.args.value (c.args.key, c.args.value) old
    c.insert.result c.insert.new.self c.requires.full c.requires.absent c.requires.first accepts c.insert.ensures.step in
    record { added = (added.answer, added.pairs); table = added.table }
