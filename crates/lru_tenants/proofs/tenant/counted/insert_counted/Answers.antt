use Rattle.std.proofs.Common.{◌∙◌, arith}
use Rattle.lru_caches.proofs.OtherEntries.{other-count}
use Rattle.lru_tenants.proofs.CountedPuts.{some-entry}
use Rattle.lru_tenants.proofs.tenant.counted.insert_counted.Goals as goal

pub insert_beside-requires-clause-others : goal.insert_beside-requires-clause-others
insert_beside-requires-clause-others g c =
    let names = g.K.PartialEq.eq c.args.key in let pairs = c.args.map.now.pairs in omega (
      arith,
      c.len.ensures.len,
      other-count names pairs c.contains.result (c.contains.ensures ∙ some-entry names pairs),
    )
