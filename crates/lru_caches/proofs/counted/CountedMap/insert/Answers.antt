use Rattle.std.proofs.Common.{◌≡◌, arith, subst}
use Rattle.lru_caches.specs.Counted.{inserted, evicted}
use Rattle.lru_caches.proofs.OtherEntries.{other-count}
use Rattle.lru_caches.proofs.counted.CountedMap.insert.Goals as goal

pub returns-clause-step : goal.returns-clause-step
returns-clause-step g c = rw (← c.self.view_is) c.insert_full-was_there.ensures.step

pub returns-clause-counts : goal.returns-clause-counts
returns-clause-counts g c =
    let names = g.I.LookupKey.names c.args.key in
    let before = c.self.inside.map.pairs in let after = c.insert_full-was_there.new.map.pairs in
    let done = c.insert_full-was_there.result in
    let same : c.saturating_sub-evicted.result ≡ evicted names before after = omega (
      arith,
      c.saturating_sub-evicted.ensures,
      c.len-before.ensures.len,
      c.len.ensures.len,
      other-count names before done.0 c.insert_full-was_there.ensures.was_there,
      other-count names after done.1 c.insert_full-was_there.ensures.is_there,
    ) in
    rw (← c.self.view_is) (subst (λ n. c.count_insert.new.self ≡ inserted done.2 n c.self.inside.counts) same
    c.count_insert.ensures)
