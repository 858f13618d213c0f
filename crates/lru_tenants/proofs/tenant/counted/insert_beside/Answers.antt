use Rattle.std.proofs.Common.{◌≡◌, arith, ap, ◌∙◌, is_some}
use Rattle.lru_caches.proofs.OtherEntries.{other-count}
use Rattle.lru_caches.specs.Counted.{inserted, evicted}
use Rattle.lru_model.specs.Lists.{first}
use Rattle.lru_tenants.specs.Counting.{counting_rules, with_counts}
use Rattle.lru_tenants.proofs.CountedPuts.{kept-there, newest-there}
use Rattle.lru_tenants.proofs.tenant.counted.insert_beside.Goals as goal

pub returns-clause-inserts : goal.returns-clause-inserts
returns-clause-inserts g c =
    let names = g.K.PartialEq.eq c.args.key in
    let before = c.args.map.now.pairs in let left = c.insert-done.new.map in
    let there = kept-there (counting_rules g.L.Limiter.rules) names left c.insert-done.result
    c.insert-done.ensures.ends.says in
    let same : c.saturating_sub-evicted.result ≡ evicted names before left.pairs = omega (
      arith,
      c.saturating_sub-evicted.ensures,
      c.requires.others,
      c.len.ensures.len,
      other-count names left.pairs c.is_kept-is_there.result (c.is_kept-is_there.ensures ∙ there),
    ) in (
      left,
      c.insert-done.ensures.inserts,
      c.set_counts.ensures.map ∙ ap (λ counts. with_counts counts left) (c.count_insert.ensures
          ∙ ap (λ n. inserted c.insert-done.result n c.limiter.result.now.counts) same
          ∙ ap (λ s. inserted c.insert-done.result (evicted names before left.pairs) s.counts) c.limiter.ensures),
    )

pub returns-clause-newest : goal.returns-clause-newest
returns-clause-newest g c = λ e. ap (λ st. is_some (first st.pairs)) c.set_counts.ensures.map
    ∙ newest-there (counting_rules g.L.Limiter.rules) (g.K.PartialEq.eq c.args.key) c.insert-done.new.map
    c.insert-done.result c.insert-done.ensures.ends.says e
