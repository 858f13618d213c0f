use Rattle.std.proofs.Common.{nat_eq, sym, ap, ◌∙◌, arith}
use Rattle.lru_caches.specs.Pages.{is_dirty}
use Rattle.lru_caches.proofs.Evictions.{length-gone, victim_page, clean_victim}
use Rattle.lru_caches.proofs.page_cache.evict.find_room.Goals as goal

pub returns-in-Some-clause-left : goal.returns-in-Some-clause-left
returns-in-Some-clause-left g c =
    let pages = c.args.map.now.pairs in
    let n = c.in-Some.n in
    let there = victim_page c.args.keeps_dirty pages n c.len.ensures.map.distinct (sym c.in-Some.ensures) in
    omega (arith, length-gone (nat_eq n) pages there.0 there.1, c.requires)

pub returns-in-Some-clause-clean : goal.returns-in-Some-clause-clean
returns-in-Some-clause-clean g c = λ keeps.
    let there = victim_page c.args.keeps_dirty c.args.map.now.pairs c.in-Some.n c.len.ensures.map.distinct
    (sym c.in-Some.ensures) in
    ap is_dirty there.1 ∙ clean_victim c.args.keeps_dirty there.0 keeps there.2
