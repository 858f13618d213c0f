use Rattle.std.proofs.Common.{◌∷◌, true, nat_eq, length, cond, Some, sym, ap, ◌∙◌}
use Rattle.std.proofs.lemmas.Cmp.{nat_eq_equiv}
use Rattle.std.specs.Map.{lookup}
use Rattle.lru_model.specs.Lists.{without}
use Rattle.lru_caches.specs.declared.page_cache.pages.Page.{Page}
use Rattle.lru_caches.specs.Pages.{is_pinned}
use Rattle.lru_caches.proofs.Outcomes.{some_there}
use Rattle.lru_caches.proofs.PageOrder.{written-first}
use Rattle.lru_caches.proofs.PageLists.{others_written, length-written}
use Rattle.lru_caches.proofs.page_cache.pages.overwrite.Goals as goal

pub returns-clause-used : goal.returns-clause-used
returns-clause-used g c =
    let n = c.args.n in
    let was = c.args.map.now.pairs in
    let (page, found) = some_there (lookup (nat_eq n) was) (sym c.promote.ensures.there ∙ c.if-not-promote.false) in λ _.
    c.fill_newest.ensures n page (without (nat_eq n) was) (c.promote.ensures.used page found)
    ∙ ap (λ o. (n, record { block = c.args.block.now; is_dirty = true; is_pinned = is_pinned o })
    ∷ without (nat_eq n) was) (sym found)

pub returns-clause-written : goal.returns-clause-written
returns-clause-written g c =
    let n = c.args.n in
    let was = c.args.map.now.pairs in
    let page : Page g.row.B.Denot = record {
      block = c.args.block.now;
      is_dirty = true;
      is_pinned = is_pinned (lookup (nat_eq n) was);
    } in λ yes.
    ap (lookup (nat_eq n)) (returns-clause-used g c yes)
    ∙ ap (λ b. cond b (Some page) (lookup (nat_eq n) (without (nat_eq n) was))) (nat_eq_equiv.refl n)

pub returns-clause-others : goal.returns-clause-others
returns-clause-others g c =
    let n = c.args.n in
    let was = c.args.map.now.pairs in
    let (page, found) = some_there (lookup (nat_eq n) was) (sym c.promote.ensures.there ∙ c.if-not-promote.false) in λ m apart.
    ap (lookup (nat_eq m)) (c.fill_newest.ensures n page (without (nat_eq n) was) (c.promote.ensures.used page found)
    ∙ sym (written-first n was page _ found)) ∙ others_written m n apart was _

pub returns-clause-len : goal.returns-clause-len
returns-clause-len g c =
    let n = c.args.n in
    let was = c.args.map.now.pairs in
    let (page, found) = some_there (lookup (nat_eq n) was) (sym c.promote.ensures.there ∙ c.if-not-promote.false) in
    ap length (c.fill_newest.ensures n page (without (nat_eq n) was) (c.promote.ensures.used page found)
    ∙ sym (written-first n was page _ found)) ∙ length-written (nat_eq n) was _
