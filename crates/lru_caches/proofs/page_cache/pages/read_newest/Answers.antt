use Rattle.std.proofs.Common.{◌≡◌, ℕ, Option, ap, ◌∙◌, subst, unwrap_or}
use Rattle.std.specs.Fn.{FnOnceReturnsAt}
use Rattle.lru_model.specs.Lists.{first}
use Rattle.lru_caches.specs.declared.page_cache.pages.Page.{Page}
use Rattle.lru_caches.proofs.page_cache.pages.read_newest.Goals as goal

pub returns : goal.returns
returns g c = λ n page others is.
    let same : c.in-Some.page.now ≡ page = ap (λ (o : Option (ℕ × Page g.row.B.Denot)). (unwrap_or o (n, page)).1) (c.in-Some.ensures ∙ ap first is) in
    subst (λ (q : Page g.row.B.Denot). FnOnceReturnsAt g.U.FnOnce c.args.read q.block c.read.result) same
    (_, c.read.ensures, c.get.ensures)
