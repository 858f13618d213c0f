use Rattle.std.proofs.Common.{◌≡◌, ◌∷◌, true, ap, ◌∙◌, subst, unwrap_or}
use Rattle.std.specs.Fn.{FnOnceReturnsAtMut}
use Rattle.lru_model.specs.Lists.{newest_value, set_newest}
use Rattle.lru_caches.specs.declared.page_cache.pages.Page.{Page}
use Rattle.lru_caches.proofs.page_cache.pages.write_newest.Goals as goal

pub returns : goal.returns
returns g c = λ n page others is.
    let was = c.in-Some.page.now in
    let left = c.write.new.self in
    let same : was ≡ page = ap (λ o. unwrap_or o page) (c.in-Some.ensures.value ∙ ap newest_value is) in (
      left,
      subst (λ (q : Page g.row.B.Denot). FnOnceReturnsAtMut g.U.FnOnce c.args.write q.block c.write.result left) same c.write.ensures,
      ap (λ l. set_newest l (record { block = left; is_dirty = true; is_pinned = was.is_pinned })) is
          ∙ ap (λ (q : Page g.row.B.Denot).
          (n, record { block = left; is_dirty = true; is_pinned = q.is_pinned }) ∷ others) same,
    )
