use Rattle.std.proofs.Common.{◌≡◌, rules, Some, sym, subst}
use Rattle.lru_caches.specs.Pages.{shown, pages_read}
use Rattle.std.proofs.lemmas.Result.{IfOk-weaker}
use Rattle.lru_caches.proofs.page_cache.PageCache.read.Goals as goal

pub returns-clause-block : goal.returns-clause-block
returns-clause-block g c = IfOk-weaker c.read_with.result _ _ (λ given (block, copied, shows, pages).
    let same : given ≡ block = search rules in λ honest.
    subst (λ b. shown g.D.BlockDevice c.read_with.new.self c.args.n ≡ Some (g.D.BlockDevice.seen b)) (sym same)
    (shows honest)) c.read_with.ensures.block

pub returns-clause-pages : goal.returns-clause-pages
returns-clause-pages g c = IfOk-weaker c.read_with.result _ _ (λ given (block, copied, shows, pages).
    let same : given ≡ block = search rules in
    subst (λ b. c.read_with.new.self.pages ≡ pages_read c.args.n b c.args.self.now) (sym same) pages)
    c.read_with.ensures.block
