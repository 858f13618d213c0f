use Rattle.std.proofs.Common.{rules, ◌∙◌, subst}
use Rattle.std.specs.Fn.{FnOnceReturnsAtMut}
use Rattle.lru_caches.proofs.page_cache.boxed.Boxed.write.Goals as goal

pub returns : goal.returns
returns g c =
    let left = c.write.new.arg2 in
    let called : FnOnceReturnsAtMut g.U.FnOnce c.args.write c.deref_mut.result.now c.write.result left = search rules in
    subst (λ block. FnOnceReturnsAtMut g.U.FnOnce c.args.write block c.write.result left)
    (c.deref_mut.ensures.value ∙ c.self.view_is) called
