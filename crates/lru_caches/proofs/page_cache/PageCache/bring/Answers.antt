use Rattle.std.proofs.Common.{rules, cond, ◌∷◌, nat_eq, false, sym, ap, ◌∙◌}
use Rattle.std.specs.Map.{lookup}
use Rattle.lru_model.specs.Lists.{without}
use Rattle.lru_caches.specs.Pages.{evicted, hit, is_dirty, is_pinned, block_or, with_room}
use Rattle.lru_caches.specs.declared.page_cache.PageError.TheVariants.{Memory}
use Rattle.lru_caches.proofs.EvictionCounts.{failed-counts, missed-counts}
use Rattle.std.proofs.lemmas.Result.{on_ok_weaker}
use Rattle.lru_caches.proofs.Outcomes.{none_there, some_there}
use Rattle.lru_caches.proofs.PageOrder.{used-found, used-new}
use Rattle.lru_caches.proofs.page_cache.PageCache.bring.Goals as goal

pub returns-then-promote-clause-page : goal.returns-then-promote-clause-page
returns-then-promote-clause-page g c =
    let d = g.D.BlockDevice in
    let n = c.args.n in
    let it = c.self.inside in
    let was = it.map.pairs in
    let (page, found) = some_there (lookup (nat_eq n) was) (sym c.promote.ensures.there ∙ c.if-promote.true) in (
      page.block,
      λ honest. ap (λ o. block_or d o (d.blocks it.device n)) (c.promote.ensures.same n ∙ found),
      rw (← c.self.view_is) (used-found it.capacity n it.keeps_dirty page was c.promote.new.map.pairs page found
          c.self.invariant.2 (c.promote.ensures.used page found)
          ∙ ap (λ o. (n, record { block = page.block; is_dirty = is_dirty o; is_pinned = is_pinned o })
          ∷ with_room it.capacity it.keeps_dirty (without (nat_eq n) was)) (sym found)),
    )

pub returns-clause-page : goal.returns-clause-page
returns-clause-page g c =
    let n = c.args.n in
    let it = c.self.inside in
    let was = it.map.pairs in
    let stays = c.promote.ensures.stays c.if-promote.false in
    let none = none_there (lookup (nat_eq n) was) (sym c.promote.ensures.there ∙ c.if-promote.false) in
    let room = c.in_ok-gone.ensures.room ∙ ap (with_room it.capacity it.keeps_dirty) stays in
    on_ok_weaker c.load.result (λ (block, shows, is). (
      block,
      shows,
      rw (← c.self.view_is) (used-new it.capacity n it.keeps_dirty _ was c.load.new.map.pairs none
          (is ∙ ap (λ l. (n, record { block = block; is_dirty = false; is_pinned = false }) ∷ l) room)
          ∙ ap (λ o. (n, record { block = block; is_dirty = is_dirty o; is_pinned = is_pinned o })
          ∷ with_room it.capacity it.keeps_dirty (without (nat_eq n) was)) (sym none)),
    )) c.load.ensures.page

pub returns-clause-uses : goal.returns-clause-uses
returns-clause-uses g c =
    let it = c.self.inside in
    let stays = c.promote.ensures.stays c.if-promote.false in
    let none = none_there (lookup (nat_eq c.args.n) it.map.pairs) (sym c.promote.ensures.there ∙ c.if-promote.false) in
    let room = c.in_ok-gone.ensures.room ∙ ap (with_room it.capacity it.keeps_dirty) stays in
    let same = c.promote.ensures.counts ∙ ap (λ b. cond b (hit it.counts) it.counts) c.if-promote.false in
    record {
      crash = search rules;
      unwritten = search rules;
      untouched = search rules;
      serves = search rules;
      cause = search rules;
      left = rw (← c.self.view_is) (failed-counts Memory c.load.result it.map.pairs c.promote.new.map.pairs
          (evicted c.in_ok-gone.gone c.promote.new.map.pairs) (with_room it.capacity it.keeps_dirty it.map.pairs)
          c.load.new.map.pairs it.counts c.promote.new.counts c.load.new.counts stays same room c.load.ensures.left);
      full = search rules;
      capacity = search rules;
      mode = search rules;
      counted = rw (← c.self.view_is) (missed-counts Memory c.load.result it.map.pairs c.promote.new.map.pairs
          (evicted c.in_ok-gone.gone c.promote.new.map.pairs) (with_room it.capacity it.keeps_dirty it.map.pairs)
          c.load.new.map.pairs it.counts c.promote.new.counts c.load.new.counts stays same room
          (lookup (nat_eq c.args.n) it.map.pairs) none c.load.ensures.counted);
    }
