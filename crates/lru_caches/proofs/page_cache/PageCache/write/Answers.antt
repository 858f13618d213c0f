use Rattle.std.proofs.Common.{rules, cond, ◌∷◌, nat_eq, true, false, sym, ap, ◌∙◌}
use Rattle.std.specs.Map.{lookup}
use Rattle.lru_model.specs.Lists.{without}
use Rattle.lru_caches.specs.Pages.{evicted, hit, is_pinned, with_room}
use Rattle.lru_caches.specs.declared.page_cache.PageError.TheVariants.{Memory}
use Rattle.lru_caches.proofs.EvictionCounts.{failed-counts, missed-counts}
use Rattle.std.proofs.lemmas.Result.{on_ok_weaker}
use Rattle.lru_caches.proofs.Outcomes.{none_there, some_there}
use Rattle.lru_caches.proofs.PageOrder.{used-found, used-new}
use Rattle.lru_caches.proofs.page_cache.PageCache.write.Goals as goal

pub returns-then-overwrite-clause-pages : goal.returns-then-overwrite-clause-pages
returns-then-overwrite-clause-pages g c =
    let n = c.args.n in
    let it = c.self.inside in
    let was = it.map.pairs in
    let (page, found) = some_there (lookup (nat_eq n) was) (sym c.overwrite.ensures.there ∙ c.if-overwrite.true) in
    rw (← c.self.view_is) (used-found it.capacity n it.keeps_dirty _ was c.overwrite.new.map.pairs page found
    c.self.invariant.2 (c.overwrite.ensures.used c.if-overwrite.true))

pub returns-clause-pages : goal.returns-clause-pages
returns-clause-pages g c =
    let n = c.args.n in
    let it = c.self.inside in
    let was = it.map.pairs in
    let stays = c.overwrite.ensures.stays c.if-overwrite.false in
    let none = none_there (lookup (nat_eq n) was) (sym c.overwrite.ensures.there ∙ c.if-overwrite.false) in
    let room = c.in_ok-gone.ensures.room ∙ ap (with_room it.capacity it.keeps_dirty) stays in
    on_ok_weaker c.replace.result (λ is.
    rw (← c.self.view_is) (used-new it.capacity n it.keeps_dirty _ was c.replace.new.map.pairs none
    (is ∙ ap (λ l. (n, record { block = c.args.block; is_dirty = true; is_pinned = false }) ∷ l) room)
    ∙ ap (λ o. (n, record { block = c.args.block; is_dirty = true; is_pinned = is_pinned o })
    ∷ with_room it.capacity it.keeps_dirty (without (nat_eq n) was)) (sym none)))
    c.replace.ensures.stored

pub returns-clause-uses : goal.returns-clause-uses
returns-clause-uses g c =
    let it = c.self.inside in
    let stays = c.overwrite.ensures.stays c.if-overwrite.false in
    let none = none_there (lookup (nat_eq c.args.n) it.map.pairs) (sym c.overwrite.ensures.there ∙ c.if-overwrite.false) in
    let room = c.in_ok-gone.ensures.room ∙ ap (with_room it.capacity it.keeps_dirty) stays in
    let same = c.overwrite.ensures.counts ∙ ap (λ b. cond b (hit it.counts) it.counts) c.if-overwrite.false in
    record {
      crash = search rules;
      unwritten = search rules;
      untouched = search rules;
      serves = search rules;
      cause = search rules;
      left = rw (← c.self.view_is) (failed-counts Memory c.replace.result it.map.pairs c.overwrite.new.map.pairs
          (evicted c.in_ok-gone.gone c.overwrite.new.map.pairs) (with_room it.capacity it.keeps_dirty it.map.pairs)
          c.replace.new.map.pairs it.counts c.overwrite.new.counts c.replace.new.counts stays same room c.replace.ensures.left);
      full = search rules;
      capacity = search rules;
      mode = search rules;
      counted = rw (← c.self.view_is) (missed-counts Memory c.replace.result it.map.pairs c.overwrite.new.map.pairs
          (evicted c.in_ok-gone.gone c.overwrite.new.map.pairs) (with_room it.capacity it.keeps_dirty it.map.pairs)
          c.replace.new.map.pairs it.counts c.overwrite.new.counts c.replace.new.counts stays same room
          (lookup (nat_eq c.args.n) it.map.pairs) none c.replace.ensures.counted);
    }
