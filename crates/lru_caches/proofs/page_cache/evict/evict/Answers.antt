use Rattle.std.proofs.Common.{◌≤◌, nat_eq, length, IsTrue, sym, ap, ◌∙◌, subst}
use Rattle.std.specs.Map.{lookup}
use Rattle.lru_model.proofs.CallerLemmas.{length-without}
use Rattle.lru_caches.specs.Pages.{AreClean, AreThere, block_at, evicted, goes_dirty}
use Rattle.lru_caches.proofs.Blocks.{is_back, there-after}
use Rattle.lru_caches.proofs.Evictions.{absent-gone, clean-gone, there-gone, shown-gone}
use Rattle.lru_caches.proofs.page_cache.evict.evict.Goals as goal

pub returns : goal.returns
returns g c =
    let d = g.D.BlockDevice in
    let pages = c.args.map.now.pairs in
    let n = c.in-Some.n in
    let distinct = c.len.ensures.map.distinct in
    let wrote = c.write_page.ensures in
    let old = c.args.device.now in
    let new = c.write_page.new.device in
    let left = ap (λ st. st.pairs) c.remove.ensures.step.state.is in
    let usable : IsTrue (d.is_usable new) = subst IsTrue (sym wrote.serves.usable) c.requires.usable in
    record {
      clean = subst (λ l. AreClean d l new) (sym left) (clean-gone pages distinct n d new wrote.clean);
      there = subst (λ l. AreThere d l new) (sym left) (there-gone pages distinct n d new
          (there-after d pages old new wrote.serves.numbers c.requires.there));
      shows = λ honest m. ap (λ l. block_at d l new m) left
          ∙ shown-gone pages distinct n d new
          (λ page found. is_back d new n page (c.in_ok-write_page.ensures.written page found)
          (wrote.clean (usable, honest) n page found)) m ∙ wrote.shows m;
      crash = wrote.crash;
      untouched = λ no. wrote.untouched (sym (ap (λ o. goes_dirty o pages) c.in-Some.is) ∙ no);
      serves = wrote.serves;
      cause = tt;
      kept = tt;
      absent = λ m none. ap (lookup (nat_eq m)) left ∙ absent-gone pages distinct n m none;
      evicted = left ∙ sym (ap (λ o. evicted o pages) c.in-Some.is);
      hasher = ap (λ st. st.hasher) c.remove.ensures.step.state.is;
      no_more = subst (λ l. length l ≤ length pages) (sym left) (length-without (nat_eq n) pages);
    }
