use Rattle.std.proofs.Common.{get_or, take, drop, ◌+◌, IsTrue, refl, sym, ◌∙◌, subst}
use Rattle.std.proofs.lemmas.List.{take_all, take_more, take-append-drop}
use Rattle.std.proofs.lemmas.List.Elements.{All-nil, All-get_or}
use Rattle.std.proofs.lemmas.Result.{err_from_is_err_and}
use Rattle.std.specs.List.{All}
use Rattle.lru_caches.specs.Pages.{AreWritten}
use Rattle.lru_caches.proofs.Blocks.{crash-same, crash-then, serves-same, serves-then, fault-since}
use Rattle.lru_caches.proofs.DirtyPages.{IsBack, IsDirtyAt, dirty_page, all_back, back-more, written-then}
use Rattle.lru_caches.proofs.page_cache.flush.write_each_back.Goals as goal

pub loop-n-init : goal.loop-n-init
loop-n-init g c =
    let d = g.D.BlockDevice in
    record {
      clean = c.requires.clean;
      shows = λ n. refl;
      crash = crash-same d c.args.map.now.pairs c.args.device.now;
      serves = serves-same d c.args.device.now;
      calm = refl;
      back = All-nil (IsBack d c.args.map.now.pairs c.args.device.now);
      order = refl;
    }

pub write_page-requires-clause-usable : goal.write_page-requires-clause-usable
write_page-requires-clause-usable g c = subst IsTrue (sym c.loop-n.invariant.serves.usable) c.requires.usable

pub write_page-requires-clause-there : goal.write_page-requires-clause-there
write_page-requires-clause-there g c =
    λ n page found. subst IsTrue (sym (c.loop-n.invariant.serves.numbers n)) (c.requires.there n page found)

pub loop-n-preserved : goal.loop-n-preserved
loop-n-preserved g c =
    let d = g.D.BlockDevice in
    let pages = c.args.map.now.pairs in
    let numbers = c.args.numbers.now in
    let i = c.loop-n.n-index in
    let n = get_or numbers i 0 in
    let one = take_more numbers i 0 c.loop-n-test.true in
    let dirty = dirty_page pages n (All-get_or (IsDirtyAt pages) numbers i 0 c.loop-n-test.true c.requires.dirty) in
    let h = c.loop-n.invariant in
    let first = c.args.device.now in
    let old = c.loop-n.device in
    let new = c.write_page.new.device in
    let wrote = c.write_page.ensures in
    record {
      clean = wrote.clean;
      shows = λ m. wrote.shows m ∙ h.shows m;
      crash = crash-then d pages first old new h.crash wrote.crash;
      serves = serves-then d first old new h.serves wrote.serves;
      calm = c.in_ok-write_page.ensures.calm ∙ h.calm;
      back = subst (All (IsBack d pages new)) (sym one)
          (back-more d pages (take i numbers) n dirty.0 old new dirty.1
          (c.in_ok-write_page.ensures.written dirty.0 dirty.1 dirty.2) wrote.others h.back);
      order = subst (λ l. AreWritten d l pages first new) (sym one)
          (written-then d (take i numbers) pages n dirty.0 first old new h.order dirty.1
          (wrote.gives dirty.0 dirty.1 dirty.2));
    }

pub returns-in_err-write_page : goal.returns-in_err-write_page
returns-in_err-write_page g c =
    let d = g.D.BlockDevice in
    let pages = c.args.map.now.pairs in
    let numbers = c.args.numbers.now in
    let i = c.loop-n.n-index in
    let n = get_or numbers i 0 in
    let one = take_more numbers i 0 c.loop-n-test.true in
    let dirty = dirty_page pages n (All-get_or (IsDirtyAt pages) numbers i 0 c.loop-n-test.true c.requires.dirty) in
    let h = c.loop-n.invariant in
    let first = c.args.device.now in
    let old = c.loop-n.device in
    let new = c.write_page.new.device in
    let wrote = c.write_page.ensures in
    let failed = err_from_is_err_and c.from_residual.result c.from_residual.ensures.1 in
    rw (failed.1, failed.2) (record {
      clean = wrote.clean;
      shows = λ m. wrote.shows m ∙ h.shows m;
      written = tt;
      crash = crash-then d pages first old new h.crash wrote.crash;
      serves = serves-then d first old new h.serves wrote.serves;
      cause = fault-since d first old new _ h.calm c.in_err-write_page.ensures.cause;
      calm = tt;
      order = tt;
      cut_off = (
        take (i + 1) numbers,
        drop (i + 1) numbers,
        sym (take-append-drop (i + 1) numbers),
        subst (λ l. AreWritten d l pages first new) (sym one)
            (written-then d (take i numbers) pages n dirty.0 first old new h.order dirty.1
            (wrote.gives dirty.0 dirty.1 dirty.2)),
      );
    })

pub returns : goal.returns
returns g c =
    let d = g.D.BlockDevice in
    let pages = c.args.map.now.pairs in
    let numbers = c.args.numbers.now in
    let h = c.loop-n.invariant in
    let all = take_all c.loop-n.n-index numbers c.loop-n-test.false in
    record {
      clean = h.clean;
      shows = h.shows;
      written = λ honest. all_back d pages numbers c.args.device.now c.loop-n.device c.requires.all
          (subst (All (IsBack d pages c.loop-n.device)) all h.back)
          (subst IsTrue (sym h.serves.usable) c.requires.usable, honest) h.clean h.shows;
      crash = h.crash;
      serves = h.serves;
      cause = tt;
      calm = h.calm;
      order = subst (λ l. AreWritten d l pages c.args.device.now c.loop-n.device) all h.order;
      cut_off = tt;
    }
