use Rattle.std.proofs.Common.{[], inr, refl, Result, Ok, Err, OnErr, sym, subst}
use Rattle.std.proofs.lemmas.List.{append-nil}
use Rattle.std.specs.List.Sorted.{IsPermutation, IsStrictlyIncreasing}
use Rattle.lru_caches.specs.Pages.{dirty_numbers}
use Rattle.lru_caches.proofs.page_cache.flush.write_all_back.Goals as goal

on_err : {T E : Type 0} {P : Type 0} (r : Result T E) → P → OnErr r P
on_err (Ok x) p = tt
on_err (Err e) p = p

pub returns-clause-cut_off : goal.returns-clause-cut_off
returns-clause-cut_off g c =
    let numbers = c.args.numbers.now in
    on_err c.map_err.result (record {
      numbers = numbers;
      rest = [];
      all_dirty = subst (IsPermutation (dirty_numbers c.args.map.now.pairs)) (sym (append-nil numbers)) c.requires.all;
      ascending = subst IsStrictlyIncreasing (sym (append-nil numbers)) c.requires.sorted;
      written = c.write_each_back.new.device;
      writes = c.in_ok-write_each_back.ensures.order;
      ends = inr (refl, c.sync.ensures.gives);
    })
