use Rattle.std.proofs.Common.{◌≡◌, ◌≤◌, ◌+◌, ◌++◌, length}
use Rattle.std.specs.Prelude.{vec_capacity, vec_len}
use Rattle.lru_caches.specs.Pages.{dirty_numbers}
use Rattle.lru_caches.proofs.page_cache.flush.collect_dirty.Given as goal

abbrev pub invariant-loop-n : goal.invariant-loop-n
invariant-loop-n g l = record {
  all : l.numbers.items ++ dirty_numbers l.n-iterator ≡ dirty_numbers l.fn.map.pairs;
  reserved : vec_len l.numbers + length l.n-iterator ≤ vec_capacity l.numbers;
  keeps : vec_capacity l.numbers ≡ vec_capacity l.fn.numbers;
}
