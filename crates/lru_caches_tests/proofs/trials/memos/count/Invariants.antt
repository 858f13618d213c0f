use Rattle.std.proofs.Common.{◌≡◌, nat_eq}
use Rattle.std.specs.Fn.{FnReturnsAt}
use Rattle.lru_caches.specs.Answers.{AreAnswers, loads}
use Rattle.lru_caches_tests.proofs.trials.memos.count.Given as goal

abbrev pub invariant-loop : goal.invariant-loop
invariant-loop g l = record {
  function : l.memo.function ≡ l.fn.memo.function;
  known : AreAnswers nat_eq (FnReturnsAt g.F.Fn l.memo.function) l.memo.map.pairs;
  source : l.loader.function ≡ l.fn.loader.function;
  loaded : AreAnswers nat_eq (loads (FnReturnsAt g.G.Fn l.loader.function)) l.loader.map.pairs;
}
