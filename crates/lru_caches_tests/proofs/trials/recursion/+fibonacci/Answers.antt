use Rattle.std.proofs.Common.{arith}
use Rattle.lru_caches_tests.proofs.FibonacciSteps.{small, sum_is}
use Rattle.lru_caches_tests.proofs.trials.recursion.+fibonacci.Goals as goal

pub returns-then-n-lt2 : goal.returns-then-n-lt2
returns-then-n-lt2 t c = small c.args.n (omega (arith, c.if-n-lt2.true))

pub store-requires : goal.store-requires
store-requires t c = record {
  answer = sum_is c.args.n c.fibonacci-newer.result c.fibonacci.result (omega (arith, c.if-n-lt2.false))
      c.fibonacci-newer.ensures c.fibonacci.ensures;
}

pub returns : goal.returns
returns t c =
    sum_is c.args.n c.fibonacci-newer.result c.fibonacci.result (omega (arith, c.if-n-lt2.false))
    c.fibonacci-newer.ensures c.fibonacci.ensures
