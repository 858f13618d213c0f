use Rattle.std.proofs.Common.{◌≡◌, ◌^◌, ◌++◌, map, take}
use Rattle.std.specs.Prelude.{◌/◌}
use Rattle.lru_trace.proofs.traces.add_limits.Given as goal

abbrev pub invariant-loop-size : goal.invariant-loop-size
invariant-loop-size l =
    l.limits.items ≡ l.initial.limits.items ++ map (λ size. size / 2 ^ l.bits) (take l.size-index l.sizes)
