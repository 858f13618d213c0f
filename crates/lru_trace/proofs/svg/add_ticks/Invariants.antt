use Rattle.std.proofs.Common.{◌≡◌, ◌++◌, take, flat_map}
use Rattle.lru_trace.specs.Svg.{tick_text}
use Rattle.lru_trace.proofs.svg.add_ticks.Given as goal

abbrev pub invariant-loop-power : goal.invariant-loop-power
invariant-loop-power l =
    l.svg.items ≡ l.initial.svg.items ++ flat_map (tick_text l.octaves) (take l.power-index l.powers)
