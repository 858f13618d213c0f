use Rattle.std.proofs.Common.{arith, sym}
use Rattle.lru_trace.proofs.Levels.{at_level}
use Rattle.lru_trace.proofs.svg.level_of.Goals as goal

pub returns-clause-value : goal.returns-clause-value
returns-clause-value c =
    let is = c.ilog2.ensures in
    sym (at_level 63 c.args.size c.ilog2.result (omega (arith, is.bound)) is.power_le is.next_power_gt)
