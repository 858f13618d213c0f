use Rattle.std.proofs.Common.{◌+◌, ◌∙◌, arith}
use Rattle.group_table.proofs.ControlLemmas.{back_sixteen}
use Rattle.group_table.proofs.control.sixteen_before.Goals as goal

pub returns-clause-value : goal.returns-clause-value
returns-clause-value c = c.wrap.ensures.value
    ∙ back_sixteen (c.args.last + 1) c.args.b c.requires.power (omega arith) c.ranges.b.fits
