use Rattle.group_table.proofs.Masks.{lanes_under, lanes_under_none}
use Rattle.group_table.proofs.group.lanes_below.Goals as goal

pub returns-clause-some : goal.returns-clause-some
returns-clause-some c some = lanes_under c.args.mask c.ranges.mask.fits some

pub returns-clause-none : goal.returns-clause-none
returns-clause-none c none = lanes_under_none c.args.mask none
