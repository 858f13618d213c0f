use Rattle.std.proofs.lemmas.Simd.{get_or-chunk}
use Rattle.group_table.proofs.group.Group.load.Goals as goal

pub returns : goal.returns
returns c lane p = get_or-chunk c.args.at 16 c.args.bytes.now lane 0 p
