use Rattle.std.proofs.Common.{arith}
use Rattle.lru_trace.proofs.NamesTexts.{bounds}
use Rattle.lru_trace.proofs.names.text_of.Goals as goal

pub slice_bounds-result-count : goal.slice_bounds-result-count
slice_bounds-result-count c = (bounds c.args.ends.now c.args.bytes.now c.requires.are c.requires.within c.start_of.ensures).0

pub slice_bounds-result-start : goal.slice_bounds-result-start
slice_bounds-result-start c =
    let is = bounds c.args.ends.now c.args.bytes.now c.requires.are c.requires.within c.start_of.ensures in
    omega (arith, is.0, is.1)

pub slice_bounds-result-end : goal.slice_bounds-result-end
slice_bounds-result-end c =
    let is = bounds c.args.ends.now c.args.bytes.now c.requires.are c.requires.within c.start_of.ensures in
    omega (arith, is.0, is.1)
