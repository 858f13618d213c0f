use Rattle.lru_replay.proofs.ReferenceLoops.{loop_begins, loop_goes_on, loop_ends}
use Rattle.lru_replay_tests.proofs.references.read_through.Goals as goal

pub loop-text-init : goal.loop-text-init
loop-text-init g c = loop_begins c.requires.keeps

pub loop-text-preserved : goal.loop-text-preserved
loop-text-preserved g c = let call = c.in_ok-count.ensures in loop_goes_on c.in_ok-count.field-0
    c.loop-text.invariant c.loop-text-test.true c.text-item.is call.reference call.computed

pub returns : goal.returns
returns g c = let run = loop_ends c.loop-text.invariant c.loop-text-test.false in record {
  run = run;
  count = c.references_keep_the_newest.ensures.misses c.args.texts.now c.loop-text.count c.args.map.now c.loop-text.map
      c.len-len.ensures.map.distinct c.requires.keeps.within run;
}
