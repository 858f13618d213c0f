use Rattle.std.proofs.Common.{arith, ap, ◌∙◌, option_to_list}
use Rattle.lru_replay.proofs.Pops.{from_newest, one_popped}
use Rattle.lru_replay.proofs.calls.pairs.take_newest.Goals as goal

pub loop-preserved : goal.loop-preserved
loop-preserved g c =
    let h = c.loop.invariant in let popped = c.pop_newest.ensures.step in
    let next = one_popped (from_newest g.L.Limiter.rules) c.args.pairs.now.items c.args.map.now c.loop.map
    c.pop_newest.new.self c.loop.counter c.loop.pairs.items (option_to_list c.pop_newest.result) h.items
    (ap option_to_list popped.pair) h.left popped.state in record {
      items = c.add.ensures.items ∙ next.0;
      left = next.1;
      len = omega (arith, c.add.ensures.len, h.len);
      capacity = c.add.ensures.capacity ∙ h.capacity;
    }
