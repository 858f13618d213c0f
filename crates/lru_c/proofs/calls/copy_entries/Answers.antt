use Rattle.std.proofs.Common.{rules, subst}
use Rattle.lru_c.proofs.FilledSlots.{FillsSoFar, next_slot, all_slots}
use Rattle.lru_c.proofs.calls.copy_entries.Goals as goal

pub loop-count-preserved : goal.loop-count-preserved
loop-count-preserved c =
    let pairs = c.args.map.now.pairs in let slots = c.args.entries.now in let n = c.loop-count.count in
    next_slot pairs slots n (c.in-Some.key.now, c.in-Some.value.now) c.next.new.self c.loop-count.entries
    (subst (λ rest. FillsSoFar pairs slots n rest c.loop-count.entries) c.in-Some.ensures.steps c.loop-count.invariant)
    (search rules)

pub returns-clause-filled : goal.returns-clause-filled
returns-clause-filled c = (all_slots c.args.map.now.pairs c.args.entries.now c.loop-count.count c.loop-count.rest
    c.loop-count.entries c.loop-count.invariant (search rules)).0

pub returns-clause-count : goal.returns-clause-count
returns-clause-count c = (all_slots c.args.map.now.pairs c.args.entries.now c.loop-count.count c.loop-count.rest
    c.loop-count.entries c.loop-count.invariant (search rules)).1
