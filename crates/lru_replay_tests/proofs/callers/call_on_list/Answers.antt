use Rattle.std.proofs.Common.{refl}
use Rattle.lru_replay.specs.Replies.{all_said}
use Rattle.lru_replay_tests.proofs.callers.call_on_list.Goals as goal

pub returns : goal.returns
returns g c =
    let old = c.args.map.now in let new = c.run_calls.new.map in let calls = c.args.calls.items in
    let run = c.in_ok-answers.ensures.run in
    let law = c.granted_calls_are_exact.ensures in
    let reached = law.reached old new calls (all_said c.in_ok-answers.answers.items) c.requires.reached
    c.len-len.ensures.map run in
    law.exact old new calls (all_said c.in_ok-answers.answers.items) (λ s bytes. (refl, refl)) reached.0 reached.1
