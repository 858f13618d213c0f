use Rattle.std.proofs.Common.{rules, Some, ap, ◌∙◌, subst}
use Rattle.lru_model.specs.Calls.{promoted}
use Rattle.lru_model.specs.Runs.{RunWithoutInsert, calls, gets, demotes, writes, goes_on}
use Rattle.lru_model.proofs.EveryCall.{one_step, no_step, removes_entry}
use Rattle.schnellru.specs.Found.{entry_map, entry_written}
use Rattle.schnellru_tests.proofs.every_call.find.Goals as goal

pub returns-in-Some : goal.returns-in-Some
returns-in-Some g c =
    let names = g.Q.LookupKey.names c.args.key.now in
    let found = c.in-Some.ensures.found in
    let newest = c.promote.ensures.same_entry names found in
    let oldest = c.demote.ensures.same_entry names newest in
    let write = c.get_mut.ensures in
    let promotes = c.promote.ensures.promoted names found ∙ ap (promoted names) c.in-Some.ensures.same_map in
    subst (λ st. RunWithoutInsert g.L.Limiter.rules g.S.KeyHasher.hash_of st c.args.map.now) (search rules)
    (goes_on (entry_map c.promote.new.self) (calls (gets names promotes)) c.promote.ensures.map.sized
    (goes_on (entry_map c.demote.new.self) (calls (demotes names (c.demote.ensures.demoted names newest)))
    c.demote.ensures.map.sized
    (goes_on (entry_map (entry_written c.demote.new.self c.args.value))
    (writes names c.args.value (write.written names oldest c.args.value)) (write.map c.args.value).sized
    (one_step (calls (removes_entry names (Some c.remove_entry.result)
    (c.remove_entry.ensures.step names (write.same_entry names oldest c.args.value)))) c.remove_entry.ensures.map.sized))))

pub returns-in_default : goal.returns-in_default
returns-in_default g c = no_step (rw c.in_default.is at c.find_entry.follows.holds-at-none)
