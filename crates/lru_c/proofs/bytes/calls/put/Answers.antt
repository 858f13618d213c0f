use Rattle.std.proofs.Common.{◌≡◌, List, ℕ, rules, refl, ap, ◌∙◌, subst, arith, true, false, inl, inr, Ok}
use Rattle.std.proofs.Common.{is_some, length, option_map}
use Rattle.std.specs.Map.{lookup}
use Rattle.std.specs.Str.{bytes_eq}
use Rattle.lru_limits.specs.Budget.{budget_terms}
use Rattle.lru_model.specs.Inserts.{IsOutOfMemory}
use Rattle.lru_model.proofs.CallerLemmas.{lookup-entry, inserted-found, offers_of-keeps}
use Rattle.lru_c.specs.Bytes.{Bytes, BytesMap, IsWithinBudget, FindsMemory, must_evict, same_bytes, hash_of_bytes}
use Rattle.lru_c.specs.Bytes.{bytes_rules, bytes_offers}
use Rattle.lru_c.specs.Bytes.Puts.{too_heavy, inserted}
use Rattle.lru_c.proofs.RoomyPuts.{LeavesOthers, put_in_room, removed_others}
use Rattle.lru_c.proofs.StoredBytes.{long_key_absent, removed_absent, inserted_found, rejected_absent}
use Rattle.lru_c.proofs.WithinBudget.{weighs}
use Rattle.lru_c.proofs.bytes.calls.put.Goals as goal

pub returns-then-key-limit-clause-rejected : goal.returns-then-key-limit-clause-rejected
returns-then-key-limit-clause-rejected c = λ _ within.
    long_key_absent c.args.key.now c.args.map.now within (search rules) (search rules)

pub returns-then-weight_of-limit-clause-puts : goal.returns-then-weight_of-limit-clause-puts
returns-then-weight_of-limit-clause-puts c = too_heavy (search rules) refl c.remove.result c.remove.ensures.step

pub returns-then-weight_of-limit-clause-rejected : goal.returns-then-weight_of-limit-clause-rejected
returns-then-weight_of-limit-clause-rejected c = λ _ _.
    removed_absent c.args.key.now c.args.map.now c.remove.new.self c.remove.result c.len-len.ensures.map
    c.remove.ensures.step

no_lack : {k v : Bytes} {ready new : BytesMap} (key : List ℕ) → k.items ≡ key → FindsMemory key ready
    → IsOutOfMemory bytes_rules bytes_offers same_bytes hash_of_bytes k v ready new → ⊥
no_lack {k} {v} {ready} {new} key is finds (new_key, inl out_of_memory) = out_of_memory.0
no_lack {k} {v} {ready} {new} key is finds (new_key, inr short) =
    let absent = ap is_some (lookup-entry (same_bytes k) ready.pairs ∙ ap (option_map (λ p. p.1)) new_key) in
    let some_room = finds (subst (λ bytes. is_some (lookup (λ (y : Bytes). bytes_eq bytes y.items) ready.pairs) ≡ false)
    is absent) in
    omega (arith, some_room, short.no_growth_left)

pub unreachable-requires : goal.unreachable-requires
unreachable-requires c =
    no_lack c.args.key.now (search rules) (c.get_ready_for.ensures.finds (search rules)) c.in-Err.ensures.ends.out_of_memory

pub returns-in-Ok-true-clause-puts : goal.returns-in-Ok-true-clause-puts
returns-in-Ok-true-clause-puts c =
    inserted (search rules) c.get_ready_for.new.map (c.get_ready_for.ensures.ready (search rules)) c.in-Ok.own_key
    c.in-Ok-from_slice.own_value (search rules) (search rules) true refl
    (rw (c.in-Ok-true.is ∙ ap Ok c.in-Ok-true.field-0-test) at c.insert.ensures.step)

pub returns-in-Ok-false-clause-puts : goal.returns-in-Ok-false-clause-puts
returns-in-Ok-false-clause-puts c =
    inserted (search rules) c.get_ready_for.new.map (c.get_ready_for.ensures.ready (search rules)) c.in-Ok.own_key
    c.in-Ok-from_slice.own_value (search rules) (search rules) false refl
    (rw (c.in-Ok-false.is ∙ ap Ok c.in-Ok-false.field-0-test) at c.insert.ensures.step)

pub returns-in-Ok-true-clause-stored : goal.returns-in-Ok-true-clause-stored
returns-in-Ok-true-clause-stored c = λ _. inserted_found c.args.key.now c.args.value.now c.in-Ok.own_key
    c.in-Ok-from_slice.own_value c.insert.new.self (search rules) (search rules)
    (inserted-found (offers_of-keeps (budget_terms weighs)) bytes_rules same_bytes c.in-Ok.own_key
    c.get_ready_for.new.map c.insert.new.self c.insert.result (c.in-Ok-true.is ∙ ap Ok c.in-Ok-true.field-0-test)
    c.insert.ensures.ends.says c.insert.ensures.ends.stores)

pub returns-in-Ok-false-clause-rejected : goal.returns-in-Ok-false-clause-rejected
returns-in-Ok-false-clause-rejected c = λ _ _. rejected_absent c.args.key.now c.in-Ok.own_key c.insert.new.self
    (search rules) (rw (c.in-Ok-false.is ∙ ap Ok c.in-Ok-false.field-0-test) at c.insert.ensures.ends.says)

leaves_others : (c : goal.In-Ok-true) → IsWithinBudget c.args.map.now
    → must_evict c.args.key.now (length c.args.value.now) c.args.map.now ≡ false
    → LeavesOthers c.args.key.now c.args.value.now c.args.map.now c.insert.new.self
leaves_others c within roomy =
    let k = c.in-Ok.own_key in
    let v = c.in-Ok-from_slice.own_value in
    put_in_room k v c.args.map.now c.get_ready_for.new.map c.insert.new.self c.insert.result within (search rules)
    (λ some absent accepts. c.inserts_with_room_are_exact.ensures.added k v (k, v) c.get_ready_for.new.map
    c.insert.result c.insert.new.self some absent accepts c.insert.ensures.step) c.insert.ensures.step c.args.key.now
    c.args.value.now (search rules) (search rules) roomy (search rules) (c.get_ready_for.ensures.ready (search rules))
    (c.get_ready_for.ensures.finds (search rules))

pub returns-in-Ok-true-clause-in_room : goal.returns-in-Ok-true-clause-in_room
returns-in-Ok-true-clause-in_room c = λ _ within roomy. (leaves_others c within roomy).in_room

pub returns-in-Ok-true-clause-others : goal.returns-in-Ok-true-clause-others
returns-in-Ok-true-clause-others c = λ within roomy. (leaves_others c within roomy).others

pub returns-in-Ok-false-clause-others : goal.returns-in-Ok-false-clause-others
returns-in-Ok-false-clause-others c = λ within roomy.
    let k = c.in-Ok.own_key in
    let v = c.in-Ok-from_slice.own_value in
    (put_in_room k v c.args.map.now c.get_ready_for.new.map c.insert.new.self c.insert.result within (search rules)
    (λ some absent accepts. c.inserts_with_room_are_exact.ensures.added k v (k, v) c.get_ready_for.new.map
    c.insert.result c.insert.new.self some absent accepts c.insert.ensures.step) c.insert.ensures.step c.args.key.now
    c.args.value.now (search rules) (search rules) roomy (search rules) (c.get_ready_for.ensures.ready (search rules))
    (c.get_ready_for.ensures.finds (search rules))).others

pub returns-then-weight_of-limit-clause-others : goal.returns-then-weight_of-limit-clause-others
returns-then-weight_of-limit-clause-others c = λ _ _. removed_others c.args.key.now c.args.map.now c.remove.new.self
    c.remove.result c.len-len.ensures.map c.remove.ensures.step
