use Rattle.std.proofs.Common.{◌≡◌, [], ◌∷◌, ◌++◌, length, arith, sym, ap, ◌∙◌}
use Rattle.std.proofs.lemmas.List.{with_items_is}
use Rattle.lru_trace.specs.Names.{number_in}
use Rattle.lru_trace.proofs.NamesChains.{linked_later, named_more}
use Rattle.lru_trace.proofs.names.Names.add.Goals.{After-push_reserved}
use Rattle.lru_trace.proofs.names.Names.add.Goals as goal

texts_are : (c : After-push_reserved) → c.self-2.inside.texts ≡ c.args.self.now
texts_are c = c.self-2.view_is ∙ c.grow_if_full.ensures

number_is : (c : After-push_reserved) → c.len-number.result ≡ length c.self-2.inside.texts
number_is c = c.len-number.ensures ∙ ap length (c.self.view_is ∙ sym (texts_are c))

pub add_to_chain-requires-clause-linked : goal.add_to_chain-requires-clause-linked
add_to_chain-requires-clause-linked c =
    linked_later c.self-2.invariant c.as_bytes.result.now c.in_ok-push.ensures.ok
    (number_is (goal.at.add_to_chain-requires-clause-linked c).After-push_reserved) c.deref_mut.ensures.value
    (c.deref_mut-2.ensures.value ∙ c.push_reserved.ensures.items ∙ ap (λ l. l ++ 0 ∷ []) c.reserve.ensures.items)

pub invariant_of-self-2 : goal.invariant_of-self-2
invariant_of-self-2 c =
    let before = (goal.at.invariant_of-self-2 c).After-push_reserved in
    let newest = with_items_is c.self-2.inside.newest c.add_to_chain.new.newest
    (omega (arith, c.add_to_chain.auto.newest, c.deref_mut.ensures.len)) in
    let older = with_items_is c.push_reserved.new.self c.add_to_chain.new.older
    (omega (arith, c.add_to_chain.auto.older, c.deref_mut-2.ensures.len)) in
    rw (newest, older) (named_more c.self-2.invariant c.as_bytes.result.now c.in_ok-push.ensures.ok
    ((λ i. number_in (texts_are before i) (c.as_bytes.ensures.value i)) ∙ c.requires) (number_is before)
    (omega (arith, c.if-number.false)) c.add_to_chain.ensures)
