use Rattle.std.proofs.Common.{length, refl, arith, ap, ◌∙◌}
use Rattle.std.proofs.lemmas.List.{with_items_is}
use Rattle.lru_trace.proofs.NamesChains.{none_linked, all_linked}
use Rattle.lru_trace.proofs.names.Names.grow_if_full.Goals as goal

pub loop-number-init : goal.loop-number-init
loop-number-init c = (
  refl,
  none_linked c.self.invariant (c.len-chains.ensures ∙ c.self.inside.newest.ok.0)
      (c.in_ok-newest.ensures.items_if_clones_equal (λ y e. e)),
)

pub add_to_chain-requires-clause-within : goal.add_to_chain-requires-clause-within
add_to_chain-requires-clause-within c =
    omega (arith, c.loop-number-test.true, ap length c.loop-number.invariant.0, c.len-number-end.ensures)

pub add_to_chain-requires-clause-linked : goal.add_to_chain-requires-clause-linked
add_to_chain-requires-clause-linked c =
    rw (c.deref_mut.ensures.value, c.deref_mut-in-loop-number.ensures.value) c.loop-number.invariant.1

pub loop-number-preserved : goal.loop-number-preserved
loop-number-preserved c =
    let s = c.loop-number in
    let newest = with_items_is s.newest c.add_to_chain.new.newest
    (omega (arith, c.add_to_chain.auto.newest, c.deref_mut.ensures.len)) in
    let older = with_items_is s.self-inside.older c.add_to_chain.new.older
    (omega (arith, c.add_to_chain.auto.older, c.deref_mut-in-loop-number.ensures.len)) in
    (s.invariant.0, rw (newest, older) c.add_to_chain.ensures)

pub invariant_of-self : goal.invariant_of-self
invariant_of-self c =
    let s = c.loop-number in
    all_linked c.self.invariant s.invariant.0
    (omega (arith, c.loop-number-test.false, s.auto.number-end, c.len-number-end.ensures)) s.invariant.1

pub returns : goal.returns
returns c = c.loop-number.invariant.0 ∙ c.self.view_is
