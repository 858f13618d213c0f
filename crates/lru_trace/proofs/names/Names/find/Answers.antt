use Rattle.std.proofs.Common.{arith, ◌∙◌}
use Rattle.lru_trace.specs.Names.{number_in}
use Rattle.lru_trace.proofs.NamesChains.{walk_begins, walk_goes_on, found, not_found}
use Rattle.lru_trace.proofs.names.Names.find.Goals as goal

pub loop-link-init : goal.loop-link-init
loop-link-init c =
    walk_begins c.self.invariant c.as_bytes-text.result.now (c.len.ensures ∙ c.self.inside.newest.ok.0)
    c.chain_of.ensures.is c.chain_of.ensures.within c.index.ensures

pub get-requires : goal.get-requires
get-requires c = omega (arith, c.loop-link.invariant.within, c.loop-link-test.true)

pub index-requires-in-loop-link : goal.index-requires-in-loop-link
index-requires-in-loop-link c = let v = c.self.inside in
    omega (arith, c.loop-link.invariant.within, c.loop-link-test.true, c.self.invariant.linked.size, v.older.ok.0)

pub loop-link-preserved : goal.loop-link-preserved
loop-link-preserved c =
    (walk_goes_on c.self.invariant c.as_bytes-text.result.now c.loop-link.invariant c.loop-link-test.true c.get.ensures
    c.if-eq.ensures c.index-in-loop-link.ensures).0

pub loop-link-smaller : goal.loop-link-smaller
loop-link-smaller c =
    (walk_goes_on c.self.invariant c.as_bytes-text.result.now c.loop-link.invariant c.loop-link-test.true c.get.ensures
    c.if-eq.ensures c.index-in-loop-link.ensures).1

pub returns-then-eq : goal.returns-then-eq
returns-then-eq c =
    found c.self.invariant c.as_bytes-text.result.now _ c.loop-link.invariant c.loop-link-test.true c.get.ensures
    c.if-eq.ensures (λ i. number_in (c.self.view_is i) (c.as_bytes-text.ensures.value i))

pub returns : goal.returns
returns c =
    not_found c.self.invariant c.as_bytes-text.result.now _ c.loop-link.invariant c.loop-link-test.false
    (λ i. number_in (c.self.view_is i) (c.as_bytes-text.ensures.value i))
