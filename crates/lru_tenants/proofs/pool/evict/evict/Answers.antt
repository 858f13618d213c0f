use Rattle.std.proofs.Common.{rules, ◌≡◌, ◌+◌, ◌<◌, Some, sym, ap, ◌∙◌, subst, nat_eq, length, sum_by}
use Rattle.std.proofs.lemmas.Bool.{eq-eqb, true≢false}
use Rattle.std.specs.Prelude.{unwrap_or}
use Rattle.std.specs.List.{All}
use Rattle.std.specs.Map.{values_of}
use Rattle.std.specs.Option.{option_copied_mut}
use Rattle.lru_model.proofs.Theorems.KeySearches.{given-passes, none-fails}
use Rattle.lru_tenants.proofs.Changes.{found-all}
use Rattle.lru_caches.proofs.Outcomes.{on_some}
use Rattle.lru_tenants.proofs.PoolEvict.{is-above, evicted, evict-frees, evict-fewer, evict-shares}
use Rattle.lru_tenants.proofs.PoolEvict.{evict-each, given-found}
use Rattle.lru_tenants.proofs.Pools.{some-above}
use Rattle.lru_tenants.specs.Cache.{IsTenant}
use Rattle.lru_tenants.specs.Pool.{excess, total_cost, total_share, IsPart, Evicts}
use Rattle.lru_tenants.proofs.pool.evict.evict.Goals as goal

pub returns-in_err-own : goal.returns-in_err-own
returns-in_err-own g c =
    let most = c.furthest-most.result.0 in
    let (pair, there, far, hashed) = c.furthest-most.ensures.there
    (some-above g.L.Summing.account c.args.tenants.now.pairs most c.furthest-most.ensures.most c.requires.above) in
    absurd (true≢false (sym (eq-eqb (excess g.L.Summing.account pair.1) most far)
    ∙ none-fails (λ p. nat_eq (excess g.L.Summing.account p.1) most) (λ k v r h called. search rules)
    c.in_err-own.ensures.none pair there hashed))

pub drop_oldest-requires-clause-above : goal.drop_oldest-requires-clause-above
drop_oldest-requires-clause-above g c =
    let own = c.in_ok-own.own.now in let most = c.furthest-most.result.0 in
    let (pair, given, is, left) = on_some _ _ c.in_ok-own.was (c.peek_by_hash_mut.follows.holds own) in
    let same : own ≡ pair.1 = ap (λ o. unwrap_or o own) (sym (ap option_copied_mut c.in_ok-own.was) ∙ is) in
    is-above g.L.Summing.account g.N.PartialEq.eq c.args.tenants.now.pairs most c.furthest-most.ensures.most c.requires.above pair own
    (given-found g.met.N.Eq.laws c.len-len.ensures.map.distinct pair given) same
    (given-passes (λ p. nat_eq (excess g.L.Summing.account p.1) most) (λ k v r h called. search rules) pair given)

pub drop_oldest-requires-clause-tenant : goal.drop_oldest-requires-clause-tenant
drop_oldest-requires-clause-tenant g c =
    let own = c.in_ok-own.own.now in
    let (pair, given, is, left) = on_some _ _ c.in_ok-own.was (c.peek_by_hash_mut.follows.holds own) in
    let same : own ≡ pair.1 = ap (λ o. unwrap_or o own) (sym (ap option_copied_mut c.in_ok-own.was) ∙ is) in
    found-all (λ own. IsTenant g.K.PartialEq.eq g.L.Summing.cost_of g.L.Summing.account g.L.Budgeted.budget_of own.1)
    (g.N.PartialEq.eq pair.0) c.args.tenants.now.pairs own
    (given-found g.met.N.Eq.laws c.len-len.ensures.map.distinct pair given ∙ ap Some (sym same)) c.requires.each

pub returns : goal.returns
returns g c =
    let own = c.in_ok-own.own.now in let next = c.drop_oldest.new.own in
    let most = c.furthest-most.result.0 in let old = c.args.tenants.now.pairs in
    let (pair, given, is, left) = on_some _ _ c.in_ok-own.was (c.peek_by_hash_mut.follows.holds next) in
    let same : own ≡ pair.1 = ap (λ o. unwrap_or o own) (sym (ap option_copied_mut c.in_ok-own.was) ∙ is) in
    let there = given-found g.met.N.Eq.laws c.len-len.ensures.map.distinct pair given in
    let passes = given-passes (λ p. nat_eq (excess g.L.Summing.account p.1) most) (λ k v r h called. search rules)
    pair given in
    let far = c.furthest-most.ensures.most in
    let high = c.requires.above in
    let pops = c.drop_oldest.ensures.pops in
    let account = g.L.Summing.account in let eq = g.N.PartialEq.eq in
    let now = sym (ap (λ st. st.pairs) left) in
    let (freed, answer, less) = c.drop_oldest.ensures.freed in
    record {
      evicts = subst (Evicts g.L.Limiter.rules g.L.Summing.account g.N.PartialEq.eq old) now
          (evicted account eq old most far high pair own there same passes next pops);
      freed = (
        freed,
        answer,
        subst (λ ps. total_cost g.L.Summing.account ps + freed ≡ total_cost g.L.Summing.account old) now
            (evict-frees account eq old most far high pair own there same passes next pops freed less),
      );
      fewer = subst (λ ps. sum_by (λ own. length own.1.pairs) (values_of ps)
          < sum_by (λ own. length own.1.pairs) (values_of old)) now
          (evict-fewer account eq old most far high pair own there same passes next pops c.drop_oldest.ensures.fewer);
      shares = subst (λ ps. total_share ps ≡ total_share old) now
          (evict-shares account eq old most far high pair own there same passes next pops);
      each = λ limit all. subst (λ ps. All (IsPart g.L.Summing.account g.K.PartialEq.eq g.L.Summing.cost_of
          g.L.Budgeted.budget_of limit) (values_of ps)) now
          (evict-each account eq old most far high pair own there same passes next pops c.drop_oldest.ensures.tenant
          c.drop_oldest.ensures.budget limit all);
      hasher = ap (λ st. st.hasher) left;
    }
