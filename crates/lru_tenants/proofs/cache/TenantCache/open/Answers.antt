use Rattle.std.proofs.Common.{rules, ◌+◌, arith, sym, refl, ◌∙◌, ap, subst}
use Rattle.std.proofs.lemmas.List.Sums.{sum_by-cons}
use Rattle.std.specs.Map.{values_of}
use denote.Param.{copied, param}
use Rattle.ordered_table.specs.EntrySize.{entry_size}
use Rattle.lru_caches.proofs.Outcomes.{none_there}
use Rattle.lru_model.specs.Lists.{lookup}
use Rattle.lru_tenants.specs.Cache.{fresh}
use Rattle.lru_tenants.specs.Inside.{Holds}
use Rattle.lru_tenants.proofs.Changes.{open-again, opens-over, opens-unmade, opens-made}
use Rattle.lru_tenants.proofs.Kept.{kept-opened, sum-fits, over-more}
use Rattle.lru_tenants.proofs.cache.TenantCache.open.Goals as goal

pub overflow_add-sum : goal.overflow_add-sum
overflow_add-sum g c = omega (
  arith,
  sum-fits c.self.inside.tenants.pairs c.self.invariant (omega (arith, c.len-len.ensures.len)),
)

pub returns-then-contains-clause-opens : goal.returns-then-contains-clause-opens
returns-then-contains-clause-opens g c = rw (← c.self.view_is) (
  refl,
  open-again g.met.N.Eq.laws c.args.name _ c.self.inside.tenants.pairs _ (sym c.contains.ensures ∙ c.if-contains.true),
)

pub returns-then-is_above-clause-opens : goal.returns-then-is_above-clause-opens
returns-then-is_above-clause-opens g c =
    let tenants = c.self.inside.tenants.pairs in let eq = g.N.PartialEq.eq c.args.name in
    let absent = none_there (lookup eq tenants) (sym c.contains.ensures ∙ c.if-contains.false) in
    rw (← c.self.view_is) (
      refl,
      opens-over g.met.N.Eq.laws c.args.name _ tenants absent (over-more tenants c.self.invariant eq absent
          c.self.inside.hasher c.args.budget (sym c.is_above.ensures ∙ c.if-is_above.true)),
    )

pub invariant_of-self-2 : goal.invariant_of-self-2
invariant_of-self-2 g c = subst (λ entries. Holds g.K.PartialEq.eq g.L.Summing.cost_of g.L.Summing.account
    g.L.Budgeted.budget_of entries (c.self.inside.budgets + c.args.budget) c.self.inside.total_limit)
    (sym c.in-Ok.ensures.ends.added) (kept-opened c.self.inside.tenants.pairs c.self.invariant c.args.name
    c.fresh-map.result c.fresh-map.ensures.tenant (c.self.inside.budgets + c.args.budget)
    (ap (λ n. c.self.inside.budgets + n)
    (sym (ap (λ map. g.L.Budgeted.budget_of map.limiter) c.fresh-map.ensures.map ∙
    g.met.L.Budgeted.laws.made_budget c.args.budget))) (sym c.is_above.ensures ∙ c.if-is_above.false))

pub invariant_of-self : goal.invariant_of-self
invariant_of-self g c = rw (c.in_default.ensures.ends.keeps) c.self.invariant

pub returns-clause-tenants : goal.returns-clause-tenants
returns-clause-tenants g c = (invariant_of-self-2 g c).each

pub returns-clause-total : goal.returns-clause-total
returns-clause-total g c = rw (c.in-Ok.ensures.ends.added, ← c.self.view_is) (λ ok. omega (
  arith,
  ap (λ map. g.L.Budgeted.budget_of map.limiter) c.fresh-map.ensures.map
      ∙ g.met.L.Budgeted.laws.made_budget c.args.budget,
  sum_by-cons (λ map. g.L.Budgeted.budget_of map.limiter) c.fresh-map.result (values_of c.self.inside.tenants.pairs),
))

pub returns-clause-opens : goal.returns-clause-opens
returns-clause-opens g c =
    let tenants = c.self.inside.tenants.pairs in let eq = g.N.PartialEq.eq c.args.name in
    let absent = none_there (lookup eq tenants) (sym c.contains.ensures ∙ c.if-contains.false) in
    let is = c.fresh-map.ensures.map ∙ ap (λ k. fresh g.L.Budgeted.made (entry_size (param 1 g.row.K) (param 2 g.row.V)
    (copied 5 g.row.L-LinkType)) (g.L.LinkType.LinkType.number g.L.LinkType.LinkType.MAX) k c.args.budget)
    (sym c.self.view_is) in
    rw (c.in-Ok.ensures.ends.added, ← c.self.view_is) (
      refl,
      opens-made g.met.N.Eq.laws c.args.name _ tenants absent (over-more tenants c.self.invariant eq absent
          c.self.inside.hasher c.args.budget (sym c.is_above.ensures ∙ c.if-is_above.false)) c.fresh-map.result is,
    )

pub returns-in_default : goal.returns-in_default
returns-in_default g c =
    let tenants = c.self.inside.tenants.pairs in let eq = g.N.PartialEq.eq c.args.name in
    let absent = none_there (lookup eq tenants) (sym c.contains.ensures ∙ c.if-contains.false) in
    rw (c.in_default.ensures.ends.keeps, ← c.self.view_is) (record {
      opens = (
        refl,
        opens-unmade g.met.N.Eq.laws c.args.name _ tenants absent (over-more tenants c.self.invariant eq absent
            c.self.inside.hasher c.args.budget (sym c.is_above.ensures ∙ c.if-is_above.false)),
      );
      total = search rules;
      unchanged = refl;
      tenants = c.self.invariant.each;
    })
