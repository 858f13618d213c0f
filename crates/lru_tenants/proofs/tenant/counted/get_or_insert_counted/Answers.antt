use Rattle.std.proofs.Common.{◌≡◌, length, sym, subst, ap, ◌∙◌}
use Rattle.lru_limits.specs.Admissions.{offers_of}
use Rattle.lru_model.specs.Inserts.{Insert}
use Rattle.lru_model.specs.Lists.{without}
use Rattle.lru_model.proofs.CallerLemmas.{no_pair, promoted-absent, without_none}
use Rattle.lru_tenants.specs.Counting.{counting_rules, counting_terms, CountsInsert}
use Rattle.lru_tenants.proofs.CountedGets.{absent-newest}
use Rattle.lru_tenants.proofs.CountedGetOrPuts.{counts-got, counts-inserted}
use Rattle.lru_tenants.proofs.Gets.{promoted-tenant}
use Rattle.lru_tenants.proofs.tenant.counted.get_or_insert_counted.Goals as goal

pub count_look_up-requires : goal.count_look_up-requires
count_look_up-requires g c =
    promoted-tenant (record { writes = g.met.K.Hash.respects_eq; one = g.met.K.Eq.laws.congr }) c.args.key
    g.L.Summing.cost_of (λ s. g.L.Summing.account s.limiter) (λ s. g.L.Budgeted.budget_of s.limiter)
    c.args.map.now c.promote.new.self c.promote.ensures.promoted c.requires.tenant

pub returns-then-promote-clause-step : goal.returns-then-promote-clause-step
returns-then-promote-clause-step g c = counts-got (counting_rules g.L.Limiter.rules)
    (offers_of (counting_terms g.L.Admission.terms)) g.K.PartialEq.eq g.S.KeyHasher.hash_of
    (g.F.FnOnce.post c.args.make tt) c.args.key c.args.map.now c.promote.new.self c.count_look_up.new.map
    (sym c.promote.ensures.there ∙ c.if-promote.true) c.promote.ensures.promoted c.count_look_up.ensures.map

pub insert_beside-done-requires-clause-tenant : goal.insert_beside-done-requires-clause-tenant
insert_beside-done-requires-clause-tenant g c =
    promoted-tenant (record { writes = g.met.K.Hash.respects_eq; one = g.met.K.Eq.laws.congr }) c.args.key
    g.L.Summing.cost_of (λ s. g.L.Summing.account s.limiter) (λ s. g.L.Budgeted.budget_of s.limiter)
    c.args.map.now c.promote.new.self c.promote.ensures.promoted c.requires.tenant

pub insert_beside-done-requires-clause-others : goal.insert_beside-done-requires-clause-others
insert_beside-done-requires-clause-others g c =
    let names = g.K.PartialEq.eq c.args.key in let old = c.args.map.now in
    let none = absent-newest names old.pairs c.promote.result c.promote.ensures.there c.if-promote.false in
    let back : c.promote.new.self ≡ old = c.promote.ensures.promoted ∙ promoted-absent names old none in
    c.len-others.ensures.len ∙ ap (λ st. length st.pairs) back
    ∙ sym (ap length (without_none names old.pairs (no_pair names old.pairs none)))
    ∙ sym (ap (λ st. length (without names st.pairs)) back)

pub returns-clause-step : goal.returns-clause-step
returns-clause-step g c =
    let rules = counting_rules g.L.Limiter.rules in let offers = offers_of (counting_terms g.L.Admission.terms) in
    let names = g.K.PartialEq.eq c.args.key in let old = c.args.map.now in
    let none = absent-newest names old.pairs c.promote.result c.promote.ensures.there c.if-promote.false in
    let back : c.promote.new.self ≡ old = c.promote.ensures.promoted ∙ promoted-absent names old none in
    counts-inserted rules offers g.K.PartialEq.eq g.S.KeyHasher.hash_of (g.F.FnOnce.post c.args.make tt) c.args.key old
    none c.make.result c.make.ensures c.insert_beside-done.result c.insert_beside-done.new.map c.count_look_up-2.new.map
    (subst (λ st. CountsInsert (Insert rules offers g.K.PartialEq.eq g.S.KeyHasher.hash_of c.args.key c.make.result)
    names st c.insert_beside-done.result c.insert_beside-done.new.map) back c.insert_beside-done.ensures.inserts)
    c.count_look_up-2.ensures.map
