use Rattle.std.proofs.Common.{◌≡◌, ◌++◌, ◌∷◌, [], arith, refl, sym, ap, ◌∙◌, subst, length, append_assoc}
use Rattle.std.proofs.lemmas.List.{nil_from_length}
use Rattle.std.specs.Vec.Iter.{into_iter_items}
use Rattle.std.proofs.lemmas.List.{append-nil, length-append}
use Rattle.lru_limits.specs.Admissions.{offers_of}
use denote.Param.{copied}
use Rattle.ordered_table.specs.EntrySize.{entry_size}
use Rattle.lru_tenants.specs.Cache.{fresh}
use Rattle.lru_tenants.specs.TenantRuns.{IsRun}
use Rattle.lru_tenants.proofs.OwnRuns.{run-push, own-run}
use Rattle.lru_tenants.proofs.runs.run_tenants.Goals as goal

pub loop-call-init : goal.loop-call-init
loop-call-init g c = record {
  items = search;
  left = search;
  run = rw c.in_ok-answers.ensures.items refl;
  tenants = c.len-len.ensures.tenants;
  hasher = refl;
  total_limit = refl;
  len = c.in_ok-answers.ensures.len;
  capacity = omega (arith, c.in_ok-answers.ensures.capacity, c.len.ensures);
}

pub loop-call-preserved : goal.loop-call-preserved
loop-call-preserved g c =
    let h = c.loop-call.invariant in
    let call = c.in-Some.call in
    let step = c.make_tenant_call.ensures in
    let rest = step.0.0 in
    record {
      items = append_assoc c.loop-call.yielded (call ∷ []) (into_iter_items c.next.new.self)
          ∙ ap (λ l. c.loop-call.yielded ++ l) (sym c.in-Some.ensures.steps.0) ∙ h.items;
      left = omega (arith, c.in-Some.ensures.steps.1, h.left, ap length c.in-Some.ensures.steps.0);
      run = rw c.push_reserved.ensures.items (run-push _ _ _ _ _ _ _ _ _ c.loop-call.yielded c.loop-call.answers.items
          call c.make_tenant_call.result c.args.cache.now c.loop-call.cache c.make_tenant_call.new.cache h.run step);
      tenants = step.1;
      hasher = ap (λ cache. cache.hasher) rest ∙ h.hasher;
      total_limit = ap (λ cache. cache.total_limit) rest ∙ h.total_limit;
      len = omega (arith, c.push_reserved.ensures.len, h.len, length-append c.loop-call.yielded (call ∷ []));
      capacity = omega (arith, c.push_reserved.ensures.capacity, h.capacity);
    }

pub returns-clause-run : goal.returns-clause-run
returns-clause-run g c =
    let h = c.loop-call.invariant in
    let none : length (into_iter_items c.loop-call.call-iterator) ≡ 0 = sym h.left ∙ c.in-None.ensures.steps.0 in
    let all = sym (append-nil c.loop-call.yielded)
    ∙ ap (λ l. c.loop-call.yielded ++ l) (sym (nil_from_length (into_iter_items c.loop-call.call-iterator) none))
    ∙ h.items in
    subst (λ calls. IsRun g.L.Limiter.rules (offers_of g.L.Admission.terms) g.L.Summing.cost_of g.L.Summing.account
    g.L.Budgeted.budget_of g.K.PartialEq.eq g.S.KeyHasher.hash_of
    (fresh g.L.Budgeted.made (entry_size (copied 1 g.row.K) (copied 2 g.row.V) (copied 5 g.row.L-LinkType))
    (g.L.LinkType.LinkType.number g.L.LinkType.LinkType.MAX)) g.N.PartialEq.eq
    c.args.cache.now calls c.loop-call.answers.items c.loop-call.cache) all h.run

pub returns-clause-own : goal.returns-clause-own
returns-clause-own g c =
    λ name. own-run _ _ _ _ _ _ _ _ _ c.args.cache.now name c.args.calls.items c.loop-call.answers.items
    c.args.cache.now c.loop-call.cache refl (returns-clause-run g c)
