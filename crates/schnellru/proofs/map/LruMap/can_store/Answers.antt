use Rattle.std.proofs.Common.{◌≡◌, ◌+◌, true, false, cond, sym, ap, ◌∙◌, subst}
use Rattle.std.specs.Prelude.{not}
use Rattle.ordered_table.proofs.Tables.BucketPairs.{pairs-length}
use Rattle.schnellru.proofs.map.LruMap.can_store.Goals as goal

pub returns-clause-storable : goal.returns-clause-storable
returns-clause-storable g c =
    let rules = g.L.Limiter.rules in let terms = g.L.Admission.terms in
    let m = c.self.inside in let n = c.len-length.result in
    let key = c.args.key.now in let value = c.args.value.now in
    let storable = not (rules.is_over_the_limit (terms.admit m.limiter n key value) (n + 1)) in
    let accepted : terms.accepts m.limiter n key value ≡ true =
    sym c.admit.ensures.answer ∙ c.if-not-admit.false in
    rw (← c.self.view_is)
    (subst (λ k. not c.is_over_the_limit.result ≡ cond (terms.accepts m.limiter k key value)
    (not (rules.is_over_the_limit (terms.admit m.limiter k key value) (k + 1))) false)
    (c.len-length.ensures.len ∙ sym (pairs-length m.entries c.self.invariant.linked))
    (ap not (c.is_over_the_limit.ensures ∙ ap (λ l. rules.is_over_the_limit l (n + 1)) c.admit.ensures.limiter)
    ∙ sym (ap (λ b. cond b storable false) accepted)))
