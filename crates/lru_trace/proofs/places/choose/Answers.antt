use Rattle.std.proofs.Common.{◌≡◌, ◌<◌, ◌≤◌, refl, sym, ap, ◌∙◌, arith, subst, IfSome, None}
use Rattle.std.proofs.lemmas.Bool.{both_ways}
use Rattle.std.proofs.lemmas.Option.{same_Some}
use Rattle.std.specs.Prelude.{is_some}
use Rattle.std.proofs.Common.{cond}
use Rattle.std.specs.BTreeMap.{is_at}
use Rattle.std.specs.Ordering.{nat_cmp}
use Rattle.lru_trace.specs.Places.{stays, takes, free_at, after_taken, IsSomeAnd, time_in}
use Rattle.lru_trace.proofs.places.choose.Goals as goal

pub returns-in_default-clause-ok : goal.returns-in_default-clause-ok
returns-in_default-clause-ok c =
    stays refl refl (λ time e. absurd (both_ways _ (ap is_some (c.in_default.ensures time)) e))

pub returns-in-Some-own-clause-ok : goal.returns-in-Some-own-clause-ok
returns-in-Some-own-clause-ok c =
    stays (sym c.in-Some-own.is) refl (λ t e.
    subst (λ o. IsSomeAnd o (λ id. t ≤ time_in c.args.times.now id)) (sym c.in-Some-own.is)
    (omega (arith, c.in-Some.ensures.1 t e, c.if-time-times.true)))

pub returns-in-Ok-clause-ok : goal.returns-in-Ok-clause-ok
returns-in-Ok-clause-ok c =
    let times = c.args.times.now in
    let old = c.args.free.now.entries in
    let new = c.remove.new.self.entries in
    let time = c.in-Some.time in
    takes time c.in-Some.id refl c.in-Some.ensures.0 c.in-Some.ensures.1
    (subst (λ o. IfSome o (λ id. time_in times id < time)) (sym c.in-Some-2.is) (omega (
      arith,
      c.if-time-times.false,
      ap (time_in times) (same_Some c.in-Some-own.own c.in-Some-2.own (sym c.in-Some-own.is ∙ c.in-Some-2.is)),
    )))
    (λ t. subst (λ o. free_at new t ≡ after_taken o times time old t) (sym c.in-Some-2.is)
    (c.remove.ensures.updates.0 t ∙ ap (λ o. cond (is_at (nat_cmp time) t) None o) (c.in-Ok.ensures.updates.0 t)))

pub returns-in-None-clause-ok : goal.returns-in-None-clause-ok
returns-in-None-clause-ok c =
    let times = c.args.times.now in
    let old = c.args.free.now.entries in
    let new = c.remove-in-None.new.self.entries in
    let time = c.in-Some.time in
    takes time c.in-Some.id refl c.in-Some.ensures.0 c.in-Some.ensures.1
    (subst (λ o. IfSome o (λ id. time_in times id < time)) (sym c.in-None.is) tt)
    (λ t. subst (λ o. free_at new t ≡ after_taken o times time old t) (sym c.in-None.is)
    (c.remove-in-None.ensures.updates.0 t))
