use Rattle.std.proofs.Common.{◌≡◌, ◌+◌, ◌<◌, ◌++◌, [], take, sum, get_or, length, sym, ap, ◌∙◌, subst, arith, nat_eq}
use Rattle.std.proofs.lemmas.List.{get_or_read, take_more}
use Rattle.std.proofs.lemmas.List.Sums.{sum_by_push}
use Rattle.std.specs.Map.{keys_of}
use Rattle.std.specs.Option.{unwrap_or}
use Rattle.lru_theory.specs.Budgets.{misses_within}
use Rattle.lru_theory.specs.Traces.{past_after}
use Rattle.lru_trace.specs.Sized.{IsSizedOf, size_in}
use Rattle.lru_trace.specs.Slots.{weight_in}
use Rattle.lru_trace.proofs.SizedCosts.{warm_within_named}
use Rattle.lru_trace.proofs.byte_curve.ByteCurve.misses.Goals as goal

pub returns-then-index-limit-clause-all : goal.returns-then-index-limit-clause-all
returns-then-index-limit-clause-all c = λ warm trace of.
    let now : IsSizedOf warm trace _ = subst (IsSizedOf warm trace) (sym c.self.view_is) of in
    let same = warm_within_named c.self.inside.names (keys_of warm) (keys_of trace) now.before now.numbers now.warmed
    now.named (size_in (warm ++ trace)) (weight_in c.self.inside.distances.weights)
    (λ x n e. ap (λ o. unwrap_or o 0) (now.sized x n e)) c.args.limit in
    let i = c.loop-i.i in
    let limits = c.self.inside.limits in
    let counts = c.self.inside.counts.items in
    let within : i < length limits.items = omega (arith, c.loop-i-test.true, c.len-i-end.ensures, limits.ok.0) in
    let counted : i < length counts = omega (arith, within, c.self.invariant.long) in
    let limit : get_or limits.items i 0 ≡ c.args.limit =
    sym (get_or_read limits.items i c.index-in-loop-i.result.now within c.index-in-loop-i.ensures 0)
    ∙ c.if-index-limit.true in
    let hits = ap (λ n. misses_within nat_eq (weight_in c.self.inside.distances.weights) n (past_after [] now.before)
    now.numbers + sum (take (i + 1) counts)) (sym limit) ∙ now.hits i within in
    omega (
      arith,
      hits,
      same,
      c.loop-i.invariant.0,
      ap sum (take_more counts i 0 counted),
      sum_by_push (λ x. x) (take i counts) (get_or counts i 0),
      get_or_read counts i c.index.result.now counted c.index.ensures 0,
    )
