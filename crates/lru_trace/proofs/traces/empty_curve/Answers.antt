use Rattle.std.proofs.Common.{◌≡◌, ◌-◌, ◌^◌, ◌++◌, map, sym, ap, ◌∙◌}
use Rattle.std.specs.Prelude.{◌/◌}
use Rattle.lru_trace.specs.References.{bits_of, measure_of, wants_best}
use Rattle.lru_trace.specs.Rows.{powers}
use Rattle.lru_trace.proofs.AnyCurves.{has_named, has_powers}
use Rattle.lru_trace.proofs.traces.empty_curve.Goals as goal

pub returns-in_ok-new-in-Sized-clause-fits : goal.returns-in_ok-new-in-Sized-clause-fits
returns-in_ok-new-in-Sized-clause-fits c =
    let bits = bits_of c.args.options in
    let sizes = c.args.sizes.now in
    let limits = c.in_ok-limits-in-Sized.limits.items in
    let curve = c.in_ok-new-in-Sized.field-0 in
    let same = c.in_ok-new-in-Sized.ensures.limits in
    let are : limits ≡ map (λ size. size / 2 ^ bits) sizes ++ map (λ size. size / 2 ^ bits) (powers (2 ^ 128 - 1) 64 0) =
    c.in_ok-limits-in-Sized.ensures ∙ ap (λ n. map (λ size. size / 2 ^ n) sizes
    ++ map (λ size. size / 2 ^ n) (powers (2 ^ 128 - 1) 64 0)) c.bits.ensures.value in
    record {
      measure = sym (ap measure_of c.in-Sized.is);
      keeps = sym (ap wants_best c.in-Sized.is);
      named = has_named bits sizes limits curve same are;
      powers = has_powers bits sizes limits curve same are;
    }
