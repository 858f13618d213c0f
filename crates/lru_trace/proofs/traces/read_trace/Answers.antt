use Rattle.std.proofs.Common.{[], None, ap, ◌∙◌, subst}
use Rattle.lru_trace.specs.Curves.{Fits}
use Rattle.lru_trace.specs.Lines.{fed}
use Rattle.lru_trace.specs.Sizes.{sizes_from}
use Rattle.lru_trace.proofs.AnyCurves.{fits_still}
use Rattle.lru_trace.proofs.CurveSteps.{if_passed}
use Rattle.lru_trace.proofs.ReadLines.{some_part}
use Rattle.lru_trace.proofs.Ended.{no_sizes, only_sizes, with_keys, too_large_behind}
use Rattle.lru_trace.proofs.traces.read_trace.Goals as goal

pub returns-in_default-clause-ok : goal.returns-in_default-clause-ok
returns-in_default-clause-ok g c =
    let named = rw c.in_default.is at c.in_ok-sizes.ensures in
    no_sizes _ _ c.read_line.new.line.items c.in_ok-ending.ending c.in_ok-ending.ensures.ok
    (named ∙ ap (sizes_from [] None) c.deref.ensures.value)

pub returns-in_default-ending : goal.returns-in_default-ending
returns-in_default-ending g c =
    let named = rw c.in-Some.is at c.in_ok-sizes.ensures in
    record {
      ok = only_sizes _ _ c.read_line.new.line.items c.args.options c.in_ok-ending.ending c.in-Some.sizes.items c.in_ok-curve.curve
          c.in_default-ending.not-Feed c.in_ok-ending.ensures.ok
          (named ∙ ap (sizes_from [] None) c.deref.ensures.value) c.in_ok-curve.ensures.of
          (subst (λ ns. Fits c.args.options ns c.in_ok-curve.curve) c.deref-2.ensures.value c.in_ok-curve.ensures.fits);
      err = tt;
      large = tt;
      kind = tt;
    }

pub returns-in_err-others-clause-err : goal.returns-in_err-others-clause-err
returns-in_err-others-clause-err g c =
    let taken = rw c.in-Feed.is at c.in_ok-ending.ensures.ok in
    let (part, reads) = c.in_err-others.ensures.err in
    some_part _ _ _ _ (fed c.read_line.new.line.items) part taken.1 reads

pub returns-in_err-others-clause-large : goal.returns-in_err-others-clause-large
returns-in_err-others-clause-large g c =
    let taken = rw c.in-Feed.is at c.in_ok-ending.ensures.ok in
    if_passed _ _ _ c.from_residual-in_err-others.ensures (λ is. too_large_behind _ _ c.read_line.new.line.items _
    c.args.options taken (c.in_err-others.ensures.large is))

pub returns-clause-ok : goal.returns-clause-ok
returns-clause-ok g c =
    let taken = rw c.in-Feed.is at c.in_ok-ending.ensures.ok in
    let named = rw c.in-Some.is at c.in_ok-sizes.ensures in
    with_keys _ _ c.read_line.new.line.items _ c.args.options c.in-Some.sizes.items c.read_keys.new.curve c.in_ok-others.others
    taken (named ∙ ap (sizes_from [] None) c.deref.ensures.value) c.in_ok-others.ensures.ok
    (fits_still c.read_keys.ensures.alike
    (subst (λ ns. Fits c.args.options ns c.in_ok-curve.curve) c.deref-2.ensures.value c.in_ok-curve.ensures.fits))
