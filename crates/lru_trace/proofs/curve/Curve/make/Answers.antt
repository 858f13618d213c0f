use Rattle.std.proofs.Common.{◌≡◌, ℕ, zero, suc, [], refl, ap, arith, sum, take}
use Rattle.lru_trace.proofs.CurveSteps.{none_kept}
use Rattle.lru_trace.proofs.curve.Curve.make.Goals as goal

no_sum : (n : ℕ) → sum (take n []) ≡ 0
no_sum zero = refl
no_sum (suc n) = refl

pub returns-clause-of : goal.returns-clause-of
returns-clause-of c = record {
  before = [];
  numbers = [];
  warmed = refl;
  named = refl;
  order = c.in_ok-new-2.ensures.recency;
  hits = λ n. omega (arith, ap (λ l. sum (take n l)) c.new-3.ensures.items, no_sum n);
  all = refl;
  kept = none_kept c.args.kept c.requires;
}
