use Rattle.std.proofs.Common.{◌≡◌, ◌+◌, [], length, sum, refl, sym, ap, ◌∙◌, arith}
use Rattle.std.proofs.lemmas.List.Folds.{sum_by-replicate}
use Rattle.std.proofs.lemmas.List.Sorted.{IsNonDecreasingBy-from_sort}
use Rattle.std.proofs.lemmas.List.Sums.{sum_by-take-le}
use Rattle.std.specs.Prelude.{sum_by}
use Rattle.lru_trace.specs.Slots.{weight_in}
use Rattle.lru_trace.proofs.SizedRecency.{none_named, none_in}
use Rattle.lru_trace.proofs.byte_curve.ByteCurve.new.Goals as goal

no_counts : (c : goal.In_ok-new-2) → sum c.in_ok-counts.counts.items ≡ 0
no_counts c =
    let zeros = c.in_ok-counts.ensures.items_if_clones_equal (λ y e. e) in
    ap sum zeros ∙ omega (arith, sum_by-replicate (λ x. x) (c.len.result + 1) 0)

pub invariant_of-result : goal.invariant_of-result
invariant_of-result c = record {
  numbered = ap length c.in_ok-new.ensures ∙ sym c.in_ok-new-2.ensures.keys;
  aligned = ap length c.in_ok-new-2.ensures.weights ∙ sym c.in_ok-new-2.ensures.keys;
  within = λ n e. none_in c.in_ok-new-2.field-0.recency c.in_ok-new-2.ensures.recency n e;
  known = λ key n e. none_named c.in_ok-new.field-0 c.in_ok-new.ensures key n e;
  whole = sym (λ i. sum_by (weight_in (c.in_ok-new-2.ensures.weights i)) (c.in_ok-new-2.ensures.recency i));
  small = omega arith;
  rising = IsNonDecreasingBy-from_sort (λ x. x) c.sort_unstable.new.self.items c.sort_unstable.ensures.sorted;
  long = omega (arith, c.in_ok-counts.ensures.len, c.len.ensures, c.in_ok-counts.counts.ok.0);
  counted = no_counts c;
}

pub returns-clause-of : goal.returns-clause-of
returns-clause-of c = record {
  before = [];
  numbers = [];
  warmed = refl;
  named = refl;
  sized = λ key n e. none_named c.in_ok-new.field-0 c.in_ok-new.ensures key n e;
  order = c.in_ok-new-2.ensures.recency;
  hits = λ i h. omega (
    arith,
    sum_by-take-le (λ x. x) c.in_ok-counts.counts.items (i + 1),
    no_counts c,
  );
  all = refl;
}
