use Rattle.std.proofs.Common.{◌≡◌, ℕ, ◌+◌, ◌-◌, ◌<◌, ◌≤◌, List, slice_index, arith, ap, sym, ◌∙◌, subst, inl, inr}
use Rattle.std.proofs.lemmas.Bool.{cases_lt}
use Rattle.std.proofs.lemmas.Nat.Bits.{bit_at-zero}
use Rattle.std.specs.Int.{bit_at}
use Rattle.group_table.specs.Bytes.{IsTag, IsFreeByte}
use Rattle.group_table.specs.Lanes.{HasLane}
use Rattle.group_table.specs.FullBuckets.{IsAhead}
use Rattle.group_table.specs.declared.full_buckets.FullBuckets.{FullBuckets}
use Rattle.group_table.proofs.full_buckets.FullBuckets.next.Goals as goal

free_before : (control : List ℕ) (walk : FullBuckets) (from b : ℕ) → IsAhead control walk from → from ≤ b
    → b < walk.start + 16 → ((lane : ℕ) → HasLane walk.lanes lane → b < walk.start + lane)
    → IsFreeByte (slice_index control b)
free_before control walk from b ahead after within later = elim (cases_lt b walk.start) [
  | inl passed ↦ ahead.passed b after passed
  | inr here ↦
      let lane = b - walk.start in
      let at : walk.start + lane ≡ b = omega (arith, here) in
      elim (cases_lt (slice_index control b) 128) [
        | inl tag ↦
            let there = subst (λ k. IsTag (slice_index control k)) (sym at) tag in
            let set = (ahead.lanes lane).1 (omega (arith, here, within), there, omega (arith, at, after)) in
            absurd (omega (arith, at, later lane set))
        | inr free ↦ free
      ]
]

no_lane : (mask : ℕ) → mask ≡ 0 → (lane : ℕ) → HasLane mask lane → ⊥
no_lane mask none lane set = let zero : bit_at mask lane ≡ 0 = ap (λ m. bit_at m lane) none ∙ bit_at-zero lane in
    omega (arith, set, zero)

pub overflow_add-start : goal.overflow_add-start
overflow_add-start c = let a = c.groups.invariant c.requires.0 c.requires.1 in omega (arith, a.inside, a.circle.fits)

pub overflow_add-self : goal.overflow_add-self
overflow_add-self c = let a = c.groups.invariant c.requires.0 c.requires.1 in
    omega (arith, a.inside, a.circle.fits, c.lowest_lane.ensures.bound)

pub returns-then-start-count-clause-next : goal.returns-then-start-count-clause-next
returns-then-start-count-clause-next c = λ from before.
    let a = c.groups.invariant from before in
    record {
      bound = omega (arith, a.within, c.buckets-count.ensures);
      within = omega (arith, c.buckets-count.ensures);
      full = λ p. absurd (omega (arith, p, c.buckets-count.ensures));
      between = λ b after p. free_before _ _ from b a after (omega (arith, p, c.if-start-count.true))
          (λ lane set. absurd (no_lane _ c.groups-test.true lane set));
    }

pub groups-preserved : goal.groups-preserved
groups-preserved c = λ from before.
    let a = c.groups.invariant from before in
    record {
      circle = a.circle;
      within = a.within;
      reached = omega (arith, a.reached);
      inside = omega (arith, c.if-start-count.false, c.buckets-count.ensures);
      passed = λ b after p. free_before _ _ from b a after p
          (λ lane set. absurd (no_lane _ c.groups-test.true lane set));
      lanes = λ lane.
          let full = c.match_full-self.ensures lane in (
            λ set. let w = full.0 set in
                (w.0, subst IsTag (c.group.ensures.bytes lane w.0) w.1, omega (arith, a.reached)),
            λ w. full.1 (w.0, subst IsTag (sym (c.group.ensures.bytes lane w.0)) w.1),
          );
    }

pub returns-clause-next : goal.returns-clause-next
returns-clause-next c = λ from before.
    let a = c.groups.invariant from before in
    let lowest = c.lowest_lane.ensures in
    let held = (a.lanes c.lowest_lane.result).0 lowest.set in
    let count = c.buckets-count.ensures in
    let least = c.min-b.ensures in
    record {
      bound = omega (arith, held.2, a.within, count, least);
      within = omega (arith, count, least);
      full = λ p. subst (λ k. IsTag (slice_index c.args.control.now k)) (omega (arith, p, count, least)) held.1;
      between = λ b after p. free_before _ _ from b a after (omega (arith, p, least, lowest.bound))
          (λ lane set. omega (arith, p, least, lowest.first lane set));
    }

pub returns-clause-ahead : goal.returns-clause-ahead
returns-clause-ahead c = λ from before p.
    let a = c.groups.invariant from before in
    let lowest = c.lowest_lane.ensures in
    let held = (a.lanes c.lowest_lane.result).0 lowest.set in
    let at : c.min-b.result ≡ c.groups.self.start + c.lowest_lane.result =
    omega (arith, p, c.buckets-count.ensures, c.min-b.ensures) in
    record {
      circle = a.circle;
      within = omega (arith, p);
      reached = omega (arith, at, lowest.bound);
      inside = a.inside;
      passed = λ b after q. absurd (omega (arith, at, after, q));
      lanes = λ lane.
          let left = c.without_lowest-self.ensures.rest lane in (
            λ set.
                let w = left.0 set in
                let old = (a.lanes lane).0 w.0 in
                let beyond : c.lowest_lane.result < lane = elim (cases_lt c.lowest_lane.result lane) [
                  | inl p ↦ p
                  | inr q ↦ absurd (w.1 (omega (arith, q, lowest.first lane w.0, lowest.value)))
                ] in
                (old.0, old.1, omega (arith, at, beyond)),
            λ w. left.1 (
              (a.lanes lane).1 (w.0, w.1, omega (arith, w.2, at, held.2)),
              λ e. omega (arith, e, lowest.value, w.2, at),
            ),
          );
    }
