use Rattle.std.proofs.Common.{ℕ, ◌+◌, ◌%◌, ◌<◌, List, IsTrue, ap, sym, subst, ◌∙◌, arith}
use Rattle.std.proofs.lemmas.Bool.{ltb-true}
use native.Mathlib.Decide.{dec_lt}
use Rattle.group_table.specs.Probe.{probed, IsFirst}
use Rattle.group_table.specs.Control.{buckets_of}
use Rattle.group_table.specs.Group.{IsProbe, IsFreeLane, passed_by, full_at}
use Rattle.group_table.specs.declared.probe.Probe.{Probe}
use Rattle.group_table.proofs.ProbeLemmas.{probed-lane, up_to_lane, up_to_end}
use Rattle.group_table.proofs.probe.first_free.Goals as goal

module _ (control : List ℕ) (hash : ℕ) (probe : Probe) (at : IsProbe (buckets_of control) hash probe)
    (full_before : (before : ℕ) → before < passed_by probe
    → IsTrue (full_at control (probed (buckets_of control) hash before))) where
  abbrev n : ℕ
  n = buckets_of control

  first_here : (b : ℕ) → IsFreeLane control n probe.start b → IsFirst (full_at control) (probed n hash) b
  first_here b here =
      let lane = here.first.step in
      record {
        step = passed_by probe + lane;
        there = probed-lane n hash (passed_by probe) lane at.whole here.in_group
            ∙ ap (λ s. (s + lane) % n) (sym at.start) ∙ here.first.there;
        free_there = here.first.free_there;
        full_before = up_to_lane n hash (passed_by probe) at.whole
            (λ b. IsTrue (full_at control b)) lane (omega (arith, here.in_group)) full_before
            (subst (λ s. (k : _) → k < lane → IsTrue (full_at control ((s + k) % n))) at.start here.first.full_before);
      }

  full_after : ((lane : ℕ) → lane < 16 → IsTrue (full_at control ((probe.start + lane) % n)))
      → (before : ℕ) → before < passed_by probe + 16 → IsTrue (full_at control (probed n hash before))
  full_after none = up_to_lane n hash (passed_by probe) at.whole (λ b. IsTrue (full_at control b)) 16 (omega arith)
      full_before (subst (λ s. (lane : _) → lane < 16 → IsTrue (full_at control ((s + lane) % n))) at.start none)

pub returns-in-Some : goal.returns-in-Some
returns-in-Some c =
    first_here c.args.control.now c.args.hash c.of-probe.result c.of-probe.ensures.at
    (λ before below. absurd (omega (arith, below, c.of-probe.ensures.none_passed))) _ c.in-Some.ensures.found

pub groups-init : goal.groups-init
groups-init c = record {
  at = c.of-probe.ensures.at;
  within = omega (arith, c.of-probe.ensures.none_passed, c.requires.1);
  full = full_after c.args.control.now c.args.hash c.of-probe.result c.of-probe.ensures.at
      (λ before below. absurd (omega (arith, below, c.of-probe.ensures.none_passed))) c.in_default.ensures.none;
}

pub go_on-requires-clause-fits : goal.go_on-requires-clause-fits
go_on-requires-clause-fits c = omega (arith, c.of-probe.ensures.circle.fits, c.of-probe.ensures.circle.long)

pub returns-in-Some-free_in_group : goal.returns-in-Some-free_in_group
returns-in-Some-free_in_group c =
    let l = c.groups in
    first_here c.args.control.now c.args.hash c.go_on.new.self (c.go_on.ensures.at c.args.hash l.invariant.at)
    (λ before below. l.invariant.full before (omega (arith, below, c.go_on.ensures.passed))) _
    c.in-Some-free_in_group.ensures.found

pub groups-preserved : goal.groups-preserved
groups-preserved c =
    let l = c.groups in let passed = c.go_on.ensures.passed in let free_there = c.requires in
    let n = buckets_of c.args.control.now in
    let at = c.go_on.ensures.at c.args.hash l.invariant.at in
    record {
      at = at;
      within = rw passed (elim (dec_lt (passed_by l.probe + 16) n) [
        | yes p ↦ p
        | no p ↦
            let small = up_to_end n c.args.hash (passed_by l.probe) l.invariant.at.whole
            (λ b. IsTrue (full_at c.args.control.now b)) c.of-probe.ensures.circle.power (omega arith)
            (λ t q. l.invariant.full t (omega arith)) free_there.0 free_there.1 in
            absurd (omega (arith, ltb-true _ 128 small, free_there.2))
      ]);
      full = full_after c.args.control.now c.args.hash c.go_on.new.self at
          (λ before below. l.invariant.full before (omega (arith, below, passed)))
          c.in_default-free_in_group.ensures.none;
    }
