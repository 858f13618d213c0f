use Rattle.std.proofs.Common.{ℕ, Option, Some, None, cond, ap, sym}
use Rattle.std.proofs.lemmas.Bool.{eq-eqb, ne_eqb}
use Rattle.lru_trace.proofs.report.counts_of.Goals as goal

pub returns-then-bits-eq0 : goal.returns-then-bits-eq0
returns-then-bits-eq0 c = λ warm trace of i. record {
  measure = c.measure.ensures i;
  references = c.references.ensures warm trace of i;
  keys = c.keys.ensures warm trace of i;
  malformed = c.args.others.malformed;
  skipped = sym (ap (λ b. cond {A = Option ℕ} b None (Some c.args.others.skipped))
      (eq-eqb c.args.bits 0 c.if-bits-eq0.true)) i;
}

pub returns-else-bits-eq0 : goal.returns-else-bits-eq0
returns-else-bits-eq0 c = λ warm trace of i. record {
  measure = c.measure.ensures i;
  references = c.references.ensures warm trace of i;
  keys = c.keys.ensures warm trace of i;
  malformed = c.args.others.malformed;
  skipped = sym (ap (λ b. cond {A = Option ℕ} b None (Some c.args.others.skipped))
      (ne_eqb c.args.bits 0 c.if-bits-eq0.false)) i;
}
