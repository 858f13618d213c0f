use Rattle.std.proofs.Common.{◌≡◌, ◌+◌, ◌-◌, ◌%◌, ap, ◌∙◌, arith}
use Rattle.group_table.specs.Probe.{probed}
use Rattle.group_table.specs.Control.{buckets_of}
use Rattle.group_table.specs.Group.{passed_by}
use Rattle.group_table.proofs.ProbeLemmas.{probed-next_group}
use Rattle.group_table.proofs.probe.Probe.go_on.Goals as goal

pub returns-clause-at : goal.returns-clause-at
returns-clause-at c hash at =
    let n = buckets_of c.args.control.now in
    let passed = passed_by c.args.self.now in
    let sum : c.args.self.now.start + c.args.self.now.stride ≡ c.args.self.now.start + (passed + 16) =
    omega (arith, at.stride) in
    let more : passed + 16 ≡ c.args.self.now.stride + 16 - 16 = omega (arith, at.stride) in
    record {
      start = c.wrap-self.ensures.value ∙ ap (λ s. s % n) sum ∙ ap (λ s. (s + (passed + 16)) % n) at.start
          ∙ probed-next_group n hash passed at.whole ∙ ap (probed n hash) more;
      whole = omega (arith, at.whole, at.stride);
      stride = omega (arith, at.stride);
    }
