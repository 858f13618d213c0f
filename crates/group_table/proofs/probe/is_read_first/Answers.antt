use Rattle.std.proofs.Common.{◌≡◌, ap, ◌∙◌, ◌+◌, ◌-◌, ◌%◌, arith}
use Rattle.std.proofs.lemmas.Bool.{ltb-true, lt-ltb}
use Rattle.group_table.specs.Control.{buckets_of}
use Rattle.group_table.proofs.ProbeLemmas.{probed-first_group, probed-near}
use Rattle.group_table.proofs.probe.is_read_first.Goals as goal

pub returns : goal.returns
returns c =
    let n = buckets_of c.args.control.now in
    let hash = c.args.hash in
    let back : c.buckets.result - c.wrap.result ≡ n - hash % n =
    omega (arith, c.buckets.ensures, c.wrap.ensures.value) in
    let steps : c.wrap-2.result ≡ (c.args.b + (n - hash % n)) % n =
    c.wrap-2.ensures.value ∙ ap (λ k. (c.args.b + k) % n) back in (
      λ first. (
        c.wrap-2.result,
        ltb-true _ _ first,
        probed-first_group n hash c.args.b c.wrap-2.result c.requires (ltb-true _ _ first) steps,
      ),
      λ read. lt-ltb _ 16 (rw steps (probed-near n hash c.args.b read.0 (omega (arith, c.requires)) read.1 read.2)),
    )
