use Rattle.std.proofs.Common.{◌≡◌, drop, length, ap, ◌∙◌, arith}
use Rattle.std.specs.Prelude.{min}
use Rattle.std.proofs.lemmas.List.{drop_min, take_rest}
use Rattle.lru_trace.proofs.rows.powers_in.Goals as goal

pub returns : goal.returns
returns c =
    let axis = c.args.axis.now in
    let few : c.min.result ≡ min c.args.bits (length axis) = omega (arith, c.min.ensures) in
    take_rest axis c.min.result ∙ ap (λ n. drop n axis) few ∙ drop_min c.args.bits axis
