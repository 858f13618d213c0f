use Rattle.std.proofs.Common.{◌≡◌, ◌-◌, ◌+◌, ◌%◌, bit_and, sym, ap, ◌∙◌, arith}
use Rattle.std.proofs.lemmas.Nat.{and_mask}
use Rattle.group_table.proofs.SizeLemmas.{power_is}
use Rattle.group_table.proofs.control.wrap.Goals as goal

pub returns-clause-value : goal.returns-clause-value
returns-clause-value c =
    let e = power_is (c.args.last + 1) c.requires in
    let one_less : c.args.last ≡ c.args.last + 1 - 1 = omega arith in
    ap (λ m. bit_and c.args.place m) one_less ∙ ap (λ m. bit_and c.args.place (m - 1)) e
    ∙ and_mask c.args.place (2 + c.requires.0) ∙ ap (λ m. c.args.place % m) (sym e)
