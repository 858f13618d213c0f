use Rattle.std.proofs.Common.{◌<◌, ◌+◌, length, drop, sym, subst, arith}
use Rattle.std.proofs.lemmas.List.{take_rest}
use Rattle.lru_replay.specs.Grammar.{SpellsNumber, SpellsPair}
use Rattle.lru_replay.proofs.Numbers.{no_numbers}
use Rattle.lru_replay.proofs.lines.words.split.Goals as goal

pub returns-in_err-n-clause-none : goal.returns-in_err-n-clause-none
returns-in_err-n-clause-none c =
    let at = c.index_of-at in
    let line = c.args.line.now in
    let more : at.result < length line = omega (arith, at.ensures.within, c.if-at-line.false) in
    let rest = sym (take_rest line (at.result + 1)) in
    rw c.from_residual.ensures (no_numbers line (drop (at.result + 1) line) _ at.ensures.before (at.ensures.found more)
    (λ n s. c.in_err-n.ensures.none n (subst (λ l. SpellsNumber l n) rest s))
    (λ k v s. c.in_default.ensures.none k v (subst (λ l. SpellsPair l k v) rest s)))
