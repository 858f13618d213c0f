use Rattle.std.proofs.Common.{◌<◌, ◌+◌, length, subst, sym, arith}
use Rattle.std.proofs.lemmas.List.{take_all, take_rest}
use Rattle.lru_replay.specs.Grammar.{SpellsNumber}
use Rattle.lru_replay.specs.Lines.{Lacks}
use Rattle.lru_replay.proofs.Numbers.{pair_parts, no_pair}
use Rattle.lru_replay.proofs.lines.words.number_pair.Goals as goal

pub returns-then-at-words-clause-none : goal.returns-then-at-words-clause-none
returns-then-at-words-clause-none c k v s =
    let all = take_all c.index_of-at.result c.args.words.now (omega (arith, c.if-at-words.true)) in
    no_pair _ k v (subst (Lacks 32) all c.index_of-at.ensures.before) s

pub returns-in_err-first-clause-none : goal.returns-in_err-first-clause-none
returns-in_err-first-clause-none c = rw c.from_residual.ensures (λ k v s.
    let at = c.index_of-at in
    let more : at.result < length c.args.words.now = omega (arith, at.ensures.within, c.if-at-words.false) in
    c.in_err-first.ensures.none k (pair_parts _ _ _ k v at.ensures.before (at.ensures.found more) s).0)

pub returns-in_err-second-clause-none : goal.returns-in_err-second-clause-none
returns-in_err-second-clause-none c = rw c.from_residual-in_err-second.ensures (λ k v s.
    let at = c.index_of-at in
    let more : at.result < length c.args.words.now = omega (arith, at.ensures.within, c.if-at-words.false) in
    c.in_err-second.ensures.none v (subst (λ l. SpellsNumber l v) (sym (take_rest c.args.words.now (at.result + 1)))
    (pair_parts _ _ _ k v at.ensures.before (at.ensures.found more) s).1))
