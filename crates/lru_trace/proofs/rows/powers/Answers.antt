use Rattle.std.proofs.Common.{◌≡◌, ◌-◌, ◌+◌, ◌*◌, ◌%◌, ◌^◌, ◌++◌, ◌∷◌, [], arith, ap, sym, ◌∙◌, append_assoc}
use Rattle.std.proofs.lemmas.List.{append-nil}
use Rattle.lru_trace.specs.Rows.{powers}
use Rattle.lru_trace.proofs.Powers.{shifted, no_powers, powers_go_on, powers_stop, All-more}
use Rattle.lru_trace.proofs.rows.powers.Goals as goal

pub loop-level-preserved : goal.loop-level-preserved
loop-level-preserved c =
    let s = c.loop-level in
    let power = 1 * 2 ^ s.level % 18446744073709551616 in
    let is = shifted s.level c.loop-level-test.true in
    let later = powers c.args.most (64 - (s.level + 1)) (s.level + 1) in (
      s.invariant.0 ∙ ap (λ l. s.powers.items ++ l) (powers_go_on c.args.most s.level power c.loop-level-test.true is
          c.if-most-power.false) ∙ sym (append_assoc s.powers.items (power ∷ []) later)
          ∙ ap (λ l. l ++ later) (sym c.in_ok-push.ensures.items),
      All-more s.level power is s.powers.items c.push.new.self.items c.in_ok-push.ensures.items s.invariant.1,
    )

pub returns-then-most-power : goal.returns-then-most-power
returns-then-most-power c =
    let s = c.loop-level in
    let power = 1 * 2 ^ s.level % 18446744073709551616 in
    let is = shifted s.level c.loop-level-test.true in
    record {
      all = c.in_ok-push.ensures.items ∙ ap (λ l. s.powers.items ++ l) (sym (powers_stop c.args.most s.level power
          c.loop-level-test.true is c.if-most-power.true)) ∙ sym s.invariant.0;
      some = All-more s.level power is s.powers.items c.push.new.self.items c.in_ok-push.ensures.items s.invariant.1;
    }

pub returns : goal.returns
returns c =
    let s = c.loop-level in
    let none : 64 - s.level ≡ 0 = omega (arith, c.loop-level-test.false) in
    record {
      all = sym (s.invariant.0 ∙ ap (λ n. s.powers.items ++ powers c.args.most n s.level) none
          ∙ ap (λ l. s.powers.items ++ l) (no_powers c.args.most s.level) ∙ append-nil s.powers.items);
      some = s.invariant.1;
    }
