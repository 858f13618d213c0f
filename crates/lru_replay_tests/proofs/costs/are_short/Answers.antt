use Rattle.std.proofs.Common.{◌≤◌, ◌+◌, ℕ, ap, subst, arith}
use Rattle.std.proofs.lemmas.List.{take_all}
use Rattle.std.proofs.lemmas.List.Elements.{All-more}
use Rattle.std.specs.List.{All}
use Rattle.std.specs.Prelude.{length}
use Rattle.std.specs.String.{string_bytes}
use Rattle.std.specs.declared.alloc.Global.{Global}
use Rattle.std.specs.declared.string.String.{String}
use Rattle.lru_replay_tests.proofs.costs.are_short.Goals as goal

abbrev IsShort : ℕ → String Global → Type 0
IsShort limit text = length (string_bytes text) + 1 ≤ limit

pub loop-text-preserved : goal.loop-text-preserved
loop-text-preserved c = All-more (IsShort c.args.limit) c.args.texts.now c.loop-text.text-index _ c.loop-text-test.true
    c.loop-text.invariant (subst (IsShort c.args.limit) c.text-item.is (omega (arith, ap length c.as_bytes.ensures.value, c.if-as_bytes-limit.false)))

pub returns : goal.returns
returns c = λ _. subst (λ texts. All (IsShort c.args.limit) texts)
    (take_all c.loop-text.text-index c.args.texts.now c.loop-text-test.false) c.loop-text.invariant
