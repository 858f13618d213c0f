use Rattle.std.proofs.Common.{rules, ◌≡◌, ℕ, List, Bor, IsUtf8}
use Rattle.std.specs.declared.str.Utf8Error.{Utf8Error}
use Rattle.std.specs.Str.{IsValidUpTo, valid_up_to}
use Rattle.lru_replay.proofs.Numbers.{starts_of, number_is_text, IfSome-parsed, IfNone-parsed}
use Rattle.lru_replay.proofs.Options.{MatchResult-some, MatchResult-none}
use Rattle.lru_replay.proofs.lines.words.number.Goals as goal

Text : List ℕ → Bor (List ℕ) → Type 0
Text bytes text = (text.now ≡ bytes) × IsUtf8 bytes

NoText : List ℕ → Utf8Error → Type 0
NoText bytes e = (IsUtf8 bytes → ⊥) × IsValidUpTo bytes (valid_up_to e)

pub returns-then-not-starts_as_number-clause-none : goal.returns-then-not-starts_as_number-clause-none
returns-then-not-starts_as_number-clause-none c n s = c.starts_as_number.ensures.no (search rules) (starts_of _ n s)

pub returns-in_err-text-clause-none : goal.returns-in_err-text-clause-none
unfolding Text NoText
returns-in_err-text-clause-none c = rw c.from_residual.ensures (λ n s.
    (MatchResult-none (Text c.args.word.now) (NoText c.args.word.now) c.from_utf8.result c.in_err-text.ensures.value
    c.from_utf8.ensures.cases).1.0 (number_is_text _ n s))

pub returns-clause-some : goal.returns-clause-some
unfolding Text NoText
returns-clause-some c =
    let text = (MatchResult-some (Text c.args.word.now)
    (NoText c.args.word.now) c.from_utf8.result c.in_ok-text.text c.in_ok-text.ensures.value
    c.from_utf8.ensures.cases).0 in
    let parsed = rw text at c.parse.ensures.value.0 in
    rw c.ok-2.ensures.value (IfSome-parsed _ _ (c.starts_as_number.ensures.yes (search rules)) parsed)

pub returns-clause-none : goal.returns-clause-none
unfolding Text NoText
returns-clause-none c =
    let text = (MatchResult-some (Text c.args.word.now)
    (NoText c.args.word.now) c.from_utf8.result c.in_ok-text.text c.in_ok-text.ensures.value
    c.from_utf8.ensures.cases).0 in
    let parsed = rw text at c.parse.ensures.value.0 in
    rw c.ok-2.ensures.value (IfNone-parsed _ _ parsed)
