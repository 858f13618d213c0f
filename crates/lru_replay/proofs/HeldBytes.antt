-- A line means what its held bytes mean, because the longest line with a meaning has fewer bytes than are held.
use Rattle.std.proofs.Common.{◌≡◌, ℕ, ◌≤◌, List, length, take, refl, sym, ap, ◌∙◌, subst, inl, inr, arith, Option, Result}
use Rattle.std.proofs.lemmas.List.{take_all}
use Rattle.lru_replay.specs.declared.calls.Call.{Call}
use Rattle.lru_replay.specs.declared.lines.line.TheConstants.{HELD, LONGEST}
use Rattle.lru_replay.specs.declared.lines.words.Limit.{Limit}
use Rattle.lru_replay.specs.declared.lines.outcome.ReplayError.{ReplayError}
use Rattle.lru_replay.specs.Grammar.{SpellsCall, SpellsLimit}
use Rattle.lru_limits.specs.Rules.{Rules, Offers}
use Rattle.lru_replay.specs.Maps.{Map}
use Rattle.lru_replay.specs.LineRuns.{LineStep, AnswersLine}
use Rattle.lru_replay.proofs.ByteLists.{short_front}
use Rattle.lru_replay.proofs.SpelledWords.{short_call, short_limit}

whole_text : (line text : List ℕ) → length text ≤ LONGEST → take HELD line ≡ text → line ≡ text
whole_text line text short e = sym (short_front HELD line text (sym e) (omega (arith, short)))

held_text : (line text : List ℕ) → length text ≤ LONGEST → line ≡ text → take HELD line ≡ text
held_text line text short e = take_all HELD line (omega (arith, ap length e, short)) ∙ e

module _ {S : Type 0} (rules : Rules ℕ ℕ S) (offers : Offers ℕ ℕ S ℕ) (reported : S → Option ℕ) where
  whole_step : (old : Map S) (line text : List ℕ) (new : Map S)
      → LineStep rules offers reported old (take HELD line) text new → LineStep rules offers reported old line text new
  whole_step old line text new (inl (call, spells, is)) =
      let whole = whole_text line _ (short_call (take HELD line) call spells).1 refl in
      inl (call, subst (λ l. SpellsCall l call) (sym whole) spells, is)
  whole_step old line text new (inr (none, is, same)) =
      let held : (call : Call ℕ ℕ S) → SpellsCall line call → ⊥ = λ call spells. none call
      (subst (λ l. SpellsCall l call) (sym (held_text line _ (short_call line call spells).1 refl)) spells) in
      inr (held, is, same)

  pub whole_answer : (result : Result (Unit {0}) ReplayError) (old new : Map S) (held line : List ℕ)
      (from to : Option (List ℕ)) → held ≡ take HELD line
      → AnswersLine rules offers reported old held new from to result
      → AnswersLine rules offers reported old line new from to result
  whole_answer result old new held line from to is (text, step, written) = (
    text,
    whole_step old line text new (rw is at step),
    written,
  )

module _ (line held : List ℕ) (is : held ≡ take HELD line) where
  pub whole_limit : (limit : Limit) → SpellsLimit held limit → SpellsLimit line limit
  whole_limit limit spells =
      subst (λ l. SpellsLimit l limit) (sym (whole_text line held (short_limit held limit spells).1 (sym is))) spells

  pub none_held : ((limit : Limit) → SpellsLimit held limit → ⊥) → (limit : Limit) → SpellsLimit line limit → ⊥
  none_held none limit spells =
      let same = is ∙ held_text line line (short_limit line limit spells).1 refl in
      none limit (subst (λ l. SpellsLimit l limit) (sym same) spells)
