use Rattle.std.proofs.Common.{◌≡◌, ℕ, ◌<◌, List, [], ◌∷◌, ◌++◌, length, sym, ap, ◌∙◌, subst, inl, inr, Option, Result}
use Rattle.std.proofs.Common.{Ok, Err, IfSome, OnSome, nat_eq}
use Rattle.std.proofs.lemmas.List.{append-nil}
use Rattle.std.specs.Io.KnownBytes.{Appends, IsAtEnd}
use Rattle.std.proofs.KnownBytes.{Appends-trans}
use Rattle.std.proofs.lemmas.Option.{IfSome_then}
use Rattle.lru_limits.specs.Rules.{Rules, Offers}
use Rattle.lru_model.specs.State.{IsMap}
use Rattle.lru_replay.specs.declared.lines.outcome.ReplayError.{ReplayError}
use Rattle.lru_replay.specs.declared.lines.outcome.ReplayError.TheVariants as errors
use Rattle.lru_replay.specs.Lines.{lines_of, fed, TakesPart, TakesFed, TakesRest, TakesLines}
use Rattle.lru_replay.specs.Maps.{Map}
use Rattle.lru_replay.specs.Output.{Begins}
use Rattle.lru_replay.specs.LineRuns.{LineStep, AnswersLine, Answers, IsLineRun, IsTextOf, OfAll}
use Rattle.lru_replay.proofs.ByteLists.{Consumes_end}
use Rattle.lru_replay.proofs.LineLists.{takes_line_more, takes_part_more, lines_at_end, lines_of-last}
use Rattle.lru_replay.proofs.LineRuns.{line_run-append, line_run-one}
use Rattle.lru_replay.proofs.WrittenTexts.{begins_after}

-- Some whole lines were read, and the text of a run over these lines was written. The run leads from the map `old` to
-- the map `now`. The reader's bytes were r₀ and are r₁, and the writer's bytes were w₀ and are w₁.
pub record RunsSoFar {S : Type 0} (rules : Rules ℕ ℕ S) (offers : Offers ℕ ℕ S ℕ) (reported : S → Option ℕ)
    (old : Map S)
    (r₀ r₁ w₀ w₁ : Option (List ℕ)) (now : Map S) : Type 0 where
  pub lines : List (List ℕ)
  pub text : List ℕ
  pub run : IsLineRun rules offers reported old lines text now
  pub reads : TakesLines r₀ r₁ lines []
  pub wrote : Appends w₀ w₁ text

module _ {S : Type 0} {rules : Rules ℕ ℕ S} {offers : Offers ℕ ℕ S ℕ} {reported : S → Option ℕ} {old now : Map S}
    {r₀ r₁ w₀ w₁ : Option (List ℕ)} (so_far : RunsSoFar rules offers reported old r₀ r₁ w₀ w₁ now)
    (r₂ : Option (List ℕ))
    (line : List ℕ) where
  pub read_failed : TakesPart r₁ r₂ line → Answers (IsTextOf rules offers reported old) r₀ r₂ w₀ w₁ (Err errors.Read)
  read_failed part = (
    so_far.lines,
    so_far.text,
    line,
    (now, so_far.run),
    takes_part_more r₀ r₁ r₂ so_far.lines line so_far.reads part,
    so_far.wrote,
  )

  pub all_answered : TakesRest r₁ r₂ line → line ≡ [] → Answers (IsTextOf rules offers reported old) r₀ r₂ w₀ w₁ (Ok tt)
  all_answered taken none = (
    IfSome_then r₀ (lines_at_end r₀ r₁ r₂ so_far.lines line so_far.reads taken) (λ input all. (
      so_far.text,
      (
        now,
        subst (λ ls. IsLineRun rules offers reported old ls so_far.text now)
            (sym (all ∙ ap (λ l. so_far.lines ++ lines_of l) none ∙ append-nil so_far.lines)) so_far.run,
      ),
      so_far.wrote,
    )),
    Consumes_end r₀ r₁ r₂ _ so_far.reads.2 taken.2,
  )

  module _ (new : Map S) (w₂ : Option (List ℕ)) (map : IsMap nat_eq new) where
    run_on : (next : List ℕ) → LineStep rules offers reported now line next new
        → IsLineRun rules offers reported old (so_far.lines ++ line ∷ []) (so_far.text ++ fed next) new
    run_on next step = line_run-append rules offers reported old so_far.lines so_far.text now (line ∷ []) (fed next) new
        so_far.run (line_run-one rules offers reported now line next new step map)

    pub line_answered : TakesFed r₁ r₂ line → AnswersLine rules offers reported now line new w₁ w₂ (Ok tt)
        → RunsSoFar rules offers reported old r₀ r₂ w₀ w₂ new
    line_answered taken (next, step, answered) = record {
      lines = so_far.lines ++ line ∷ [];
      text = so_far.text ++ fed next;
      run = run_on next step;
      reads = takes_line_more r₀ r₁ r₂ so_far.lines line so_far.reads taken;
      wrote = Appends-trans w₀ w₁ w₂ so_far.text (fed next) so_far.wrote answered;
    }

    pub line_cut : (e : ReplayError) → TakesFed r₁ r₂ line → AnswersLine rules offers reported now line new w₁ w₂
        (Err e)
        → Answers (IsTextOf rules offers reported old) r₀ r₂ w₀ w₂ (Err e)
    line_cut errors.Read taken (next, step, (same, begun)) = absurd (cc same)
    line_cut errors.Write taken (next, step, (same, begun)) = inr (
      so_far.lines ++ line ∷ [],
      so_far.text ++ fed next,
      [],
      (new, run_on next step),
      takes_line_more r₀ r₁ r₂ so_far.lines line so_far.reads taken,
      begins_after w₀ w₁ w₂ so_far.text (fed next) so_far.wrote begun,
    )

    module _ (taken : TakesRest r₁ r₂ line) (some : 0 < length line) where
      all_lines : IfSome r₀ (λ input. lines_of input ≡ so_far.lines ++ line ∷ [])
      all_lines = IfSome_then r₀ (lines_at_end r₀ r₁ r₂ so_far.lines line so_far.reads taken)
          (λ input all. all ∙ ap (λ l. so_far.lines ++ l) (lines_of-last line taken.0 some))

      of_all : (Wrote : List ℕ → Type 0) (next : List ℕ) → LineStep rules offers reported now line next new
          → Wrote (so_far.text ++ fed next)
          → OfAll (IsTextOf rules offers reported old) r₀ Wrote × OnSome r₀ (IsAtEnd r₂)
      of_all Wrote next step wrote = (
        IfSome_then r₀ all_lines (λ input all. (
          so_far.text ++ fed next,
          (
            new,
            subst (λ ls. IsLineRun rules offers reported old ls (so_far.text ++ fed next) new) (sym all)
                (run_on next step),
          ),
          wrote,
        )),
        Consumes_end r₀ r₁ r₂ _ so_far.reads.2 taken.2,
      )

      pub last_answered : (result : Result (Unit {0}) ReplayError)
          → AnswersLine rules offers reported now line new w₁ w₂ result
          → Answers (IsTextOf rules offers reported old) r₀ r₂ w₀ w₂ result
      last_answered (Ok u) (next, step, answered) =
          of_all (Appends w₀ w₂) next step (Appends-trans w₀ w₁ w₂ so_far.text (fed next) so_far.wrote answered)
      last_answered (Err errors.Read) (next, step, (same, begun)) = absurd (cc same)
      last_answered (Err errors.Write) (next, step, (same, begun)) =
          inl (of_all (Begins w₀ w₂) next step (begins_after w₀ w₁ w₂ so_far.text (fed next) so_far.wrote begun))
