use Rattle.std.proofs.Common.{ℕ, List, [], ◌∷◌, ◌++◌, refl, sym, ap, ◌∙◌, subst, inl, inr, ◌⊎◌, Option, flat_map}
use Rattle.std.proofs.lemmas.Grind.{flat_map-append}
use Rattle.std.proofs.lemmas.List.{append-nil}
use Rattle.std.specs.Prelude.{nat_eq}
use Rattle.std.proofs.lemmas.Cmp.{nat_eq_equiv}
use Rattle.lru_limits.specs.Admissions.{Terms, offers_of, offers_of-lawful}
use Rattle.lru_limits.specs.Keys.{number-lawful}
use Rattle.lru_limits.specs.Rules.{Rules, Offers}
use Rattle.lru_model.proofs.CallerLemmas.{any_is_map}
use Rattle.lru_model.specs.State.{IsSized, IsMap}
use Rattle.lru_replay.specs.declared.calls.Call.{Call}
use Rattle.lru_replay.specs.Grammar.{SpellsCall}
use Rattle.lru_replay.specs.Lines.{fed}
use Rattle.lru_replay.specs.Maps.{Map, hash_of}
use Rattle.lru_replay.specs.Output.{reply_text, bad_text}
use Rattle.lru_replay.specs.LineRuns.{AnswersCall, LineStep, IsLineRun}
use Rattle.lru_replay.specs.Replies.{Reply}
use Rattle.lru_replay.proofs.CallKinds.{Kind, step_kind, any_step}
use Rattle.lru_replay.proofs.CallRuns.{run-append, run_holds, some_run}
use Rattle.lru_replay.proofs.SomeSteps.{some_step}
use Rattle.lru_replay.proofs.SpelledLines.{spelled_or}
use Rattle.lru_replay.proofs.SpelledWords.{has_line}

module _ {S : Type 0} (rules : Rules ℕ ℕ S) (offers : Offers ℕ ℕ S ℕ) (reported : S → Option ℕ) where
  pub line_run-append : (a : Map S) (lines : List (List ℕ)) (t : List ℕ) (b : Map S) (more : List (List ℕ))
      (u : List ℕ) (c : Map S) → IsLineRun rules offers reported a lines t b → IsLineRun rules offers reported b more
      u c
      → IsLineRun rules offers reported a (lines ++ more) (t ++ u) c
  line_run-append a lines t b more u c (texts, run, is) (others, goes, are) = (
    texts ++ others,
    run-append (LineStep rules offers reported) (IsMap nat_eq) a lines texts b more others c run goes,
    ap (λ l. l ++ u) is ∙ ap (λ l. flat_map fed texts ++ l) are ∙ sym (flat_map-append fed texts others),
  )

  pub line_run-one : (a : Map S) (line text : List ℕ) (b : Map S) → LineStep rules offers reported a line text b
      → IsMap nat_eq b → IsLineRun rules offers reported a (line ∷ []) (fed text) b
  line_run-one a line text b step map = (text ∷ [], (b, step, map, refl), sym (append-nil (fed text)))

  pub line_run_map : (a : Map S) (lines : List (List ℕ)) (t : List ℕ) (b : Map S) → IsMap nat_eq a
      → IsLineRun rules offers reported a lines t b → IsMap nat_eq b
  line_run_map a lines t b map (texts, run, is) =
      run_holds (LineStep rules offers reported) (IsMap nat_eq) a lines texts b map run

module _ {S : Type 0} (rules : Rules ℕ ℕ S) (terms : Terms ℕ ℕ S) (reported : S → Option ℕ) where
  answered_map : (old new : Map S) (call : Call ℕ ℕ S) (reply : Reply ℕ ℕ)
      → AnswersCall rules (offers_of terms) old call reply new → IsMap nat_eq old → IsSized new → IsMap nat_eq new
  answered_map old new call reply (inl step) map sized =
      let kind : Kind rules (offers_of terms) nat_eq hash_of old new call = step_kind call reply step in
      elim (any_step call kind) [
        | inl any ↦ any_is_map nat_eq_equiv (number-lawful (λ k. [])) (offers_of-lawful terms nat_eq nat_eq_equiv) old
            new any map sized
        | inr same ↦ subst (IsMap nat_eq) (sym same) map
      ]
  answered_map old new call reply (inr (stores, none, same)) map sized = subst (IsMap nat_eq) (sym same) map

  some_line_step : (old : Map S) → IsMap nat_eq old → (line : List ℕ) → (text : List ℕ) × (new : Map S)
      × LineStep rules (offers_of terms) reported old line text new × IsMap nat_eq new
  some_line_step old ok line = by (spelled_or line)
    where
      by : ((call : Call ℕ ℕ S) × SpellsCall line call) ⊎ ((call : Call ℕ ℕ S) → SpellsCall line call → ⊥)
          → (text : List ℕ) × (new : Map S) × LineStep rules (offers_of terms) reported old line text new
          × IsMap nat_eq new
      by (inl (call, spells)) =
          let (reply, new, is, after) = some_step rules terms old ok.sized call (has_line line call spells) in
          let text = reply_text (reported old.limiter) reply in
          (text, new, inl (call, spells, (reply, is, refl)), answered_map old new call reply is ok after)
      by (inr none) = (bad_text, old, inr (none, refl, refl), ok)

  pub some_line_run : (old : Map S) → IsMap nat_eq old → (lines : List (List ℕ)) → (text : List ℕ) × (new : Map S)
      × IsLineRun rules (offers_of terms) reported old lines text new
  some_line_run old ok lines =
      let (texts, new, run) =
      some_run (LineStep rules (offers_of terms) reported) (IsMap nat_eq) some_line_step old ok lines in
      (flat_map fed texts, new, (texts, run, refl))
