-- Runs over lines. Each line makes a step of the map, and the answer to each line is a text.
use Rattle.std.specs.Prelude.{◌≡◌, ℕ, nat_eq, List, ◌⊎◌, flat_map, Option, OnSome, IfSome, Result, Ok, Err}
use Rattle.std.specs.Io.KnownBytes.{Appends, IsAtEnd}
use Rattle.lru_limits.specs.Rules.{Rules, Offers}
use Rattle.lru_model.specs.State.{IsMap}
use Rattle.lru_replay.specs.declared.calls.Call.{Call}
use Rattle.lru_replay.specs.declared.calls.Call.TheVariants as calls
use Rattle.lru_replay.specs.declared.lines.outcome.ReplayError.{ReplayError}
use Rattle.lru_replay.specs.declared.lines.outcome.ReplayError.TheVariants as errors
use Rattle.lru_replay.specs.CallRuns.{IsRun}
use Rattle.lru_replay.specs.Grammar.{SpellsCall}
use Rattle.lru_replay.specs.Lines.{lines_of, fed, TakesLines}
use Rattle.lru_replay.specs.Maps.{Map, hash_of}
use Rattle.lru_replay.specs.Output.{reply_text, bad_text, Writes, Begins}
use Rattle.lru_replay.specs.Replies.{Reply, no_memory}
use Rattle.lru_replay.specs.Steps.{ReplyStep}

-- the call allocates memory for a list of pairs before the list is written
abbrev pub StoresFirst : {S : Type 0} → Call ℕ ℕ S → Type 0
StoresFirst (calls.InsertWith k v) = Unit {0}
StoresFirst call = ⊥

module _ {S : Type 0} (rules : Rules ℕ ℕ S) (offers : Offers ℕ ℕ S ℕ) where
  -- either the call makes its step, or the allocation of the list of pairs fails and nothing changes
  abbrev pub AnswersCall : Map S → Call ℕ ℕ S → Reply ℕ ℕ → Map S → Type 0
  AnswersCall old call reply new = ReplyStep rules offers nat_eq hash_of old call reply new
      ⊎ (StoresFirst call × (reply ≡ no_memory) × (new ≡ old))

module _ {S : Type 0} (rules : Rules ℕ ℕ S) (offers : Offers ℕ ℕ S ℕ) (reported : S → Option ℕ) where
  abbrev pub TextStep : Map S → Call ℕ ℕ S → List ℕ → Map S → Type 0
  TextStep old call text new = (reply : Reply ℕ ℕ) × AnswersCall rules offers old call reply new
      × (text ≡ reply_text (reported old.limiter) reply)

  -- If the line spells a call, the text is the answer to this call. Otherwise the text is `bad`.
  abbrev pub LineStep : Map S → List ℕ → List ℕ → Map S → Type 0
  LineStep old line text new = ((call : Call ℕ ℕ S) × SpellsCall line call × TextStep old call text new)
      ⊎ (((call : Call ℕ ℕ S) → SpellsCall line call → ⊥) × (text ≡ bad_text) × (new ≡ old))

  -- The answer to the line was written, followed by a line feed. If a write failed, only a prefix of this text was
  -- written.
  abbrev pub AnswersLine : Map S → List ℕ → Map S → Option (List ℕ) → Option (List ℕ) → Result (Unit {0}) ReplayError
      → Type 0
  AnswersLine before line after old new result =
      (text : List ℕ) × LineStep before line text after × Writes old new result (fed text)

  -- A run over the lines, in which `IsMap` is true after each line. The text consists of the answers to the lines, each
  -- with a line feed.
  abbrev pub IsLineRun : Map S → List (List ℕ) → List ℕ → Map S → Type 0
  IsLineRun old lines text new =
      (texts : List (List ℕ)) × IsRun LineStep (IsMap nat_eq) old lines texts new × (text ≡ flat_map fed texts)

  abbrev pub IsTextOf : Map S → List (List ℕ) → List ℕ → Type 0
  IsTextOf old lines text = (new : Map S) × IsLineRun old lines text new

-- Below, `IsText` says which texts are answers to lines. `Wrote` says how much of a text was written. `from` lists the
-- unread bytes before the call, and `to` after it. `old` lists the written bytes before the call, and `new` after it.
-- Each list may be unknown (`None`).
module _ (IsText : List (List ℕ) → List ℕ → Type 0) (from : Option (List ℕ)) where
  abbrev pub OfAll : (List ℕ → Type 0) → Type 0
  OfAll Wrote = IfSome from (λ input. (text : List ℕ) × IsText (lines_of input) text × Wrote text)

  -- Some whole lines and a part of the next line were read. `Wrote` holds for the answers to the whole lines.
  abbrev pub OfRead : Option (List ℕ) → (List ℕ → Type 0) → Type 0
  OfRead to Wrote = (lines : List (List ℕ)) × (text part : List ℕ)
      × IsText lines text × TakesLines from to lines part × Wrote text

module _ (IsText IsTextSoFar : List (List ℕ) → List ℕ → Type 0) (from to old new : Option (List ℕ)) where
  -- The call read all lines, or some whole lines and a part of the next line. A prefix of the answers to the whole
  -- lines was written.
  abbrev pub BeginsText : Type 0
  BeginsText = (OfAll IsText from (Begins old new) × OnSome from (IsAtEnd to))
      ⊎ OfRead IsTextSoFar from to (Begins old new)

-- what a call read and wrote, if it returned this result
abbrev pub Answers : (List (List ℕ) → List ℕ → Type 0) → Option (List ℕ) → Option (List ℕ) → Option (List ℕ)
    → Option (List ℕ) → Result (Unit {0}) ReplayError → Type 0
Answers IsText from to old new (Ok _) = OfAll IsText from (Appends old new) × OnSome from (IsAtEnd to)
Answers IsText from to old new (Err errors.Read) = OfRead IsText from to (Appends old new)
Answers IsText from to old new (Err errors.Write) = BeginsText IsText IsText from to old new
