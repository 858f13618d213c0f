-- What a whole replay reads and writes.
use Rattle.std.specs.Prelude.{◌≡◌, ℕ, List, [], ◌∷◌, ◌⊎◌, Option, OnSome, IfSome, Result, Ok, Err}
use Rattle.std.specs.Io.KnownBytes.{Appends, IsAtEnd}
use Rattle.lru_limits.specs.Limiters.{length_rules, length_offers, memory_rules, no_rules, all_offers}
use Rattle.lru_limits.specs.declared.limiters.unlimited_compact.UnlimitedCompact.{UnlimitedCompact}
use Rattle.lru_replay.specs.declared.lines.words.Limit.{Limit}
use Rattle.lru_replay.specs.declared.lines.words.Limit.TheVariants as limits
use Rattle.lru_replay.specs.declared.lines.outcome.ReplayEnd.{ReplayEnd}
use Rattle.lru_replay.specs.declared.lines.outcome.ReplayEnd.TheVariants as ends
use Rattle.lru_replay.specs.declared.lines.outcome.ReplayError.{ReplayError}
use Rattle.lru_replay.specs.declared.lines.outcome.ReplayError.TheVariants as errors
use Rattle.lru_model.specs.Sizes.{max_of_32_bits, max_of_64_bits}
use Rattle.lru_replay.specs.Grammar.{SpellsLimit}
use Rattle.lru_replay.specs.Limits.{cost_rules, cost_offers, no_cost, cost_reported}
use Rattle.lru_replay.specs.Lines.{lines_of, TakesFirst}
use Rattle.lru_replay.specs.Maps.{empty}
use Rattle.lru_replay.specs.Output.{no_limiter_text, Begins}
use Rattle.lru_replay.specs.LineRuns.{IsTextOf, OfAll, OfRead, BeginsText}

-- the number of bytes of an entry, unless the first line names this number
abbrev pub plain_entry_bytes : ℕ
plain_entry_bytes = 32

-- The lines are carried out on an empty map with this limit, and the text consists of their answers.
abbrev pub IsTextUnder : Limit → List (List ℕ) → List ℕ → Type 0
IsTextUnder (limits.Length most) =
    IsTextOf length_rules length_offers no_cost (empty most plain_entry_bytes max_of_32_bits)
IsTextUnder (limits.Memory budget entry_bytes) =
    IsTextOf memory_rules all_offers no_cost (empty budget entry_bytes max_of_32_bits)
IsTextUnder (limits.Cost most) =
    IsTextOf cost_rules cost_offers cost_reported
    (empty (record { limit = most; cost = 0 }) plain_entry_bytes max_of_64_bits)
IsTextUnder limits.Compact =
    IsTextOf {S = UnlimitedCompact} no_rules all_offers no_cost (empty (record {}) plain_entry_bytes max_of_32_bits)

abbrev pub IsReplay : List (List ℕ) → List ℕ → Type 0
IsReplay lines text = (limit : Limit) × (first : List ℕ) × (others : List (List ℕ))
    × (lines ≡ first ∷ others) × SpellsLimit first limit × IsTextUnder limit others text

-- The first line spells no limit, or there is no line.
abbrev pub NamesNoLimit : List (List ℕ) → Type 0
NamesNoLimit lines = (limit : Limit) (first : List ℕ) (others : List (List ℕ)) → lines ≡ first ∷ others
    → SpellsLimit first limit → ⊥

-- what is written for these lines if nothing fails
abbrev pub IsOutput : List (List ℕ) → List ℕ → Type 0
IsOutput lines text = IsReplay lines text ⊎ (NamesNoLimit lines × (text ≡ no_limiter_text))

-- The text for the lines that were read. If no line was read, the text is empty.
abbrev pub SoFar : (List (List ℕ) → List ℕ → Type 0) → List (List ℕ) → List ℕ → Type 0
SoFar IsText [] text = text ≡ []
SoFar IsText (first ∷ others) text = IsText (first ∷ others) text

-- How a replay ended. `from` lists the unread bytes before the replay, and `to` after it. `old` lists the written bytes
-- before the replay, and `new` after it. Each list may be unknown (`None`).
module _ (from to old new : Option (List ℕ)) where
  pub record Finished : Type 0 where
    pub named : IfSome from (λ input. NamesNoLimit (lines_of input) → ⊥)
    pub replay : OfAll IsReplay from (Appends old new)
    pub at_end : OnSome from (IsAtEnd to)

  -- Nothing after the first line was read, and `no limiter` was written.
  pub record HasNoLimit : Type 0 where
    pub unnamed : IfSome from (λ input. NamesNoLimit (lines_of input))
    pub reads : TakesFirst from to
    pub writes : Appends old new no_limiter_text

  -- The replay wrote the answers to all lines that it read whole, and no other text.
  abbrev pub ReadFailed : Type 0
  ReadFailed = OfRead (SoFar IsReplay) from to (Appends old new)

  -- The written text is a prefix of the output for all lines (`cut`). It is also a prefix of the output for the lines
  -- that were read (`reads`).
  pub record WriteFailed : Type 0 where
    pub cut : OfAll IsOutput from (Begins old new)
    pub reads : BeginsText IsOutput (SoFar IsOutput) from to old new

  abbrev pub Replays : Result ReplayEnd ReplayError → Type 0
  Replays (Ok ends.Done) = Finished
  Replays (Ok ends.NoLimiter) = HasNoLimit
  Replays (Err errors.Read) = ReadFailed
  Replays (Err errors.Write) = WriteFailed

abbrev pub status_of : Result ReplayEnd ReplayError → ℕ
status_of (Ok ends.Done) = 0
status_of (Ok ends.NoLimiter) = 1
status_of (Err e) = 2
