-- The lines of an input. Each line ends with a line feed; the last line may end without one.
use Rattle.std.specs.Prelude.{◌≡◌, ◌≢◌, ℕ, ◌<◌, List, [], ◌∷◌, ◌++◌, ◌==◌, if◌then◌else◌, length, flat_map, Option}
use Rattle.std.specs.Prelude.{OnSome, ◌⊎◌}
use Rattle.std.specs.List.{AllByRecursion}
use Rattle.std.specs.Io.KnownBytes.{Consumes, IsAtEnd}
use Rattle.lru_replay.specs.declared.lines.line.Piece.{Piece}
use Rattle.lru_replay.specs.declared.lines.line.Piece.TheVariants as pieces
use Rattle.lru_replay.specs.declared.lines.line.Ending.{Ending}
use Rattle.lru_replay.specs.declared.lines.line.Ending.TheVariants as endings

abbrev pub Lacks : ℕ → List ℕ → Type 0
Lacks byte bytes = AllByRecursion (λ b. b ≢ byte) bytes

abbrev pub onto_first : ℕ → List (List ℕ) → List (List ℕ)
onto_first b [] = (b ∷ []) ∷ []
onto_first b (line ∷ lines) = (b ∷ line) ∷ lines

-- the lines of an input, without their line feeds
abbrev pub lines_of : List ℕ → List (List ℕ)
lines_of [] = []
lines_of (b ∷ bytes) = if b == 10 then [] ∷ lines_of bytes else onto_first b (lines_of bytes)

abbrev pub fed : List ℕ → List ℕ
fed line = line ++ 10 ∷ []

-- `old` lists the unread bytes before a read, and `new` after it. Each list may be unknown (`None`).
module _ (old new : Option (List ℕ)) where
  abbrev pub TakesPart : List ℕ → Type 0
  TakesPart bytes = Lacks 10 bytes × Consumes old new bytes

  abbrev pub TakesFed : List ℕ → Type 0
  TakesFed line = Lacks 10 line × Consumes old new (fed line)

  abbrev pub TakesRest : List ℕ → Type 0
  TakesRest bytes = Lacks 10 bytes × Consumes old new bytes × OnSome old (IsAtEnd new)

  -- what a call of `take_piece` took from the reader
  abbrev pub TakesPiece : Piece → List ℕ → Type 0
  TakesPiece pieces.Part bytes = TakesPart bytes
  TakesPiece pieces.Last bytes = TakesFed bytes
  TakesPiece pieces.End bytes = TakesRest bytes

  abbrev pub TakesLine : Ending → List ℕ → Type 0
  TakesLine endings.Feed line = TakesFed line
  TakesLine endings.InputEnd line = TakesRest line × (0 < length line)
  TakesLine endings.Nothing line = TakesRest line × (line ≡ [])

  abbrev pub TakesFirst : Type 0
  TakesFirst = (line : List ℕ) × (TakesFed line ⊎ TakesRest line)

  -- these lines with their line feeds, and a part of the next line, were read
  abbrev pub TakesLines : List (List ℕ) → List ℕ → Type 0
  TakesLines lines part = AllByRecursion (Lacks 10) lines × Lacks 10 part
      × Consumes old new (flat_map fed lines ++ part)
