-- The lines of a trace, and their keys.
use Rattle.std.specs.Prelude.{◌≡◌, ◌≢◌, ℕ, ◌<◌, Bool, ◌&&◌, nat_lt, nat_le, List, [], ◌∷◌, ◌++◌, length, ◌==◌}
use Rattle.std.specs.Prelude.{if◌then◌else◌, zero, suc, Option, OnSome, Some, None}
use Rattle.std.specs.List.{AllByRecursion}
use Rattle.std.specs.Io.KnownBytes.{Consumes, IsAtEnd}
use Rattle.std.specs.Str.{is_utf8}
use Rattle.lru_trace.specs.declared.options.Column.{Column}
use Rattle.lru_trace.specs.declared.lines.Ending.{Ending}
use Rattle.lru_trace.specs.declared.lines.Ending.TheVariants as endings

abbrev pub onto_first : ℕ → List (List ℕ) → List (List ℕ)
onto_first b [] = (b ∷ []) ∷ []
onto_first b (line ∷ lines) = (b ∷ line) ∷ lines

-- the lines of an input, without their line feeds
abbrev pub lines_of : List ℕ → List (List ℕ)
lines_of [] = []
lines_of (b ∷ bytes) = if b == 10 then [] ∷ lines_of bytes else onto_first b (lines_of bytes)

abbrev pub fed : List ℕ → List ℕ
fed line = line ++ 10 ∷ []

abbrev pub LacksFeed : List ℕ → Type 0
LacksFeed bytes = AllByRecursion (λ b. b ≢ 10) bytes

-- `line` is `bytes` without the line feed at the end, if there is one
abbrev pub EndsSo : Ending → List ℕ → List ℕ → Type 0
EndsSo endings.Feed bytes line = bytes ≡ fed line
EndsSo endings.InputEnd bytes line = (line ≡ bytes) × (0 < length line) × ((front : List ℕ) → bytes ≡ fed front → ⊥)
EndsSo endings.Nothing bytes line = (line ≡ bytes) × (line ≡ [])

-- `from` lists the unread bytes before a read, and `to` after it. Each list may be unknown (`None`).
module _ (from to : Option (List ℕ)) where
  -- These bytes, which contain no line feed, were read. The reader has no bytes left.
  abbrev pub TakesRest : List ℕ → Type 0
  TakesRest bytes = LacksFeed bytes × Consumes from to bytes × OnSome from (IsAtEnd to)

  -- a line was read, and ended as `Ending` says
  abbrev pub TakesLine : Ending → List ℕ → Type 0
  TakesLine endings.Feed line = LacksFeed line × Consumes from to (fed line)
  TakesLine endings.InputEnd line = TakesRest line × (0 < length line)
  TakesLine endings.Nothing line = TakesRest line × (line ≡ [])

abbrev pub before : ℕ → List ℕ → List ℕ
before separator [] = []
before separator (b ∷ line) = if b == separator then [] else b ∷ before separator line

abbrev pub behind : ℕ → List ℕ → List ℕ
behind separator [] = []
behind separator (b ∷ line) = if b == separator then line else behind separator line

-- The column after n separators of the line. If the line has fewer separators, the column is empty.
abbrev pub cell : ℕ → ℕ → List ℕ → List ℕ
cell separator zero line = before separator line
cell separator (suc n) line = cell separator n (behind separator line)

-- the part of a line that must spell the key
abbrev pub text_in : Option Column → List ℕ → List ℕ
text_in None line = line
text_in (Some column) line = cell column.separator column.index line

abbrev pub is_key : List ℕ → Bool
is_key text = nat_lt 0 (length text) && (nat_le (length text) 64 && is_utf8 text)
