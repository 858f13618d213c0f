-- How the program `trace` ends: what the program read and wrote.
use Rattle.std.specs.Prelude.{◌≡◌, ℕ, ◌≤◌, List, [], ◌∷◌, ◌++◌, length, drop, Option, OnSome, Some, None, Result, Ok, Err}
use Rattle.std.specs.Io.KnownBytes.{Consumes, IsAtEnd, Appends, Keeps}
use Rattle.lru_trace.specs.declared.options.Options.{Options}
use Rattle.lru_trace.specs.declared.byte_curve.SizeError.{SizeError}
use Rattle.lru_trace.specs.declared.byte_curve.SizeError.TheVariants as sizes
use Rattle.lru_trace.specs.declared.outcome.TraceEnd.{TraceEnd}
use Rattle.lru_trace.specs.declared.outcome.TraceEnd.TheVariants as ends
use Rattle.lru_trace.specs.declared.outcome.TraceError.{TraceError}
use Rattle.lru_trace.specs.declared.outcome.TraceError.TheVariants as errors
use Rattle.lru_trace.specs.Curves.{IsCurveOf, Fits, AreTooLarge}
use Rattle.lru_trace.specs.declared.curves.AnyCurve.{AnyCurve}
use Rattle.lru_trace.specs.Lines.{lines_of}
use Rattle.lru_trace.specs.References.{warm_in, counted_in, others_in}
use Rattle.lru_trace.specs.declared.lines.Others.{Others}
use Rattle.lru_trace.specs.Report.{output}
use Rattle.lru_trace.specs.Sizes.{sizes_from}

-- The reader was read to the end, and `curve` counts the references that the lines make. `from` lists the unread bytes
-- before the reads, and `to` after them. Each list may be unknown (`None`).
pub record KeysRead (from to : Option (List ℕ)) (options : Options) (curve : AnyCurve) (others : Others) : Type 0 where
  pub input : List ℕ
  pub reads : Consumes from to input
  pub at_end : OnSome from (IsAtEnd to)
  pub curve_of : IsCurveOf (warm_in options (lines_of input)) (counted_in options (lines_of input)) curve
  pub left_out : others ≡ others_in options (lines_of input)

-- What `KeysRead` says, for an input whose first line names the sizes and makes no reference.
pub record TraceRead (from to : Option (List ℕ)) (options : Options) (sizes : List ℕ) (curve : AnyCurve)
    (others : Others) : Type 0 where
  pub input : List ℕ
  pub first : List ℕ
  pub rest : List (List ℕ)
  pub reads : Consumes from to input
  pub at_end : OnSome from (IsAtEnd to)
  pub lines : lines_of input ≡ first ∷ rest
  pub named : sizes_from [] None first ≡ Some sizes
  pub curve_of : IsCurveOf (warm_in options rest) (counted_in options rest) curve
  pub fits : Fits options sizes curve
  pub left_out : others ≡ others_in options rest

-- The program read no line, or one line that names no sizes.
pub record NoSizesRead (from to : Option (List ℕ)) : Type 0 where
  pub input : List ℕ
  pub reads : Consumes from to input
  pub one : length (lines_of input) ≤ 1
  pub none : (options : Options) → output options (lines_of input) ≡ None

abbrev pub SomeRead : Option (List ℕ) → Option (List ℕ) → Type 0
SomeRead from to = (part : List ℕ) × Consumes from to part

-- The keys were read from the lines after the first n lines. The entries of these keys take 2 ^ 64 bytes or more in
-- all.
pub record TooLargeRead (n : ℕ) (from to : Option (List ℕ)) (options : Options) : Type 0 where
  pub input : List ℕ
  pub reads : Consumes from to input
  pub large : AreTooLarge (warm_in options (drop n (lines_of input))) (counted_in options (drop n (lines_of input)))

-- A prefix of the text was written. `old` lists the written bytes before, and `new` after. Each list may be unknown
-- (`None`).
abbrev pub Begins : Option (List ℕ) → Option (List ℕ) → List ℕ → Type 0
Begins old new text = (begun rest : List ℕ) × (text ≡ begun ++ rest) × Appends old new begun

-- The reader was read to the end, and the lines determine the text. `IsWritten` says which part of the text was
-- written. If `from` is unknown (`None`), `input` may be any list of bytes.
pub record Reported (from to : Option (List ℕ)) (options : Options) (IsWritten : List ℕ → Type 0) : Type 0 where
  pub input : List ℕ
  pub text : List ℕ
  pub reads : Consumes from to input
  pub at_end : OnSome from (IsAtEnd to)
  pub determined : output options (lines_of input) ≡ Some text
  pub written : IsWritten text

abbrev pub Ends : Options → Option (List ℕ) → Option (List ℕ) → Option (List ℕ) → Option (List ℕ)
    → Result TraceEnd TraceError → Type 0
Ends options from to old new (Ok ends.Done) = Reported from to options (Appends old new)
Ends options from to old new (Ok ends.NoSizes) = NoSizesRead from to × Keeps old new
Ends options from to old new (Err errors.Read) = SomeRead from to × Keeps old new
Ends options from to old new (Err errors.Memory) = SomeRead from to × Keeps old new
Ends options from to old new (Err errors.TooLarge) = TooLargeRead 1 from to options × Keeps old new
Ends options from to old new (Err errors.Write) = Reported from to options (Begins old new)

abbrev pub error_of : SizeError → TraceError
error_of sizes.Memory = errors.Memory
error_of sizes.TooLarge = errors.TooLarge

abbrev pub status_of : Result TraceEnd TraceError → ℕ
status_of (Ok ends.Done) = 0
status_of (Ok ends.NoSizes) = 1
status_of (Err errors.Read) = 2
status_of (Err errors.Write) = 2
status_of (Err errors.Memory) = 3
status_of (Err errors.TooLarge) = 5
