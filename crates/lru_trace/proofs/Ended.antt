use Rattle.std.proofs.Common.{◌≡◌, ℕ, List, [], ◌∷◌, ◌++◌, Option, Some, None, refl, sym, ap, ◌∙◌}
use Rattle.std.proofs.Common.{subst, arith, drop}
use Rattle.std.specs.Io.KnownBytes.{Consumes, Appends, Keeps}
use Rattle.std.proofs.KnownBytes.{Consumes-trans, Appends-kept}
use Rattle.std.specs.Option.{option_map}
use Rattle.std.proofs.lemmas.List.{append-nil}
use Rattle.lru_trace.specs.Curves.{IsCurveOf, AreTooLarge, Fits}
use Rattle.lru_trace.specs.declared.curves.AnyCurve.{AnyCurve}
use Rattle.lru_trace.specs.Lines.{lines_of, fed, TakesLine}
use Rattle.lru_trace.specs.References.{warm_in, counted_in, others_in}
use Rattle.lru_trace.specs.declared.lines.Others.{Others}
use Rattle.lru_trace.specs.Sizes.{sizes_from}
use Rattle.lru_trace.specs.Report.{output, written}
use Rattle.lru_trace.specs.declared.options.Options.{Options}
use Rattle.std.specs.Prelude.{Result, Ok, Err}
use Rattle.std.specs.Result.{IsErr, IsErrAnd}
use Rattle.lru_trace.specs.declared.outcome.TraceEnd.{TraceEnd}
use Rattle.lru_trace.specs.declared.outcome.TraceError.{TraceError}
use Rattle.lru_trace.specs.declared.outcome.TraceError.TheVariants as errors
use Rattle.lru_trace.specs.Outcome.{KeysRead, TraceRead, NoSizesRead, Reported, Begins, SomeRead, TooLargeRead, Ends}
use Rattle.lru_trace.specs.declared.lines.Ending.{Ending}
use Rattle.lru_trace.specs.declared.lines.Ending.TheVariants as endings
use Rattle.lru_trace.proofs.ReadLines.{lines_of-fed, lines_of-last, ended_before, nothing_read, none_left_out}

output_of : (options : Options) (lines : List (List ℕ)) (first : List ℕ) (others : List (List ℕ)) (named : Option (List ℕ))
    → lines ≡ first ∷ others → sizes_from [] None first ≡ named
    → output options lines
    ≡ option_map (λ sizes. written options (warm_in options others) (counted_in options others) sizes
    (others_in options others)) named
output_of options lines first others named is are = ap (output options) is
    ∙ ap (option_map (λ sizes. written options (warm_in options others) (counted_in options others) sizes
    (others_in options others))) are

module _ (from mid : Option (List ℕ)) (first : List ℕ) where
  fed_alone : TakesLine from mid endings.Feed first → lines_of (fed first) ≡ first ∷ []
  fed_alone taken = ap lines_of (sym (append-nil (fed first))) ∙ lines_of-fed first [] taken.0

  none_named : (input : List ℕ) → Consumes from mid input → lines_of input ≡ first ∷ [] → None ≡ sizes_from [] None first
      → NoSizesRead from mid
  none_named input reads is none = record {
    input = input;
    reads = reads;
    one = rw is (omega arith);
    none = λ options. output_of options (lines_of input) first [] None is (sym none);
  }

  pub no_sizes : (ending : Ending) → TakesLine from mid ending first → None ≡ sizes_from [] None first
      → NoSizesRead from mid
  no_sizes endings.Feed taken none = none_named (fed first) taken.1 (fed_alone taken) none
  no_sizes endings.InputEnd (taken, some) none =
      none_named first taken.1 (lines_of-last first taken.0 some) none
  no_sizes endings.Nothing (taken, nothing) none = record {
    input = [];
    reads = subst (Consumes from mid) nothing taken.1;
    one = omega arith;
    none = λ options. refl;
  }

  pub only_sizes : (options : Options) (ending : Ending) (sizes : List ℕ) (curve : AnyCurve) → (ending ≡ endings.Feed → ⊥)
      → TakesLine from mid ending first → Some sizes ≡ sizes_from [] None first → IsCurveOf [] [] curve
      → Fits options sizes curve
      → TraceRead from mid options sizes curve (record { malformed = 0; skipped = 0; deleted = 0 })
  only_sizes options endings.Feed sizes curve other taken named of fits = absurd (other refl)
  only_sizes options endings.Nothing sizes curve other (taken, nothing) named of fits =
      let e : Some sizes ≡ None = named ∙ ap (sizes_from [] None) nothing in absurd cc
  only_sizes options endings.InputEnd sizes curve other (taken, some) named of fits = record {
    input = first;
    first = first;
    rest = [];
    reads = taken.1;
    at_end = taken.2;
    lines = lines_of-last first taken.0 some;
    named = sym named;
    curve_of = nothing_read options curve of;
    fits = fits;
    left_out = none_left_out options;
  }

  pub with_keys : (to : Option (List ℕ)) (options : Options) (sizes : List ℕ) (curve : AnyCurve) (others : Others)
      → TakesLine from mid endings.Feed first → Some sizes ≡ sizes_from [] None first
      → KeysRead mid to options curve others → Fits options sizes curve
      → TraceRead from to options sizes curve others
  with_keys to options sizes curve others taken named keys fits = record {
    input = fed first ++ keys.input;
    first = first;
    rest = lines_of keys.input;
    reads = Consumes-trans from mid to (fed first) keys.input taken.1 keys.reads;
    at_end = ended_before from mid to (fed first) taken.1 keys.at_end;
    lines = lines_of-fed first keys.input taken.0;
    named = sym named;
    curve_of = keys.curve_of;
    fits = fits;
    left_out = keys.left_out;
  }

  pub too_large_behind : (to : Option (List ℕ)) (options : Options) → TakesLine from mid endings.Feed first
      → TooLargeRead 0 mid to options → TooLargeRead 1 from to options
  too_large_behind to options taken read = record {
    input = fed first ++ read.input;
    reads = Consumes-trans from mid to (fed first) read.input taken.1 read.reads;
    large = subst (λ lines. AreTooLarge (warm_in options lines) (counted_in options lines))
        (sym (ap (drop 1) (lines_of-fed first read.input taken.0))) read.large;
  }

module _ {from to : Option (List ℕ)} (options : Options) {sizes : List ℕ} {curve : AnyCurve} {others : Others}
    (read : TraceRead from to options sizes curve others) (report : List ℕ)
    (is : (warm trace : List (List ℕ × ℕ)) → IsCurveOf warm trace curve
    → report ≡ written options warm trace sizes others)
  where
    pub reported : (IsWritten : List ℕ → Type 0) → IsWritten report → Reported from to options IsWritten
    reported IsWritten put = record {
      input = read.input;
      text = report;
      reads = read.reads;
      at_end = read.at_end;
      determined = output_of options (lines_of read.input) read.first read.rest (Some sizes) read.lines read.named
          ∙ ap Some (ap (λ o. written options (warm_in options read.rest) (counted_in options read.rest) sizes o)
          (sym read.left_out)
          ∙ sym (is (warm_in options read.rest) (counted_in options read.rest) read.curve_of));
      written = put;
    }

    pub all_begun : (old mid new : Option (List ℕ)) → Appends old mid report → Keeps mid new
        → Reported from to options (Begins old new)
    all_begun old mid new put kept =
        reported (Begins old new) (report, [], sym (append-nil report), Appends-kept old mid new report put kept)

pub out_of_memory : (options : Options) (from to old : Option (List ℕ)) (end : Result TraceEnd TraceError)
    → IsErr end × IsErrAnd end (λ e. e ≡ errors.Memory) → SomeRead from to → Keeps old old
    → Ends options from to old old end
out_of_memory options from to old (Ok x) (h, _) some kept = absurd cc
out_of_memory options from to old (Err e) h some kept =
    subst (λ e. Ends options from to old old (Err e)) (sym h.1) (some, kept)
