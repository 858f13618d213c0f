use Rattle.std.proofs.Common.{◌≡◌, ℕ, ◌+◌, ◌<◌, Bool, true, false, cond, List, [], ◌∷◌, ◌++◌, length}
use Rattle.std.proofs.Common.{take, drop, get_or, ◌==◌, ◌≤◌, ◌-◌, IfSome, zero, suc, Option, Some, None, OnSome, refl, sym, ap, ◌∙◌, subst, arith, append_assoc}
use Rattle.std.specs.Prelude.{not, nat_lt, Result, Ok, Err, OnErr, is_some}
use Rattle.std.specs.List.{filter, cons_option, All}
use Rattle.std.specs.Io.{StopsAt}
use Rattle.std.specs.Io.BufRead.{take_through, drop_through, DropsThrough}
use Rattle.std.specs.Io.KnownBytes.{Consumes, IsAtEnd}
use Rattle.std.proofs.KnownBytes.{Consumes-trans, Consumes-nil}
use Rattle.std.proofs.lemmas.Bool.{ne_eqb, eqb-true, le-leb}
use Rattle.std.proofs.lemmas.Bool.{lt-ltb}
use Rattle.std.proofs.lemmas.Str.{IsUtf8-from_is_utf8, is_utf8-from_IsUtf8}
use Rattle.std.specs.Str.{IsUtf8, is_utf8}
use Rattle.std.proofs.lemmas.List.{append-nil, length-append, take-append-le, take_all, drop_all, take_more}
use Rattle.std.proofs.lemmas.List.Elements.{recursion_from_All}
use Rattle.std.proofs.lemmas.List.Elements.{filter_map-append}
use Rattle.lru_trace.specs.Curves.{IsCurveOf, AreTooLarge, Follows, Leads}
use Rattle.lru_trace.specs.declared.curves.AnyCurve.{AnyCurve}
use Rattle.lru_trace.specs.Lines.{lines_of, onto_first, fed, LacksFeed, EndsSo, TakesRest, TakesLine, is_key}
use Rattle.lru_trace.specs.declared.options.Options.{Options}
use Rattle.lru_trace.specs.References.{reference_of, references_in, malformed_in, warm_in, counted_in, others_in, others_so}
use Rattle.lru_trace.specs.References.{is_reference, warm_long, warm_up_in}
use Rattle.lru_trace.specs.References.{warm_up_of, bits_of}
use Rattle.lru_trace.specs.declared.lines.Others.{Others}
use Rattle.lru_trace.specs.Samples.{sampled, skipped, is_sampled}
use Rattle.lru_trace.specs.declared.lines.Ending.{Ending}
use Rattle.lru_trace.specs.declared.lines.Ending.TheVariants as endings
use Rattle.lru_trace.specs.Outcome.{KeysRead, TooLargeRead}
use Rattle.lru_trace.proofs.WarmUps.{filtered_more, kept_and_left, skipped_more, one_more}

pub lines_of-fed : (line rest : List ℕ) → LacksFeed line
    → lines_of (fed line ++ rest) ≡ line ∷ lines_of rest
lines_of-fed [] rest lacks = refl
lines_of-fed (b ∷ line) rest lacks = rw (ne_eqb b 10 lacks.0) (ap (onto_first b) (lines_of-fed line rest lacks.1))

pub lines_of-last : (line : List ℕ) → LacksFeed line → 0 < length line
    → lines_of line ≡ line ∷ []
lines_of-last [] lacks some = absurd (omega arith)
lines_of-last (b ∷ line) lacks some = go b line lacks
  where
    go : (b : ℕ) (line : List ℕ) → LacksFeed (b ∷ line) → lines_of (b ∷ line) ≡ (b ∷ line) ∷ []
    go b [] lacks = rw (ne_eqb b 10 lacks.0) refl
    go b (c ∷ line) lacks = rw (ne_eqb b 10 lacks.0) (ap (onto_first b) (go c line lacks.1))

stops_before : (line more : List ℕ) (b : ℕ) → line ++ b ∷ [] ≡ more → StopsAt more 10 → LacksFeed line
stops_before line more b is stops =
    let stops : StopsAt (line ++ b ∷ []) 10 = subst (λ l. StopsAt l 10) (sym is) stops in
    let n : length (line ++ b ∷ []) - 1 ≡ length line = omega (arith, length-append line (b ∷ [])) in
    recursion_from_All (λ b. b ≡ 10 → ⊥) line (subst (λ l. All (λ b. b ≡ 10 → ⊥) l)
    (ap (λ n. take n (line ++ b ∷ [])) n ∙ take-append-le (length line) line (b ∷ []) (omega arith)
    ∙ take_all (length line) line (omega arith)) stops)

lacks_more : (line : List ℕ) (b : ℕ) → LacksFeed line → (b ≡ 10 → ⊥) → LacksFeed (line ++ b ∷ [])
lacks_more [] b lacks other = (other, tt)
lacks_more (x ∷ line) b lacks other = (lacks.0, lacks_more line b lacks.1 other)

stops_never : (bytes : List ℕ) → StopsAt bytes 10 → ((front : List ℕ) → bytes ≡ fed front → ⊥) → LacksFeed bytes
stops_never [] stops none = tt
stops_never (b ∷ bytes) stops none =
    let all = b ∷ bytes in
    let n = length bytes in
    let last = get_or all n 0 in
    let one : take n all ++ last ∷ [] ≡ all = sym (take_more all n 0 (omega arith)) ∙ take_all (n + 1) all (omega arith) in
    subst LacksFeed one (lacks_more (take n all) last (stops_before (take n all) all last one stops)
    (λ e. none (take n all) (sym one ∙ ap (λ x. take n all ++ x ∷ []) e)))

through_all : (bytes : List ℕ) → LacksFeed (take_through 10 bytes) → drop_through 10 bytes ≡ []
through_all [] lacks = refl
through_all (b ∷ bytes) lacks = go (b == 10) refl (through_all bytes) lacks
  where
    go : (t : Bool) → (b == 10) ≡ t → (LacksFeed (take_through 10 bytes) → drop_through 10 bytes ≡ [])
        → LacksFeed (cond t (b ∷ []) (b ∷ take_through 10 bytes)) → cond t bytes (drop_through 10 bytes) ≡ []
    go true e later lacks = absurd (lacks.0 (eqb-true b 10 e))
    go false e later lacks = later lacks.1

module _ (from to : Option (List ℕ)) (bytes : List ℕ) (stops : StopsAt bytes 10) (reads : Consumes from to bytes)
    (is : IfSome from (λ input. bytes ≡ take_through 10 input)) (on : DropsThrough from to 10) where
  rest_taken : LacksFeed bytes → TakesRest from to bytes
  rest_taken lacks = (lacks, reads, go from is on)
    where
      go : (from : Option (List ℕ)) → IfSome from (λ input. bytes ≡ take_through 10 input) → DropsThrough from to 10
          → OnSome from (IsAtEnd to)
      go None is on = tt
      go (Some input) is on = subst IsAtEnd (sym on) (through_all input (subst LacksFeed is lacks))

  pub line_taken : (ending : Ending) (line : List ℕ) → EndsSo ending bytes line → TakesLine from to ending line
  line_taken endings.Feed line e = (stops_before line bytes 10 (sym e) stops, subst (Consumes from to) e reads)
  line_taken endings.InputEnd line (same, some, none) =
      (subst (TakesRest from to) (sym same) (rest_taken (stops_never bytes stops none)), some)
  line_taken endings.Nothing line (same, none) =
      (subst (TakesRest from to) (sym same) (rest_taken (subst LacksFeed (sym none ∙ same) tt)), none)

pub taken_part : (from to : Option (List ℕ)) (ending : Ending) (line : List ℕ) → TakesLine from to ending line
    → (part : List ℕ) × Consumes from to part
taken_part from to endings.Feed line taken = (fed line, taken.1)
taken_part from to endings.InputEnd line taken = (line, taken.0.1)
taken_part from to endings.Nothing line taken = (line, taken.0.1)

pub taken_feed : (from to : Option (List ℕ)) (ending : Ending) (line : List ℕ) → (ending ≡ endings.Nothing → ⊥)
    → (ending ≡ endings.InputEnd → ⊥) → TakesLine from to ending line → TakesLine from to endings.Feed line
taken_feed from to endings.Feed line some feed taken = taken
taken_feed from to endings.InputEnd line some feed taken = absurd (feed refl)
taken_feed from to endings.Nothing line some feed taken = absurd (some refl)

pub key_by_text : (line : List ℕ) → 0 < length line → length line ≤ 64 → is_key line ≡ is_utf8 line
key_by_text line some few = rw (lt-ltb 0 (length line) some, le-leb (length line) 64 few) refl

pub not_key : (line : List ℕ) → 0 < length line → length line ≤ 64 → (IsUtf8 line → ⊥) → is_key line ≡ false
not_key line some few no_text = key_by_text line some few ∙ go (is_utf8 line) refl
  where
    go : (b : Bool) → is_utf8 line ≡ b → b ≡ false
    go false e = refl
    go true e = absurd (no_text (IsUtf8-from_is_utf8 line e))

pub a_key : (line : List ℕ) → 0 < length line → length line ≤ 64 → IsUtf8 line → is_key line ≡ true
a_key line some few text = key_by_text line some few ∙ is_utf8-from_IsUtf8 line text

pub nonempty : (n : ℕ) → false ≡ (n == 0) → 0 < n
nonempty zero e = absurd cc
nonempty (suc n) e = omega arith

pub ended_before : (a b c : Option (List ℕ)) (bytes : List ℕ) → Consumes a b bytes → OnSome b (IsAtEnd c)
    → OnSome a (IsAtEnd c)
ended_before None b c bytes p q = tt
ended_before (Some x) None c bytes p q = absurd p
ended_before (Some x) (Some y) c bytes p q = q

pub some_part : {A E : Type 0} (r : Result A E) (a b c : Option (List ℕ)) (bytes more : List ℕ) → Consumes a b bytes
    → Consumes b c more → OnErr r ((part : List ℕ) × Consumes a c part)
some_part (Ok x) a b c bytes more p q = tt
some_part (Err e) a b c bytes more p q = (bytes ++ more, Consumes-trans a b c bytes more p q)

-- `lines` whole lines were read.
pub record ReadSoFar (from to : Option (List ℕ)) (options : Options) (curve : AnyCurve) (lines : ℕ) (others : Others)
    : Type 0 where
  pub bytes : List ℕ
  pub whole : (rest : List ℕ) → lines_of (bytes ++ rest) ≡ lines_of bytes ++ lines_of rest
  pub reads : Consumes from to bytes
  pub curve_of : IsCurveOf (warm_in options (lines_of bytes)) (counted_in options (lines_of bytes)) curve
  pub left_out : others ≡ others_in options (lines_of bytes)
  pub all : lines ≡ others.malformed + length (references_in options (lines_of bytes))

pub nothing_read : (options : Options) (curve : AnyCurve) → IsCurveOf [] [] curve
    → IsCurveOf (warm_in options []) (counted_in options []) curve
nothing_read options curve is =
    subst (λ ks. IsCurveOf (sampled bits ks) (sampled bits (drop w [])) curve) (sym (take_all w [] (omega arith)))
    (subst (λ ks. IsCurveOf [] (sampled bits ks) curve) (sym (drop_all w [] (omega arith))) is)
  where
    bits : ℕ
    bits = bits_of options

    w : ℕ
    w = warm_up_in options []

pub none_left_out : (options : Options) → record { malformed = 0; skipped = 0; deleted = 0 } ≡ others_in options []
none_left_out options = λ i. record {
  malformed = 0;
  skipped = ap (λ rs. skipped (bits_of options) (filter (is_reference options) rs))
      (sym (drop_all (warm_up_in options []) [] (omega arith))) i;
  deleted = 0;
}

pub none_read : (from : Option (List ℕ)) (options : Options) (curve : AnyCurve) → IsCurveOf [] [] curve
    → ReadSoFar from from options curve 0 (record { malformed = 0; skipped = 0; deleted = 0 })
none_read from options curve is = record {
  bytes = [];
  whole = λ rest. refl;
  reads = Consumes-nil from;
  curve_of = nothing_read options curve is;
  left_out = none_left_out options;
  all = refl;
}

abbrev pub both : Others → Others → Others
both a b = record {
  malformed = a.malformed + b.malformed;
  skipped = a.skipped + b.skipped;
  deleted = a.deleted + b.deleted;
}

module _ (options : Options) (lines : List (List ℕ)) (line : List ℕ) where
  references_more : references_in options (lines ++ line ∷ [])
      ≡ references_in options lines ++ references_in options (line ∷ [])
  references_more = filter_map-append (reference_of options) lines (line ∷ [])

  one_line : malformed_in options (line ∷ []) + length (references_in options (line ∷ [])) ≡ 1
  one_line = split (reference_of options line)
    where
      split : (r : Option (List ℕ × ℕ)) → length (cond (not (is_some r)) (line ∷ []) []) + length (cons_option r []) ≡ 1
      split (Some r) = refl
      split None = refl

  others_more : (warm : Bool)
      → warm ≡ nat_lt (length (filter (is_reference options) (references_in options lines))) (warm_up_of options.policies)
      → others_in options (lines ++ line ∷ []) ≡ both (others_in options lines) (others_so options (line ∷ []) warm)
  others_more warm is = λ i. record {
    malformed = filtered_more (λ line. not (is_some (reference_of options line))) lines (line ∷ []) i;
    skipped = (ap (λ ks. skipped (bits_of options) (filter (is_reference options)
        (drop (warm_long (is_reference options) (warm_up_of options.policies) ks) ks))) references_more
        ∙ skipped_more (bits_of options) (warm_up_of options.policies) (is_reference options) (references_in options lines)
        (references_in options (line ∷ [])) (omega (arith, one_line)) warm is) i;
    deleted = (ap (λ ks. length (filter (λ reference. not (is_reference options reference)) ks)) references_more
        ∙ filtered_more (λ reference. not (is_reference options reference)) (references_in options lines)
        (references_in options (line ∷ []))) i;
  }

pub few_others : (options : Options) (line : List ℕ) (warm : Bool)
    → ((others_so options (line ∷ []) warm).malformed ≤ 1) × ((others_so options (line ∷ []) warm).skipped ≤ 1)
    × ((others_so options (line ∷ []) warm).deleted ≤ 1)
    × ((others_so options (line ∷ []) warm).malformed + (others_so options (line ∷ []) warm).deleted ≤ 1)
few_others options line warm = (
  few (λ line. not (is_some (reference_of options line))) line,
  only warm,
  one (λ reference. not (is_reference options reference)) (reference_of options line),
  either (reference_of options line),
)
  where
    few : {X : Type 0} (p : X → Bool) (x : X) → length (filter p (x ∷ [])) ≤ 1
    few p x = go (p x)
      where
        go : (t : Bool) → length (cond t (x ∷ []) []) ≤ 1
        go true = omega arith
        go false = omega arith

    one : (p : List ℕ × ℕ → Bool) (r : Option (List ℕ × ℕ)) → length (filter p (cons_option r [])) ≤ 1
    one p (Some key) = few p key
    one p None = omega arith

    either : (r : Option (List ℕ × ℕ)) → length (cond (not (is_some r)) (line ∷ []) [])
        + length (filter (λ reference. not (is_reference options reference)) (cons_option r [])) ≤ 1
    either (Some key) = omega (arith, few (λ reference. not (is_reference options reference)) key)
    either None = omega arith

    go : (r : Option (List ℕ × ℕ)) → skipped (bits_of options) (filter (is_reference options) (cons_option r [])) ≤ 1
    go (Some key) = test (is_reference options key)
      where
        test : (b : Bool) → skipped (bits_of options) (cond b (key ∷ []) []) ≤ 1
        test true = few (λ key. not (is_sampled (bits_of options) key.0)) key
        test false = omega arith
    go None = omega arith

    only : (warm : Bool) → (others_so options (line ∷ []) warm).skipped ≤ 1
    only true = omega arith
    only false = go (reference_of options line)

module _ {from mid : Option (List ℕ)} {options : Options} {old : AnyCurve} {lines : ℕ} {others : Others}
    (so_far : ReadSoFar from mid options old lines others)
    (to : Option (List ℕ)) (line : List ℕ) where
  abbrev n : ℕ
  n = warm_up_of options.policies

  abbrev bits : ℕ
  bits = bits_of options

  abbrev test : List ℕ × ℕ → Bool
  test = is_reference options

  abbrev it : List (List ℕ × ℕ)
  it = references_in options (line ∷ [])

  fed_lines : LacksFeed line → (rest : List ℕ)
      → lines_of (so_far.bytes ++ (fed line ++ rest)) ≡ lines_of so_far.bytes ++ (line ∷ lines_of rest)
  fed_lines lacks rest =
      so_far.whole (fed line ++ rest) ∙ ap (λ ls. lines_of so_far.bytes ++ ls) (lines_of-fed line rest lacks)

  fed_line : LacksFeed line → lines_of (so_far.bytes ++ fed line) ≡ lines_of so_far.bytes ++ line ∷ []
  fed_line lacks = ap (λ bs. lines_of (so_far.bytes ++ bs)) (sym (append-nil (fed line))) ∙ fed_lines lacks []

  last_line : LacksFeed line → 0 < length line → lines_of (so_far.bytes ++ line) ≡ lines_of so_far.bytes ++ line ∷ []
  last_line lacks some = so_far.whole line ∙ ap (λ ls. lines_of so_far.bytes ++ ls) (lines_of-last line lacks some)

  module _ (is_warm : Bool) (is : is_warm ≡ nat_lt (lines - others.malformed - others.deleted) n) where
    warms : is_warm ≡ nat_lt (length (filter test (references_in options (lines_of so_far.bytes)))) n
    warms =
        let all = references_in options (lines_of so_far.bytes) in
        let read : lines - others.malformed - others.deleted ≡ length (filter test all) =
        omega (arith, so_far.all, ap (λ o. o.deleted) so_far.left_out, kept_and_left test all) in
        is ∙ ap (λ m. nat_lt m n) read

    longer : (bytes : List ℕ) → lines_of bytes ≡ lines_of so_far.bytes ++ line ∷ []
        → references_in options (lines_of so_far.bytes) ++ it ≡ references_in options (lines_of bytes)
    longer bytes same =
        sym (ap (references_in options) same ∙ references_more options (lines_of so_far.bytes) line)

    holds : (Holds : List (List ℕ × ℕ) → List (List ℕ × ℕ) → Type 0) → Leads is_warm old (sampled bits it) Holds
        → (bytes : List ℕ) → lines_of bytes ≡ lines_of so_far.bytes ++ line ∷ []
        → Holds (warm_in options (lines_of bytes)) (counted_in options (lines_of bytes))
    holds Holds follows bytes same =
        let before = lines_of so_far.bytes in
        let one = one_line options before line in
        subst (λ ks. Holds (sampled bits (take (warm_long test n ks) ks)) (sampled bits (drop (warm_long test n ks) ks)))
        (longer bytes same)
        (one_more bits n test (references_in options before) it (omega (arith, one)) old Holds is_warm warms follows
        so_far.curve_of)

    module _ (follows : Leads is_warm old (sampled bits it) AreTooLarge) where
      pub large_line : (ending : Ending) → (ending ≡ endings.Nothing → ⊥) → TakesLine mid to ending line
          → TooLargeRead 0 from to options
      large_line endings.Feed some taken = record {
        input = so_far.bytes ++ fed line;
        reads = Consumes-trans from mid to so_far.bytes (fed line) so_far.reads taken.1;
        large = holds AreTooLarge follows (so_far.bytes ++ fed line) (fed_line taken.0);
      }
      large_line endings.InputEnd some taken = record {
        input = so_far.bytes ++ line;
        reads = Consumes-trans from mid to so_far.bytes line so_far.reads taken.0.1;
        large = holds AreTooLarge follows (so_far.bytes ++ line) (last_line taken.0.0 taken.1);
      }
      large_line endings.Nothing some taken = absurd (some refl)

    abbrev pub more : Others
    more = both others (others_so options (line ∷ []) is_warm)

    left : (bytes : List ℕ) → lines_of bytes ≡ lines_of so_far.bytes ++ line ∷ [] → more ≡ others_in options (lines_of bytes)
    left bytes same = ap (λ o. both o (others_so options (line ∷ []) is_warm)) so_far.left_out
        ∙ sym (others_more options (lines_of so_far.bytes) line is_warm warms) ∙ ap (others_in options) (sym same)

    module _ (new : AnyCurve) (follows : Follows is_warm old (sampled bits it) new) where
      pub line_read : TakesLine mid to endings.Feed line → ReadSoFar from to options new (lines + 1) more
      line_read taken =
          let before = lines_of so_far.bytes in
          let bytes = so_far.bytes ++ fed line in
          let same = fed_line taken.0 in
          record {
            bytes = bytes;
            whole = λ rest. ap lines_of (append_assoc so_far.bytes (fed line) rest) ∙ fed_lines taken.0 rest
                ∙ sym (append_assoc before (line ∷ []) (lines_of rest)) ∙ ap (λ ls. ls ++ lines_of rest) (sym same);
            reads = Consumes-trans from mid to so_far.bytes (fed line) so_far.reads taken.1;
            curve_of = holds (λ w t. IsCurveOf w t new) follows bytes same;
            left_out = left bytes same;
            all = omega (
              arith,
              so_far.all,
              one_line options before line,
              sym (ap length (longer bytes same)),
              length-append (references_in options before) it,
            );
          }

      pub last_read : TakesRest mid to line → 0 < length line → KeysRead from to options new more
      last_read taken some =
          let bytes = so_far.bytes ++ line in
          let same = last_line taken.0 some in
          record {
            input = bytes;
            reads = Consumes-trans from mid to so_far.bytes line so_far.reads taken.1;
            at_end = ended_before from mid to so_far.bytes so_far.reads taken.2;
            curve_of = holds (λ w t. IsCurveOf w t new) follows bytes same;
            left_out = left bytes same;
          }
