-- If each row of `Words` has a property, each meaning of a line has this property.
use Rattle.std.proofs.Common.{◌≡◌, ℕ, ◌<◌, ◌≤◌, ◌^◌, Bool, true, false, List, [], ◌∷◌, ◌++◌, length, refl, sym, subst}
use Rattle.std.proofs.Common.{arith, rules, Option, Some, None, option_map, decimal}
use Rattle.std.proofs.lemmas.Fmt.{length-decimal-le}
use Rattle.std.proofs.lemmas.List.{append-nil, length-append}
use Rattle.std.proofs.lemmas.Slice.Eq.{bytes_eq-Decides}
use Rattle.std.specs.List.{AllByRecursion}
use Rattle.std.specs.Str.{bytes_eq}
use Rattle.std.specs.Prelude.{cond}
use Rattle.lru_model.specs.Lists.{lookup}
use Rattle.lru_replay.specs.declared.calls.Call.{Call}
use Rattle.lru_replay.specs.declared.calls.Call.TheVariants as calls
use Rattle.lru_replay.specs.declared.lines.line.TheConstants.{LONGEST}
use Rattle.lru_replay.specs.declared.lines.words.Limit.{Limit}
use Rattle.lru_replay.specs.declared.lines.words.Numbers.{Numbers}
use Rattle.lru_replay.specs.declared.lines.words.Numbers.TheVariants as numbers
use Rattle.lru_replay.specs.Grammar.{Words, Fit, SpellsCall, SpellsLimit, pair_spelling, numbers_text, said_of}
use Rattle.lru_replay.specs.Grammar.{call_words, limit_words}

abbrev pub IsWithin : ℕ → List ℕ → Type 0
IsWithin most word = (0 < length word) × (length word ≤ most)

abbrev pub IsShort : List ℕ → Type 0
IsShort line = IsWithin LONGEST line

short_number : (n : ℕ) → n < 2 ^ 64 → length (decimal n) < 21
short_number n h = omega (arith, length-decimal-le 20 n (omega arith) (omega (arith, h)) h)

short_pair : (k v : ℕ) → k < 2 ^ 64 → v < 2 ^ 64 → length (pair_spelling k v) < 42
short_pair k v h l = omega (arith, short_number k h, short_number v l, length-append (decimal k) (32 ∷ decimal v))

found_row : {Y : Type 0} (Q : List ℕ → Y → Type 0) (word : List ℕ) (rows : List (List ℕ × Y))
    → AllByRecursion (λ row. Q row.0 row.1) rows → (y : Y) → lookup (bytes_eq word) rows ≡ Some y → Q word y
found_row Q word [] all y is = absurd (cc)
found_row {Y} Q word (row ∷ rows) all y is = by (found_row Q word rows all.1 y) (bytes_eq word row.0) refl is
  where
    by : (lookup (bytes_eq word) rows ≡ Some y → Q word y) → (b : Bool) → b ≡ bytes_eq word row.0 → cond b (Some row.1) (lookup (bytes_eq word) rows) ≡ Some y → Q word y
    by later true test is =
        let same : row.0 ≡ word = sym ((bytes_eq-Decides word row.0).0 (sym test)) in
        let found : row.1 ≡ y = cc in
        subst (λ w. Q w y) same (subst (Q row.0) found all.0)
    by later false test is = later is

from_map : {X Y : Type 0} (f : Y → X) (o : Option Y) (x : X) → option_map f o ≡ Some x
    → (y : Y) × (o ≡ Some y) × (f y ≡ x)
from_map f None x is = absurd (cc)
from_map f (Some y) x is = let same : f y ≡ x = cc in (y, refl, same)

module _ {X : Type 0} (words : Words X) where
  abbrev pub HoldsOfRows : (X → Type 0) → Type 0
  HoldsOfRows P = AllByRecursion (λ row. P row.1) words.alone × AllByRecursion (λ row. (n : ℕ) → P (row.1 n)) words.one
      × AllByRecursion (λ row. (k v : ℕ) → P (row.1 k v)) words.two

  pub holds_of_said : (P : X → Type 0) → HoldsOfRows P → (word : List ℕ) (given : Numbers) (x : X)
      → said_of words word given ≡ Some x → P x
  holds_of_said P rows word numbers.Zero x is = found_row (λ w. P) word words.alone rows.0 x is
  holds_of_said P rows word (numbers.One n) x is =
      let (make, found, same) = from_map (λ make. make n) (lookup (bytes_eq word) words.one) x is in
      subst P same (found_row (λ w make. (n : ℕ) → P (make n)) word words.one rows.1 make found n)
  holds_of_said P rows word (numbers.Two k v) x is =
      let (make, found, same) = from_map (λ make. make k v) (lookup (bytes_eq word) words.two) x is in
      subst P same (found_row (λ w make. (k v : ℕ) → P (make k v)) word words.two rows.2 make found k v)

  abbrev pub AreShort : Type 0
  AreShort = AllByRecursion (λ row. IsWithin LONGEST row.0) words.alone
      × AllByRecursion (λ row. IsWithin 27 row.0) words.one × AllByRecursion (λ row. IsWithin 6 row.0) words.two

  short_said : AreShort → (word : List ℕ) (given : Numbers) → Fit given → (x : X) → said_of words word given ≡ Some x
      → IsShort (word ++ numbers_text given)
  short_said short word numbers.Zero fits x is =
      let h = found_row (λ w y. IsWithin LONGEST w) word words.alone short.0 x is in
      subst IsShort (sym (append-nil word)) h
  short_said short word (numbers.One n) fits x is =
      let (make, found, same) = from_map (λ make. make n) (lookup (bytes_eq word) words.one) x is in
      let h = found_row (λ w y. IsWithin 27 w) word words.one short.1 make found in
      let long = length-append word (32 ∷ decimal n) in
      (omega (arith, h.0, long), omega (arith, h.1, long, short_number n fits))
  short_said short word (numbers.Two k v) fits x is =
      let (make, found, same) = from_map (λ make. make k v) (lookup (bytes_eq word) words.two) x is in
      let h = found_row (λ w y. IsWithin 6 w) word words.two short.2 make found in
      let long = length-append word (32 ∷ pair_spelling k v) in
      (omega (arith, h.0, long), omega (arith, h.1, long, short_pair k v fits.0 fits.1))

abbrev pub HasLine : {S : Type 0} → Call ℕ ℕ S → Type 0
HasLine (calls.GetOrInsert k v) = ⊥
HasLine (calls.GetByHash hash k) = ⊥
HasLine (calls.PeekByHash hash k) = ⊥
HasLine (calls.Write k v) = ⊥
HasLine calls.PeekOldest = ⊥
HasLine calls.PeekNewest = ⊥
HasLine calls.Trim = ⊥
HasLine (calls.Drain front back) = back ≡ 0
HasLine (calls.SetLimiter s) = ⊥
HasLine call = Unit {0}

pub has_line : {S : Type 0} (line : List ℕ) (call : Call ℕ ℕ S) → SpellsCall line call → HasLine call
has_line {S} line call (word, given, is, means) =
    holds_of_said (call_words {S = S}) HasLine rows word given call means
  where
    rows : HoldsOfRows (call_words {S = S}) HasLine
    rows = (search rules, search rules, search rules)

pub short_call : {S : Type 0} (line : List ℕ) (call : Call ℕ ℕ S) → SpellsCall line call → IsShort line
short_call {S} line call (word, given, (lacks, fits, is), means) =
    subst IsShort (sym is) (short_said (call_words {S = S}) short word given fits call means)
  where
    short : AreShort (call_words {S = S})
    short = search rules

pub short_limit : (line : List ℕ) (limit : Limit) → SpellsLimit line limit → IsShort line
short_limit line limit (fits_limit, (word, given, (lacks, fits, is), means)) =
    subst IsShort (sym is) (short_said limit_words (search rules) word given fits limit means)
