use Rattle.std.proofs.Common.{◌≡◌, ℕ, zero, suc, ◌<◌, ◌^◌, List, [], ◌∷◌, ◌++◌, length, get_or, refl, sym, ap, ◌∙◌}
use Rattle.std.proofs.Common.{subst, arith, Result, Ok, Err, IfSome, IfNone, decimal, IsUtf8}
use Rattle.std.proofs.lemmas.Fmt.{decimal_nonempty, decimal_is_IsNumeral, first_decimal, decimal_digit}
use Rattle.std.proofs.lemmas.Fmt.{decimal-digits_value, parse-decimal, IsAscii-decimal}
use Rattle.std.proofs.lemmas.Str.Parse.{digit_at, digit_from_value, without_leading_plus_none, numerals_by_value}
use Rattle.std.proofs.lemmas.Str.Parse.{tells_digits}
use Rattle.std.proofs.lemmas.Result.{OkIff-at_ok}
use Rattle.std.proofs.lemmas.Str.{IsUtf8-from_ascii}
use Rattle.std.specs.Result.{result_ok}
use Rattle.std.specs.Str.Parse.{ParsesUnsigned, IsNumeral, digits_value, AllDigits}
use Rattle.lru_replay.specs.Grammar.{SpellsNumber, StartsAsNumber, SpellsPair, IsSplit, pair_spelling}
use Rattle.lru_replay.specs.declared.lines.words.Numbers.{Numbers}
use Rattle.lru_replay.specs.declared.lines.words.Numbers.TheVariants as numbers
use Rattle.lru_replay.specs.Lines.{Lacks}
use Rattle.std.proofs.lemmas.List.{append-nil}
use Rattle.lru_replay.proofs.ByteLists.{one_split, Lacks-none}

pub decimal_starts : (n : ℕ) → n < 2 ^ 64 → StartsAsNumber (decimal n)
decimal_starts n h =
    let some = decimal_nonempty n h in
    let digit = digit_at (decimal n) 0 (decimal_is_IsNumeral n h).0.1 some in
    (some, (λ e. omega (arith, digit, e)), one n h)
  where
    one : (n : ℕ) → n < 2 ^ 64 → get_or (decimal n) 0 0 ≡ 48 → length (decimal n) ≡ 1
    one zero h e = ap length (decimal_digit 0 (omega arith))
    one (suc n) h e = absurd (omega (arith, first_decimal (suc n) (omega arith) h, e))

pub starts_of : (word : List ℕ) (n : ℕ) → SpellsNumber word n → StartsAsNumber word
starts_of word n h = subst StartsAsNumber (sym h.1) (decimal_starts n h.0)

pub IfSome-parsed : {E : Type 0} (word : List ℕ) (r : Result ℕ E) → StartsAsNumber word → ParsesUnsigned 64 10 word r
    → IfSome (result_ok r) (λ n. SpellsNumber word n)
IfSome-parsed {E} word (Err e) start h = tt
IfSome-parsed {E} word (Ok n) start h =
    let bare = without_leading_plus_none word start.1 in
    let read = OkIff-at_ok {E = E} (Ok n) _ _ n h refl in
    let numeral : IsNumeral 10 word = subst (IsNumeral 10) bare read.0.0 in
    let value : n ≡ digits_value 10 word = read.1 ∙ ap (digits_value 10) bare in
    let small : digits_value 10 word < 2 ^ 64 = subst (λ l. digits_value 10 l < 2 ^ 64) bare read.0.1 in (
      subst (λ k. k < 2 ^ 64) (sym value) small,
      sym
          (ap decimal value ∙ decimal-digits_value
          (numerals_by_value _ tells_digits) word numeral.1 numeral.0 start.2 small),
    )

pub IfNone-parsed : {E : Type 0} (word : List ℕ) (r : Result ℕ E) → ParsesUnsigned 64 10 word r
    → IfNone (result_ok r) ((n : ℕ) → SpellsNumber word n → ⊥)
IfNone-parsed word (Ok m) h = tt
IfNone-parsed word (Err e) h = λ n s. let ok = parse-decimal 64 n word (Err e) s.0 s.0 s.1 h in cc

pub number_is_text : (word : List ℕ) (n : ℕ) → SpellsNumber word n → IsUtf8 word
number_is_text word n s = subst IsUtf8 (sym s.1) (IsUtf8-from_ascii (decimal n) (IsAscii-decimal n s.0))

digits_lack_space : (ds : List ℕ) → AllDigits 10 ds → Lacks 32 ds
digits_lack_space [] d = tt
digits_lack_space (c ∷ cs) d = (λ e. omega (arith, e, digit_from_value c d.0), digits_lack_space cs d.1)

pub decimal_lacks_space : (n : ℕ) → n < 2 ^ 64 → Lacks 32 (decimal n)
decimal_lacks_space n h = digits_lack_space (decimal n) (decimal_is_IsNumeral n h).0.1

pub pair_parts : (words a b : List ℕ) (k v : ℕ) → Lacks 32 a → words ≡ a ++ 32 ∷ b → SpellsPair words k v
    → SpellsNumber a k × SpellsNumber b v
pair_parts words a b k v lacks e s =
    let h = one_split 32 a b (decimal k) (decimal v) lacks (decimal_lacks_space k s.0) (sym e ∙ s.2) in
    ((s.0, h.0), (s.1, h.1))

pub no_pair : (words : List ℕ) (k v : ℕ) → Lacks 32 words → SpellsPair words k v → ⊥
no_pair words k v lacks s = Lacks-none 32 (decimal k) (decimal v) (subst (Lacks 32) s.2 lacks)

pub no_numbers : (line rest first : List ℕ) → Lacks 32 first → line ≡ first ++ 32 ∷ rest
    → ((n : ℕ) → SpellsNumber rest n → ⊥) → ((k v : ℕ) → SpellsPair rest k v → ⊥) → (word : List ℕ) (given : Numbers)
    → IsSplit line word given → ⊥
no_numbers line rest first lacks is none none_pair word numbers.Zero (bare, fits, same) =
    Lacks-none 32 first rest (subst (Lacks 32) (sym (append-nil word) ∙ sym same ∙ is) bare)
no_numbers line rest first lacks is none none_pair word (numbers.One n) (bare, fits, same) =
    none n (fits, (one_split 32 first rest word (decimal n) lacks bare (sym is ∙ same)).1)
no_numbers line rest first lacks is none none_pair word (numbers.Two k v) (bare, fits, same) =
    none_pair k v (fits.0, fits.1, (one_split 32 first rest word (pair_spelling k v) lacks bare (sym is ∙ same)).1)
