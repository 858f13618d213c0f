-- The word and the numbers of a line determine its meaning. So one can decide whether a line has a meaning.
use Rattle.std.proofs.Common.{◌≡◌, ℕ, ◌<◌, ◌^◌, Bool, true, false, List, [], ◌∷◌, ◌++◌, refl, sym, ap, ◌∙◌, subst, inl}
use Rattle.std.proofs.Common.{inr, ◌⊎◌, decimal, ◌==◌, Option, Some, None, IfNone}
use Rattle.std.proofs.lemmas.Bool.{ne_eqb}
use Rattle.std.proofs.lemmas.Bool.Decides.{Decides-ltb, Decides-eqb, not_from_Decides}
use Rattle.std.proofs.lemmas.Fmt.{decimal_is_IsNumeral}
use Rattle.std.proofs.lemmas.List.{append-nil}
use Rattle.std.proofs.lemmas.List.Elements.{All-from_recursion}
use Rattle.std.proofs.lemmas.List.Splits.{slice_split_none, slice_split_at}
use Rattle.std.proofs.lemmas.Option.{same_Some}
use Rattle.std.proofs.lemmas.Slice.Eq.{bytes_eq-Decides}
use Rattle.std.specs.List.{All, AllByRecursion, slice_split}
use Rattle.std.specs.Str.{bytes_eq}
use Rattle.std.specs.Str.Parse.{digits_value}
use Rattle.std.specs.Prelude.{nat_lt}
use Rattle.std.specs.Bool.{Decides}
use Rattle.lru_replay.specs.declared.calls.Call.{Call}
use Rattle.lru_replay.specs.declared.lines.words.Limit.{Limit}
use Rattle.lru_replay.specs.declared.lines.words.Limit.TheVariants as limits
use Rattle.lru_replay.specs.declared.lines.words.Numbers.{Numbers}
use Rattle.lru_replay.specs.declared.lines.words.Numbers.TheVariants as numbers
use Rattle.lru_replay.specs.Grammar.{Words, Spells, SpellsCall, SpellsLimit, IsSplit, Fit, FitsLimit, numbers_text}
use Rattle.lru_replay.specs.Grammar.{pair_spelling, said_of, call_words, limit_words}
use Rattle.lru_replay.specs.Lines.{Lacks}
use Rattle.lru_replay.proofs.Numbers.{decimal_lacks_space}

-- the word and the numbers of a line that consists of these parts, with spaces between them
abbrev pub read : List (List ℕ) → List ℕ × Numbers
read [] = ([], numbers.Zero)
read (word ∷ []) = (word, numbers.Zero)
read (word ∷ n ∷ []) = (word, numbers.One (digits_value 10 n))
read (word ∷ k ∷ v ∷ more) = (word, numbers.Two (digits_value 10 k) (digits_value 10 v))

abbrev pub parts : List ℕ → List (List ℕ)
parts line = slice_split (λ b. b == 32) line

no_space : (bytes : List ℕ) → Lacks 32 bytes → All (λ b. (b == 32) ≡ false) bytes
no_space bytes lacks = All-from_recursion (λ b. (b == 32) ≡ false) bytes (by bytes lacks)
  where
    by : (bytes : List ℕ) → Lacks 32 bytes → AllByRecursion (λ b. (b == 32) ≡ false) bytes
    by [] lacks = tt
    by (b ∷ bytes) lacks = (ne_eqb b 32 lacks.0, by bytes lacks.1)

one_part : (bytes : List ℕ) → Lacks 32 bytes → parts bytes ≡ bytes ∷ []
one_part bytes lacks = slice_split_none (λ b. b == 32) bytes (no_space bytes lacks)

more_parts : (bytes rest : List ℕ) → Lacks 32 bytes → parts (bytes ++ 32 ∷ rest) ≡ bytes ∷ parts rest
more_parts bytes rest lacks = slice_split_at (λ b. b == 32) bytes 32 rest (no_space bytes lacks) refl

value_of_decimal : (n : ℕ) → n < 2 ^ 64 → digits_value 10 (decimal n) ≡ n
value_of_decimal n h = (decimal_is_IsNumeral n h).1

read_back : (word : List ℕ) (given : Numbers) → Lacks 32 word → Fit given
    → read (parts (word ++ numbers_text given)) ≡ (word, given)
read_back word numbers.Zero lacks fits = ap (λ l. read (parts l)) (append-nil word) ∙ ap read (one_part word lacks)
read_back word (numbers.One n) lacks fits =
    ap read (more_parts word (decimal n) lacks)
    ∙ ap (λ l. read (word ∷ l)) (one_part (decimal n) (decimal_lacks_space n fits))
    ∙ ap (λ n. (word, numbers.One n)) (value_of_decimal n fits)
read_back word (numbers.Two k v) lacks fits =
    ap read (more_parts word (pair_spelling k v) lacks)
    ∙ ap (λ l. read (word ∷ l)) (more_parts (decimal k) (decimal v) (decimal_lacks_space k fits.0))
    ∙ ap (λ l. read (word ∷ decimal k ∷ l)) (one_part (decimal v) (decimal_lacks_space v fits.1))
    ∙ (λ j. (word, numbers.Two (value_of_decimal k fits.0 j) (value_of_decimal v fits.1 j)))

split_once : (line word : List ℕ) (given : Numbers) → IsSplit line word given → read (parts line) ≡ (word, given)
split_once line word given (lacks, fits, is) = ap (λ l. read (parts l)) is ∙ read_back word given lacks fits

either_way : {P : Type 0} (r : Bool) → Decides r P → P ⊎ (P → ⊥)
either_way true d = inl (d.0 refl)
either_way false d = inr (not_from_Decides false d refl)

both_or : {P Q : Type 0} → P ⊎ (P → ⊥) → Q ⊎ (Q → ⊥) → (P × Q) ⊎ ((P × Q) → ⊥)
both_or (inl p) (inl q) = inl (p, q)
both_or (inl p) (inr q) = inr (λ h. q h.1)
both_or (inr p) q = inr (λ h. p h.0)

lt_or : (n limit : ℕ) → (n < limit) ⊎ (n < limit → ⊥)
lt_or n limit = either_way (nat_lt n limit) (Decides-ltb n limit)

fit_or : (given : Numbers) → Fit given ⊎ (Fit given → ⊥)
fit_or numbers.Zero = inl tt
fit_or (numbers.One n) = lt_or n (2 ^ 64)
fit_or (numbers.Two k v) = both_or (lt_or k (2 ^ 64)) (lt_or v (2 ^ 64))

same_or : (xs ys : List ℕ) → (xs ≡ ys) ⊎ (xs ≡ ys → ⊥)
same_or xs ys = either_way (bytes_eq xs ys) (bytes_eq-Decides xs ys)

lacks_or : (bytes : List ℕ) → Lacks 32 bytes ⊎ (Lacks 32 bytes → ⊥)
lacks_or [] = inl tt
lacks_or (b ∷ bytes) = elim (either_way (b == 32) (Decides-eqb b 32)) [
  | inl is ↦ inr (λ lacks. lacks.0 is)
  | inr isnt ↦ both_or (inl isnt) (lacks_or bytes)
]

split_or : (line word : List ℕ) (given : Numbers) → IsSplit line word given ⊎ (IsSplit line word given → ⊥)
split_or line word given =
    elim (both_or (lacks_or word) (both_or (fit_or given) (same_or line (word ++ numbers_text given)))) [
      | inl (lacks, (fits, same)) ↦ inl (lacks, fits, same)
      | inr isnt ↦ inr (λ h. isnt (h.0, (h.1, h.2)))
    ]

module _ {X : Type 0} (words : Words X) (line : List ℕ) where
  module _ (word : List ℕ) (given : Numbers) (is : IsSplit line word given) where
    one_meaning : (x : X) → Spells words line x → said_of words word given ≡ Some x
    one_meaning x (other, others, split, means) =
        ap (λ p. said_of words p.0 p.1) (sym (split_once line word given is) ∙ split_once line other others split)
        ∙ means

    pub meant_none : (r : Option X) → r ≡ said_of words word given → IfNone r ((x : X) → Spells words line x → ⊥)
    meant_none None means = λ x spells. let k = means ∙ one_meaning x spells in absurd (cc)
    meant_none (Some x) means = tt

  pub spells_or : ((x : X) × Spells words line x) ⊎ ((x : X) → Spells words line x → ⊥)
  spells_or = elim (split_or line (read (parts line)).0 (read (parts line)).1) [
    | inl is ↦ by is (said_of words (read (parts line)).0 (read (parts line)).1) refl
    | inr isnt ↦ inr (λ x (word, given, is, means).
        isnt (subst (λ p. IsSplit line p.0 p.1) (sym (split_once line word given is)) is))
  ]
    where
      by : IsSplit line (read (parts line)).0 (read (parts line)).1 → (r : Option X)
          → r ≡ said_of words (read (parts line)).0 (read (parts line)).1
          → ((x : X) × Spells words line x) ⊎ ((x : X) → Spells words line x → ⊥)
      by is (Some x) means = inl (x, (_, _, is, sym means))
      by is None means = inr (meant_none _ _ is None means)

pub spelled_or : {S : Type 0} (line : List ℕ) → ((call : Call ℕ ℕ S) × SpellsCall line call)
    ⊎ ((call : Call ℕ ℕ S) → SpellsCall line call → ⊥)
spelled_or line = spells_or call_words line

fits_limit : (limit : Limit) → FitsLimit limit ⊎ (FitsLimit limit → ⊥)
fits_limit (limits.Length n) = lt_or n (2 ^ 32)
fits_limit limit = inl tt

pub limit_or : (line : List ℕ) → ((limit : Limit) × SpellsLimit line limit)
    ⊎ ((limit : Limit) → SpellsLimit line limit → ⊥)
limit_or line = elim (spells_or limit_words line) [
  | inl (limit, spells) ↦ by limit spells (fits_limit limit)
  | inr none ↦ inr (λ limit spells. none limit spells.1)
]
  where
    by : (limit : Limit) → Spells limit_words line limit → FitsLimit limit ⊎ (FitsLimit limit → ⊥)
        → ((limit : Limit) × SpellsLimit line limit) ⊎ ((limit : Limit) → SpellsLimit line limit → ⊥)
    by limit spells (inl fits) = inl (limit, (fits, spells))
    by limit (word, given, is, means) (inr none) = inr (λ other named. none (subst FitsLimit
        (same_Some other limit (sym (one_meaning limit_words line word given is other named.1) ∙ means)) named.0))

pub limit_none : (line word : List ℕ) (given : Numbers) → IsSplit line word given → (r : Option Limit)
    → IfNone r ((limit : Limit) → FitsLimit limit → said_of limit_words word given ≡ Some limit → ⊥)
    → IfNone r ((limit : Limit) → SpellsLimit line limit → ⊥)
limit_none line word given is None none = λ limit spells.
    none limit spells.0 (one_meaning limit_words line word given is limit spells.1)
limit_none line word given is (Some limit) none = tt
