use Rattle.std.proofs.Common.{◌≡◌, ℕ, ◌+◌, ◌<◌, ◌≤◌, List, [], ◌∷◌, ◌++◌, length, take, drop, get_or, sym, ap, ◌∙◌, append_assoc, arith}
use Rattle.std.specs.Prelude.{◌==◌, if◌then◌else◌, nat_lt, Bool, true, false}
use Rattle.std.proofs.lemmas.Bool.{lt-ltb, le-ltb, eq-eqb, ne_eqb}
use Rattle.std.proofs.lemmas.List.{at_drop_more, at_drop_all, take_more, take-append-drop, take_all}
use Rattle.std.specs.List.{All, fold}
use Rattle.std.proofs.lemmas.List.Elements.{All-nil, All-cons, All-head, All-tail}
use Rattle.lru_trace.specs.Rows.{with_size, points}

module _ (sizes : List ℕ) (n at : ℕ) where
  module _ (within : at < length sizes) where
    abbrev size : ℕ
    size = get_or sizes at 0

    abbrev rest : List ℕ
    rest = drop (at + 1) sizes

    pub goes_on : size < n
        → take at sizes ++ with_size (drop at sizes) n ≡ take (at + 1) sizes ++ with_size (drop (at + 1) sizes) n
    goes_on less = ap (λ l. take at sizes ++ l) (at_drop_more (λ l. with_size l n) sizes at 0 within
        ∙ ap (λ t. if t then size ∷ with_size rest n else if size == n then size ∷ rest else n ∷ size ∷ rest)
        (lt-ltb size n less)) ∙ sym (append_assoc (take at sizes) (size ∷ []) (with_size rest n))
        ∙ ap (λ l. l ++ with_size rest n) (sym (take_more sizes at 0 within))

    pub is_there : size ≡ n → take at sizes ++ with_size (drop at sizes) n ≡ sizes
    is_there same = ap (λ l. take at sizes ++ l) (at_drop_more (λ l. with_size l n) sizes at 0 within
        ∙ ap (λ t. if t then size ∷ with_size rest n else if size == n then size ∷ rest else n ∷ size ∷ rest)
        (le-ltb size n (omega (arith, same)))
        ∙ ap (λ t. if t then size ∷ rest else n ∷ size ∷ rest) (eq-eqb size n same)
        ∙ sym (at_drop_more (λ l. l) sizes at 0 within)) ∙ take-append-drop at sizes

    pub comes_before : n < size → take at sizes ++ with_size (drop at sizes) n ≡ take at sizes ++ n ∷ drop at sizes
    comes_before more = ap (λ l. take at sizes ++ l) (at_drop_more (λ l. with_size l n) sizes at 0 within
        ∙ ap (λ t. if t then size ∷ with_size rest n else if size == n then size ∷ rest else n ∷ size ∷ rest)
        (le-ltb size n (omega (arith, more)))
        ∙ ap (λ t. if t then size ∷ rest else n ∷ size ∷ rest) (ne_eqb size n (λ e. absurd (omega (arith, e, more))))
        ∙ ap (λ l. n ∷ l) (sym (at_drop_more (λ l. l) sizes at 0 within)))

  pub comes_last : length sizes ≤ at → take at sizes ++ with_size (drop at sizes) n ≡ sizes ++ n ∷ []
  comes_last all = λ i. take_all at sizes all i ++ at_drop_all (λ l. with_size l n) sizes at all i

module _ (P : ℕ → Type 0) where
  All-with_size : (n : ℕ) → P n → (sizes : List ℕ) → All P sizes → All P (with_size sizes n)
  All-with_size n p [] all = All-cons P n [] p all
  All-with_size n p (size ∷ sizes) all = go (nat_lt size n) (size == n)
      (All-cons P size (with_size sizes n) (All-head P size sizes all) (All-with_size n p sizes (All-tail P size sizes all)))
    where
      go : (t u : Bool) → All P (size ∷ with_size sizes n)
          → All P (if t then size ∷ with_size sizes n else if u then size ∷ sizes else n ∷ size ∷ sizes)
      go true u later = later
      go false true later = all
      go false false later = All-cons P n (size ∷ sizes) p all

  All-fold : (more sizes : List ℕ) → All P sizes → All P more → All P (fold with_size sizes more)
  All-fold [] sizes all each = all
  All-fold (n ∷ more) sizes all each = All-fold more (with_size sizes n)
      (All-with_size n (All-head P n more each) sizes all) (All-tail P n more each)

  pub All-points : (sizes others : List ℕ) → All P sizes → All P others → All P (points sizes others)
  All-points sizes others named all = All-fold sizes (fold with_size [] others) (All-fold others [] (All-nil P) all) named
