use Rattle.std.proofs.Common.{◌≡◌, ℕ, Bool, true, false, cond, List, [], ◌∷◌, ◌++◌, length, Option, Some, None, refl}
use Rattle.std.proofs.Common.{sym, ◌∙◌, subst, arith, zero, suc}
use Rattle.std.specs.Prelude.{Contains, option_to_list}
use Rattle.std.proofs.lemmas.List.{append-nil}
use Rattle.std.proofs.lemmas.Option.{same_Some}
use Rattle.std.specs.Cmp.{IsEquivalence}
use Rattle.std.specs.List.{IsDistinct, AllByRecursion, AllZip}
use Rattle.lru_limits.specs.Rules.{Rules, Offers}
use Rattle.lru_limits.specs.Laws.{IsLookup, IsInsertion, kept_value}
use Rattle.lru_model.specs.Lists.{IsFront, after, front, back, lookup_entry, without, set_entry, keys_of}
use Rattle.lru_model.specs.State.{Contents}
use Rattle.lru_model.proofs.Theorems.Fronts.{front_without_last, without_none, found_named}
use Rattle.lru_model.proofs.Theorems.Moves.{Keeps, KeepsOffers, exchange, rewrite}

module _ {K V : Type 0} (names : K → Bool) where
  abbrev pub NoneNamed : List (K × V) → Type 0
  NoneNamed pairs = AllByRecursion (λ k. names k ≡ false) (keys_of pairs)

  pub none_found : (xs : List (K × V)) → NoneNamed xs → lookup_entry names xs ≡ None
  none_found [] h = refl
  none_found (x ∷ xs) h = rw h.0 (none_found xs h.1)

  pub absent_keys : (xs : List (K × V)) → lookup_entry names xs ≡ None → NoneNamed xs
  absent_keys [] h = tt
  absent_keys (x ∷ xs) h = go (names x.0) refl h (absent_keys xs)
    where
      go : (y : Bool) → names x.0 ≡ y → cond y (Some x) (lookup_entry names xs) ≡ None
          → (lookup_entry names xs ≡ None → NoneNamed xs) → NoneNamed (x ∷ xs)
      go true e h r = absurd cc
      go false e h r = (e, r h)

module _ {K V : Type 0} (P : K → Type 0) where
  pub all_of : (xs : List (K × V)) (x : K × V) → AllByRecursion P (keys_of xs) → Contains xs x → P x.0
  all_of [] x h w = absurd (omega (arith, w.1))
  all_of (y ∷ ys) x h (zero, p, e) = subst (λ z. P z.0) e h.0
  all_of (y ∷ ys) x h (suc k, p, e) = all_of ys x h.1 (k, omega (arith, p), e)

  all_front : (xs rest : List (K × V)) → AllByRecursion P (keys_of (xs ++ rest)) → AllByRecursion P (keys_of xs)
  all_front [] rest h = tt
  all_front (x ∷ xs) rest h = (h.0, all_front xs rest h.1)

  all_between : (newer older : List (K × V)) (pair : K × V) → AllByRecursion P (keys_of (newer ++ pair ∷ older))
      → AllByRecursion P (keys_of (newer ++ older))
  all_between [] older pair h = h.1
  all_between (x ∷ newer) older pair h = (h.0, all_between newer older pair h.1)

  all_found : (names : K → Bool) (xs : List (K × V)) (pair : K × V) → AllByRecursion P (keys_of xs)
      → lookup_entry names xs ≡ Some pair → P pair.0
  all_found names [] pair h found = absurd (grind arith)
  all_found names (x ∷ xs) pair h found = go (names x.0) found (all_found names xs pair h.1)
    where
      go : (b : Bool) → cond b (Some x) (lookup_entry names xs) ≡ Some pair
          → (lookup_entry names xs ≡ Some pair → P pair.0) → P pair.0
      go true is later = subst (λ p. P p.0) (same_Some x pair is) h.0
      go false is later = later is

  all_push : (xs : List (K × V)) (pair : K × V) → AllByRecursion P (keys_of xs) → P pair.0
      → AllByRecursion P (keys_of (xs ++ pair ∷ []))
  all_push [] pair h p = (p, tt)
  all_push (x ∷ xs) pair h p = (h.0, all_push xs pair h.1 p)

  all_set : (names : K → Bool) (pair : K × V) (xs : List (K × V)) → P pair.0 → AllByRecursion P (keys_of xs)
      → AllByRecursion P (keys_of (set_entry names pair xs))
  all_set names pair [] p h = tt
  all_set names pair (x ∷ xs) p h = go (names x.0) (all_set names pair xs p h.1)
    where
      go : (b : Bool) → AllByRecursion P (keys_of (set_entry names pair xs))
          → AllByRecursion P (keys_of (cond b (pair ∷ xs) (x ∷ set_entry names pair xs)))
      go true r = (p, h.1)
      go false r = (h.0, r)

  all_without : (names : K → Bool) (xs : List (K × V)) → AllByRecursion P (keys_of xs)
      → AllByRecursion P (keys_of (without names xs))
  all_without names [] h = tt
  all_without names (x ∷ xs) h = go (names x.0) (all_without names xs h.1)
    where
      go : (b : Bool) → AllByRecursion P (keys_of (without names xs))
          → AllByRecursion P (keys_of (cond b xs (x ∷ without names xs)))
      go true r = h.1
      go false r = (h.0, r)

all_map : {K : Type 0} (P Q : K → Type 0) (xs : List K) → ((x : K) → P x → Q x) → AllByRecursion P xs
    → AllByRecursion Q xs
all_map P Q [] f h = tt
all_map P Q (x ∷ xs) f h = (f x h.0, all_map P Q xs f h.1)

pub none_distinct : {K : Type 0} (eq : K → K → Bool) → IsDistinct eq []
unfolding IsDistinct
none_distinct eq = tt

module _ {K V : Type 0} (eq : K → K → Bool) where
  abbrev pub AreDistinct : List (K × V) → Type 0
  AreDistinct pairs = IsDistinct eq (keys_of pairs)

  distinct_append : (xs rest : List (K × V)) → AreDistinct (xs ++ rest) → AreDistinct xs
  unfolding IsDistinct
  distinct_append [] rest h = tt
  distinct_append (x ∷ xs) rest h = (all_front (λ y. eq x.0 y ≡ false) xs rest h.0, distinct_append xs rest h.1)

  pub distinct_front : (ys xs : List (K × V)) → IsFront ys xs → AreDistinct xs → AreDistinct ys
  distinct_front ys xs f d = distinct_append ys f.0 (subst AreDistinct f.1 d)

  pub distinct_without : (names : K → Bool) (xs : List (K × V)) → AreDistinct xs → AreDistinct (without names xs)
  unfolding IsDistinct
  distinct_without names [] d = tt
  distinct_without names (x ∷ xs) d = go (names x.0) (distinct_without names xs d.1)
    where
      go : (b : Bool) → AreDistinct (without names xs) → AreDistinct (cond b xs (x ∷ without names xs))
      go true r = d.1
      go false r = (all_without (λ y. eq x.0 y ≡ false) names xs d.0, r)

  distinct_between : (newer older : List (K × V)) (pair : K × V) → AreDistinct (newer ++ pair ∷ older)
      → AreDistinct (newer ++ older)
  unfolding IsDistinct
  distinct_between [] older pair d = d.1
  distinct_between (x ∷ newer) older pair d =
      (all_between (λ y. eq x.0 y ≡ false) newer older pair d.0, distinct_between newer older pair d.1)

  module _ (names : K → Bool) (laws : IsEquivalence eq) where
    found_apart : (xs : List (K × V)) → AreDistinct xs → (pair : K × V) → lookup_entry names xs ≡ Some pair
        → AllByRecursion (λ k. eq pair.0 k ≡ false) (keys_of (without names xs))
    unfolding IsDistinct
    found_apart [] d pair found = absurd (grind arith)
    found_apart (x ∷ xs) d pair found = go (names x.0) refl found (found_apart xs d.1 pair)
      where
        go : (b : Bool) → names x.0 ≡ b → cond b (Some x) (lookup_entry names xs) ≡ Some pair
            → (lookup_entry names xs ≡ Some pair
            → AllByRecursion (λ k. eq pair.0 k ≡ false) (keys_of (without names xs)))
            → AllByRecursion (λ k. eq pair.0 k ≡ false) (keys_of (cond b xs (x ∷ without names xs)))
        go true e is later =
            subst (λ p. AllByRecursion (λ k. eq p.0 k ≡ false) (keys_of xs)) (same_Some x pair is) d.0
        go false e is later =
            (laws.symm pair.0 x.0 ∙ all_found (λ k. eq x.0 k ≡ false) names xs pair d.0 is, later is)

    pub distinct_found_first : (xs : List (K × V)) → AreDistinct xs → AreDistinct (front names xs)
    unfolding IsDistinct
    distinct_found_first xs d = go (lookup_entry names xs) refl
      where
        go : (o : Option (K × V)) → lookup_entry names xs ≡ o → AreDistinct (after o (without names xs))
        go None e = distinct_without names xs d
        go (Some pair) e = (found_apart xs d pair e, distinct_without names xs d)

    distinct_oldest : (oldest : K × V) (xs : List (K × V))
        → AllByRecursion (λ k. eq oldest.0 k ≡ false) (keys_of xs) → AreDistinct xs → AreDistinct (xs ++ oldest ∷ [])
    unfolding IsDistinct
    distinct_oldest oldest [] apart d = (tt, tt)
    distinct_oldest oldest (x ∷ xs) apart d = (
      all_push (λ k. eq x.0 k ≡ false) xs oldest d.0 (laws.symm x.0 oldest.0 ∙ apart.0),
      distinct_oldest oldest xs apart.1 d.1,
    )

    pub distinct_last : (xs : List (K × V)) → AreDistinct xs → AreDistinct (back names xs)
    distinct_last xs d = go (lookup_entry names xs) refl
      where
        go : (o : Option (K × V)) → lookup_entry names xs ≡ o → AreDistinct (without names xs ++ option_to_list o)
        go None e = subst AreDistinct (sym (append-nil (without names xs))) (distinct_without names xs d)
        go (Some pair) e =
            distinct_oldest pair (without names xs) (found_apart xs d pair e) (distinct_without names xs d)

  module _ (names : K → Bool) (one : (x y : K) → names x ≡ true → names y ≡ eq x y) where
    pub others_unnamed : (xs : List (K × V)) → AreDistinct xs → NoneNamed names (without names xs)
    unfolding IsDistinct
    others_unnamed [] d = tt
    others_unnamed (x ∷ xs) d = go (names x.0) refl (others_unnamed xs d.1)
      where
        go : (b : Bool) → names x.0 ≡ b → NoneNamed names (without names xs)
            → NoneNamed names (cond b xs (x ∷ without names xs))
        go true e r = all_map (λ y. eq x.0 y ≡ false) (λ y. names y ≡ false) (keys_of xs) (λ y h. one x.0 y e ∙ h) d.0
        go false e r = (e, r)

    pub distinct_newest : (newest : K × V) (xs : List (K × V)) → names newest.0 ≡ true → AreDistinct xs
        → AreDistinct (newest ∷ without names xs)
    unfolding IsDistinct
    distinct_newest newest xs n d = (
      all_map (λ y. names y ≡ false) (λ y. eq newest.0 y ≡ false) (keys_of (without names xs))
          (λ y h. sym (one newest.0 y n) ∙ h) (others_unnamed xs d),
      distinct_without names xs d,
    )

    pub distinct_first : (xs : List (K × V)) → AreDistinct xs → AreDistinct (front names xs)
    distinct_first xs d = go (lookup_entry names xs) refl
      where
        go : (o : Option (K × V)) → lookup_entry names xs ≡ o → AreDistinct (after o (without names xs))
        go None e = subst AreDistinct (sym (without_none names xs e)) d
        go (Some pair) e = distinct_newest pair xs (found_named names xs pair e) d

    pub distinct_set : IsEquivalence eq → (pair : K × V) → names pair.0 ≡ true → (xs : List (K × V)) → AreDistinct xs
        → AreDistinct (set_entry names pair xs)
    unfolding IsDistinct
    distinct_set laws pair named [] d = tt
    distinct_set laws pair named (x ∷ xs) d = go (names x.0) refl (distinct_set laws pair named xs d.1)
      where
        go : (b : Bool) → names x.0 ≡ b → AreDistinct (set_entry names pair xs)
            → AreDistinct (cond b (pair ∷ xs) (x ∷ set_entry names pair xs))
        go true e r = (
          all_map (λ y. eq x.0 y ≡ false) (λ y. eq pair.0 y ≡ false) (keys_of xs)
              (λ y h. sym (one pair.0 y named) ∙ one x.0 y e ∙ h) d.0,
          d.1,
        )
        go false e r = (
          all_set (λ k. eq x.0 k ≡ false) names pair xs (laws.symm x.0 pair.0 ∙ sym (one pair.0 x.0 named) ∙ e) d.0,
          r,
        )

    pub absent_without : (xs : List (K × V)) → AreDistinct xs → lookup_entry names (without names xs) ≡ None
    absent_without xs d = none_found names (without names xs) (others_unnamed xs d)

module _ {K V S Q : Type 0} {rules : Rules K V S} {names : Q → K → Bool} {eq : K → K → Bool}
    {query_input : Q → List (List ℕ)} {key_input : K → List (List ℕ)}
    (equivalence : IsEquivalence eq) (looks_up : IsLookup names eq query_input key_input) where
  pub keeps_distinct : Keeps rules (λ c d. AreDistinct eq c.pairs → AreDistinct eq d.pairs)
  keeps_distinct = record {
    way = record {
      self = λ c d. d;
      trans = λ p q d. q (p d);
      asked = λ bytes c d. d;
      popped = λ c. distinct_front eq _ c.pairs (front_without_last c.pairs);
    };
    left = λ test c. distinct_without eq test c.pairs;
    dropped = λ newer older pair s. distinct_between eq newer older pair;
    first = λ test c. distinct_found_first eq test equivalence c.pairs;
    last = λ test c. distinct_last eq test equivalence c.pairs;
    cleared = λ c d. none_distinct eq;
  }

module _ {K V S I : Type 0} (rules : Rules K V S) (offers : Offers K V S I) (names : I → K → Bool) {eq : K → K → Bool}
    {query_input : I → List (List ℕ)} {key_input : K → List (List ℕ)}
    (looks_up : IsLookup names eq query_input key_input) (laws : IsInsertion names eq offers) where
  came_distinct : (i : I) (pair : K × V) (xs : List (K × V)) → lookup_entry (names i) xs ≡ None → names i pair.0 ≡ true
      → AreDistinct eq xs → AreDistinct eq (pair ∷ xs)
  came_distinct i pair xs a n d = subst (λ ys. AreDistinct eq (pair ∷ ys)) (without_none (names i) xs a)
      (distinct_newest eq (names i) (looks_up.one i) pair xs n d)

  still_named : (i : I) (v : V) (c : Contents K V S) (pair : K × V) → lookup_entry (names i) c.pairs ≡ Some pair
      → names i (offers.on_replace c.limiter (length c.pairs) pair.0 i pair.1 v).key ≡ true
  still_named i v c pair found = let n = found_named (names i) c.pairs pair found in
      looks_up.one i pair.0 (offers.on_replace c.limiter (length c.pairs) pair.0 i pair.1 v).key n
      ∙ laws.keeps_key c.limiter (length c.pairs) pair.0 i pair.1 v n

  exchanged_distinct : (i : I) (v : V) (c : Contents K V S) (pair : K × V) → lookup_entry (names i) c.pairs ≡ Some pair
      → AreDistinct eq c.pairs → AreDistinct eq (exchange rules offers names pair i v c).pairs
  exchanged_distinct i v c pair found = let r = offers.on_replace c.limiter (length c.pairs) pair.0 i pair.1 v in
      distinct_newest eq (names i) (looks_up.one i) (r.key, kept_value r) c.pairs (still_named i v c pair found)

  rewritten_distinct : IsEquivalence eq → (i : I) (v : V) (c : Contents K V S) (pair : K × V)
      → lookup_entry (names i) c.pairs ≡ Some pair → AreDistinct eq c.pairs
      → AreDistinct eq (rewrite rules offers names pair i v c).pairs
  rewritten_distinct equivalence i v c pair found =
      let r = offers.on_replace c.limiter (length c.pairs) pair.0 i pair.1 v in
      distinct_set eq (names i) (looks_up.one i) equivalence (r.key, kept_value r) (still_named i v c pair found)
      c.pairs

module _ {K V S I : Type 0} {rules : Rules K V S} {offers : Offers K V S I} {names : I → K → Bool} {eq : K → K → Bool}
    {query_input : I → List (List ℕ)} {key_input : K → List (List ℕ)}
    (equivalence : IsEquivalence eq) (looks_up : IsLookup names eq query_input key_input)
    (laws : IsInsertion names eq offers) where
  pub offers_distinct : KeepsOffers rules offers names (λ c d. AreDistinct eq c.pairs → AreDistinct eq d.pairs)
  offers_distinct = record {
    keeps = keeps_distinct equivalence looks_up;
    came = λ i v c s pair a n. came_distinct rules offers names looks_up laws i pair c.pairs a
        (laws.names_given c.limiter (length c.pairs) i v s pair.0 pair.1 n);
    turned_down = λ i v c s n d. d;
    exchanged = exchanged_distinct rules offers names looks_up laws;
    rewritten = rewritten_distinct rules offers names looks_up laws equivalence;
  }

module _ {K V : Type 0} {eq : K → K → Bool} (laws : IsEquivalence eq) (R : K × V → K × V → Type 0)
    (equal : (p q : K × V) → R p q → eq p.0 q.0 ≡ true) where
  apart_same : (x y : K) (xs ys : List (K × V)) → eq x y ≡ true → AllZip R xs ys → AllByRecursion (λ k. eq x k ≡ false)
      (keys_of xs)
      → AllByRecursion (λ k. eq y k ≡ false) (keys_of ys)
  apart_same x y [] [] e z h = tt
  apart_same x y [] (q ∷ qs) e z h = absurd z
  apart_same x y (p ∷ ps) [] e z h = absurd z
  apart_same x y (p ∷ ps) (q ∷ qs) e z h = (
    sym (laws.congr x y q.0 e) ∙ laws.symm x q.0 ∙ sym (laws.congr p.0 q.0 x (equal p q z.0)) ∙ laws.symm p.0 x
        ∙ h.0,
    apart_same x y ps qs e z.1 h.1,
  )

  pub distinct_same : (xs ys : List (K × V)) → AllZip R xs ys → AreDistinct eq xs → AreDistinct eq ys
  unfolding IsDistinct
  distinct_same [] [] z d = tt
  distinct_same [] (q ∷ qs) z d = absurd z
  distinct_same (p ∷ ps) [] z d = absurd z
  distinct_same (p ∷ ps) (q ∷ qs) z d = (apart_same p.0 q.0 ps qs (equal p q z.0) z.1 d.0, distinct_same ps qs z.1 d.1)
