-- Searches by a hash, whose closure tests each pair and changes nothing.
use Rattle.std.proofs.Common.{◌≡◌, ℕ, zero, suc, Bool, true, false, cond, List, [], ◌∷◌, ◌++◌, Some, refl}
use Rattle.std.proofs.Common.{sym, ap, ◌∙◌, subst, arith}
use Rattle.std.specs.Prelude.{Contains, unwrap_or}
use Rattle.std.specs.Borrow.{Bor}
use Rattle.std.specs.Cmp.{IsEquivalence}
use Rattle.std.specs.Fn.{Mut, Called}
use Rattle.std.specs.List.{All, IsDistinct}
use Rattle.std.proofs.lemmas.List.Elements.{All-nil, All-cons, All-contains, Contains-append_right}
use Rattle.std.proofs.lemmas.Option.{none-some}
use Rattle.group_table.specs.Probe.{hash_tag}
use Rattle.lru_model.specs.ByHash.{Asks, Refuses, GivesByHash, GivesNoneByHash}
use Rattle.lru_model.specs.Lists.{lookup_entry}
use Rattle.lru_model.proofs.PairLists.DistinctKeys.{AreDistinct, all_of}
use Rattle.lru_model.proofs.Theorems.Fronts.{found_named}

abbrev pub Tests : {K V F : Type 0} → Mut F (Bor K × (Bor V × Unit {0})) Bool → F → (K × V → Bool) → Type 0
Tests {K} {V} {F} closure f test = (key : Bor K) (value : Bor V) (r : Bool) (g : F)
    → Called closure f (key, (value, tt)) r g → (r ≡ test (key.now, value.now)) × (g ≡ f)

module _ {K V F : Type 0} {closure : Mut F (Bor K × (Bor V × Unit {0})) Bool} {f : F} (test : K × V → Bool)
    (tests : Tests closure f test) where
  asks-test : (pair : K × V) (r : Bool) (g : F) → Asks closure f pair r g → (r ≡ test pair) × (g ≡ f)
  asks-test pair r g a = let t = tests a.key a.value r g a.called in
      (t.0 ∙ (λ i. test (a.shows.0 i, a.shows.1 i)), t.1)

  refused_same : (pairs : List (K × V)) (g : F) → Refuses closure f pairs g → g ≡ f
  refused_same [] g h = sym h
  refused_same (pair ∷ pairs) g h =
      let next = (asks-test pair false h.0 h.1).1 in
      refused_same pairs g (subst (λ j. Refuses closure j pairs g) next h.2)

  refused_fail : (pairs : List (K × V)) (g : F) → Refuses closure f pairs g → All (λ p. test p ≡ false) pairs
  refused_fail [] g h = All-nil (λ p. test p ≡ false)
  refused_fail (pair ∷ pairs) g h =
      let next = (asks-test pair false h.0 h.1).1 in
      All-cons (λ p. test p ≡ false) pair pairs (sym (asks-test pair false h.0 h.1).0)
      (refused_fail pairs g (subst (λ j. Refuses closure j pairs g) next h.2))

  module _ {eq : K → K → Bool} {hash_of : K → ℕ} {all : List (K × V)} {hash : ℕ} where
    pub given-passes : (pair : K × V) → GivesByHash eq hash_of all hash closure f pair → test pair ≡ true
    given-passes pair given =
        let same = refused_same given.before given.between given.refused in
        let accepted = subst (λ j. Asks closure j pair true given.last) same given.accepted in
        sym (asks-test pair true given.last accepted).0

    pub none-fails : GivesNoneByHash eq hash_of all hash closure f → (pair : K × V) → Contains all pair
        → hash_of pair.0 ≡ hash → test pair ≡ false
    none-fails none pair there same =
        All-contains (λ p. test p ≡ false) none.asked pair (refused_fail none.asked none.last none.refused)
        (none.complete pair there same)

module _ {K V F : Type 0} {eq : K → K → Bool} {hash_of : K → ℕ} {all : List (K × V)} {hash : ℕ}
    {closure : Mut F (Bor K × (Bor V × Unit {0})) Bool} {f : F} (pair : K × V)
    (given : GivesByHash eq hash_of all hash closure f pair) where
  given-among : Contains (given.before ++ pair ∷ []) pair
  given-among = Contains-append_right given.before (pair ∷ []) pair (zero, omega arith, refl)

  pub given-there : Contains all pair
  given-there = given.candidates.there pair given-among

  pub given-tag : hash_tag (hash_of pair.0) ≡ hash_tag hash
  given-tag = given.candidates.tags pair given-among

module _ {K V : Type 0} {eq : K → K → Bool} (laws : IsEquivalence eq) (key : K) where
  there-found : (xs : List (K × V)) → AreDistinct eq xs → (pair : K × V) → Contains xs pair
      → eq key pair.0 ≡ true → lookup_entry (eq key) xs ≡ Some pair
  unfolding IsDistinct
  there-found [] d pair w same = absurd (omega (arith, w.1))
  there-found (x ∷ xs) d pair (zero, p, e) same =
      let found : eq key x.0 ≡ true = subst (λ y. eq key y.0 ≡ true) (sym e) same in
      rw found (ap (λ y. Some y) e)
  there-found (x ∷ xs) d pair (suc k, p, e) same =
      let later : Contains xs pair = (k, omega (arith, p), e) in
      let other : eq key x.0 ≡ false =
      laws.congr key pair.0 x.0 same ∙ laws.symm pair.0 x.0 ∙ all_of (λ y. eq x.0 y ≡ false) xs pair d.0 later in
      rw other (there-found xs d.1 pair later same)

found-there : {K V : Type 0} (names : K → Bool) (xs : List (K × V)) (pair : K × V)
    → lookup_entry names xs ≡ Some pair → Contains xs pair
found-there names [] pair e = absurd (none-some pair e)
found-there names (x ∷ xs) pair e = go (names x.0) e (found-there names xs pair)
  where
    go : (b : Bool) → cond b (Some x) (lookup_entry names xs) ≡ Some pair
        → (lookup_entry names xs ≡ Some pair → Contains xs pair) → Contains (x ∷ xs) pair
    go true e later = (zero, omega arith, ap (λ o. unwrap_or o x) e)
    go false e later = let w = later e in (suc w.0, omega (arith, w.1), w.2)

module _ {K V F : Type 0} {eq : K → K → Bool} (laws : IsEquivalence eq) (key : K) {hash_of : K → ℕ}
    {all : List (K × V)} {hash : ℕ} {closure : Mut F (Bor K × (Bor V × Unit {0})) Bool} {f : F}
    (tests : Tests closure f (λ p. eq key p.0)) where
  pub given-found : AreDistinct eq all → (pair : K × V) → GivesByHash eq hash_of all hash closure f pair
      → lookup_entry (eq key) all ≡ Some pair
  given-found distinct pair given = there-found laws key all distinct pair (given-there pair given)
      (given-passes (λ p. eq key p.0) tests pair given)

  pub none-found : GivesNoneByHash eq hash_of all hash closure f → (pair : K × V)
      → lookup_entry (eq key) all ≡ Some pair → hash_of pair.0 ≡ hash → ⊥
  none-found none pair is same =
      let fails = none-fails (λ p. eq key p.0) tests none pair (found-there (eq key) all pair is) same in
      let other : true ≡ false = sym (found_named (eq key) all pair is) ∙ fails in
      cc
