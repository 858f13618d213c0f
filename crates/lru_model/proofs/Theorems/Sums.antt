use Rattle.std.proofs.Common.{◌≡◌, ℕ, ◌+◌, ◌≤◌, ◌++◌, Bool, true, false, cond, List, [], ◌∷◌, length, Option, Some}
use Rattle.std.proofs.Common.{None, refl, sym, ap, ◌∙◌, subst, arith, sum_by, MatchOption}
use Rattle.std.specs.Prelude.{option_to_list}
use Rattle.std.specs.Map.{set_value}
use Rattle.std.proofs.lemmas.List.Recursion.{is_sum_by}
use Rattle.lru_limits.specs.Rules.{Rules, Offers}
use Rattle.std.proofs.lemmas.Option.{none-some}
use Rattle.lru_limits.specs.Laws.{IsAccount, kept_value}
use Rattle.lru_model.specs.Theorems.{IsSummed}
use Rattle.lru_model.specs.Lists.{IsFront, last, without_last, after, front, back, lookup_entry, set_entry, without}
use Rattle.lru_model.specs.State.{State, Contents, contents, notified_of}
use Rattle.lru_model.proofs.Theorems.Moves.{KeepsOffers, exchange, rewrite}

module _ {X : Type 0} (f : X → ℕ) where
  abbrev pub total : List X → ℕ
  total [] = 0
  total (x ∷ xs) = f x + total xs

  pub total-is : (xs : List X) → total xs ≡ sum_by f xs
  total-is = is_sum_by total f refl (λ _ _. refl)

  total-append : (xs ys : List X) → total (xs ++ ys) ≡ total xs + total ys
  total-append [] ys = omega arith
  total-append (x ∷ xs) ys = omega (arith, total-append xs ys)

  pub total-least : (xs ys : List X) → IsFront xs ys → total xs ≤ total ys
  total-least xs ys h = omega (arith, ap total h.1, total-append xs h.0)

  abbrev pub IsSplit : List X → Option X → List X → Type 0
  IsSplit xs None ys = ys ≡ xs
  IsSplit xs (Some x) ys = total ys + f x ≡ total xs

  pub split-least : (xs : List X) (o : Option X) (ys : List X) → IsSplit xs o ys → total ys ≤ total xs
  split-least xs None ys h = omega (arith, ap total h)
  split-least xs (Some x) ys h = omega (arith, h)

  pub split_last : (xs : List X) → IsSplit xs (last xs) (without_last xs)
  split_last [] = refl
  split_last (x ∷ []) = omega arith
  split_last (x ∷ y ∷ ys) = more (last (y ∷ ys)) refl (split_last (y ∷ ys))
    where
      last_some : (z : X) (zs : List X) → last (z ∷ zs) ≡ None → ⊥
      last_some z [] e = grind arith
      last_some z (w ∷ ws) e = last_some w ws e

      more : (o : Option X) → last (y ∷ ys) ≡ o → IsSplit (y ∷ ys) o (without_last (y ∷ ys))
          → IsSplit (x ∷ y ∷ ys) o (x ∷ without_last (y ∷ ys))
      more None e h = absurd (last_some y ys e)
      more (Some z) e h = omega (arith, h)

  pub split_between : (newer older : List X) (x : X) → IsSplit (newer ++ x ∷ older) (Some x) (newer ++ older)
  split_between newer older x = omega (arith, total-append newer (x ∷ older), total-append newer older)

pub total-one : {X : Type 0} (xs : List X) → total (λ _. 1) xs ≡ length xs
total-one [] = refl
total-one (x ∷ xs) = omega (arith, total-one xs)

module _ {K V : Type 0} (cost : K × V → ℕ) (names : K → Bool) where
  pub split_named : (xs : List (K × V)) → IsSplit cost xs (lookup_entry names xs) (without names xs)
  split_named [] = refl
  split_named (x ∷ xs) = go (names x.0) (lookup_entry names xs) (split_named xs)
    where
      go : (b : Bool) (o : Option (K × V)) → IsSplit cost xs o (without names xs)
          → IsSplit cost (x ∷ xs) (cond b (Some x) o) (cond b xs (x ∷ without names xs))
      go true o h = omega arith
      go false None h = ap (λ l. x ∷ l) h
      go false (Some y) h = omega (arith, h)

  pub total-front : (xs : List (K × V)) → total cost (front names xs) ≡ total cost xs
  total-front xs = go (lookup_entry names xs) (without names xs) (split_named xs)
    where
      go : (o : Option (K × V)) (ys : List (K × V)) → IsSplit cost xs o ys → total cost (after o ys) ≡ total cost xs
      go None ys h = ap (total cost) h
      go (Some x) ys h = omega (arith, h)

  pub total-back : (xs : List (K × V)) → total cost (back names xs) ≡ total cost xs
  total-back xs = go (lookup_entry names xs) (without names xs) (split_named xs)
    where
      go : (o : Option (K × V)) (ys : List (K × V)) → IsSplit cost xs o ys
          → total cost (ys ++ option_to_list o) ≡ total cost xs
      go None ys h = omega (arith, total-append cost ys [], ap (total cost) h)
      go (Some x) ys h = omega (arith, total-append cost ys (x ∷ []), h)

  pub total-set_entry : (q pair : K × V) (xs : List (K × V)) → lookup_entry names xs ≡ Some pair
      → total cost (set_entry names q xs) ≡ cost q + total cost (without names xs)
  total-set_entry q pair [] found = absurd (none-some pair found)
  total-set_entry q pair (x ∷ xs) found = go (names x.0) found (total-set_entry q pair xs)
    where
      go : (b : Bool) → cond b (Some x) (lookup_entry names xs) ≡ Some pair
          → (lookup_entry names xs ≡ Some pair → total cost (set_entry names q xs) ≡ cost q + total cost
          (without names xs))
          → total cost (cond b (q ∷ xs) (x ∷ set_entry names q xs))
          ≡ cost q + total cost (cond b xs (x ∷ without names xs))
      go true e h = omega arith
      go false e h = omega (arith, h e)

module _ {K V : Type 0} (cost : K × V → ℕ) (names : K → Bool) (v : V) where
  abbrev KeepsPair : List (K × V) → Type 0
  KeepsPair xs = MatchOption (lookup_entry names xs) (Unit {0}) (λ p. cost (p.0, v) ≡ cost (p.0, p.1))

  total-set : (xs : List (K × V)) → KeepsPair xs → total cost (set_value names xs v) ≡ total cost xs
  total-set [] keeps = refl
  total-set (x ∷ xs) keeps = go (names x.0) keeps (total-set xs)
    where
      go : (b : Bool) → MatchOption (cond b (Some x) (lookup_entry names xs)) (Unit {0})
          (λ p. cost (p.0, v) ≡ cost (p.0, p.1))
          → (KeepsPair xs → total cost (set_value names xs v) ≡ total cost xs)
          → total cost (cond b ((x.0, v) ∷ xs) (x ∷ set_value names xs v)) ≡ cost x + total cost xs
      go true keeps later = ap (λ n. n + total cost xs) keeps
      go false keeps later = ap (λ n. cost x + n) (later keeps)

  pub sum-set : (xs : List (K × V)) → KeepsPair xs → sum_by cost (set_value names xs v) ≡ sum_by cost xs
  sum-set xs keeps = sym (total-is cost (set_value names xs v)) ∙ total-set xs keeps ∙ total-is cost xs

module _ {K V S I : Type 0} {rules : Rules K V S} {offers : Offers K V S I} {cost : K → V → ℕ}
    {account : S → ℕ} (laws : IsAccount rules offers cost account) where
  abbrev Holds : Contents K V S → Type 0
  Holds c = account c.limiter ≡ total (λ p. cost p.0 p.1) c.pairs

  notified_holds : (xs ys : List (K × V)) (o : Option (K × V)) (s : S) → IsSplit (λ p. cost p.0 p.1) xs o ys → account s
      ≡ total (λ p. cost p.0 p.1) xs → account (notified_of rules o s) ≡ total (λ p. cost p.0 p.1) ys
  notified_holds xs ys None s h e = e ∙ ap (total (λ p. cost p.0 p.1)) (sym h)
  notified_holds xs ys (Some p) s h e = let r = laws.takes_off s p.0 p.1 (omega arith) in omega arith

  exchanged_holds : (names : I → K → Bool) (i : I) (v : V) (c : Contents K V S) (pair : K × V)
      → lookup_entry (names i) c.pairs ≡ Some pair → Holds c → Holds (exchange rules offers names pair i v c)
  exchanged_holds names i v c pair found h =
      let n = subst (λ o. IsSplit (λ p. cost p.0 p.1) c.pairs o (without (names i) c.pairs)) found
      (split_named (λ p. cost p.0 p.1) (names i) c.pairs) in
      let r = laws.exchanges c.limiter (length c.pairs) pair.0 i pair.1 v (omega arith) in omega arith

  rewritten_holds : (names : I → K → Bool) (i : I) (v : V) (c : Contents K V S) (pair : K × V)
      → lookup_entry (names i) c.pairs ≡ Some pair → Holds c → Holds (rewrite rules offers names pair i v c)
  rewritten_holds names i v c pair found h = let by = offers.on_replace c.limiter (length c.pairs) pair.0 i pair.1 v in
      exchanged_holds names i v c pair found h
      ∙ sym (total-set_entry (λ p. cost p.0 p.1) (names i) (by.key, kept_value by) pair c.pairs found)

  pub keeps_sums : (names : I → K → Bool) → KeepsOffers rules offers names (λ c d. Holds c → Holds d)
  keeps_sums names = record {
    keeps = record {
      way = record {
        self = λ c h. h;
        trans = λ p q h. q (p h);
        asked = λ bytes c h. laws.keeps c.limiter bytes ∙ h;
        popped = λ c. notified_holds c.pairs _ _ c.limiter (split_last _ c.pairs);
      };
      left = λ test c. notified_holds c.pairs _ _ c.limiter (split_named _ test c.pairs);
      dropped = λ newer older pair s. notified_holds (newer ++ pair ∷ older) _ (Some pair) s
          (split_between _ newer older pair);
      first = λ test c h. h ∙ sym (total-front _ test c.pairs);
      last = λ test c h. h ∙ sym (total-back _ test c.pairs);
      cleared = λ c h. laws.empties c.limiter;
    };
    came = λ i v c s pair a n h. let r = laws.adds c.limiter (length c.pairs) i v s pair.0 pair.1 n in omega arith;
    turned_down = λ i v c s n h. laws.refuses c.limiter (length c.pairs) i v s n ∙ h;
    exchanged = exchanged_holds names;
    rewritten = rewritten_holds names;
  }

  pub stays_summed : {H : Type 0} (old new : State K V S H) → (Holds (contents old) → Holds (contents new))
      → IsSummed cost account old → IsSummed cost account new
  stays_summed old new r h = r (h ∙ omega (arith, total-is (λ p. cost p.0 p.1) old.pairs))
      ∙ omega (arith, total-is (λ p. cost p.0 p.1) new.pairs)
