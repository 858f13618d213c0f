use Rattle.std.proofs.Common.{◌≡◌, ℕ, zero, suc, ◌+◌, ◌≤◌, Bool, true, false, cond, List, [], ◌∷◌, length}
use Rattle.std.proofs.Common.{refl, sym, ap, ◌∙◌, arith, ◌<◌, inl, inr, ◌⊎◌}
use Rattle.std.proofs.lemmas.Bool.{lt-ltb, le-ltb, cases_lt, and_parts, and_from, or_right, not-true, not_from_false}
use Rattle.std.proofs.lemmas.Map.Made.{length-remove_key}
use Rattle.std.specs.Cmp.{IsEquivalence}
use Rattle.std.specs.Prelude.{◌||◌, ◌&&◌, not, nat_lt}
use Rattle.std.specs.Set.{remove_key}
use Rattle.lru_theory.specs.Traces.{is_in}
use Rattle.lru_theory.specs.Policies.{outside}
use Rattle.lru_theory.specs.Best.{until}
use Rattle.lru_theory.proofs.Inclusions.{clash}
use Rattle.lru_theory.proofs.EqualKeys.{named_alike}
use Rattle.lru_theory.proofs.Nexts.{soon}
use Rattle.lru_theory.proofs.Windows.{in_named}

module _ {K : Type 0} (eq : K → K → Bool) where
  -- how many of the first d references of the trace are the first reference to a key that passes the test
  abbrev pub near : ℕ → List K → (K → Bool) → ℕ
  near zero trace test = 0
  near (suc d) [] test = 0
  near (suc d) (x ∷ trace) test = cond (test x) 1 0 + near d trace (λ z. test z && not (eq x z))

bit : (b d : Bool) → (b ≡ true → d ≡ true) → cond b 1 0 ≤ cond d 1 0
bit false d h = omega arith
bit true d h = rw (h refl) (omega arith)

shifted : (n d : ℕ) → cond {A = ℕ} (nat_lt (suc n) (suc d)) 1 0 ≡ cond (nat_lt n d) 1 0
shifted n d = go (cases_lt n d)
  where
    go : (n < d) ⊎ (d ≤ n) → cond {A = ℕ} (nat_lt (suc n) (suc d)) 1 0 ≡ cond (nat_lt n d) 1 0
    go (inl h) = rw (lt-ltb (suc n) (suc d) (omega (arith, h)), lt-ltb n d h) refl
    go (inr h) = rw (le-ltb (suc n) (suc d) (omega (arith, h)), le-ltb n d h) refl

by_cases : {A : Type 0} (b : Bool) → (b ≡ true → A) → (b ≡ false → A) → A
by_cases true f g = f refl
by_cases false f g = g refl

module _ {K : Type 0} {eq : K → K → Bool} (laws : IsEquivalence eq) where
  pub near_fewer : (d : ℕ) (trace : List K) (p q : K → Bool) → ((z : K) → p z ≡ true → q z ≡ true)
      → near eq d trace p ≤ near eq d trace q
  near_fewer zero trace p q h = omega arith
  near_fewer (suc d) [] p q h = omega arith
  near_fewer (suc d) (x ∷ trace) p q h =
      let later = near_fewer d trace (λ z. p z && not (eq x z)) (λ z. q z && not (eq x z))
      (λ z e. and_from (q z) (not (eq x z)) (h z (and_parts (p z) (not (eq x z)) e).0)
      (and_parts (p z) (not (eq x z)) e).1)
      in
      omega (arith, bit (p x) (q x) (h x), later)

  pub near_none : (d : ℕ) (trace : List K) (p : K → Bool) → ((z : K) → p z ≡ false) → near eq d trace p ≡ 0
  near_none zero trace p h = refl
  near_none (suc d) [] p h = refl
  near_none (suc d) (x ∷ trace) p h = rw (h x) (omega (arith, near_none d trace (λ z. p z && not (eq x z)) (λ z. rw (h z) refl)))

  split : (b c e : Bool) → (b || c) ≡ true → e ≡ true → (b || (c && e)) ≡ true
  split true c e h k = refl
  split false c e h k = and_from c e h k

  more_now : (d : ℕ) (x : K) (trace : List K) (key : K) (p : K → Bool) → eq key x ≡ true
      → near eq (suc d) (x ∷ trace) (λ z. eq key z || p z)
      ≤ soon eq (suc d) (x ∷ trace) key + near eq (suc d) (x ∷ trace) p
  more_now d x trace key p same =
      let one : soon eq (suc d) (x ∷ trace) key ≡ 1
      = ap (λ b. cond {A = ℕ} (nat_lt (cond b 0 (suc (until eq key trace))) (suc d)) 1 0) same
      ∙ ap (λ b. cond {A = ℕ} b 1 0) (lt-ltb 0 (suc d) (omega arith)) in
      let first : cond {A = ℕ} (eq key x || p x) 1 0 ≡ 1 = rw same refl in
      let rest = near_fewer d trace (λ z. (eq key z || p z) && not (eq x z)) (λ z. p z && not (eq x z))
      (λ z e.
      let parts = and_parts (eq key z || p z) (not (eq x z)) e in
      let other : eq key z ≡ false = laws.congr key x z same ∙ not-true (eq x z) parts.1 in
      and_from (p z) (not (eq x z)) (sym (ap (λ b. b || p z) other) ∙ parts.0) parts.1) in
      omega (arith, one, first, rest)

  more_later : (d : ℕ) (x : K) (trace : List K) (key : K) (p : K → Bool) → eq key x ≡ false
      → near eq d trace (λ z. eq key z || (p z && not (eq x z)))
      ≤ soon eq d trace key + near eq d trace (λ z. p z && not (eq x z))
      → near eq (suc d) (x ∷ trace) (λ z. eq key z || p z)
      ≤ soon eq (suc d) (x ∷ trace) key + near eq (suc d) (x ∷ trace) p
  more_later d x trace key p apart ih =
      let one : soon eq (suc d) (x ∷ trace) key ≡ soon eq d trace key
      = ap (λ b. cond {A = ℕ} (nat_lt (cond b 0 (suc (until eq key trace))) (suc d)) 1 0) apart
      ∙ shifted (until eq key trace) d in
      let first : cond {A = ℕ} (eq key x || p x) 1 0 ≡ cond (p x) 1 0 = rw apart refl in
      let rest = near_fewer d trace (λ z. (eq key z || p z) && not (eq x z)) (λ z. eq key z || (p z && not (eq x z)))
      (λ z e.
      let parts = and_parts (eq key z || p z) (not (eq x z)) e in
      split (eq key z) (p z) (not (eq x z)) parts.0 parts.1) in
      omega (arith, one, first, rest, ih)

  pub near_more : (d : ℕ) (trace : List K) (key : K) (p : K → Bool)
      → near eq d trace (λ z. eq key z || p z) ≤ soon eq d trace key + near eq d trace p
  near_more zero trace key p = omega arith
  near_more (suc d) [] key p = omega arith
  near_more (suc d) (x ∷ trace) key p = by_cases (eq key x) (more_now d x trace key p)
      (λ apart. more_later d x trace key p apart (near_more d trace key (λ z. p z && not (eq x z))))

  soon_one : (d : ℕ) (trace : List K) (key : K) → soon eq d trace key ≤ 1
  soon_one d trace key = go (nat_lt (until eq key trace) d)
    where
      go : (b : Bool) → cond b 1 0 ≤ 1
      go true = omega arith
      go false = omega arith

  first_named : (key x : K) (xs : List K) (z : K) → is_in eq z (x ∷ xs) ≡ true → (eq x z || is_in eq z xs) ≡ true
  first_named key x xs z e = ap (λ b. b || is_in eq z xs) (laws.symm x z) ∙ e

  pub near_few : (d : ℕ) (trace xs : List K) → near eq d trace (λ z. is_in eq z xs) ≤ length xs
  near_few d trace [] = omega (arith, near_none d trace (λ z. false) (λ z. refl))
  near_few d trace (x ∷ xs) = omega (
    arith,
    near_fewer d trace (λ z. is_in eq z (x ∷ xs)) (λ z. eq x z || is_in eq z xs) (first_named x x xs),
    near_more d trace x (λ z. is_in eq z xs),
    soon_one d trace x,
    near_few d trace xs,
  )

  apart_or_left : (key : K) (xs : List K) (z : K) → is_in eq z xs ≡ true
      → (eq key z || is_in eq z (remove_key (eq key) xs)) ≡ true
  apart_or_left key [] z e = absurd cc
  apart_or_left key (x ∷ xs) z e =
      go (eq key x) refl (eq z x) refl (apart_or_left key xs z)
    where
      go : (b : Bool) → eq key x ≡ b → (c : Bool) → eq z x ≡ c
          → (is_in eq z xs ≡ true → (eq key z || is_in eq z (remove_key (eq key) xs)) ≡ true)
          → (eq key z || is_in eq z (cond b xs (x ∷ remove_key (eq key) xs))) ≡ true
      go true same true at ih = ap (λ b. b || is_in eq z xs) (named_alike laws key z x at ∙ same)
      go true same false other ih = or_right (eq key z) (is_in eq z xs) (sym (ap (λ b. b || is_in eq z xs) other) ∙ e)
      go false apart true at ih = or_right (eq key z) (eq z x || is_in eq z (remove_key (eq key) xs)) (rw at refl)
      go false apart false other ih = rw other (ih (sym (ap (λ b. b || is_in eq z xs) other) ∙ e))

  pub near_stored : (d : ℕ) (trace : List K) (key : K) (xs : List K) → is_in eq key xs ≡ true
      → near eq d trace (λ z. is_in eq z xs) + 1 ≤ soon eq d trace key + length xs
  near_stored d trace key xs at =
      let rest = remove_key (eq key) xs in
      omega (
        arith,
        near_fewer d trace (λ z. is_in eq z xs) (λ z. eq key z || is_in eq z rest) (apart_or_left key xs),
        near_more d trace key (λ z. is_in eq z rest),
        near_few d trace rest,
        length-remove_key (eq key) xs at,
      )

  module _ (key : K) (old : List K) where
    abbrev pub others : K → Bool
    others z = is_in eq z old && not (eq key z)

    abbrev pub kept : Bool → K → Bool
    kept b z = (b && eq key z) || others z

    abbrev pub fresh : List K → ℕ
    fresh [] = 0
    fresh (u ∷ us) = cond (is_in eq u old || eq key u) 0 1 + fresh us

    kept_named : (b : Bool) (u z : K) → (eq key u ≡ true → b ≡ true) → (is_in eq u old || eq key u) ≡ true
        → eq z u ≡ true → kept b z ≡ true
    kept_named b u z stored held same = by_cases (eq key z)
        (λ now.
        let so : b ≡ true = stored (sym (named_alike laws key z u same) ∙ now) in rw (so, now) refl)
        (λ apart.
        let none : eq key u ≡ false = sym (named_alike laws key z u same) ∙ apart in
        let at : is_in eq u old ≡ true = or_first (is_in eq u old) (eq key u) none held in
        or_right (b && eq key z) (others z)
        (and_from (is_in eq z old) (not (eq key z)) (in_named laws z u old same ∙ at)
        (not_from_false (eq key z) apart)))
      where
        or_first : (b d : Bool) → d ≡ false → (b || d) ≡ true → b ≡ true
        or_first true d e h = refl
        or_first false d e h = clash e h

    near_fresh : (d : ℕ) (trace : List K) (b : Bool) (us : List K) → ((u : K) → is_in eq u us ≡ true → eq key u ≡ true
        → b ≡ true)
        → near eq d trace (λ z. is_in eq z us || kept b z) ≤ near eq d trace (kept b) + fresh us
    near_fresh d trace b [] stored = omega (arith, near_fewer d trace (λ z. false || kept b z) (kept b) (λ z e. e))
    near_fresh d trace b (u ∷ us) stored =
        let ih = near_fresh d trace b us (λ v at same. stored v (or_right (eq v u) (is_in eq v us) at) same) in
        by_cases (is_in eq u old || eq key u)
        (λ held.
        let fewer = near_fewer d trace (λ z. is_in eq z (u ∷ us) || kept b z) (λ z. is_in eq z us || kept b z)
        (λ z e. absorbed z held e (eq z u) refl) in
        let none : cond {A = ℕ} (is_in eq u old || eq key u) 0 1 ≡ 0 = rw held refl in
        omega (arith, fewer, ih, none))
        (λ new.
        let fewer = near_fewer d trace (λ z. is_in eq z (u ∷ us) || kept b z)
        (λ z. eq u z || (is_in eq z us || kept b z))
        (λ z e. ap (λ c. c || (is_in eq z us || kept b z)) (laws.symm u z)
        ∙ or_assoc (eq z u) (is_in eq z us) (kept b z) e) in
        let one : cond {A = ℕ} (is_in eq u old || eq key u) 0 1 ≡ 1 = rw new refl in
        omega (arith, fewer, near_more d trace u (λ z. is_in eq z us || kept b z), soon_one d trace u, ih, one))
      where
        or_assoc : (a c e : Bool) → ((a || c) || e) ≡ true → (a || (c || e)) ≡ true
        or_assoc true c e h = refl
        or_assoc false c e h = h

        absorbed : (z : K) → (is_in eq u old || eq key u) ≡ true → (is_in eq z (u ∷ us) || kept b z) ≡ true → (c : Bool)
            → eq z u ≡ c → (is_in eq z us || kept b z) ≡ true
        absorbed z held e true same = or_right (is_in eq z us) (kept b z)
            (kept_named b u z (λ k. stored u (rw (laws.refl u) refl) k) held same)
        absorbed z held e false other = sym (ap (λ c. (c || is_in eq z us) || kept b z) other) ∙ e

    pub fresh_few : (us : List K) → fresh us + cond (is_in eq key us && not (is_in eq key old)) 1 0 ≤ outside eq old us
    fresh_few [] = omega arith
    fresh_few (u ∷ us) =
        bits (eq key u) (is_in eq key us) (is_in eq key old) (is_in eq u old) (fresh us) (outside eq old us)
        (λ same. sym (in_named laws key u old same)) (fresh_few us)
      where
        bits : (same later was at : Bool) (f o : ℕ) → (same ≡ true → at ≡ was) → f + cond (later && not was) 1 0 ≤ o
            → (cond (at || same) 0 1 + f) + cond ((same || later) && not was) 1 0 ≤ cond at 0 1 + o
        bits true later true true f o e h = omega (arith, h)
        bits true true false false f o e h = omega (arith, h)
        bits true false false false f o e h = omega (arith, h)
        bits true later true false f o e h = clash refl (e refl)
        bits true later false true f o e h = clash (e refl) refl
        bits false later was true f o e h = omega (arith, h)
        bits false later was false f o e h = omega (arith, h)

    pub near_new : (d : ℕ) (trace new : List K)
        → near eq d trace (λ z. is_in eq z new)
        ≤ cond (is_in eq key new) (soon eq d trace key) 0 + (near eq d trace others + fresh new)
    near_new d trace new =
        let b = is_in eq key new in
        omega (
          arith,
          near_fewer d trace (λ z. is_in eq z new) (λ z. is_in eq z new || kept b z)
              (λ z e. ap (λ c. c || kept b z) e),
          near_fresh d trace b new (λ u at same. in_new u at same),
          near_kept d trace b,
        )
      where
        in_new : (u : K) → is_in eq u new ≡ true → eq key u ≡ true → is_in eq key new ≡ true
        in_new u at same = in_named laws key u new same ∙ at

        near_kept : (d : ℕ) (trace : List K) (b : Bool)
            → near eq d trace (kept b) ≤ cond b (soon eq d trace key) 0 + near eq d trace others
        near_kept d trace true = near_more d trace key others
        near_kept d trace false = omega (arith, near_fewer d trace (kept false) others (λ z e. e))
