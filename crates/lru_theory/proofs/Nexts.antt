-- Keys in the order of their next references.
use Rattle.std.proofs.Common.{◌≡◌, ℕ, zero, suc, ◌+◌, ◌≤◌, ◌<◌, min, Bool, true, false, cond, List, [], ◌∷◌, take}
use Rattle.std.proofs.Common.{refl, sym, ap, ◌∙◌, subst, arith, inl, inr, ◌⊎◌}
use Rattle.std.proofs.lemmas.Bool.{lt-ltb, le-ltb, le-leb, lt-leb, cases_lt, or_parts}
use Rattle.std.specs.Cmp.{IsEquivalence}
use Rattle.std.specs.Prelude.{◌||◌, nat_lt, nat_le}
use Rattle.std.specs.Set.{remove_key}
use Rattle.lru_theory.specs.Traces.{is_in}
use Rattle.lru_theory.specs.Best.{until, put}

module _ {K : Type 0} (eq : K → K → Bool) where
  -- each other key differs from the key, and its next reference comes no sooner than the next reference to the key
  abbrev pub Later : List K → K → List K → Type 0
  Later trace key [] = Unit {0}
  Later trace key (other ∷ keys) =
      (until eq key trace ≤ until eq other trace) × (eq key other ≡ false) × Later trace key keys

  -- The keys are distinct, and in the order of their next references.
  abbrev pub Ordered : List K → List K → Type 0
  Ordered trace [] = Unit {0}
  Ordered trace (key ∷ keys) = Later trace key keys × Ordered trace keys

  -- whether the next reference to a key is among the first d of the trace
  abbrev pub soon : ℕ → List K → K → ℕ
  soon d trace key = cond (nat_lt (until eq key trace) d) 1 0

  abbrev pub due : ℕ → List K → List K → ℕ
  due d trace [] = 0
  due d trace (key ∷ keys) = soon d trace key + due d trace keys

module _ {K : Type 0} {eq : K → K → Bool} (laws : IsEquivalence eq) where
  pub until_next : (key x : K) (trace : List K) → eq key x ≡ false → until eq x (key ∷ trace) ≡ suc (until eq x trace)
  until_next key x trace other = ap (λ b. cond b 0 (suc (until eq x trace))) (laws.symm x key ∙ other)

  pub until_now : (key x : K) (trace : List K) → eq key x ≡ true → until eq x (key ∷ trace) ≡ 0
  until_now key x trace same = ap (λ b. cond b 0 (suc (until eq x trace))) (laws.symm x key ∙ same)

  later_next : (key x : K) (trace xs : List K) → eq key x ≡ false → is_in eq key xs ≡ false
      → Later eq (key ∷ trace) x xs → Later eq trace x xs
  later_next key x trace [] apart none l = tt
  later_next key x trace (y ∷ ys) apart none l =
      let parts = or_parts (eq key y) (is_in eq key ys) none in (
        omega (arith, l.0, until_next key x trace apart, until_next key y trace parts.0),
        l.1,
        later_next key x trace ys apart parts.1 l.2,
      )

  ordered_next : (key : K) (trace xs : List K) → is_in eq key xs ≡ false → Ordered eq (key ∷ trace) xs
      → Ordered eq trace xs
  ordered_next key trace [] none o = tt
  ordered_next key trace (x ∷ xs) none o =
      let parts = or_parts (eq key x) (is_in eq key xs) none in
      (later_next key x trace xs parts.0 parts.1 o.0, ordered_next key trace xs parts.1 o.1)

  soon_next : (d : ℕ) (key x : K) (trace : List K) → eq key x ≡ false
      → soon eq (suc d) (key ∷ trace) x ≡ soon eq d trace x
  soon_next d key x trace apart = rw (until_next key x trace apart) (go (cases_lt (until eq x trace) d))
    where
      go : (until eq x trace < d) ⊎ (d ≤ until eq x trace)
          → cond {A = ℕ} (nat_lt (suc (until eq x trace)) (suc d)) 1 0 ≡ cond (nat_lt (until eq x trace) d) 1 0
      go (inl h) = rw (lt-ltb (suc (until eq x trace)) (suc d) (omega (arith, h)), lt-ltb (until eq x trace) d h) refl
      go (inr h) = rw (le-ltb (suc (until eq x trace)) (suc d) (omega (arith, h)), le-ltb (until eq x trace) d h) refl

  due_next : (d : ℕ) (key : K) (trace xs : List K) → is_in eq key xs ≡ false
      → due eq (suc d) (key ∷ trace) xs ≡ due eq d trace xs
  due_next d key trace [] none = refl
  due_next d key trace (x ∷ xs) none =
      let parts = or_parts (eq key x) (is_in eq key xs) none in
      omega (arith, soon_next d key x trace parts.0, due_next d key trace xs parts.1)

  pub none_now : (key x : K) (trace xs : List K) → eq key x ≡ false → Later eq (key ∷ trace) x xs → is_in eq key xs ≡ false
  none_now key x trace [] apart l = refl
  none_now key x trace (y ∷ ys) apart l = go (eq key y) refl (none_now key x trace ys apart l.2)
    where
      go : (b : Bool) → eq key y ≡ b → is_in eq key ys ≡ false → (b || is_in eq key ys) ≡ false
      go true same ih = absurd (omega (arith, l.0, until_next key x trace apart, until_now key y trace same))
      go false other ih = ih

  pub others_differ : (key x : K) (trace xs : List K) → eq key x ≡ true → Later eq trace x xs → is_in eq key xs ≡ false
  others_differ key x trace [] same l = refl
  others_differ key x trace (y ∷ ys) same l =
      rw (laws.congr key x y same ∙ l.1, others_differ key x trace ys same l.2) refl

  pub without_absent : (key : K) (xs : List K) → is_in eq key xs ≡ false → remove_key (eq key) xs ≡ xs
  without_absent key [] none = refl
  without_absent key (x ∷ xs) none =
      let parts = or_parts (eq key x) (is_in eq key xs) none in
      rw (parts.0) (ap (λ ys. x ∷ ys) (without_absent key xs parts.1))

  -- about `xs` without the key of the first reference
  pub record Left (key : K) (trace xs : List K) : Type 0 where
    pub absent : is_in eq key (remove_key (eq key) xs) ≡ false
    pub ordered : Ordered eq trace (remove_key (eq key) xs)
    pub due_now : (d : ℕ) → due eq (suc d) (key ∷ trace) xs
        ≡ cond (is_in eq key xs) 1 0 + due eq d trace (remove_key (eq key) xs)

  absent_left : (key : K) (trace xs : List K) → is_in eq key xs ≡ false → Ordered eq (key ∷ trace) xs
      → Left key trace xs
  absent_left key trace xs none o =
      let same = without_absent key xs none in
      record {
        absent = ap (is_in eq key) same ∙ none;
        ordered = subst (Ordered eq trace) (sym same) (ordered_next key trace xs none o);
        due_now = λ d.
            let one : cond {A = ℕ} (is_in eq key xs) 1 0 ≡ 0 = rw none refl in
            omega (arith, one, due_next d key trace xs none, ap (due eq d trace) same);
      }

  pub left : (key : K) (trace xs : List K) → Ordered eq (key ∷ trace) xs → Left key trace xs
  left key trace [] o = absent_left key trace [] refl o
  left key trace (x ∷ xs) o = go (eq key x) refl
    where
      go : (b : Bool) → eq key x ≡ b → Left key trace (x ∷ xs)
      go false other =
          absent_left key trace (x ∷ xs) (rw (other, none_now key x trace xs other o.0) refl) o
      go true same =
          let none = others_differ key x (key ∷ trace) xs same o.0 in
          let rest : remove_key (eq key) (x ∷ xs) ≡ xs = ap (λ b. cond b xs (x ∷ remove_key (eq key) xs)) same in
          record {
            absent = ap (is_in eq key) rest ∙ none;
            ordered = subst (Ordered eq trace) (sym rest) (ordered_next key trace xs none o.1);
            due_now = λ d.
                let now = until_now key x trace same in
                let one : soon eq (suc d) (key ∷ trace) x ≡ 1 = ap (λ n. cond {A = ℕ} (nat_lt n (suc d)) 1 0) now
                ∙ ap (λ b. cond {A = ℕ} b 1 0) (lt-ltb 0 (suc d) (omega arith)) in
                let here : cond {A = ℕ} (is_in eq key (x ∷ xs)) 1 0 ≡ 1 = rw same refl in
                let later = ap (due eq d trace) rest in
                omega (arith, one, here, later, due_next d key trace xs none);
          }

  later_put : (trace : List K) (x key : K) (xs : List K) → until eq x trace ≤ until eq key trace → eq x key ≡ false
      → Later eq trace x xs → Later eq trace x (put eq trace key xs)
  later_put trace x key [] before apart l = (before, apart, tt)
  later_put trace x key (y ∷ ys) before apart l =
      go (nat_le (until eq key trace) (until eq y trace)) (later_put trace x key ys before apart l.2)
    where
      go : (b : Bool) → Later eq trace x (put eq trace key ys)
          → Later eq trace x (cond b (key ∷ (y ∷ ys)) (y ∷ put eq trace key ys))
      go true ih = (before, apart, l)
      go false ih = (l.0, l.1, ih)

  later_all : (trace : List K) (key x : K) (xs : List K) → until eq key trace ≤ until eq x trace
      → is_in eq key xs ≡ false → Later eq trace x xs → Later eq trace key xs
  later_all trace key x [] before none l = tt
  later_all trace key x (y ∷ ys) before none l =
      let parts = or_parts (eq key y) (is_in eq key ys) none in
      (omega (arith, before, l.0), parts.0, later_all trace key x ys before parts.1 l.2)

  pub ordered_put : (trace : List K) (key : K) (xs : List K) → is_in eq key xs ≡ false → Ordered eq trace xs
      → Ordered eq trace (put eq trace key xs)
  ordered_put trace key [] none o = (tt, tt)
  ordered_put trace key (x ∷ xs) none o =
      let parts = or_parts (eq key x) (is_in eq key xs) none in
      go (cases_lt (until eq x trace) (until eq key trace)) parts.0 parts.1 (ordered_put trace key xs parts.1 o.1)
    where
      go : (until eq x trace < until eq key trace) ⊎ (until eq key trace ≤ until eq x trace) → eq key x ≡ false
          → is_in eq key xs ≡ false → Ordered eq trace (put eq trace key xs)
          → Ordered eq trace (put eq trace key (x ∷ xs))
      go (inl after) apart none ih = rw (lt-leb (until eq key trace) (until eq x trace) after)
          (later_put trace x key xs (omega (arith, after)) (laws.symm x key ∙ apart) o.0, ih)
      go (inr before) apart none ih = rw (le-leb (until eq key trace) (until eq x trace) before)
          ((before, apart, later_all trace key x xs before none o.0), o)

  pub due_put : (d : ℕ) (trace : List K) (key : K) (xs : List K)
      → due eq d trace (put eq trace key xs) ≡ soon eq d trace key + due eq d trace xs
  due_put d trace key [] = refl
  due_put d trace key (x ∷ xs) =
      go (nat_le (until eq key trace) (until eq x trace)) (due_put d trace key xs)
    where
      go : (b : Bool) → due eq d trace (put eq trace key xs) ≡ soon eq d trace key + due eq d trace xs
          → due eq d trace (cond b (key ∷ (x ∷ xs)) (x ∷ put eq trace key xs))
          ≡ soon eq d trace key + (soon eq d trace x + due eq d trace xs)
      go true ih = refl
      go false ih = omega (arith, ih)

  pub later_take : (n : ℕ) (trace : List K) (x : K) (xs : List K) → Later eq trace x xs → Later eq trace x (take n xs)
  later_take zero trace x xs l = tt
  later_take (suc n) trace x [] l = tt
  later_take (suc n) trace x (y ∷ ys) l = (l.0, l.1, later_take n trace x ys l.2)

  pub ordered_take : (n : ℕ) (trace xs : List K) → Ordered eq trace xs → Ordered eq trace (take n xs)
  ordered_take zero trace xs o = tt
  ordered_take (suc n) trace [] o = tt
  ordered_take (suc n) trace (x ∷ xs) o = (later_take n trace x xs o.0, ordered_take n trace xs o.1)

  pub absent_take : (n : ℕ) (key : K) (xs : List K) → is_in eq key xs ≡ false → is_in eq key (take n xs) ≡ false
  absent_take zero key xs none = refl
  absent_take (suc n) key [] none = refl
  absent_take (suc n) key (x ∷ xs) none =
      let parts = or_parts (eq key x) (is_in eq key xs) none in
      rw (parts.0) (absent_take n key xs parts.1)

  pub due_zero : (trace xs : List K) → due eq 0 trace xs ≡ 0
  due_zero trace [] = refl
  due_zero trace (x ∷ xs) = rw (le-ltb (until eq x trace) 0 (omega arith)) (omega (arith, due_zero trace xs))

  none_due : (d : ℕ) (trace : List K) (x : K) (xs : List K) → d ≤ until eq x trace → Later eq trace x xs
      → due eq d trace xs ≡ 0
  none_due d trace x [] far l = refl
  none_due d trace x (y ∷ ys) far l =
      rw (le-ltb (until eq y trace) d (omega (arith, far, l.0))) (omega (arith, none_due d trace x ys far l.2))

  pub due_take : (d n : ℕ) (trace xs : List K) → Ordered eq trace xs
      → due eq d trace (take n xs) ≡ min n (due eq d trace xs)
  due_take d zero trace xs o = omega arith
  due_take d (suc n) trace [] o = omega arith
  due_take d (suc n) trace (x ∷ xs) o = go (cases_lt (until eq x trace) d) (due_take d n trace xs o.1)
    where
      go : (until eq x trace < d) ⊎ (d ≤ until eq x trace)
          → due eq d trace (take n xs) ≡ min n (due eq d trace xs)
          → soon eq d trace x + due eq d trace (take n xs) ≡ min (suc n) (soon eq d trace x + due eq d trace xs)
      go (inl near) ih = rw (lt-ltb (until eq x trace) d near) (omega (arith, ih))
      go (inr far) ih =
          rw (le-ltb (until eq x trace) d far) (omega (arith, ih, none_due d trace x xs far o.0))
