-- MIN is a policy that stores each referenced key. MIN with bypass is a policy that need not store each one.
use Rattle.std.proofs.Common.{◌≡◌, ℕ, zero, suc, ◌+◌, ◌≤◌, ◌<◌, Bool, true, false, cond, List, [], ◌∷◌, length, take}
use Rattle.std.proofs.Common.{refl, ap, arith}
use Rattle.std.proofs.lemmas.Bool.{or_right}
use Rattle.std.proofs.lemmas.List.{length-take}
use Rattle.std.specs.Cmp.{IsEquivalence}
use Rattle.std.specs.Prelude.{◌||◌, nat_le}
use Rattle.std.specs.Set.{remove_key}
use Rattle.lru_theory.specs.Traces.{is_in, refer, fault, faults}
use Rattle.lru_theory.specs.Policies.{Loads, Bypasses, Served, ends, serves, outside}
use Rattle.lru_theory.specs.Best.{until, put, min_refer, bypass_refer, faults_ahead}
use Rattle.lru_theory.proofs.Inclusions.{clash}

module _ {K : Type 0} {eq : K → K → Bool} (laws : IsEquivalence eq) where
  length_put : (trace : List K) (key : K) (xs : List K) → length (put eq trace key xs) ≡ suc (length xs)
  length_put trace key [] = refl
  length_put trace key (x ∷ xs) = go (nat_le (until eq key trace) (until eq x trace)) (length_put trace key xs)
    where
      go : (b : Bool) → length (put eq trace key xs) ≡ suc (length xs)
          → length (cond b (key ∷ (x ∷ xs)) (x ∷ put eq trace key xs)) ≡ suc (suc (length xs))
      go true ih = refl
      go false ih = ap suc ih

  in_put : (trace : List K) (key : K) (xs : List K) → is_in eq key (put eq trace key xs) ≡ true
  in_put trace key [] = rw (laws.refl key) refl
  in_put trace key (x ∷ xs) = go (nat_le (until eq key trace) (until eq x trace)) (in_put trace key xs)
    where
      go : (b : Bool) → is_in eq key (put eq trace key xs) ≡ true
          → is_in eq key (cond b (key ∷ (x ∷ xs)) (x ∷ put eq trace key xs)) ≡ true
      go true ih = rw (laws.refl key) refl
      go false ih = or_right (eq key x) (is_in eq key (put eq trace key xs)) ih

  outside_put : (old trace : List K) (key : K) (xs : List K)
      → outside eq old (put eq trace key xs) ≡ fault eq key old + outside eq old xs
  outside_put old trace key [] = refl
  outside_put old trace key (x ∷ xs) =
      go (nat_le (until eq key trace) (until eq x trace)) (outside_put old trace key xs)
    where
      go : (b : Bool) → outside eq old (put eq trace key xs) ≡ fault eq key old + outside eq old xs
          → outside eq old (cond b (key ∷ (x ∷ xs)) (x ∷ put eq trace key xs))
          ≡ fault eq key old + (fault eq x old + outside eq old xs)
      go true ih = refl
      go false ih = omega (arith, ih)

  outside_take : (n : ℕ) (old xs : List K) → outside eq old (take n xs) ≤ outside eq old xs
  outside_take zero old xs = omega arith
  outside_take (suc n) old [] = omega arith
  outside_take (suc n) old (x ∷ xs) = omega (arith, outside_take n old xs)

  outside_less : (key : K) (old xs : List K) → outside eq old (remove_key (eq key) xs) ≤ outside eq old xs
  outside_less key old [] = omega arith
  outside_less key old (x ∷ xs) = go (eq key x) (outside_less key old xs)
    where
      go : (b : Bool) → outside eq old (remove_key (eq key) xs) ≤ outside eq old xs
          → outside eq old (cond b xs (x ∷ remove_key (eq key) xs)) ≤ fault eq x old + outside eq old xs
      go true ih = omega arith
      go false ih = omega (arith, ih)

  fault_more : (x y : K) (old : List K) → fault eq x (y ∷ old) ≤ fault eq x old
  fault_more x y old = go (eq x y)
    where
      more : (b : Bool) → 0 ≤ cond {A = ℕ} b 0 1
      more b = omega arith

      go : (b : Bool) → cond {A = ℕ} (b || is_in eq x old) 0 1 ≤ cond {A = ℕ} (is_in eq x old) 0 1
      go true = more (is_in eq x old)
      go false = omega arith

  outside_more : (y : K) (old xs : List K) → outside eq (y ∷ old) xs ≤ outside eq old xs
  outside_more y old [] = omega arith
  outside_more y old (x ∷ xs) = omega (arith, fault_more x y old, outside_more y old xs)

  outside_self : (xs : List K) → outside eq xs xs ≡ 0
  outside_self [] = refl
  outside_self (x ∷ xs) =
      let here : fault eq x (x ∷ xs) ≡ 0 = rw (laws.refl x) refl in
      omega (arith, here, outside_more x xs xs, outside_self xs)

  outside_absent : (n : ℕ) (old trace : List K) (key : K) (xs : List K)
      → is_in eq key (take n (put eq trace key xs)) ≡ false
      → outside eq old (take n (put eq trace key xs)) ≤ outside eq old xs
  outside_absent zero old trace key xs none = omega arith
  outside_absent (suc n) old trace key [] none = clash none (rw (laws.refl key) refl)
  outside_absent (suc n) old trace key (x ∷ xs) none =
      go (nat_le (until eq key trace) (until eq x trace)) none (outside_absent n old trace key xs)
    where
      go : (b : Bool) → is_in eq key (take (suc n) (cond b (key ∷ (x ∷ xs)) (x ∷ put eq trace key xs))) ≡ false
          → (is_in eq key (take n (put eq trace key xs)) ≡ false
          → outside eq old (take n (put eq trace key xs)) ≤ outside eq old xs)
          → outside eq old (take (suc n) (cond b (key ∷ (x ∷ xs)) (x ∷ put eq trace key xs)))
          ≤ fault eq x old + outside eq old xs
      go true none ih = clash none (rw (laws.refl key) refl)
      go false none ih = omega (arith, ih (later (eq key x) (is_in eq key (take n (put eq trace key xs))) none))
        where
          later : (b d : Bool) → (b || d) ≡ false → d ≡ false
          later true d e = absurd cc
          later false d e = e

  pub min_run : (n : ℕ) (trace keys : List K)
      → (left : List K) × Served (Loads eq (suc n)) left keys trace (faults_ahead eq (min_refer eq (suc n)) keys trace)
  min_run n [] keys = (keys, ends)
  min_run n (key ∷ trace) keys =
      let rest = take n (remove_key (eq key) keys) in
      let new = put eq trace key rest in
      let (last, run) = min_run n trace new in
      let step : Loads eq (suc n) key keys (fault eq key keys) new = record {
        fits = omega (arith, length_put trace key rest, length-take n (remove_key (eq key) keys));
        stores = in_put trace key rest;
        pays = omega (
          arith,
          outside_put keys trace key rest,
          outside_take n keys (remove_key (eq key) keys),
          outside_less key keys keys,
          outside_self keys,
        );
      } in
      (last, serves key trace keys new (fault eq key keys) (faults_ahead eq (min_refer eq (suc n)) new trace) step run)

  pub bypass_run : (n : ℕ) (trace keys : List K)
      → (left : List K) × Served (Bypasses eq n) left keys trace (faults_ahead eq (bypass_refer eq n) keys trace)
  bypass_run n [] keys = (keys, ends)
  bypass_run n (key ∷ trace) keys =
      let rest = remove_key (eq key) keys in
      let new = take n (put eq trace key rest) in
      let (last, run) = bypass_run n trace new in
      let step : Bypasses eq n key keys (fault eq key keys) new = record {
        fits = omega (arith, length-take n (put eq trace key rest));
        stored = λ at. omega (
          arith,
          outside_take n keys (put eq trace key rest),
          outside_put keys trace key rest,
          outside_less key keys keys,
          outside_self keys,
        );
        bypassed = λ none. omega (
          arith,
          outside_absent n keys trace key rest none,
          outside_less key keys keys,
          outside_self keys,
        );
      } in
      (last, serves key trace keys new (fault eq key keys) (faults_ahead eq (bypass_refer eq n) new trace) step run)

  pub min_run_of : (n : ℕ) (trace : List K) → 0 < n
      → (left : List K) × Served (Loads eq n) left [] trace (faults_ahead eq (min_refer eq n) [] trace)
  min_run_of zero trace some = absurd (omega (arith, some))
  min_run_of (suc n) trace some = min_run n trace []

  pub lru_run : (n : ℕ) (trace keys : List K)
      → (left : List K) × Served (Loads eq (suc n)) left keys trace (faults eq (suc n) keys trace)
  lru_run n [] keys = (keys, ends)
  lru_run n (key ∷ trace) keys =
      let rest = remove_key (eq key) keys in
      let new = refer eq (suc n) key keys in
      let (last, run) = lru_run n trace new in
      let step : Loads eq (suc n) key keys (fault eq key keys) new = record {
        fits = omega (arith, length-take n rest);
        stores = rw (laws.refl key) refl;
        pays = omega (arith, outside_take n keys rest, outside_less key keys keys, outside_self keys);
      } in
      (last, serves key trace keys new (fault eq key keys) (faults eq (suc n) new trace) step run)
