-- Every policy pays at least as often as MIN misses.
use Rattle.std.proofs.Common.{◌≡◌, ℕ, zero, suc, ◌+◌, ◌-◌, ◌≤◌, Bool, true, false, cond, List, [], ◌∷◌, length, take}
use Rattle.std.proofs.Common.{refl, arith}
use Rattle.std.specs.Cmp.{IsEquivalence}
use Rattle.std.specs.Prelude.{◌&&◌, not}
use Rattle.std.specs.Set.{remove_key}
use Rattle.lru_theory.specs.Traces.{is_in, fault}
use Rattle.lru_theory.specs.Policies.{Loads, Bypasses, Served, ends, serves, outside}
use Rattle.lru_theory.specs.Best.{put, min_refer, bypass_refer, faults_ahead}
use Rattle.lru_theory.proofs.Nexts.{Ordered, soon, due, Left, left, ordered_put, due_put, ordered_take, due_take, due_zero}
use Rattle.lru_theory.proofs.Nexts.{absent_take}
use Rattle.lru_theory.proofs.Inclusions.{clash}
use Rattle.lru_theory.proofs.Nears.{near, near_few, near_stored, near_new, others, fresh, fresh_few}

pays_once : (was in_min is : Bool) (f o p c : ℕ) → cond was 1 0 ≤ cond in_min 1 0 + c
    → f + cond (is && not was) 1 0 ≤ o → (is ≡ true → o ≤ p) → (is ≡ false → o + cond was 0 1 ≤ p)
    → cond in_min 0 1 ≤ c + p
pays_once was true is f o p c first new stored bypassed = omega arith
pays_once true false is f o p c first new stored bypassed = omega (arith, first)
pays_once false false true f o p c first new stored bypassed = omega (arith, new, stored refl)
pays_once false false false f o p c first new stored bypassed = omega (arith, bypassed refl)

pays_for_all : (was in_min is : Bool) (a m b f o p c new : ℕ) → cond was 1 0 + b ≤ cond in_min 1 0 + m + c
    → f + cond (is && not was) 1 0 ≤ o → (is ≡ true → o ≤ p) → (is ≡ false → o + cond was 0 1 ≤ p)
    → new ≤ cond is a 0 + (b + f) → new ≤ a + m + (c + p - cond in_min 0 1)
pays_for_all true true true a m b f o p c new before few stored bypassed has = omega (arith, before, few, stored refl, has)
pays_for_all true true false a m b f o p c new before few stored bypassed has =
    omega (arith, before, few, bypassed refl, has)
pays_for_all true false true a m b f o p c new before few stored bypassed has =
    omega (arith, before, few, stored refl, has)
pays_for_all true false false a m b f o p c new before few stored bypassed has =
    omega (arith, before, few, bypassed refl, has)
pays_for_all false true true a m b f o p c new before few stored bypassed has =
    omega (arith, before, few, stored refl, has)
pays_for_all false true false a m b f o p c new before few stored bypassed has =
    omega (arith, before, few, bypassed refl, has)
pays_for_all false false true a m b f o p c new before few stored bypassed has =
    omega (arith, before, few, stored refl, has)
pays_for_all false false false a m b f o p c new before few stored bypassed has =
    omega (arith, before, few, bypassed refl, has)

module _ {K : Type 0} {eq : K → K → Bool} (laws : IsEquivalence eq) where
  -- For each d, the cache `old` has at most c more keys than MIN whose next reference is among the first d references.
  abbrev pub IsAhead : ℕ → List K → List K → List K → Type 0
  IsAhead c trace keys old = (d : ℕ) → near eq d trace (λ z. is_in eq z old) ≤ due eq d trace keys + c

  -- `IsAhead` after one reference, if the policy pays p times.
  pub record Step (c p : ℕ) (key : K) (trace keys new next : List K) : Type 0 where
    pub misses : fault eq key keys ≤ c + p
    pub ordered : Ordered eq trace next
    pub ahead : IsAhead (c + p - fault eq key keys) trace next new

  module _ (c p : ℕ) (key : K) (trace keys old new : List K) (o : Ordered eq (key ∷ trace) keys)
      (ahead : IsAhead c (key ∷ trace) keys old) (stored : is_in eq key new ≡ true → outside eq old new ≤ p)
      (bypassed : is_in eq key new ≡ false → outside eq old new + fault eq key old ≤ p) where
    abbrev rest : List K
    rest = remove_key (eq key) keys

    l : Left laws key trace keys
    l = left laws key trace keys o

    before : (d : ℕ) → cond (is_in eq key old) 1 0 + near eq d trace (others laws key old)
        ≤ cond (is_in eq key keys) 1 0 + due eq d trace rest + c
    before d = omega (arith, ahead (suc d), l.due_now d)

    misses : fault eq key keys ≤ c + p
    misses = pays_once (is_in eq key old) (is_in eq key keys) (is_in eq key new) (fresh laws key old new)
        (outside eq old new) p c (omega (arith, before 0, due_zero laws trace rest)) (fresh_few laws key old new)
        stored bypassed

    all : (d : ℕ) → near eq d trace (λ z. is_in eq z new)
        ≤ soon eq d trace key + due eq d trace rest + (c + p - fault eq key keys)
    all d = pays_for_all (is_in eq key old) (is_in eq key keys) (is_in eq key new) (soon eq d trace key)
        (due eq d trace rest) (near eq d trace (others laws key old)) (fresh laws key old new) (outside eq old new) p c
        (near eq d trace (λ z. is_in eq z new)) (before d) (fresh_few laws key old new) stored bypassed
        (near_new laws key old d trace new)

    bypass_step : (n : ℕ) → length new ≤ n → Step c p key trace keys new (bypass_refer eq n key trace keys)
    bypass_step n fits =
        let put_so = ordered_put laws trace key rest l.absent l.ordered in
        record {
          misses = misses;
          ordered = ordered_take laws n trace (put eq trace key rest) put_so;
          ahead = λ d. omega (
            arith,
            all d,
            near_few laws d trace new,
            fits,
            due_take laws d n trace (put eq trace key rest) put_so,
            due_put laws d trace key rest,
          );
        }

    min_step : (n : ℕ) → length new ≤ n → is_in eq key new ≡ true
        → Step c p key trace keys new (min_refer eq n key trace keys)
    min_step zero fits at = absurd (none new fits at)
      where
        none : (xs : List K) → length xs ≤ 0 → is_in eq key xs ≡ true → ⊥
        none [] fits at = absurd cc
        none (x ∷ xs) fits at = omega (arith, fits)
    min_step (suc n) fits at = record {
      misses = misses;
      ordered = ordered_put laws trace key (take n rest) (absent_take laws n key rest l.absent)
          (ordered_take laws n trace rest l.ordered);
      ahead = λ d. omega (
        arith,
        all d,
        near_stored laws d trace key new at,
        fits,
        due_take laws d n trace rest l.ordered,
        due_put laws d trace key (take n rest),
      );
    }

  module _ (IsStep : K → List K → ℕ → List K → Type 0) (refer : K → List K → List K → List K)
      (step : (c p : ℕ) (key : K) (trace keys old new : List K) → Ordered eq (key ∷ trace) keys
      → IsAhead c (key ∷ trace) keys old → IsStep key old p new → Step c p key trace keys new (refer key trace keys))
    where
      pub no_better : (new : List K) (c : ℕ) (trace keys old : List K) (paid : ℕ) → Ordered eq trace keys
          → IsAhead c trace keys old → Served IsStep new old trace paid → faults_ahead eq refer keys trace ≤ paid + c
      no_better new c _ keys _ _ o ahead ends = omega arith
      no_better new c _ keys _ _ o ahead (serves key trace old mid one paid is run) =
          let s = step c one key trace keys old mid o ahead is in
          omega (
            arith,
            s.misses,
            no_better new (c + one - fault eq key keys) trace (refer key trace keys) mid paid s.ordered s.ahead run,
          )

  from_none : (trace : List K) → IsAhead 0 trace [] []
  from_none trace d = omega (arith, near_few laws d trace [])

  pub bypass_best : (n : ℕ) (trace new : List K) (paid : ℕ) → Served (Bypasses eq n) new [] trace paid
      → faults_ahead eq (bypass_refer eq n) [] trace ≤ paid
  bypass_best n trace new paid run = omega (
    arith,
    no_better (Bypasses eq n) (bypass_refer eq n)
        (λ c p key trace keys old new o ahead is.
        bypass_step c p key trace keys old new o ahead is.stored is.bypassed n is.fits)
        new 0 trace [] [] paid tt (from_none trace) run,
  )

  pub min_best : (n : ℕ) (trace new : List K) (paid : ℕ) → Served (Loads eq n) new [] trace paid
      → faults_ahead eq (min_refer eq n) [] trace ≤ paid
  min_best n trace new paid run = omega (
    arith,
    no_better (Loads eq n) (min_refer eq n)
        (λ c p key trace keys old new o ahead is.
        min_step c p key trace keys old new o ahead (λ at. is.pays) (λ none. absurd (clash none is.stores)) n is.fits
        is.stores)
        new 0 trace [] [] paid tt (from_none trace) run,
  )
