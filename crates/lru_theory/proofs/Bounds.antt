-- LRU against other policies: for each k misses of LRU, counted from the end of the trace, the other policy pays at
-- least k + b - h times. If it stores each referenced key, b is 1, else 0.
use Rattle.std.proofs.Common.{◌≡◌, ℕ, zero, suc, ◌+◌, ◌-◌, ◌*◌, ◌≤◌, ◌<◌, Bool, true, false, cond, List, [], ◌∷◌}
use Rattle.std.proofs.Common.{length, sym, ap, ◌∙◌, subst, arith, ◌⊎◌, inl, inr}
use Rattle.std.proofs.lemmas.Bool.{cases_lt}
use Rattle.std.proofs.Math.Nat.{mul-le-mul_left, mul-le-mul_right}
use Rattle.std.specs.Cmp.{IsEquivalence}
use Rattle.lru_theory.specs.Traces.{is_in, refer, cached, faults, fault}
use Rattle.lru_theory.specs.Policies.{Served, ends, serves}
use Rattle.lru_theory.proofs.Affordable.{Front, none}
use Rattle.lru_theory.proofs.Windows.{Apart, Within, Gains, window}

fault_few : {K : Type 0} (eq : K → K → Bool) (key : K) (xs : List K) → fault eq key xs ≤ 1
fault_few eq key xs = go (is_in eq key xs)
  where
    go : (b : Bool) → cond b 0 1 ≤ 1
    go true = omega arith
    go false = omega arith

module _ {K : Type 0} {eq : K → K → Bool} (laws : IsEquivalence eq) (k h b : ℕ) (one_most : b ≤ 1)
    (IsStep : K → List K → ℕ → List K → Type 0)
    (gains : (key : K) (old : List K) (one : ℕ) (new : List K) → IsStep key old one new
    → Gains laws k h b IsStep key old one new) where
  record Split (xs old new : List K) (missed paid j : ℕ) : Type 0 where
    first : List K
    rest : List K
    mid : List K
    before : ℕ
    later : ℕ
    done : Served IsStep mid old first before
    left : Served IsStep new mid rest later
    sum : before + later ≡ paid
    misses : faults eq k xs first ≡ j
    others : faults eq k (cached eq k xs first) rest ≡ missed - j
    fits : length mid ≤ h
    start : List K
    long : length start ≡ b
    apart : Apart eq start
    within : Within eq start mid
    front : 0 < k → Front start (cached eq k xs first)

  split : (new trace xs old : List K) (paid j : ℕ) → 0 < j → j ≤ faults eq k xs trace
      → Served IsStep new old trace paid → Split xs old new (faults eq k xs trace) paid j
  split new _ xs _ _ j some many ends = absurd (omega (arith, some, many))
  split new _ xs _ _ j some many (serves key trace old mid one paid is run) =
      let g = gains key old one mid is in
      elim (cases_lt (fault eq key xs) j) [
        | inl more ↦
            let s = split new trace (refer eq k key xs) mid paid (j - fault eq key xs) (omega (arith, more))
            (omega (arith, many)) run in
            record {
              first = key ∷ s.first;
              rest = s.rest;
              mid = s.mid;
              before = one + s.before;
              later = s.later;
              done = serves key s.first old mid one s.before is s.done;
              left = s.left;
              sum = omega (arith, s.sum);
              misses = omega (arith, s.misses, more);
              others = omega (arith, more, s.others);
              fits = s.fits;
              start = s.start;
              long = s.long;
              apart = s.apart;
              within = s.within;
              front = s.front;
            }
        | inr enough ↦
            let is_one : fault eq key xs ≡ j = omega (arith, enough, some, fault_few eq key xs) in
            record {
              first = key ∷ [];
              rest = trace;
              mid = mid;
              before = one + 0;
              later = paid;
              done = serves key [] old mid one 0 is ends;
              left = run;
              sum = omega arith;
              misses = omega (arith, is_one);
              others = omega (arith, is_one);
              fits = g.fits;
              start = g.start;
              long = g.long;
              apart = g.apart;
              within = g.within;
              front = λ some. g.front some xs;
            }
      ]

  all_within : (xs : List K) → Within eq xs xs
  all_within xs key e = e

  has_room : (new trace xs old : List K) (paid : ℕ) → 0 < faults eq k xs trace → Served IsStep new old trace paid
      → b ≤ h
  has_room new _ xs _ _ some ends = absurd (omega (arith, some))
  has_room new _ xs _ _ some (serves key trace old mid one paid is run) = (gains key old one mid is).room

  first_window : (trace xs old new : List K) (paid : ℕ) → faults eq k xs trace ≤ k
      → Served IsStep new old trace paid → faults eq k xs trace ≤ length old + paid
  first_window trace xs old new paid few run =
      let w = window laws k h b IsStep gains new trace [] xs old old paid tt (λ short. none xs)
      (λ key e. absurd cc) (all_within old) run in
      go w.many w.few
    where
      go : {count : ℕ} → (0 + faults eq k xs trace ≤ count) ⊎ (k + 1 ≤ count) → count ≤ length old + paid
          → faults eq k xs trace ≤ length old + paid
      go (inl h) most = omega (arith, h, most)
      go (inr h) most = omega (arith, h, most, few)

  next_window : (xs old new : List K) (missed paid j : ℕ) → 0 < k → missed ≡ j + k
      → (s : Split xs old new missed paid j) → k + b ≤ h + s.later
  next_window xs old new missed paid j some is s =
      let w = window laws k h b IsStep gains new s.rest s.start (cached eq k xs s.first) s.mid s.mid s.later s.apart
      (λ short. s.front some) s.within (all_within s.mid) s.left in
      go w.many w.few
    where
      go : {count : ℕ} → (length s.start + faults eq k (cached eq k xs s.first) s.rest ≤ count) ⊎ (k + 1 ≤ count)
          → count ≤ length s.mid + s.later → k + b ≤ h + s.later
      go (inl m) most = omega (arith, m, most, s.long, s.others, is, s.fits)
      go (inr m) most = omega (arith, m, most, s.fits, one_most)

  pub bound : (fuel : ℕ) (trace xs old new : List K) (paid : ℕ) → faults eq k xs trace ≤ fuel → h ≤ k
      → Served IsStep new old trace paid
      → (k + b - h) * faults eq k xs trace ≤ k * paid + (k + b - h) * length old
  bound zero trace xs old new paid few less run =
      let none : faults eq k xs trace ≡ 0 = omega (arith, few) in
      rw none (omega arith)
  bound (suc fuel) trace xs old new paid few less run = elim (cases_lt k (faults eq k xs trace)) [
    | inr short ↦ elim (cases_lt 0 (faults eq k xs trace)) [
      | inl some ↦ few_misses (k + b - h) (faults eq k xs trace) (length old) paid
          (first_window trace xs old new paid short run)
          (omega (arith, has_room new trace xs old paid some run))
      | inr nothing ↦
          let none : faults eq k xs trace ≡ 0 = omega (arith, nothing) in
          rw none (omega arith)
    ]
    | inl long ↦ elim (cases_lt 0 k) [
      | inl some ↦
          let j = faults eq k xs trace - k in
          let s = split new trace xs old paid j (omega (arith, long)) (omega arith) run in
          let earlier = bound fuel s.first xs old s.mid s.before (omega (arith, s.misses, few, some)) less s.done in
          let dear = next_window xs old new (faults eq k xs trace) paid j some (omega (arith, long)) s in
          more_misses (k + b - h) j (faults eq k xs trace) s.before s.later paid (length old) (omega (arith, long))
          s.sum (omega (arith, dear)) (subst (λ n. (k + b - h) * n ≤ k * s.before + (k + b - h) * length old) s.misses
          earlier)
      | inr zero_places ↦
          let free : k + b - h ≡ 0 = omega (
            arith,
            zero_places,
            less,
            has_room new trace xs old paid (omega (arith, long)) run,
          ) in
          rw free (omega arith)
    ]
  ]
    where
      few_misses : (c missed first paid : ℕ) → missed ≤ first + paid → c ≤ k → c * missed ≤ k * paid + c * first
      few_misses c missed first paid most less =
          let one : c * missed ≤ c * (first + paid) = mul-le-mul_left c most in
          let two : c * (first + paid) ≡ c * first + c * paid = grind arith in
          let three : c * paid ≤ k * paid = mul-le-mul_right paid less in
          omega (arith, one, two, three)

      more_misses : (c j missed before later paid first : ℕ) → missed ≡ j + k → before + later ≡ paid → c ≤ later
          → c * j ≤ k * before + c * first → c * missed ≤ k * paid + c * first
      more_misses c j missed before later paid first is sum dear earlier =
          let one : c * missed ≡ c * j + k * c = ap (λ n. c * n) is ∙ grind arith in
          let two : k * paid ≡ k * before + k * later = ap (λ n. k * n) (sym sum) ∙ grind arith in
          let three : k * c ≤ k * later = mul-le-mul_left k dear in
          omega (arith, one, two, three, earlier)
