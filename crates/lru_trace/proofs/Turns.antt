use Rattle.std.proofs.Common.{◌≡◌, ℕ, zero, suc, ◌+◌, ◌-◌, ◌≤◌, ◌<◌, Bool, List, [], ◌∷◌, length, take}
use Rattle.std.proofs.Common.{get_or, refl, sym, ap, ◌∙◌, subst, arith}
use Rattle.std.specs.BTreeMap.{is_at}
use Rattle.std.specs.Cmp.{IsEquivalence}
use Rattle.std.specs.Cmp.Lexicographic.{nat_list_eq_equiv}
use Rattle.std.specs.Int.{from_bool}
use Rattle.std.specs.List.{list_any}
use Rattle.std.specs.Ordering.{nat_cmp}
use Rattle.std.specs.Prelude.{not}
use Rattle.std.specs.Set.{remove_key}
use Rattle.std.specs.Str.{bytes_eq}
use Rattle.lru_theory.specs.Best.{until, min_refer, bypass_refer, faults_ahead, min_misses}
use Rattle.lru_theory.proofs.Nexts.{Ordered}
use Rattle.lru_trace.specs.Times.{next_times, with_time}
use Rattle.lru_trace.proofs.Times.{Missed, all_missed, refers, times, min_times, bypass_times}

module _ {K : Type 0} {eq : K → K → Bool} (laws : IsEquivalence eq) (places : ℕ) (trace : List K) (now missed : ℕ)
    (ts : List ℕ) (h : now < length trace) where
  pub min_refers : 0 < places → Missed eq (min_refer eq places) trace now missed ts
      → Missed eq (min_refer eq places) trace (suc now) (missed + from_bool (not (list_any (is_at (nat_cmp now)) ts)))
      (with_time (length trace) (get_or (next_times eq 0 trace) now 0)
      (take (places - 1) (remove_key (is_at (nat_cmp now)) ts)))
  min_refers some = refers laws (min_refer eq places) (λ end next us. with_time end next (take (places - 1) us))
      (go places some) trace now missed ts h
    where
      go : (n : ℕ) → 0 < n → (i : ℕ) (key : K) (rest xs : List K) → Ordered eq (key ∷ rest) xs
          → Ordered eq rest (min_refer eq n key rest xs)
          × (with_time (suc i + length rest) (suc i + until eq key rest)
          (take (n - 1) (remove_key (is_at (nat_cmp i)) (times eq i (key ∷ rest) xs)))
          ≡ times eq (suc i) rest (min_refer eq n key rest xs))
      go zero some i key rest xs o = absurd (omega (arith, some))
      go (suc n) some i key rest xs o =
          let less : suc n - 1 ≡ n = omega arith in
          let is = min_times laws i key rest n xs o in (
            is.0,
            ap (λ m. with_time (suc i + length rest) (suc i + until eq key rest)
                (take m (remove_key (is_at (nat_cmp i)) (times eq i (key ∷ rest) xs)))) less ∙ is.1,
          )

  pub bypass_refers : Missed eq (bypass_refer eq places) trace now missed ts
      → Missed eq (bypass_refer eq places) trace (suc now)
      (missed + from_bool (not (list_any (is_at (nat_cmp now)) ts)))
      (take places (with_time (length trace) (get_or (next_times eq 0 trace) now 0)
      (remove_key (is_at (nat_cmp now)) ts)))
  bypass_refers = refers laws (bypass_refer eq places) (λ end next us. take places (with_time end next us))
      (λ i key rest xs o. bypass_times laws i key rest places xs o) trace now missed ts h

length-next_times : {K : Type 0} (eq : K → K → Bool) (i : ℕ) (trace : List K)
    → length (next_times eq i trace) ≡ length trace
length-next_times eq i [] = refl
length-next_times eq i (key ∷ trace) = ap suc (length-next_times eq (suc i) trace)

-- `ts` are the times, and `left` is `ts` without the time `now`. The key of the reference at `now` is referenced again
-- at time `next`, unless `next` is the end of the trace.
module _ (trace : List (List ℕ)) {nexts : List ℕ} (are : nexts ≡ next_times bytes_eq 0 trace) (now places : ℕ)
    (h : now < length nexts) (missed count next : ℕ) (found : Bool) (ts left new : List ℕ)
    (found_is : found ≡ list_any (is_at (nat_cmp now)) ts) (count_is : count ≡ from_bool (not found))
    (left_is : left ≡ remove_key (is_at (nat_cmp now)) ts) (next_is : next ≡ get_or nexts now 0) where
  size : length nexts ≡ length trace
  size = ap length are ∙ length-next_times bytes_eq 0 trace

  within_trace : now < length trace
  within_trace = omega (arith, h, size)

  computed : (refer : List ℕ → List (List ℕ) → List (List ℕ) → List (List ℕ)) (us : List ℕ) → us ≡ new
      → Missed bytes_eq refer trace (suc now) (missed + from_bool (not (list_any (is_at (nat_cmp now)) ts))) us
      → Missed bytes_eq refer trace (now + 1) (missed + count) new
  computed refer us e is = subst (λ n. Missed bytes_eq refer trace n (missed + count) new) one_more
      (subst (λ m. Missed bytes_eq refer trace (suc now) m new) counted
      (subst (λ l. Missed bytes_eq refer trace (suc now) (missed + from_bool (not (list_any (is_at (nat_cmp now)) ts))) l)
      e is))
    where
      one_more : suc now ≡ now + 1
      one_more = omega arith

      counted : missed + from_bool (not (list_any (is_at (nat_cmp now)) ts)) ≡ missed + count
      counted = ap (λ b. missed + from_bool (not b)) (sym found_is) ∙ ap (λ n. missed + n) (sym count_is)

  pub min_turn : 0 < places → (kept : List ℕ) → kept ≡ take (places - 1) left
      → new ≡ with_time (length nexts) next kept → Missed bytes_eq (min_refer bytes_eq places) trace now missed ts
      → Missed bytes_eq (min_refer bytes_eq places) trace (now + 1) (missed + count) new
  min_turn some kept kept_is new_is so_far =
      let same : get_or (next_times bytes_eq 0 trace) now 0 ≡ next = ap (λ l. get_or l now 0) (sym are) ∙ sym next_is in
      let rest : take (places - 1) (remove_key (is_at (nat_cmp now)) ts) ≡ kept =
      ap (take (places - 1)) (sym left_is) ∙ sym kept_is in
      computed (min_refer bytes_eq places)
      (with_time (length trace) (get_or (next_times bytes_eq 0 trace) now 0)
      (take (places - 1) (remove_key (is_at (nat_cmp now)) ts)))
      ((λ j. with_time (sym size j) (same j) (rest j)) ∙ sym new_is)
      (min_refers nat_list_eq_equiv places trace now missed ts within_trace some so_far)

  pub bypass_turn : (with_it : List ℕ) → with_it ≡ with_time (length nexts) next left → new ≡ take places with_it
      → Missed bytes_eq (bypass_refer bytes_eq places) trace now missed ts
      → Missed bytes_eq (bypass_refer bytes_eq places) trace (now + 1) (missed + count) new
  bypass_turn with_it with_is new_is so_far =
      let same : get_or (next_times bytes_eq 0 trace) now 0 ≡ next = ap (λ l. get_or l now 0) (sym are) ∙ sym next_is in
      computed (bypass_refer bytes_eq places)
      (take places (with_time (length trace) (get_or (next_times bytes_eq 0 trace) now 0)
      (remove_key (is_at (nat_cmp now)) ts)))
      ((λ j. take places (with_time (sym size j) (same j) (sym left_is j))) ∙ ap (take places) (sym with_is) ∙ sym new_is)
      (bypass_refers nat_list_eq_equiv places trace now missed ts within_trace so_far)

module _ (trace : List (List ℕ)) {nexts : List ℕ} (are : nexts ≡ next_times bytes_eq 0 trace) where
  pub turns_end : (refer : List ℕ → List (List ℕ) → List (List ℕ) → List (List ℕ)) (now missed : ℕ) (ts : List ℕ)
      → length nexts ≤ now → Missed bytes_eq refer trace now missed ts → missed ≡ faults_ahead bytes_eq refer [] trace
  turns_end refer now missed ts h = all_missed bytes_eq refer trace now missed ts
      (omega (arith, h, ap length are, length-next_times bytes_eq 0 trace))

  pub no_places : (places : ℕ) → places ≡ 0 → length nexts ≡ min_misses bytes_eq places trace
  no_places places none = ap length are ∙ length-next_times bytes_eq 0 trace ∙ each trace
      ∙ ap (λ n. min_misses bytes_eq n trace) (sym none)
    where
      each : (trace : List (List ℕ)) → length trace ≡ min_misses bytes_eq 0 trace
      each [] = refl
      each (key ∷ trace) = omega (arith, each trace)
