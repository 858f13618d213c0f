-- The keys of MIN as the times of their next references.
--     key, rest    the reference at time i, and the references after it
use Rattle.std.proofs.Common.{◌≡◌, ℕ, zero, suc, ◌+◌, ◌≤◌, ◌<◌, Bool, true, false, cond, List, [], ◌∷◌, length, take}
use Rattle.std.proofs.Common.{drop, get_or, refl, sym, ap, ◌∙◌, subst, arith, inl, inr, ◌⊎◌}
use Rattle.std.proofs.Math.ListN.{drop_of_length-le}
use Rattle.std.proofs.lemmas.Bool.{lt-ltb, le-ltb, le-leb, lt-leb, cases_lt, or_parts}
use Rattle.std.specs.BTreeMap.{is_at}
use Rattle.std.specs.BTreeSet.{insert_key}
use Rattle.std.specs.Cmp.{IsEquivalence, nat_cmp_is}
use Rattle.std.specs.Int.{from_bool}
use Rattle.std.specs.List.{list_any}
use Rattle.std.specs.Ordering.{nat_cmp, is_eq, match_ordering}
use Rattle.std.specs.declared.cmp.Ordering.TheVariants.{Less, Equal, Greater}
use Rattle.std.specs.Prelude.{◌||◌, not, nat_lt}
use Rattle.std.specs.Set.{remove_key}
use Rattle.lru_theory.specs.Best.{until, put, min_refer, bypass_refer, faults_ahead}
use Rattle.lru_theory.specs.Traces.{is_in}
use Rattle.lru_theory.proofs.Nexts.{Later, Ordered, left, until_next, until_now, none_now, others_differ}
use Rattle.lru_theory.proofs.Nexts.{without_absent, later_take, ordered_take, ordered_put, absent_take}
use Rattle.lru_trace.specs.Times.{next_times, with_time}

module _ {K : Type 0} (eq : K → K → Bool) where
  -- The trace begins at time i. The list has the time of the next reference to each of the keys that occurs in the
  -- trace.
  abbrev pub times : ℕ → List K → List K → List ℕ
  times i trace [] = []
  times i trace (key ∷ keys) = cond (nat_lt (until eq key trace) (length trace))
      ((i + until eq key trace) ∷ times i trace keys) (times i trace keys)

less : (k x : ℕ) (xs : List ℕ) → k < x → insert_key nat_cmp (x ∷ xs) k ≡ k ∷ (x ∷ xs)
less k x xs h = ap (λ o. match_ordering o (k ∷ (x ∷ xs)) (x ∷ xs) (x ∷ insert_key nat_cmp xs k)) (sym (nat_cmp_is k x Less h))

more : (k x : ℕ) (xs : List ℕ) → x < k → insert_key nat_cmp (x ∷ xs) k ≡ x ∷ insert_key nat_cmp xs k
more k x xs h =
    ap (λ o. match_ordering o (k ∷ (x ∷ xs)) (x ∷ xs) (x ∷ insert_key nat_cmp xs k)) (sym (nat_cmp_is k x Greater h))

pushed : (b : Bool) (t : ℕ) (xs ys : List ℕ) → t ∷ cond b xs ys ≡ cond b (t ∷ xs) (t ∷ ys)
pushed true t xs ys = refl
pushed false t xs ys = refl

later_time : (i u : ℕ) → is_at (nat_cmp i) (suc i + u) ≡ false
later_time i u = ap is_eq (sym (nat_cmp_is i (suc i + u) Less (omega arith)))

now_time : (i : ℕ) → is_at (nat_cmp i) (i + 0) ≡ true
now_time i = ap is_eq (sym (nat_cmp_is i (i + 0) Equal (omega arith)))

kept : (p : ℕ → Bool) (ts : List ℕ) → list_any p ts ≡ false → remove_key p ts ≡ ts
kept p [] none = refl
kept p (t ∷ ts) none = let parts = or_parts (p t) (list_any p ts) none in
    ap (λ b. cond b ts (t ∷ remove_key p ts)) parts.0 ∙ ap (λ us. t ∷ us) (kept p ts parts.1)

one_later : (i u l : ℕ) (ts : List ℕ) → (u < l) ⊎ (l ≤ u)
    → cond (nat_lt (suc u) (suc l)) ((i + suc u) ∷ ts) ts ≡ cond (nat_lt u l) ((suc i + u) ∷ ts) ts
one_later i u l ts (inl h) =
    rw (lt-ltb (suc u) (suc l) (omega (arith, h)), lt-ltb u l h) (ap (λ t. t ∷ ts) (omega arith))
one_later i u l ts (inr h) = rw (le-ltb (suc u) (suc l) (omega (arith, h)), le-ltb u l h) refl

pub before_end : (a u l : ℕ) (ts : List ℕ)
    → with_time (a + l) (a + u) ts ≡ cond (nat_lt u l) (insert_key nat_cmp ts (a + u)) ts
before_end a u l ts = ap (λ b. cond b (insert_key nat_cmp ts (a + u)) ts) (go (cases_lt u l))
  where
    go : (u < l) ⊎ (l ≤ u) → nat_lt (a + u) (a + l) ≡ nat_lt u l
    go (inl h) = lt-ltb (a + u) (a + l) (omega (arith, h)) ∙ sym (lt-ltb u l h)
    go (inr h) = le-ltb (a + u) (a + l) (omega (arith, h)) ∙ sym (le-ltb u l h)

module _ {K : Type 0} {eq : K → K → Bool} (laws : IsEquivalence eq) where
  same_until : (trace : List K) (a b : K) → until eq a trace ≡ until eq b trace → until eq a trace < length trace
      → eq a b ≡ true
  same_until [] a b e h = absurd (omega (arith, h))
  same_until (z ∷ trace) a b e h = go (eq a z) (eq b z) refl refl (same_until trace a b) e h
    where
      go : (p q : Bool) → eq a z ≡ p → eq b z ≡ q
          → (until eq a trace ≡ until eq b trace → until eq a trace < length trace → eq a b ≡ true)
          → cond {A = ℕ} p 0 (suc (until eq a trace)) ≡ cond q 0 (suc (until eq b trace))
          → cond {A = ℕ} p 0 (suc (until eq a trace)) < suc (length trace) → eq a b ≡ true
      go true true d f later e h = laws.congr a z b d ∙ (laws.symm z b ∙ f)
      go true false d f later e h = absurd (omega (arith, e))
      go false true d f later e h = absurd (omega (arith, e))
      go false false d f later e h = later (omega (arith, e)) (omega (arith, h))

  none_again : (i : ℕ) (trace : List K) (x : K) (xs : List K) → length trace ≤ until eq x trace
      → Later eq trace x xs → times eq i trace xs ≡ []
  none_again i trace x [] far l = refl
  none_again i trace x (y ∷ ys) far l =
      rw (le-ltb (until eq y trace) (length trace) (omega (arith, far, l.0))) (none_again i trace x ys far l.2)

  times_take : (n i : ℕ) (trace xs : List K) → Ordered eq trace xs
      → times eq i trace (take n xs) ≡ take n (times eq i trace xs)
  times_take zero i trace xs o = refl
  times_take (suc n) i trace [] o = refl
  times_take (suc n) i trace (x ∷ xs) o =
      go (cases_lt (until eq x trace) (length trace)) (times_take n i trace xs o.1)
    where
      go : (until eq x trace < length trace) ⊎ (length trace ≤ until eq x trace)
          → times eq i trace (take n xs) ≡ take n (times eq i trace xs)
          → times eq i trace (x ∷ take n xs) ≡ take (suc n) (times eq i trace (x ∷ xs))
      go (inl near) ih =
          rw (lt-ltb (until eq x trace) (length trace) near) (ap (λ ts. (i + until eq x trace) ∷ ts) ih)
      go (inr far) ih = rw (le-ltb (until eq x trace) (length trace) far)
          (none_again i trace x (take n xs) far (later_take laws n trace x xs o.0)
          ∙ sym (ap (take (suc n)) (none_again i trace x xs far o.0)))

  module _ (i : ℕ) (trace : List K) (key x : K) (xs : List K) where
    abbrev key_wait : ℕ
    key_wait = until eq key trace

    abbrev other_wait : ℕ
    other_wait = until eq x trace

    abbrev end : ℕ
    end = length trace

    abbrev other_times : List ℕ
    other_times = times eq i trace xs

    abbrev AmongTimes : List K → Type 0
    AmongTimes keys = times eq i trace keys ≡ cond (nat_lt key_wait end)
        (insert_key nat_cmp (times eq i trace (x ∷ xs)) (i + key_wait)) (times eq i trace (x ∷ xs))

    behind : (other_wait < end) ⊎ (end ≤ other_wait) → other_wait < key_wait
        → times eq i trace (put eq trace key xs) ≡ cond (nat_lt key_wait end) (insert_key nat_cmp other_times (i + key_wait)) other_times
        → AmongTimes (x ∷ put eq trace key xs)
    behind (inl near) after ih = rw (lt-ltb other_wait end near) (ap (λ us. (i + other_wait) ∷ us) ih
        ∙ pushed (nat_lt key_wait end) (i + other_wait) (insert_key nat_cmp other_times (i + key_wait)) other_times
        ∙ ap (λ us. cond (nat_lt key_wait end) us ((i + other_wait) ∷ other_times)) (sym (more (i + key_wait) (i + other_wait) other_times (omega (arith, after)))))
    behind (inr far) after ih = rw (le-ltb other_wait end far) ih

    strictly : key_wait < end → (key_wait < other_wait) ⊎ (other_wait ≤ key_wait) → key_wait ≤ other_wait → eq key x ≡ false → i + key_wait < i + other_wait
    strictly soon (inl h) before apart = omega (arith, h)
    strictly soon (inr h) before apart =
        let same : true ≡ false = sym (same_until trace key x (omega (arith, h, before)) soon) ∙ apart in absurd cc

    ahead : key_wait < end → (other_wait < end) ⊎ (end ≤ other_wait) → key_wait ≤ other_wait → eq key x ≡ false → Later eq trace x xs
        → (i + key_wait) ∷ times eq i trace (x ∷ xs) ≡ insert_key nat_cmp (times eq i trace (x ∷ xs)) (i + key_wait)
    ahead soon (inl near) before apart l = rw (lt-ltb other_wait end near)
        (sym (less (i + key_wait) (i + other_wait) other_times (strictly soon (cases_lt key_wait other_wait) before apart)))
    ahead soon (inr far) before apart l = rw (le-ltb other_wait end far, none_again i trace x xs far l) refl

    before_all : (key_wait < end) ⊎ (end ≤ key_wait) → key_wait ≤ other_wait → eq key x ≡ false → Later eq trace x xs → AmongTimes (key ∷ (x ∷ xs))
    before_all (inl near) before apart l = rw (lt-ltb key_wait end near) (ahead near (cases_lt other_wait end) before apart l)
    before_all (inr far) before apart l = rw (le-ltb key_wait end far) refl

    put_one : (other_wait < key_wait) ⊎ (key_wait ≤ other_wait) → eq key x ≡ false → Later eq trace x xs
        → times eq i trace (put eq trace key xs) ≡ cond (nat_lt key_wait end) (insert_key nat_cmp other_times (i + key_wait)) other_times
        → AmongTimes (put eq trace key (x ∷ xs))
    put_one (inl after) apart l ih = rw (lt-leb key_wait other_wait after) (behind (cases_lt other_wait end) after ih)
    put_one (inr before) apart l ih = rw (le-leb key_wait other_wait before) (before_all (cases_lt key_wait end) before apart l)

  times_put : (i : ℕ) (trace : List K) (key : K) (xs : List K) → is_in eq key xs ≡ false → Ordered eq trace xs
      → times eq i trace (put eq trace key xs) ≡ cond (nat_lt (until eq key trace) (length trace))
      (insert_key nat_cmp (times eq i trace xs) (i + until eq key trace)) (times eq i trace xs)
  times_put i trace key [] none o = refl
  times_put i trace key (x ∷ xs) none o =
      let parts = or_parts (eq key x) (is_in eq key xs) none in
      put_one i trace key x xs (cases_lt (until eq x trace) (until eq key trace)) parts.0 o.0
      (times_put i trace key xs parts.1 o.1)

  module _ (i : ℕ) (key : K) (rest : List K) where
    times_next : (xs : List K) → is_in eq key xs ≡ false → times eq i (key ∷ rest) xs ≡ times eq (suc i) rest xs
    times_next [] none = refl
    times_next (x ∷ xs) none =
        let parts = or_parts (eq key x) (is_in eq key xs) none in
        ap (λ u. cond (nat_lt u (suc (length rest))) ((i + u) ∷ times eq i (key ∷ rest) xs) (times eq i (key ∷ rest) xs))
        (until_next laws key x rest parts.0)
        ∙ ap (λ ts. cond (nat_lt (suc (until eq x rest)) (suc (length rest))) ((i + suc (until eq x rest)) ∷ ts) ts)
        (times_next xs parts.1)
        ∙ one_later i (until eq x rest) (length rest) (times eq (suc i) rest xs) (cases_lt (until eq x rest) (length rest))

    none_due_now : (xs : List K) → list_any (is_at (nat_cmp i)) (times eq (suc i) rest xs) ≡ false
    none_due_now [] = refl
    none_due_now (x ∷ xs) = go (nat_lt (until eq x rest) (length rest)) (none_due_now xs)
      where
        go : (b : Bool) → list_any (is_at (nat_cmp i)) (times eq (suc i) rest xs) ≡ false
            → list_any (is_at (nat_cmp i)) (cond b ((suc i + until eq x rest) ∷ times eq (suc i) rest xs)
            (times eq (suc i) rest xs)) ≡ false
        go true ih = rw (later_time i (until eq x rest)) ih
        go false ih = ih

    pub record Due (xs : List K) : Type 0 where
      pub found : list_any (is_at (nat_cmp i)) (times eq i (key ∷ rest) xs) ≡ is_in eq key xs
      pub left : remove_key (is_at (nat_cmp i)) (times eq i (key ∷ rest) xs)
          ≡ times eq (suc i) rest (remove_key (eq key) xs)

    not_due : (xs : List K) → is_in eq key xs ≡ false → Due xs
    not_due xs none =
        let same = times_next xs none in
        let later = none_due_now xs in
        record {
          found = ap (list_any (is_at (nat_cmp i))) same ∙ later ∙ sym none;
          left = ap (remove_key (is_at (nat_cmp i))) same ∙ kept (is_at (nat_cmp i)) (times eq (suc i) rest xs) later
              ∙ ap (times eq (suc i) rest) (sym (without_absent laws key xs none));
        }

    due : (xs : List K) → Ordered eq (key ∷ rest) xs → Due xs
    due [] o = not_due [] refl
    due (x ∷ xs) o = go (eq key x) refl
      where
        go : (b : Bool) → eq key x ≡ b → Due (x ∷ xs)
        go false apart = not_due (x ∷ xs) (rw (apart, none_now laws key x rest xs apart o.0) refl)
        go true same =
            let none = others_differ laws key x (key ∷ rest) xs same o.0 in
            let later = times_next xs none in
            let is : times eq i (key ∷ rest) (x ∷ xs) ≡ (i + 0) ∷ times eq (suc i) rest xs =
            ap (λ u. cond (nat_lt u (suc (length rest))) ((i + u) ∷ times eq i (key ∷ rest) xs)
            (times eq i (key ∷ rest) xs)) (until_now laws key x rest same)
            ∙ ap (λ b. cond b ((i + 0) ∷ times eq i (key ∷ rest) xs) (times eq i (key ∷ rest) xs))
            (lt-ltb 0 (suc (length rest)) (omega arith))
            ∙ ap (λ ts. (i + 0) ∷ ts) later in
            let here : is_in eq key (x ∷ xs) ≡ true = ap (λ b. b || is_in eq key xs) same in
            record {
              found = ap (list_any (is_at (nat_cmp i))) is
                  ∙ ap (λ b. b || list_any (is_at (nat_cmp i)) (times eq (suc i) rest xs)) (now_time i) ∙ sym here;
              left = ap (remove_key (is_at (nat_cmp i))) is
                  ∙ ap (λ b. cond b (times eq (suc i) rest xs)
                  ((i + 0) ∷ remove_key (is_at (nat_cmp i)) (times eq (suc i) rest xs))) (now_time i)
                  ∙ ap (times eq (suc i) rest) (sym (ap (λ b. cond b xs (x ∷ remove_key (eq key) xs)) same));
            }

    abbrev left_times : List K → List ℕ
    left_times xs = remove_key (is_at (nat_cmp i)) (times eq i (key ∷ rest) xs)

    abbrev added : List ℕ → List ℕ
    added ts = with_time (suc i + length rest) (suc i + until eq key rest) ts

    put_times : (xs : List K) → is_in eq key xs ≡ false → Ordered eq rest xs
        → added (times eq (suc i) rest xs) ≡ times eq (suc i) rest (put eq rest key xs)
    put_times xs none o =
        before_end (suc i) (until eq key rest) (length rest) (times eq (suc i) rest xs)
        ∙ sym (times_put (suc i) rest key xs none o)

    pub min_times : (n : ℕ) (xs : List K) → Ordered eq (key ∷ rest) xs
        → Ordered eq rest (min_refer eq (suc n) key rest xs)
        × (added (take n (left_times xs)) ≡ times eq (suc i) rest (min_refer eq (suc n) key rest xs))
    min_times n xs o =
        let others = remove_key (eq key) xs in
        let is = left laws key rest xs o in
        let none = absent_take laws n key others is.absent in
        let ordered = ordered_take laws n rest others is.ordered in (
          ordered_put laws rest key (take n others) none ordered,
          ap (λ ts. added (take n ts)) (due xs o).left ∙ ap added (sym (times_take n (suc i) rest others is.ordered))
              ∙ put_times (take n others) none ordered,
        )

    pub bypass_times : (n : ℕ) (xs : List K) → Ordered eq (key ∷ rest) xs
        → Ordered eq rest (bypass_refer eq n key rest xs)
        × (take n (added (left_times xs)) ≡ times eq (suc i) rest (bypass_refer eq n key rest xs))
    bypass_times n xs o =
        let others = remove_key (eq key) xs in
        let is = left laws key rest xs o in
        let ordered = ordered_put laws rest key others is.absent is.ordered in (
          ordered_take laws n rest (put eq rest key others) ordered,
          ap (λ ts. take n (added ts)) (due xs o).left ∙ ap (take n) (put_times others is.absent is.ordered)
              ∙ sym (times_take n (suc i) rest (put eq rest key others) ordered),
        )

    pub due_found : (xs : List K) → Ordered eq (key ∷ rest) xs
        → list_any (is_at (nat_cmp i)) (times eq i (key ∷ rest) xs) ≡ is_in eq key xs
    due_found xs o = (due xs o).found

  -- The reference at time `now` of a trace that begins at time i.
  pub record Reference (i now : ℕ) (trace : List K) : Type 0 where
    pub key : K
    pub is : drop now trace ≡ key ∷ drop (suc now) trace
    pub end : length trace ≡ suc now + length (drop (suc now) trace)
    pub next : get_or (next_times eq i trace) now 0 ≡ suc i + now + until eq key (drop (suc now) trace)

  reference_at : (i now : ℕ) (trace : List K) → now < length trace → Reference i now trace
  reference_at i now [] h = absurd (omega (arith, h))
  reference_at i zero (key ∷ trace) h = record { key = key; is = refl; end = omega arith; next = omega arith }
  reference_at i (suc now) (other ∷ trace) h =
      let later = reference_at (suc i) now trace (omega (arith, h)) in
      record { key = later.key; is = later.is; end = omega (arith, later.end); next = omega (arith, later.next) }

module _ {K : Type 0} (eq : K → K → Bool) (refer : K → List K → List K → List K) (trace : List K) where
  -- A policy missed `missed` times before time `now`. Its keys that are referenced again are referenced next at the
  -- times `ts`.
  pub record Missed (now missed : ℕ) (ts : List ℕ) : Type 0 where
    pub keys : List K
    pub ordered : Ordered eq (drop now trace) keys
    pub times_are : ts ≡ times eq now (drop now trace) keys
    pub count : missed + faults_ahead eq refer keys (drop now trace) ≡ faults_ahead eq refer [] trace

  pub nothing_missed : Missed 0 0 []
  nothing_missed = record { keys = []; ordered = tt; times_are = refl; count = omega arith }

  pub all_missed : (now missed : ℕ) (ts : List ℕ) → length trace ≤ now → Missed now missed ts
      → missed ≡ faults_ahead eq refer [] trace
  all_missed now missed ts h so_far =
      let none = ap (faults_ahead eq refer so_far.keys) (drop_of_length-le trace {i = now} h) in
      omega (arith, so_far.count, none)

pub at_most_one : (b : Bool) → from_bool b ≤ 1
at_most_one true = omega arith
at_most_one false = omega arith

bit : (b : Bool) → from_bool (not b) ≡ cond b 0 1
bit true = refl
bit false = refl

-- The trace ends at time `end`. The next reference to the key of a reference is at time `next`, or `next` is `end`. If
-- `ts` are the times before the reference without its own time, the times after it are `after end next ts`.
module _ {K : Type 0} {eq : K → K → Bool} (laws : IsEquivalence eq) (refer : K → List K → List K → List K)
    (after : ℕ → ℕ → List ℕ → List ℕ)
    (step : (i : ℕ) (key : K) (rest xs : List K) → Ordered eq (key ∷ rest) xs → Ordered eq rest (refer key rest xs)
    × (after (suc i + length rest) (suc i + until eq key rest)
    (remove_key (is_at (nat_cmp i)) (times eq i (key ∷ rest) xs)) ≡ times eq (suc i) rest (refer key rest xs))) where
  pub refers : (trace : List K) (now missed : ℕ) (ts : List ℕ) → now < length trace → Missed eq refer trace now missed ts
      → Missed eq refer trace (suc now) (missed + from_bool (not (list_any (is_at (nat_cmp now)) ts)))
      (after (length trace) (get_or (next_times eq 0 trace) now 0) (remove_key (is_at (nat_cmp now)) ts))
  refers trace now missed ts h so_far =
      let at = reference_at laws 0 now trace h in
      let rest = drop (suc now) trace in
      let keys = so_far.keys in
      let ordered = subst (λ l. Ordered eq l keys) at.is so_far.ordered in
      let are : ts ≡ times eq now (at.key ∷ rest) keys = so_far.times_are ∙ ap (λ l. times eq now l keys) at.is in
      let after_it = step now at.key rest keys ordered in
      let next : get_or (next_times eq 0 trace) now 0 ≡ suc now + until eq at.key rest = omega (arith, at.next) in
      let now_missed = ap (λ l. from_bool (not (list_any (is_at (nat_cmp now)) l))) are
      ∙ ap (λ b. from_bool (not b)) (due_found laws now at.key rest keys ordered) ∙ bit (is_in eq at.key keys) in
      record {
        keys = refer at.key rest keys;
        ordered = after_it.0;
        times_are = (λ j. after (at.end j) (next j) (remove_key (is_at (nat_cmp now)) (are j))) ∙ after_it.1;
        count = omega (arith, so_far.count, ap (faults_ahead eq refer keys) at.is, now_missed);
      }
