use Rattle.std.proofs.Common.{◌≡◌, ◌≢◌, ℕ, suc, ◌+◌, ◌-◌, ◌<◌, ◌≤◌, Bool, true, cond, List, [], ◌∷◌, length, set, refl}
use Rattle.std.proofs.Common.{ap, sym, ◌∙◌, arith, count_by, get_or-set_same, get_or-set_other}
use Rattle.std.proofs.lemmas.Bool.{false≢true}
use Rattle.std.proofs.lemmas.List.{get_or_past, map-set, length-map}
use Rattle.std.proofs.lemmas.List.Sums.{sum_by-cons, sum_by-set, get_or-le-sum_by}
use Rattle.std.proofs.Math.ListN.{get_or-map}
use native.Mathlib.Decide.{dec_lt}
use Rattle.group_table.specs.Sizes.{full_capacity}
use Rattle.group_table.specs.Bucket.{Bucket, BucketState, empty, deleted, full, is_full, is_deleted, is_used, bucket_at}
use Rattle.group_table.specs.Bucket.{IsFull, entry_count, bucket_state, bucket_states, growth_left}

module _ {A : Type 0} where
  pub empty_not_full : (s : Bucket A) → s ≡ empty → is_full s ≡ true → ⊥
  empty_not_full s e h = false≢true (sym (ap is_full e) ∙ h)

  pub empty_not_deleted : (s : Bucket A) → s ≡ empty → s ≡ deleted → ⊥
  empty_not_deleted s p q = cc

  pub full_not_deleted : (s : Bucket A) → is_full s ≡ true → s ≡ deleted → ⊥
  full_not_deleted s h e = false≢true (sym (ap is_full e) ∙ h)

module _ {A : Type 0} where
  pub bucket_state-full : (s : Bucket A) → is_full (bucket_state s) ≡ is_full s
  bucket_state-full empty = refl
  bucket_state-full deleted = refl
  bucket_state-full (full held) = refl

  pub bucket_state-used : (s : Bucket A) → is_used (bucket_state s) ≡ is_used s
  bucket_state-used empty = refl
  bucket_state-used deleted = refl
  bucket_state-used (full held) = refl

  pub bucket_state-deleted : (s : Bucket A) → is_deleted (bucket_state s) ≡ is_deleted s
  bucket_state-deleted empty = refl
  bucket_state-deleted deleted = refl
  bucket_state-deleted (full held) = refl

  state_empty : (s : Bucket A) → bucket_state s ≡ empty → s ≡ empty
  state_empty empty e = refl
  state_empty deleted e = absurd (empty_not_deleted {A = Unit {0}} deleted e refl)
  state_empty (full held) e = absurd (empty_not_full {A = Unit {0}} (full tt) e refl)

  pub used_from_full : (s : Bucket A) → is_full s ≡ true → is_used s ≡ true
  used_from_full empty e = e
  used_from_full deleted e = refl
  used_from_full (full held) e = refl

  pub bucket_at-past : (buckets : List (Bucket A)) (b : ℕ) → length buckets ≤ b → bucket_at buckets b ≡ empty
  bucket_at-past buckets b p = get_or_past buckets b empty p

  pub full_lt : (buckets : List (Bucket A)) (b : ℕ) → IsFull buckets b → b < length buckets
  full_lt buckets b there = elim (dec_lt b (length buckets)) [
    | yes p ↦ p
    | no p ↦ absurd (empty_not_full _ (bucket_at-past buckets b (omega arith)) there)
  ]

  pub length-bucket_states : (buckets : List (Bucket A)) → length (bucket_states buckets) ≡ length buckets
  length-bucket_states buckets = length-map buckets bucket_state

  pub bucket_at-bucket_states : (buckets : List (Bucket A)) (b : ℕ)
      → bucket_at (bucket_states buckets) b ≡ bucket_state (bucket_at buckets b)
  bucket_at-bucket_states buckets b = get_or-map bucket_state buckets b empty

  pub bucket_states-set : (buckets : List (Bucket A)) (b : ℕ) (s : Bucket A)
      → bucket_states (set buckets b s) ≡ set (bucket_states buckets) b (bucket_state s)
  bucket_states-set buckets b s = map-set bucket_state buckets b s

  pub empty_state : (buckets : List (Bucket A)) (b : ℕ) → bucket_at (bucket_states buckets) b ≡ empty
      → bucket_at buckets b ≡ empty
  empty_state buckets b e = state_empty _ (sym (bucket_at-bucket_states buckets b) ∙ e)

  pub is_full-bucket_states : (buckets : List (Bucket A)) (b : ℕ)
      → is_full (bucket_at (bucket_states buckets) b) ≡ is_full (bucket_at buckets b)
  is_full-bucket_states buckets b = ap is_full (bucket_at-bucket_states buckets b) ∙ bucket_state-full (bucket_at buckets b)

  pub count_by-cons : (p : Bucket A → Bool) (s : Bucket A) (rest : List (Bucket A))
      → count_by p (s ∷ rest) ≡ cond (p s) 1 0 + count_by p rest
  count_by-cons p s rest = sum_by-cons (λ x. cond (p x) 1 0) s rest

  pub bucket_at-set_same : (buckets : List (Bucket A)) (b k : ℕ) (s : Bucket A) → k ≡ b → b < length buckets
      → bucket_at (set buckets b s) k ≡ s
  bucket_at-set_same buckets b k s e within = rw e (get_or-set_same buckets b s empty within)

  pub bucket_at-set_other : (buckets : List (Bucket A)) (b k : ℕ) (s : Bucket A) → k ≢ b
      → bucket_at (set buckets b s) k ≡ bucket_at buckets k
  bucket_at-set_other buckets b k s p = get_or-set_other buckets b k s empty p

  pub count_by-set : (p : Bucket A → Bool) (buckets : List (Bucket A)) (b : ℕ) (s : Bucket A) → b < length buckets
      → count_by p (set buckets b s) + cond (p (bucket_at buckets b)) 1 0 ≡ count_by p buckets + cond (p s) 1 0
  count_by-set p buckets b s within = sum_by-set (λ x. cond (p x) 1 0) buckets b s empty within

  pub count_by-pos : (p : Bucket A → Bool) (buckets : List (Bucket A)) (b : ℕ) → b < length buckets
      → p (bucket_at buckets b) ≡ true → 0 < count_by p buckets
  count_by-pos p buckets b within e =
      let least = get_or-le-sum_by (λ x. cond (p x) 1 0) buckets b empty within in
      let one : ◌≡◌ {A = ℕ} (cond (p (bucket_at buckets b)) 1 0) 1 = ap (λ t. cond {A = ℕ} t 1 0) e in
      omega (arith, least, one)

module _ {A : Type 0} (p : Bucket A → Bool) (q : BucketState → Bool) (same : (s : Bucket A) → q (bucket_state s) ≡ p s) where
  count_by-bucket_states : (buckets : List (Bucket A)) → count_by q (bucket_states buckets) ≡ count_by p buckets
  count_by-bucket_states [] = refl
  count_by-bucket_states (s ∷ rest) =
      count_by-cons q (bucket_state s) (bucket_states rest) ∙ ap (λ t. cond {A = ℕ} t 1 0 + count_by q (bucket_states rest)) (same s)
      ∙ ap (λ n. cond {A = ℕ} (p s) 1 0 + n) (count_by-bucket_states rest) ∙ sym (count_by-cons p s rest)

module _ {A : Type 0} where
  pub entry_count-bucket_states : (buckets : List (Bucket A)) → entry_count (bucket_states buckets) ≡ entry_count buckets
  entry_count-bucket_states buckets = count_by-bucket_states is_full is_full bucket_state-full buckets

  pub used_count-bucket_states : (buckets : List (Bucket A)) → count_by is_used (bucket_states buckets) ≡ count_by is_used buckets
  used_count-bucket_states buckets = count_by-bucket_states is_used is_used bucket_state-used buckets

  pub deleted_count-bucket_states : (buckets : List (Bucket A))
      → count_by is_deleted (bucket_states buckets) ≡ count_by is_deleted buckets
  deleted_count-bucket_states buckets = count_by-bucket_states is_deleted is_deleted bucket_state-deleted buckets

  pub used_count-split : (buckets : List (Bucket A))
      → count_by is_used buckets ≡ entry_count buckets + count_by is_deleted buckets
  used_count-split [] = refl
  used_count-split (empty ∷ rest) =
      omega (
        arith,
        used_count-split rest,
        count_by-cons is_used empty rest,
        count_by-cons is_full empty rest,
        count_by-cons is_deleted empty rest,
      )
  used_count-split (deleted ∷ rest) =
      omega (
        arith,
        used_count-split rest,
        count_by-cons is_used deleted rest,
        count_by-cons is_full deleted rest,
        count_by-cons is_deleted deleted rest,
      )
  used_count-split (full held ∷ rest) =
      omega (
        arith,
        used_count-split rest,
        count_by-cons is_used (full held) rest,
        count_by-cons is_full
            (full held) rest,
        count_by-cons is_deleted (full held) rest,
      )

  pub deleted_count-none : (buckets : List (Bucket A)) → ((b : ℕ) → bucket_at buckets b ≢ deleted)
      → count_by is_deleted buckets ≡ 0
  deleted_count-none [] none = refl
  deleted_count-none (empty ∷ rest) none =
      omega (arith, deleted_count-none rest (λ b. none (suc b)), count_by-cons is_deleted empty rest)
  deleted_count-none (deleted ∷ rest) none = absurd (none 0 refl)
  deleted_count-none (full held ∷ rest) none =
      omega (arith, deleted_count-none rest (λ b. none (suc b)), count_by-cons is_deleted (full held) rest)

  pub some_empty : (buckets : List (Bucket A)) → count_by is_used buckets < length buckets → (b : ℕ)
      × (b < length buckets) × (bucket_at buckets b ≡ empty)
  some_empty [] p = absurd (omega arith)
  some_empty (empty ∷ rest) p = (0, omega arith, refl)
  some_empty (deleted ∷ rest) p = let w = some_empty rest (omega (arith, count_by-cons is_used deleted rest)) in
      (suc w.0, omega (arith, w.1), w.2)
  some_empty (full held ∷ rest) p = let w = some_empty rest (omega (arith, count_by-cons is_used (full held) rest)) in
      (suc w.0, omega (arith, w.1), w.2)

pub room_is : (states : List BucketState) → growth_left states ≡ full_capacity (length states) - count_by is_used states
unfolding growth_left
room_is states = refl
