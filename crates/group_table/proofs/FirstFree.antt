use Rattle.std.proofs.Common.{◌≡◌, ℕ, zero, suc, ◌<◌, Bool, true, false, List, [], ◌∷◌, length, refl, ap, sym, ◌∙◌}
use Rattle.std.proofs.Common.{subst, arith, ◌⊎◌, inl, inr}
use Rattle.std.proofs.lemmas.Bool.{false≢true}
use native.Mathlib.Decide.{dec_lt}
use Rattle.group_table.specs.Sizes.{IsPowerFromFour}
use Rattle.group_table.specs.Bucket.{Bucket, BucketState, bucket_at, is_full, IsFull, bucket_states}
use Rattle.group_table.specs.Probe.{probed, IsFirstFree}
use Rattle.group_table.specs.Change.{MayFill}
use Rattle.group_table.proofs.ProbeLemmas.{probed-lt, probed-meets}
use Rattle.group_table.proofs.BucketLemmas.{empty_not_deleted, length-bucket_states, room_is}
use Rattle.group_table.proofs.SizeLemmas.{full_capacity-small}

module _ (states : List BucketState) (hash : ℕ) where
  not_before : (b c : ℕ) → (p : IsFirstFree states hash b) → (q : IsFirstFree states hash c) → p.step < q.step → ⊥
  not_before b c p q l =
      false≢true (sym p.free_there ∙ subst (λ x. is_full (bucket_at states x) ≡ true) p.there (q.full_before p.step l))

  pub IsFirstFree-unique : (b c : ℕ) → IsFirstFree states hash b → IsFirstFree states hash c → b ≡ c
  IsFirstFree-unique b c p q =
      elim (dec_lt p.step q.step) [
        | yes l ↦ absurd (not_before b c p q l)
        | no l ↦ elim (dec_lt q.step p.step) [
          | yes r ↦ absurd (not_before c b q p r)
          | no r ↦ let e : p.step ≡ q.step = omega arith in
              sym p.there ∙ ap (λ s. probed (length states) hash s) e ∙ q.there
        ]
      ]

  pub first_free_within : (b : ℕ) → IsFirstFree states hash b → 0 < length states → b < length states
  first_free_within b first some =
      subst (λ k. k < length states) first.there (probed-lt (length states) hash first.step some)

  scan : (steps : ℕ) → ((s : ℕ) → s < steps → IsFull states (probed (length states) hash s))
      ⊎ ((b : ℕ) × IsFirstFree states hash b)
  scan zero = inl (λ s p. absurd (omega arith))
  scan (suc steps) = elim (scan steps) [
    | inr w ↦ inr w
    | inl h ↦ next h (is_full (bucket_at states (probed (length states) hash steps))) refl
  ]
    where
      next : ((s : ℕ) → s < steps → IsFull states (probed (length states) hash s)) → (t : Bool)
          → is_full (bucket_at states (probed (length states) hash steps)) ≡ t
          → ((s : ℕ) → s < suc steps → IsFull states (probed (length states) hash s))
          ⊎ ((b : ℕ) × IsFirstFree states hash b)
      next h true e = inl
          (λ s p. elim (dec_lt s steps) [
            | yes q ↦ h s q
            | no q ↦ let f : steps ≡ s = omega arith in subst
                (λ k. IsFull states (probed (length states) hash k)) f e
          ])
      next h false e = inr
          (probed (length states) hash steps, record { step = steps; there = refl; free_there = e; full_before = h })

  pub first_free_there : IsPowerFromFour (length states) → (b : ℕ) → b < length states
      → is_full (bucket_at states b) ≡ false → (c : ℕ) × IsFirstFree states hash c
  first_free_there power b p free =
      elim (scan (length states)) [
        | inr w ↦ w
        | inl h ↦ let met = probed-meets (length states) hash b power p in
            absurd (false≢true (sym free ∙ subst (λ x. is_full (bucket_at states x) ≡ true) met.2 (h met.0 met.1)))
      ]

some_bucket : (states : List BucketState) (b : ℕ) → MayFill states b → 0 < length states
some_bucket [] b (inl p) = absurd (omega (arith, p, room_is [], full_capacity-small 0 (omega arith)))
some_bucket [] b (inr e) = absurd (empty_not_deleted (bucket_at [] b) refl e)
some_bucket (m ∷ states) b may = omega arith

pub fills_within : {A : Type 0} (buckets : List (Bucket A)) (hash b : ℕ) → IsFirstFree (bucket_states buckets) hash b
    → MayFill (bucket_states buckets) b → b < length buckets
fills_within buckets hash b first may =
    omega (
      arith,
      first_free_within (bucket_states buckets) hash b first
          (some_bucket (bucket_states buckets) b may),
      length-bucket_states buckets,
    )
