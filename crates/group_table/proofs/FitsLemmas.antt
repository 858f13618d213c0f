-- Which hashes fit a table after a change.
use Rattle.std.proofs.Common.{◌≡◌, ◌≢◌, ℕ, ◌+◌, ◌*◌, ◌/◌, ◌%◌, ◌<◌, true, List, length, set, refl, ap, sym, ◌∙◌, inl}
use Rattle.std.proofs.Common.{inr, arith, eq-eqb, length-set}
use Rattle.std.proofs.lemmas.Bool.{cases_eq, ne_eqb}
use Rattle.group_table.specs.Bucket.{Bucket, Slot, BucketState, Tagged, empty, deleted, full, bucket_at, is_full, IsFull}
use Rattle.group_table.specs.Bucket.{IsEmpty, bucket_state, bucket_states}
use Rattle.group_table.specs.Probe.{hash_tag, probed, state_probed, Reaches, IsFirstFree}
use Rattle.group_table.specs.Neighbours.{HasEmptyNeighbours}
use Rattle.group_table.specs.Fits.{Fits, with_hash}
use Rattle.group_table.specs.Change.{Removes}
use Rattle.group_table.proofs.BucketLemmas.{bucket_at-set_same, bucket_at-set_other, empty_not_full, empty_not_deleted}
use Rattle.group_table.proofs.BucketLemmas.{full_not_deleted, length-bucket_states, bucket_states-set}
use Rattle.group_table.proofs.ProbeLemmas.{probed-lane}

pub with_hash-there : (hash_of : ℕ → ℕ) (b hash k : ℕ) → k ≡ b → with_hash hash_of b hash k ≡ hash
with_hash-there hash_of b hash k e = rw (eq-eqb k b e)

pub with_hash-elsewhere : (hash_of : ℕ → ℕ) (b hash k : ℕ) → k ≢ b → with_hash hash_of b hash k ≡ hash_of k
with_hash-elsewhere hash_of b hash k p = rw (ne_eqb k b p)

pub one_held : {A : Type 0} (s : Bucket A) (x y : A) → s ≡ full x → s ≡ full y → x ≡ y
one_held s x y p q = cc

module _ (states : List BucketState) (b : ℕ) (m : BucketState) (within : b < length states) (stays : m ≢ empty) where
  goes_past : (hash t : ℕ) → state_probed states hash t ≢ empty → state_probed (set states b m) hash t ≢ empty
  goes_past hash t goes e =
      let at = probed (length states) hash t in
      let e' : bucket_at (set states b m) at ≡ empty = rw length-set at e in
      elim (cases_eq at b) [
        | inl h ↦ stays (sym (bucket_at-set_same states b at m h within) ∙ e')
        | inr h ↦ goes (sym (bucket_at-set_other states b at m h) ∙ e')
      ]

  pub Reaches-set : (hash k : ℕ) → Reaches states hash k → Reaches (set states b m) hash k
  Reaches-set hash k r = record {
    step = r.step;
    there = rw length-set r.there;
    goes_on = λ before p. goes_past hash before (r.goes_on before p);
  }

module _ (states : List BucketState) (b : ℕ) (near : HasEmptyNeighbours (IsEmpty states) (length states) b) where
  goes_on_past : (hash step : ℕ) → ((before : ℕ) → before / 16 < step / 16 → state_probed states hash before ≢ empty)
      → (before : ℕ) → before / 16 < step / 16
      → state_probed (set states b empty) hash before ≢ empty
  goes_on_past hash step goes before p e =
      let n = length states in
      let at = probed n hash before in
      let s = 16 * (before / 16) in
      let is : s + before % 16 ≡ before = omega arith in
      let e' : bucket_at (set states b empty) at ≡ empty = rw length-set at e in
      elim (cases_eq at b) [
        | inr h ↦ goes before p (sym (bucket_at-set_other states b at empty h) ∙ e')
        | inl h ↦
            let there : (probed n hash s + before % 16) % n ≡ b =
            sym (probed-lane n hash s (before % 16) (omega arith) (omega arith)) ∙ ap (probed n hash) is ∙ h in
            let w = near (probed n hash s) (before % 16) (omega arith) there in
            goes (s + w.0) (omega (arith, w.1)) (rw (probed-lane n hash s w.0 (omega arith) w.1) w.2)
      ]

  pub Reaches-emptied : (hash k : ℕ) → Reaches states hash k → Reaches (set states b empty) hash k
  Reaches-emptied hash k r = record {
    step = r.step;
    there = rw length-set r.there;
    goes_on = goes_on_past hash r.step r.goes_on;
  }

pub Reaches-first : (states : List BucketState) (hash b : ℕ) → IsFirstFree states hash b → Reaches states hash b
Reaches-first states hash b first = record {
  step = first.step;
  there = first.there;
  goes_on = λ before p e. empty_not_full _ e (first.full_before before (omega arith));
}

module _ {T : Type 0} where
  pub Fits-reached : (slots : List (Slot T)) (hash_of : ℕ → ℕ) (hash b : ℕ) (entry : T) → b < length slots
      → Reaches (bucket_states slots) hash b → Fits slots hash_of
      → Fits (set slots b (full (record { tag = hash_tag hash; entry = entry }))) (with_hash hash_of b hash)
  Fits-reached slots hash_of hash b entry p reached fits =
      let now : Slot T = full (record { tag = hash_tag hash; entry = entry }) in
      let stays : bucket_state now ≢ empty = λ e. empty_not_full {A = Unit {0}} (full tt) e refl in
      let in_states : b < length (bucket_states slots) = rw length-bucket_states p in
      record {
        tags = λ k held e. elim (cases_eq k b) [
          | inl h ↦ rw (with_hash-there hash_of b hash k h)
              (sym (ap (λ x. x.tag)
              (one_held now (record { tag = hash_tag hash; entry = entry }) held refl
              (sym (bucket_at-set_same slots b k now h p) ∙ e))))
          | inr h ↦ rw (with_hash-elsewhere hash_of b hash k h)
              (fits.tags k held (sym (bucket_at-set_other slots b k now h) ∙ e))
        ];
        reached = λ k there. elim (cases_eq k b) [
          | inl h ↦ rw (bucket_states-set slots b now, with_hash-there hash_of b hash k h, h)
              (Reaches-set (bucket_states slots) b (bucket_state now) in_states stays hash b reached)
          | inr h ↦ rw (bucket_states-set slots b now, with_hash-elsewhere hash_of b hash k h)
              (Reaches-set (bucket_states slots) b (bucket_state now) in_states stays _ k
              (fits.reached k (sym (ap is_full (bucket_at-set_other slots b k now h)) ∙ there)))
        ];
      }

  pub Fits-placed : (slots : List (Slot T)) (hash_of : ℕ → ℕ) (hash b : ℕ) (entry : T) → b < length slots
      → IsFirstFree (bucket_states slots) hash b → Fits slots hash_of
      → Fits (set slots b (full (record { tag = hash_tag hash; entry = entry }))) (with_hash hash_of b hash)
  Fits-placed slots hash_of hash b entry p first fits =
      Fits-reached slots hash_of hash b entry p (Reaches-first (bucket_states slots) hash b first) fits

  pub Fits-agree : (slots : List (Slot T)) (f g : ℕ → ℕ) → ((b : ℕ) → IsFull slots b → f b ≡ g b) → Fits slots f
      → Fits slots g
  Fits-agree slots f g agree fits = record {
    tags = λ b held e. rw (← agree b (ap is_full e)) (fits.tags b held e);
    reached = λ b there. rw (← agree b there) (fits.reached b there);
  }

  module _ (slots : List (Slot T)) (hash_of : ℕ → ℕ) (b : ℕ) (s : Slot T) (p : b < length slots)
      (not_full : is_full s ≡ true → ⊥)
      (reaches : (hash k : ℕ) → Reaches (bucket_states slots) hash k → Reaches (set (bucket_states slots) b (bucket_state s)) hash k)
      (fits : Fits slots hash_of) where
    was_full : (k : ℕ) → IsFull (set slots b s) k → k ≢ b
    was_full k there h = not_full (sym (ap is_full (bucket_at-set_same slots b k s h p)) ∙ there)

    Fits-emptied : Fits (set slots b s) hash_of
    Fits-emptied = record {
      tags = λ k held e. fits.tags k held (sym (bucket_at-set_other slots b k s (was_full k (ap is_full e))) ∙ e);
      reached = λ k there. rw (bucket_states-set slots b s)
          (reaches (hash_of k) k
          (fits.reached k (sym (ap is_full (bucket_at-set_other slots b k s (was_full k there))) ∙ there)));
    }

  pub Fits-removed : (old new : List (Slot T)) (hash_of : ℕ → ℕ) (b : ℕ) → b < length old → Removes old new b
      → Fits old hash_of → Fits new hash_of
  Fits-removed old new hash_of b p (inl w) fits =
      rw w.1 (Fits-emptied old hash_of b empty p (λ e. empty_not_full {A = Tagged T} empty refl e)
      (Reaches-emptied (bucket_states old) b w.0) fits)
  Fits-removed old new hash_of b p (inr w) fits =
      rw w.1 (Fits-emptied old hash_of b deleted p (λ e. full_not_deleted {A = Tagged T} deleted e refl)
      (Reaches-set (bucket_states old) b deleted (rw length-bucket_states p)
      (λ e. empty_not_deleted {A = Unit {0}} deleted e refl)) fits)

  pub Fits-none : (slots : List (Slot T)) (hash_of : ℕ → ℕ) → ((b : ℕ) → bucket_at slots b ≡ empty) → Fits slots hash_of
  Fits-none slots hash_of none = record {
    tags = λ b held e. absurd (empty_not_full _ (none b) (ap is_full e));
    reached = λ b there. absurd (empty_not_full _ (none b) there);
  }
