-- The entry of a full bucket is written, and its tag stays.
use Rattle.std.proofs.Common.{◌≡◌, ◌≢◌, ℕ, ◌<◌, true, cond, List, length, get_or, set, Option, Some, subst}
use Rattle.std.proofs.Common.{refl, ap, sym, ◌∙◌, arith, inl, inr}
use Rattle.std.proofs.lemmas.Bool.{cases_eq}
use Rattle.std.proofs.Math.Seq.{map-set_same}
use Rattle.group_table.specs.Bucket.{Slot, empty, deleted, full, bucket_at, is_used, is_full, refilled, IsFull}
use Rattle.group_table.specs.Bucket.{entry_of, entry_at, entry_count, bucket_state, bucket_states}
use Rattle.group_table.specs.Fits.{Fits}
use Rattle.group_table.specs.Layout.{slot_of, slots_of, IsValid, written}
use Rattle.group_table.proofs.BucketLemmas.{used_from_full, bucket_at-set_same, bucket_at-set_other, full_not_deleted}
use Rattle.group_table.proofs.BucketLemmas.{full_lt}
use Rattle.group_table.proofs.LayoutLemmas.{bucket_at-laid_out, full_within, full_entry, full_byte}
use Rattle.group_table.proofs.SearchLemmas.{held_by}
use Rattle.group_table.proofs.FitsLemmas.{one_held}
use Rattle.group_table.proofs.WriteLemmas.{written-same, slots_of-written, IsValid-written, entry_count-written}

module _ {T : Type 0} (control : List ℕ) (entries : List (Option T)) (growth_left : ℕ) (valid : IsValid control entries growth_left)
    (b : ℕ) (there : IsFull (slots_of control entries) b) (w : T) where
  within : b < length entries
  within = full_within control entries valid.laid_out b there

  byte_below : get_or control b 0 < 128
  byte_below = full_byte control entries valid.laid_out b there

  same_bytes : written control entries b (get_or control b 0) ≡ control
  same_bytes = written-same control entries valid.laid_out b within

  pub slots_of-refilled : slots_of control (set entries b (Some w))
      ≡ set (slots_of control entries) b (refilled (bucket_at (slots_of control entries) b) w)
  slots_of-refilled =
      let e = full_entry control entries valid.laid_out b there in
      let was = bucket_at-laid_out control entries valid.laid_out b within
      ∙ ap (λ o. slot_of (get_or control b 0) o) e.1 in
      ap (λ all. slots_of all (set entries b (Some w))) (sym same_bytes)
      ∙ slots_of-written control entries b (get_or control b 0) (Some w)
      ∙ ap (λ s. set (slots_of control entries) b (refilled s w)) (sym was)

  pub IsValid-refilled : IsValid control (set entries b (Some w)) growth_left
  IsValid-refilled =
      let one : ◌≡◌ {A = ℕ} (cond (is_used (bucket_at (slots_of control entries) b)) 1 0) 1 =
      ap (λ t. cond {A = ℕ} t 1 0) (used_from_full _ there) in
      subst (λ all. IsValid all (set entries b (Some w)) growth_left) same_bytes
      (IsValid-written control entries growth_left valid b (get_or control b 0) (Some w) within byte_below growth_left
      (omega (arith, one))
      (λ small e. full_not_deleted (slot_of (get_or control b 0) (Some w)) refl e))

  pub entry_count-refilled : entry_count (slots_of control (set entries b (Some w)))
      ≡ entry_count (slots_of control entries)
  entry_count-refilled =
      let one : ◌≡◌ {A = ℕ} (cond (is_full (bucket_at (slots_of control entries) b)) 1 0) 1 =
      ap (λ t. cond {A = ℕ} t 1 0) there in
      let count = entry_count-written control entries growth_left valid b (get_or control b 0) (Some w) within byte_below in
      ap (λ all. entry_count (slots_of all (set entries b (Some w)))) (sym same_bytes) ∙ omega (arith, one, count)

pub entry_of-refilled : {T : Type 0} (s : Slot T) (w : T) → is_full s ≡ true → entry_of (refilled s w) ≡ Some w
entry_of-refilled s w there = let held = held_by s there in ap (λ t. entry_of (refilled t w)) held.1

module _ {T : Type 0} (slots : List (Slot T)) (b : ℕ) (w : T) where
  pub entry_at-refilled : IsFull slots b → entry_at (set slots b (refilled (bucket_at slots b) w)) b ≡ Some w
  entry_at-refilled there =
      ap entry_of (bucket_at-set_same slots b b _ refl (full_lt slots b there))
      ∙ entry_of-refilled (bucket_at slots b) w there

  pub entry_at-refilled_other : (k : ℕ) → k ≢ b
      → entry_at (set slots b (refilled (bucket_at slots b) w)) k ≡ entry_at slots k
  entry_at-refilled_other k other = ap entry_of (bucket_at-set_other slots b k _ other)

pub bucket_states-refilled : {T : Type 0} (slots : List (Slot T)) (b : ℕ) (w : T)
    → bucket_states (set slots b (refilled (bucket_at slots b) w)) ≡ bucket_states slots
bucket_states-refilled {T} slots b w =
    map-set_same bucket_state slots b (refilled (bucket_at slots b) w) empty (same (bucket_at slots b))
  where
    same : (s : Slot T) → bucket_state (refilled s w) ≡ bucket_state s
    same empty = refl
    same deleted = refl
    same (full held) = refl

pub Fits-refilled : {T : Type 0} (slots : List (Slot T)) (b : ℕ) (w : T) (hash_of : ℕ → ℕ) → IsFull slots b
    → Fits slots hash_of → Fits (set slots b (refilled (bucket_at slots b) w)) hash_of
Fits-refilled {T} slots b w hash_of there fits =
    let was = held_by (bucket_at slots b) there in
    let now : Slot T = full (record was.0 { entry = w }) in
    let is : refilled (bucket_at slots b) w ≡ now = ap (λ s. refilled s w) was.1 in
    let p = full_lt slots b there in
    rw is record {
      tags = λ k held e. elim (cases_eq k b) [
        | inl h ↦ rw h (sym
            (ap (λ x. x.tag)
            (one_held now (record was.0 { entry = w }) held refl (sym (bucket_at-set_same slots b k now h p) ∙ e)))
            ∙ fits.tags b was.0 was.1)
        | inr h ↦ fits.tags k held (sym (bucket_at-set_other slots b k now h) ∙ e)
      ];
      reached = λ k full_there.
          let old : IsFull slots k = elim (cases_eq k b) [
            | inl h ↦ rw h there
            | inr h ↦ sym (ap is_full (bucket_at-set_other slots b k now h)) ∙ full_there
          ] in
          rw (← is, bucket_states-refilled slots b w) (fits.reached k old);
    }
