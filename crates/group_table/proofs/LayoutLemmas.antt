use Rattle.std.proofs.Common.{◌≡◌, ℕ, zero, suc, ◌<◌, ◌≤◌, List, [], ◌∷◌, length, get_or, set, Option, Some, None, refl}
use Rattle.std.proofs.Common.{ap, arith, inl, inr, nat_lt, nat_eq, cond, sym, ◌∙◌, Bool, true, false, IsSome}
use Rattle.std.proofs.lemmas.Bool.{lt-ltb, false≢true}
use Rattle.group_table.specs.Bucket.{Tagged, empty, deleted, full, bucket_at, is_full, IsFull, entry_of, entry_at}
use Rattle.group_table.specs.Bucket.{bucket_state}
use Rattle.group_table.specs.Control.{buckets_of}
use Rattle.group_table.specs.Sizes.{IsPowerFromFour}
use Rattle.group_table.specs.Layout.{slot_of, slots_of, states_by, IsLaidOut, Agrees}
use Rattle.group_table.proofs.BucketLemmas.{empty_not_deleted, full_lt, bucket_at-bucket_states, length-bucket_states, empty_state}
use Rattle.group_table.proofs.BucketLemmas.{is_full-bucket_states}

module _ {T : Type 0} where
  length-slots_of : (bytes : List ℕ) (entries : List (Option T)) → length entries ≤ length bytes
      → length (slots_of bytes entries) ≡ length entries
  length-slots_of bytes [] p = refl
  length-slots_of [] (e ∷ entries) p = absurd (omega arith)
  length-slots_of (b ∷ bytes) (e ∷ entries) p = ap suc (length-slots_of bytes entries (omega arith))

  bucket_at-slots_of : (bytes : List ℕ) (entries : List (Option T)) (b : ℕ) → length entries ≤ length bytes
      → b < length entries
      → bucket_at (slots_of bytes entries) b ≡ slot_of (get_or bytes b 0) (get_or entries b None)
  bucket_at-slots_of bytes [] b p q = absurd (omega arith)
  bucket_at-slots_of [] (e ∷ entries) b p q = absurd (omega arith)
  bucket_at-slots_of (x ∷ bytes) (e ∷ entries) zero p q = refl
  bucket_at-slots_of (x ∷ bytes) (e ∷ entries) (suc b) p q =
      bucket_at-slots_of bytes entries b (omega arith) (omega arith)

  pub slots_of-set : (bytes : List ℕ) (entries : List (Option T)) (b byte : ℕ) (e : Option T)
      → slots_of (set bytes b byte) (set entries b e) ≡ set (slots_of bytes entries) b (slot_of byte e)
  slots_of-set bytes [] b byte e = refl
  slots_of-set [] (x ∷ entries) zero byte e = refl
  slots_of-set [] (x ∷ entries) (suc b) byte e = refl
  slots_of-set (y ∷ bytes) (x ∷ entries) zero byte e = refl
  slots_of-set (y ∷ bytes) (x ∷ entries) (suc b) byte e =
      ap (λ s. slot_of y x ∷ s) (slots_of-set bytes entries b byte e)

  pub some_by : (byte : ℕ) (place : Option T) → Agrees byte place → byte < 128 → IsSome place
  some_by byte (Some entry) a below = refl
  some_by byte None (inl e) below = absurd (omega arith)
  some_by byte None (inr e) below = absurd (omega arith)

  pub buckets_of-laid_out : (control : List ℕ) (entries : List (Option T)) → IsLaidOut control entries
      → buckets_of control ≡ length entries
  buckets_of-laid_out control entries laid_out = elim laid_out.counts [
    | inl none ↦ omega (arith, none.0, none.1)
    | inr some ↦ omega (arith, some.1)
  ]

  pub none_by : (byte : ℕ) (place : Option T) → Agrees byte place → 128 ≤ byte → place ≡ None
  none_by byte (Some entry) a from = absurd (omega arith)
  none_by byte None a from = refl

  is_full-slot_of : (byte : ℕ) (e : Option T) → Agrees byte e → is_full (slot_of byte e) ≡ nat_lt byte 128
  is_full-slot_of byte (Some entry) p = sym (lt-ltb byte 128 p)
  is_full-slot_of byte None (inl e) = rw e
  is_full-slot_of byte None (inr e) = rw e

  pub slot_of-empty : (byte : ℕ) (e : Option T) → Agrees byte e → byte ≡ 255 → slot_of byte e ≡ empty
  slot_of-empty byte (Some entry) p e = absurd (omega arith)
  slot_of-empty byte None p e = rw e

  slot_of-deleted : (byte : ℕ) (e : Option T) → e ≡ None → byte ≡ 128 → slot_of byte e ≡ deleted
  slot_of-deleted byte e n p = rw (n, p)

  pub empty_byte : (byte : ℕ) (e : Option T) → Agrees byte e → slot_of byte e ≡ empty → byte ≡ 255
  empty_byte byte (Some entry) p e = absurd (cc)
  empty_byte byte None (inl e) f = absurd (empty_not_deleted _ f (slot_of-deleted byte None refl e))
  empty_byte byte None (inr e) f = e

pub is_full-test : (T : Type 0) (t : Bool) → is_full {A = Tagged T} (cond t deleted empty) ≡ false
is_full-test T true = refl
is_full-test T false = refl

some_entry : {T : Type 0} (byte : ℕ) (o : Option T) → is_full (slot_of byte o) ≡ true → (entry : T) × (o ≡ Some entry)
some_entry byte (Some entry) h = (entry, refl)
some_entry {T} byte None h = absurd (false≢true (sym (is_full-test T (nat_eq byte 128)) ∙ h))

module _ {T : Type 0} (control : List ℕ) (entries : List (Option T)) (laid_out : IsLaidOut control entries) where
  pub entries_within : length entries ≤ length control
  entries_within = elim laid_out.counts [ inl w ↦ omega arith | inr w ↦ omega arith ]

  pub power_of : 0 < length entries → IsPowerFromFour (length entries)
  power_of p = elim laid_out.counts [ inl w ↦ absurd (omega arith) | inr w ↦ w.0 ]

  pub length-laid_out : length (slots_of control entries) ≡ length entries
  length-laid_out = length-slots_of control entries entries_within

  pub length-states_by : length (states_by control entries) ≡ length entries
  length-states_by = length-bucket_states (slots_of control entries) ∙ length-laid_out

  module _ (b : ℕ) (within : b < length entries) where
    pub bucket_at-laid_out : bucket_at (slots_of control entries) b
        ≡ slot_of (get_or control b 0) (get_or entries b None)
    bucket_at-laid_out = bucket_at-slots_of control entries b entries_within within

    pub is_full-laid_out : is_full (bucket_at (slots_of control entries) b) ≡ nat_lt (get_or control b 0) 128
    is_full-laid_out = rw bucket_at-laid_out (is_full-slot_of _ _ (laid_out.agrees b within))

    pub is_full-byte : is_full (bucket_at (states_by control entries) b) ≡ nat_lt (get_or control b 0) 128
    is_full-byte = is_full-bucket_states (slots_of control entries) b ∙ is_full-laid_out

    pub state_from_byte : get_or control b 0 ≡ 255 → bucket_at (states_by control entries) b ≡ empty
    state_from_byte e =
        bucket_at-bucket_states (slots_of control entries) b
        ∙ ap bucket_state (bucket_at-laid_out ∙ slot_of-empty _ _ (laid_out.agrees b within) e)

    pub byte_from_state : bucket_at (states_by control entries) b ≡ empty → get_or control b 0 ≡ 255
    byte_from_state e =
        empty_byte _ _ (laid_out.agrees b within) (sym bucket_at-laid_out ∙ empty_state (slots_of control entries) b e)

    pub bucket_at-read : (tag : ℕ) (entry : T) → get_or control b 0 ≡ tag → get_or entries b None ≡ Some entry
        → bucket_at (slots_of control entries) b ≡ full (record { tag = tag; entry = entry })
    bucket_at-read tag entry e found =
        bucket_at-laid_out ∙ ap (λ o. slot_of (get_or control b 0) o) found
        ∙ ap (λ t. full (record { tag = t; entry = entry })) e

  module _ (b : ℕ) (there : IsFull (slots_of control entries) b) where
    pub full_within : b < length entries
    full_within = let p = full_lt (slots_of control entries) b there in rw length-laid_out at p

    pub full_entry : (entry : T) × (get_or entries b None ≡ Some entry)
    full_entry =
        some_entry (get_or control b 0) (get_or entries b None) (rw (bucket_at-laid_out b full_within) at there)

    pub full_byte : get_or control b 0 < 128
    full_byte = let e = full_entry in rw e.1 at (laid_out.agrees b full_within)

    pub is_some_entry : IsSome (get_or entries b None)
    is_some_entry = let w = full_entry in rw w.1 refl

    pub entry_at-full : (entry : T) → get_or entries b None ≡ Some entry
        → entry_at (slots_of control entries) b ≡ Some entry
    entry_at-full entry e =
        ap entry_of (bucket_at-laid_out b full_within) ∙ ap (λ o. entry_of (slot_of (get_or control b 0) o)) e
