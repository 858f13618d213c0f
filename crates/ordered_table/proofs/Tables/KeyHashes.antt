use Rattle.std.proofs.Common.{◌≡◌, ◌≢◌, ℕ, ◌<◌, true, List, length, set, Option, Some, None, inl, inr, refl, ap, sym}
use Rattle.std.proofs.Common.{◌∙◌, subst, eq-eqb, ne_eqb}
use Rattle.std.specs.Prelude.{option_map, unwrap_or, IfNone}
use Rattle.std.proofs.lemmas.Bool.{cases_eq, false≢true}
use Rattle.group_table.specs.Bucket.{Slot, empty, deleted, full, bucket_at, is_full, IsFull, entry_at, entry_of}
use Rattle.group_table.specs.Bucket.{refilled}
use Rattle.group_table.specs.Probe.{hash_tag}
use Rattle.group_table.specs.Fits.{Fits, with_hash}
use Rattle.group_table.specs.Change.{Removes}
use Rattle.group_table.proofs.BucketLemmas.{bucket_at-set_same, bucket_at-set_other, full_lt}
use Rattle.group_table.proofs.ChangeLemmas.{entry_at-removed, bucket_at-removed_other}
use Rattle.group_table.proofs.FitsLemmas.{Fits-agree}
use Rattle.group_table.proofs.RefillLemmas.{entry_of-refilled, Fits-refilled}
use Rattle.ordered_table.specs.OrderedTable.{hash_in, KeysFit}

pub if_none : {T : Type 0} {P Q : Type 0} (r : Option T) → (P → Q) → IfNone r P → IfNone r Q
if_none None f p = f p
if_none (Some x) f p = p

pub not_full : {T : Type 0} (s : Slot T) → entry_of s ≡ None → is_full s ≡ true → ⊥
not_full empty e h = false≢true h
not_full deleted e h = false≢true h
not_full (full held) e h = cc

module _ {K V : Type 0} (hash_of : K → ℕ) where
  pub hash_in-entry : (slots : List (Slot (K × V))) (b : ℕ) (pair : K × V) → entry_at slots b ≡ Some pair
      → hash_in hash_of slots b ≡ hash_of pair.0
  hash_in-entry slots b pair e = ap (λ o. unwrap_or (option_map (λ p. hash_of p.0) o) 0) e

  hash_in-same : (old new : List (Slot (K × V))) (b : ℕ) → bucket_at new b ≡ bucket_at old b → hash_in hash_of old b
      ≡ hash_in hash_of new b
  hash_in-same old new b e = ap (λ s. unwrap_or (option_map (λ p. hash_of p.0) (entry_of s)) 0) (sym e)

  pub KeysFit-removed : (old new : List (Slot (K × V))) (b : ℕ) → IsFull old b → Removes old new b
      → Fits new (hash_in hash_of old) → KeysFit hash_of new
  KeysFit-removed old new b there removes fits =
      Fits-agree new (hash_in hash_of old) (hash_in hash_of new)
      (λ x full. hash_in-same old new x (bucket_at-removed_other old new b x
      (λ e. not_full (bucket_at new b) (entry_at-removed old new b there removes) (subst (IsFull new) e full))
      removes)) fits

  module _ (slots : List (Slot (K × V))) (b : ℕ) (within : b < length slots) (s : Slot (K × V)) (pair : K × V)
      (is : entry_of s ≡ Some pair) where
    hash_in-written : hash_in hash_of (set slots b s) b ≡ hash_of pair.0
    hash_in-written = hash_in-entry (set slots b s) b pair (ap entry_of (bucket_at-set_same slots b b s refl within)
        ∙ is)

    hash_in-others : (x : ℕ) → x ≢ b → hash_in hash_of slots x ≡ hash_in hash_of (set slots b s) x
    hash_in-others x other = hash_in-same slots (set slots b s) x (bucket_at-set_other slots b x s other)

    pub KeysFit-written : (f : ℕ → ℕ) → f b ≡ hash_of pair.0 → ((x : ℕ) → x ≢ b → f x ≡ hash_in hash_of slots x)
        → Fits (set slots b s) f → KeysFit hash_of (set slots b s)
    KeysFit-written f there others fits = Fits-agree (set slots b s) f (hash_in hash_of (set slots b s))
        (λ x full. elim (cases_eq x b) [
          | inl h ↦ rw h (there ∙ sym hash_in-written)
          | inr h ↦ others x h ∙ hash_in-others x h
        ]) fits

  pub KeysFit-placed : (slots : List (Slot (K × V))) (b hash : ℕ) (pair : K × V) → b < length slots → hash_of pair.0
      ≡ hash
      → Fits (set slots b (full (record { tag = hash_tag hash; entry = pair })))
      (with_hash (hash_in hash_of slots) b hash)
      → KeysFit hash_of (set slots b (full (record { tag = hash_tag hash; entry = pair })))
  KeysFit-placed slots b hash pair within same fits =
      KeysFit-written slots b within (full (record { tag = hash_tag hash; entry = pair })) pair refl
      (with_hash (hash_in hash_of slots) b hash)
      (rw (eq-eqb b b refl) (sym same)) (λ x other. rw (ne_eqb x b other) refl) fits

  pub KeysFit-refilled : (slots : List (Slot (K × V))) (b : ℕ) (was last : K × V) → IsFull slots b → entry_at slots b
      ≡ Some was → hash_of last.0 ≡ hash_of was.0
      → KeysFit hash_of slots → KeysFit hash_of (set slots b (refilled (bucket_at slots b) last))
  KeysFit-refilled slots b was last there is same fits =
      KeysFit-written slots b (full_lt slots b there) (refilled (bucket_at slots b) last) last
      (entry_of-refilled (bucket_at slots b) last there) (hash_in hash_of slots)
      (hash_in-entry slots b was is ∙ sym same) (λ x other. refl)
      (Fits-refilled slots b last (hash_in hash_of slots) there fits)
