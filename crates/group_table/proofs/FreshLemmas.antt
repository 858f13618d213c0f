-- Tables whose buckets are all empty.
use Rattle.std.proofs.Common.{◌≡◌, ℕ, zero, suc, ◌+◌, ◌^◌, ◌<◌, ◌≤◌, [], ◌∷◌, length, replicate, Option, None}
use Rattle.std.proofs.Common.{◌⊎◌, refl}
use Rattle.std.proofs.Common.{ap, sym, ◌∙◌, arith, inl, inr, count_by, cond, Bool, false, List, Some, true, get_or}
use Rattle.std.proofs.lemmas.List.{length-replicate, get_or-replicate}
use Rattle.std.proofs.lemmas.List.Sums.{sum_by-cons}
use native.Mathlib.Decide.{dec_lt}
use Rattle.group_table.specs.Sizes.{IsPowerFromFour, full_capacity}
use Rattle.group_table.specs.Bucket.{Bucket, Slot, Tagged, empty, deleted, full, is_used, is_full, bucket_at}
use Rattle.group_table.specs.Bucket.{entry_count, bucket_states, growth_left}
use Rattle.group_table.specs.Fits.{Fits}
use Rattle.group_table.specs.Layout.{slot_of, slots_of, byte_of, byte_at, IsLaidOut, IsValid}
use Rattle.group_table.proofs.BucketLemmas.{empty_not_deleted, count_by-pos, count_by-cons, room_is, length-bucket_states}
use Rattle.group_table.proofs.BucketLemmas.{used_count-bucket_states}
use Rattle.group_table.proofs.LayoutLemmas.{bucket_at-laid_out, length-laid_out}
use Rattle.group_table.proofs.CopyLemmas.{copy_at, replicate-from}
use Rattle.group_table.proofs.FitsLemmas.{Fits-none}
use Rattle.group_table.proofs.WriteLemmas.{byte_at-bucket, byte_at-between, byte_at-again}

module _ {A : Type 0} (p : Bucket A → Bool) (no : p empty ≡ false) where
  none_counted : (n : ℕ) → count_by p (replicate n empty) ≡ 0
  none_counted zero = refl
  none_counted (suc n) =
      let one : ◌≡◌ {A = ℕ} (cond (p empty) 1 0) 0 = ap (λ t. cond {A = ℕ} t 1 0) no in
      omega (arith, sum_by-cons (λ s. cond (p s) 1 0) empty (replicate n empty), one, none_counted n)

pub all_empty : {A : Type 0} (buckets : List (Bucket A)) → count_by is_used buckets ≡ 0
    → buckets ≡ replicate (length buckets) empty
all_empty [] none = refl
all_empty (empty ∷ rest) none =
    ap (λ more. empty ∷ more) (all_empty rest (omega (arith, count_by-cons is_used empty rest, none)))
all_empty (deleted ∷ rest) none = absurd (omega (arith, count_by-cons is_used deleted rest, none))
all_empty (full held ∷ rest) none = absurd (omega (arith, count_by-cons is_used (full held) rest, none))

module _ (T : Type 0) where
  abbrev no_entry : Option T
  no_entry = None

  pub slots_of-fresh : (n m : ℕ) → n ≤ m → slots_of {T = T} (replicate m 255) (replicate n None) ≡ replicate n empty
  slots_of-fresh zero m p = refl
  slots_of-fresh (suc n) zero p = absurd (omega arith)
  slots_of-fresh (suc n) (suc m) p = ap (λ s. empty ∷ s) (slots_of-fresh n m (omega arith))

  bytes_empty : (n p : ℕ) → byte_at {T = T} (replicate n empty) p ≡ 255
  bytes_empty n p =
      elim (dec_lt p (length (replicate {A = Slot T} n empty))) [
        | yes q ↦ byte_at-bucket (replicate n empty) p q ∙ ap byte_of (copy_at n p empty)
        | no q ↦ elim (dec_lt p 16) [
          | yes r ↦ byte_at-between (replicate n empty) p (omega arith) r
          | no r ↦ byte_at-again (replicate n empty) p (omega arith) (omega arith) ∙ ap byte_of (copy_at n _ empty)
        ]
      ]

  pub IsValid-fresh : (n m : ℕ) → ((n ≡ 0) × (m ≡ 0)) ⊎ (IsPowerFromFour n × (m ≡ n + 16)) → m < 2 ^ 63
      → IsValid {T = T} (replicate m 255) (replicate n None) (full_capacity n)
  IsValid-fresh n m s p =
      let within : n ≤ m = elim s [ inl w ↦ omega arith | inr w ↦ omega arith ] in
      record {
        laid_out = record {
          counts = rw (length-replicate n no_entry, length-replicate {A = ℕ} m 255) s;
          fits = rw (length-replicate {A = ℕ} m 255) p;
          agrees = λ b q. rw (get_or-replicate {A = ℕ} m b 255 0 (let r = rw length-replicate at q in omega arith))
              (rw copy_at (inr refl));
          bytes = λ k q. get_or-replicate {A = ℕ} m k 255 0 (rw length-replicate at q)
              ∙ sym (rw (slots_of-fresh n m within) (bytes_empty n k));
        };
        room_left = rw (slots_of-fresh n m within, none_counted {A = Tagged T} is_used refl, length-replicate)
            (omega arith);
        none_deleted = λ q b e. absurd (empty_not_deleted _ (copy_at n b empty) (rw (slots_of-fresh n m within) at e));
      }

  pub entry_count-fresh : (n m : ℕ) → n ≤ m → entry_count (slots_of {T = T} (replicate m 255) (replicate n None)) ≡ 0
  entry_count-fresh n m p = rw (slots_of-fresh n m p) (none_counted {A = Tagged T} is_full refl n)

  pub growth_left-fresh : (n : ℕ) → growth_left (bucket_states (replicate {A = Slot T} n empty))
      ≡ full_capacity (length (replicate {A = Slot T} n empty))
  growth_left-fresh n =
      let slots : List (Slot T) = replicate n empty in
      omega (
        arith,
        room_is (bucket_states slots),
        ap full_capacity
            (length-bucket_states slots),
        used_count-bucket_states slots,
        none_counted {A = Tagged T} is_used refl n,
      )

  pub Fits-fresh : (n : ℕ) (hash_of : ℕ → ℕ) → Fits {T = T} (replicate n empty) hash_of
  Fits-fresh n hash_of = Fits-none (replicate n empty) hash_of (λ b. copy_at n b empty)

pub entry_count-none : {T : Type 0} (slots : List (Slot T)) → ((b : ℕ) → bucket_at slots b ≡ empty)
    → entry_count slots ≡ 0
entry_count-none slots none =
    ap entry_count (replicate-from slots empty empty (λ b within. none b)) ∙ none_counted is_full refl (length slots)

pub none_left : {T : Type 0} (control : List ℕ) (entries : List (Option T)) → IsLaidOut control entries
    → entry_count (slots_of control entries) ≡ 0 → entries ≡ replicate (length entries) None
none_left {T} control entries laid_out none =
    replicate-from entries None None (λ b within. at b within (get_or entries b None) refl)
  where
    at : (b : ℕ) → b < length entries → (e : Option T) → get_or entries b None ≡ e → e ≡ None
    at b within None is = refl
    at b within (Some entry) is =
        let there : is_full (bucket_at (slots_of control entries) b) ≡ true =
        ap is_full (bucket_at-laid_out control entries laid_out b within)
        ∙ ap (λ o. is_full (slot_of (get_or control b 0) o)) is in
        absurd (omega (
          arith,
          none,
          count_by-pos is_full (slots_of control entries) b
              (omega (arith, length-laid_out control entries laid_out)) there,
        ))
