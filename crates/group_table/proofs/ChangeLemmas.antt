use Rattle.std.proofs.Common.{◌≡◌, ◌≢◌, ℕ, ◌+◌, ◌<◌, cond, List, [], ◌∷◌, length, set, None, inl, inr, refl, ap}
use Rattle.std.proofs.Common.{sym, ◌∙◌, arith, length-set}
use Rattle.group_table.specs.Bucket.{Bucket, Slot, Tagged, empty, deleted, full, bucket_at, is_full, IsFull, entry_at}
use Rattle.group_table.specs.Bucket.{entry_of, entry_count, bucket_state, bucket_states}
use Rattle.group_table.specs.Probe.{hash_tag}
use Rattle.group_table.specs.Table.{Table, Insertions}
use Rattle.group_table.specs.Change.{Places, Removes, count_up, insertion_count, one_placed, some_moved}
use Rattle.group_table.proofs.BucketLemmas.{bucket_at-set_same, bucket_at-set_other, count_by-set}
use Rattle.group_table.proofs.BucketLemmas.{full_lt, is_full-bucket_states, bucket_states-set}

pub insertion_count-placed : (c : Insertions) → insertion_count (one_placed c) ≡ count_up (insertion_count c) 1
insertion_count-placed c = omega arith

pub insertion_count-moved : (c : Insertions) (n : ℕ) → insertion_count (some_moved c n) ≡ count_up (insertion_count c) n
insertion_count-moved c n = omega arith

module _ {T : Type 0} (old new : Table T) (hash : ℕ) (entry : T) (b : ℕ) (places : Places old new hash entry b) where
  placed_free : is_full (bucket_at old.slots b) ≡ is_full (bucket_at (bucket_states old.slots) b)
  placed_free = sym (is_full-bucket_states old.slots b)

  module _ (within : b < length old.slots) where
    pub entry_count-places : entry_count new.slots ≡ entry_count old.slots + 1
    entry_count-places =
        let none : ◌≡◌ {A = ℕ} (cond (is_full (bucket_at old.slots b)) 1 0) 0 =
        ap (λ t. cond {A = ℕ} t 1 0) (placed_free ∙ places.first.free_there) in
        let counted = count_by-set is_full old.slots b (full (record { tag = hash_tag hash; entry = entry })) within in
        ap entry_count places.slots ∙ omega (arith, counted, none)

  pub bucket_at-placed_other : (k : ℕ) → k ≢ b → bucket_at new.slots k ≡ bucket_at old.slots k
  bucket_at-placed_other k other =
      ap (λ xs. bucket_at xs k) places.slots ∙ bucket_at-set_other old.slots b k
      (full (record { tag = hash_tag hash; entry = entry })) other

module _ {T : Type 0} (old new : List (Slot T)) (b : ℕ) where
  pub length-removed : Removes old new b → length new ≡ length old
  length-removed (inl w) = ap length w.1 ∙ length-set old b empty
  length-removed (inr w) = ap length w.1 ∙ length-set old b deleted

  pub entry_at-removed : IsFull old b → Removes old new b → entry_at new b ≡ None
  entry_at-removed there (inl w) =
      ap entry_of (ap (λ xs. bucket_at xs b) w.1 ∙ bucket_at-set_same old b b empty refl (full_lt old b there))
  entry_at-removed there (inr w) =
      ap entry_of (ap (λ xs. bucket_at xs b) w.1 ∙ bucket_at-set_same old b b deleted refl (full_lt old b there))

  pub bucket_at-removed_other : (k : ℕ) → k ≢ b → Removes old new b → bucket_at new k ≡ bucket_at old k
  bucket_at-removed_other k other (inl w) = ap (λ xs. bucket_at xs k) w.1 ∙ bucket_at-set_other old b k empty other
  bucket_at-removed_other k other (inr w) = ap (λ xs. bucket_at xs k) w.1 ∙ bucket_at-set_other old b k deleted other

  one_fewer : (s : Slot T) → is_full s ≡ is_full {A = Tagged T} empty → IsFull old b → new ≡ set old b s
      → entry_count new + 1 ≡ entry_count old
  one_fewer s emptied there e =
      let one : ◌≡◌ {A = ℕ} (cond (is_full (bucket_at old b)) 1 0) 1 = ap (λ t. cond {A = ℕ} t 1 0) there in
      let none : ◌≡◌ {A = ℕ} (cond (is_full s) 1 0) 0 = ap (λ t. cond {A = ℕ} t 1 0) emptied in
      let counted = count_by-set is_full old b s (full_lt old b there) in
      ap (λ xs. entry_count xs + 1) e ∙ omega (arith, counted, one, none)

  pub entry_count-removes : IsFull old b → Removes old new b → entry_count new + 1 ≡ entry_count old
  entry_count-removes there (inl w) = one_fewer empty refl there w.1
  entry_count-removes there (inr w) = one_fewer deleted refl there w.1

module _ {A : Type 0} where
  state_again : (s : Bucket A) → bucket_state (bucket_state s) ≡ bucket_state s
  state_again empty = refl
  state_again deleted = refl
  state_again (full held) = refl

  states_again : (buckets : List (Bucket A)) → bucket_states (bucket_states buckets) ≡ bucket_states buckets
  states_again [] = refl
  states_again (s ∷ rest) = ap (λ t. t ∷ bucket_states (bucket_states rest)) (state_again s)
      ∙ ap (λ ts. bucket_state s ∷ ts) (states_again rest)

  pub states-removed : (old new : List (Bucket A)) (b : ℕ) → Removes old new b → Removes (bucket_states old) (bucket_states new) b
  states-removed old new b (inl w) = inl (rw (states_again old) w.0, ap bucket_states w.1 ∙ bucket_states-set old b empty)
  states-removed old new b (inr w) = inr (rw (states_again old) w.0, ap bucket_states w.1 ∙ bucket_states-set old b deleted)
