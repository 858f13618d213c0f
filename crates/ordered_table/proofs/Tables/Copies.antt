use Rattle.std.proofs.Common.{◌≡◌, ℕ, zero, suc, List, [], ◌∷◌, ◌++◌, length, Option, Some, None, Ok, refl, sym, ap}
use Rattle.std.proofs.Common.{◌∙◌}
use Rattle.std.specs.Prelude.{option_map, option_to_list, unwrap_or, Result}
use Rattle.std.specs.List.{AllZip}
use Rattle.std.specs.Borrow.{Bor}
use Rattle.std.specs.Fn.{Shared, FnReturnsAt}
use Rattle.std.specs.declared.alloc.AllocError.{AllocError}
use Rattle.group_table.specs.Bucket.{Slot, empty, deleted, full, bucket_at, entry_at, entry_of, entry_count, is_full}
use Rattle.group_table.specs.Bucket.{bucket_states}
use Rattle.group_table.specs.Copies.{IsCopyOf, Copies}
use Rattle.group_table.specs.Fits.{Fits}
use Rattle.group_table.proofs.BucketLemmas.{entry_count-bucket_states, length-bucket_states}
use Rattle.group_table.proofs.FitsLemmas.{Fits-agree}
use Rattle.ordered_table.specs.declared.linked.Entry.{Entry}
use Rattle.lru_model.specs.Clones.{IsPairClone}
use Rattle.ordered_table.specs.Chain.{pair_slots, newer_at, older_at, along, IsWhole}
use Rattle.ordered_table.specs.Copies.{IsEntryCopy}
use Rattle.ordered_table.specs.OrderedTable.{entries_in, hash_in, KeysFit}
use Rattle.ordered_table.proofs.Tables.PairSlots.{pair_of, entry_at-pair_slots, Fits-pair_slots, Fits-entries}

module _ {K V N F : Type 0} (same_key : K → K → Type 0) (same_value : V → V → Type 0)
    (closure : Shared F (Bor (Entry K V N) × Unit {0}) (Result (Entry K V N) AllocError)) (f : F)
    (makes : (x made : Entry K V N) → FnReturnsAt closure f x (Ok made) → IsEntryCopy same_key same_value x made)
    (old new : List (Slot (Entry K V N))) (copies : Copies closure f old new) where
  abbrev IsCopied : Option (Entry K V N) → Option (Entry K V N) → Type 0
  IsCopied None p = p ≡ None
  IsCopied (Some x) p = (made : Entry K V N) × (p ≡ Some made) × IsEntryCopy same_key same_value x made

  slot_copy : (s u : Slot (Entry K V N)) → IsCopyOf closure f s u → IsCopied (entry_of s) (entry_of u)
  slot_copy empty u h = ap entry_of h
  slot_copy deleted u h = ap entry_of h
  slot_copy (full held) u h = (h.0, ap entry_of h.2, makes held.entry h.0 h.1)

  at : (xs ys : List (Slot (Entry K V N))) → AllZip (IsCopyOf closure f) xs ys → (b : ℕ)
      → IsCopyOf closure f (bucket_at xs b) (bucket_at ys b)
  at [] [] h b = refl
  at [] (y ∷ ys) h b = absurd h
  at (x ∷ xs) [] h b = absurd h
  at (x ∷ xs) (y ∷ ys) h zero = h.0
  at (x ∷ xs) (y ∷ ys) h (suc b) = at xs ys h.1 b

  copied : (b : ℕ) → IsCopied (entry_at old b) (entry_at new b)
  copied b = slot_copy (bucket_at old b) (bucket_at new b) (at old new copies b)

  full_same : (b : ℕ) → is_full (bucket_at new b) ≡ is_full (bucket_at old b)
  full_same b = go (bucket_at old b) (bucket_at new b) (at old new copies b)
    where
      go : (s u : Slot (Entry K V N)) → IsCopyOf closure f s u → is_full u ≡ is_full s
      go empty u h = ap is_full h
      go deleted u h = ap is_full h
      go (full held) u h = ap is_full h.2

  newer_same : (b : ℕ) → newer_at new b ≡ newer_at old b
  newer_same b = go (entry_at old b) (entry_at new b) (copied b)
    where
      go : (o p : Option (Entry K V N)) → IsCopied o p → option_map (λ e. e.newer) p ≡ option_map (λ e. e.newer) o
      go None p h = rw h refl
      go (Some x) p h = rw h.1 (ap (λ l. Some l) h.2.newer)

  older_same : (b : ℕ) → older_at new b ≡ older_at old b
  older_same b = go (entry_at old b) (entry_at new b) (copied b)
    where
      go : (o p : Option (Entry K V N)) → IsCopied o p → option_map (λ e. e.older) p ≡ option_map (λ e. e.older) o
      go None p h = rw h refl
      go (Some x) p h = rw h.1 (ap (λ l. Some l) h.2.older)

  module _ (number : N → ℕ) where
    along_same : (n : ℕ) (from : N) → along number n new from ≡ along number n old from
    along_same zero from = refl
    along_same (suc n) from = go (entry_at old (number from)) (entry_at new (number from)) (copied (number from))
        (λ l. along_same n l)
      where
        go : (o p : Option (Entry K V N)) → IsCopied o p → ((l : N) → along number n new l ≡ along number n old l)
            → unwrap_or (option_map (λ e. number from ∷ along number n new e.older) p) []
            ≡ unwrap_or (option_map (λ e. number from ∷ along number n old e.older) o) []
        go None p h on = rw h refl
        go (Some x) p h on = rw h.1 (ap (λ l. number from ∷ along number n new l) h.2.older
            ∙ ap (λ bs. number from ∷ bs) (on x.older))

    module _ (states : bucket_states new ≡ bucket_states old) where
      length_same : length new ≡ length old
      length_same = sym (length-bucket_states new) ∙ ap length states ∙ length-bucket_states old

      pub order_same : (newest : N) → along number (length new) new newest ≡ along number (length old) old newest
      order_same newest = ap (λ n. along number n new newest) length_same ∙ along_same (length old) newest

    module _ (link : ℕ → N) (last newest oldest : N) (states : bucket_states new ≡ bucket_states old) (order : List ℕ) where
      pub whole_same : IsWhole number link last old newest oldest order
          → IsWhole number link last new newest oldest order
      whole_same whole = record {
        chain = record {
          reached = rw (length_same states) whole.chain.reached;
          distinct = whole.chain.distinct;
          only = λ b w. full_same b ∙ whole.chain.only b w;
          newest_first = whole.chain.newest_first;
          oldest_last = whole.chain.oldest_last;
          newer = λ b w. newer_same b ∙ whole.chain.newer b w;
          older = λ b w. older_same b ∙ whole.chain.older b w;
        };
        all = λ b there. whole.all b (sym (full_same b) ∙ there);
        count = sym (entry_count-bucket_states new) ∙ ap entry_count states ∙ entry_count-bucket_states old ∙ whole.count;
      }

  pub pairs_same : (order : List ℕ) → AllZip (IsPairClone same_key same_value) (entries_in (pair_slots old) order)
      (entries_in (pair_slots new) order)
  pairs_same [] = tt
  pairs_same (b ∷ bs) = go (entry_at old b) (entry_at new b) (copied b) (entry_at (pair_slots old) b)
      (entry_at (pair_slots new) b)
      (entry_at-pair_slots old b) (entry_at-pair_slots new b) (pairs_same bs)
    where
      go : (o p : Option (Entry K V N)) → IsCopied o p → (q r : Option (K × V)) → q ≡ option_map pair_of o → r
          ≡ option_map pair_of p
          → AllZip (IsPairClone same_key same_value) (entries_in (pair_slots old) bs) (entries_in (pair_slots new) bs)
          → AllZip (IsPairClone same_key same_value) (option_to_list q ++ entries_in (pair_slots old) bs)
          (option_to_list r ++ entries_in (pair_slots new) bs)
      go None p h q r e d on = rw (e, d, h) on
      go (Some x) p h q r e d on = rw (e, d, h.1) (record { key = h.2.key; value = h.2.value }, on)

  module _ (hash_of other : K → ℕ) (alike : (key copy : K) → same_key key copy → other copy ≡ hash_of key) where
    hash_same : (b : ℕ) → hash_in hash_of (pair_slots old) b ≡ hash_in other (pair_slots new) b
    hash_same b = ap (λ o. unwrap_or (option_map (λ p. hash_of p.0) o) 0) (entry_at-pair_slots old b)
        ∙ go (entry_at old b) (entry_at new b) (copied b)
        ∙ ap (λ o. unwrap_or (option_map (λ p. other p.0) o) 0) (sym (entry_at-pair_slots new b))
      where
        go : (o p : Option (Entry K V N)) → IsCopied o p
            → unwrap_or (option_map (λ x. hash_of x.0) (option_map pair_of o)) 0
            ≡ unwrap_or (option_map (λ x. other x.0) (option_map pair_of p)) 0
        go None p h = rw h refl
        go (Some x) p h = rw h.1 (sym (alike x.key h.0.key h.2.key))

    pub keys_fit : ((g : ℕ → ℕ) → Fits old g → Fits new g) → KeysFit hash_of (pair_slots old)
        → KeysFit other (pair_slots new)
    keys_fit on fits = Fits-agree (pair_slots new) (hash_in hash_of (pair_slots old)) (hash_in other (pair_slots new))
        (λ b there. hash_same b)
        (Fits-pair_slots new (hash_in hash_of (pair_slots old))
        (on _ (Fits-entries old (hash_in hash_of (pair_slots old)) fits)))
