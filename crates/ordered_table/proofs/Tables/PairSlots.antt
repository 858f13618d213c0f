use Rattle.std.proofs.Common.{◌≡◌, ℕ, List, [], ◌∷◌, length, set, Option, Some, None, inl, inr, refl, ap, sym, ◌∙◌}
use Rattle.std.proofs.Common.{subst}
use Rattle.std.specs.Prelude.{option_map}
use Rattle.std.proofs.lemmas.List.{map-set, length-map}
use Rattle.std.proofs.Math.ListN.{get_or-map}
use Rattle.std.proofs.Math.Seq.{map-set_same}
use Rattle.group_table.specs.Bucket.{Slot, Tagged, empty, deleted, full, bucket_at, is_full, entry_at, entry_of}
use Rattle.group_table.specs.Bucket.{entry_count, bucket_state, bucket_states, refilled}
use Rattle.group_table.specs.Fits.{Fits}
use Rattle.group_table.specs.Probe.{Reaches}
use Rattle.group_table.specs.Change.{Removes}
use Rattle.group_table.proofs.BucketLemmas.{entry_count-bucket_states}
use Rattle.ordered_table.specs.declared.linked.Entry.{Entry}
use Rattle.ordered_table.specs.Chain.{pair_slot, pair_slots}

module _ {K V N : Type 0} where
  abbrev pub pair_of : Entry K V N → K × V
  pair_of entry = (entry.key, entry.value)

  bucket_state-pair_slot : (s : Slot (Entry K V N)) → bucket_state (pair_slot s) ≡ bucket_state s
  bucket_state-pair_slot empty = refl
  bucket_state-pair_slot deleted = refl
  bucket_state-pair_slot (full held) = refl

  is_full-pair_slot : (s : Slot (Entry K V N)) → is_full (pair_slot s) ≡ is_full s
  is_full-pair_slot empty = refl
  is_full-pair_slot deleted = refl
  is_full-pair_slot (full held) = refl

  entry_of-pair_slot : (s : Slot (Entry K V N)) → entry_of (pair_slot s) ≡ option_map pair_of (entry_of s)
  entry_of-pair_slot empty = refl
  entry_of-pair_slot deleted = refl
  entry_of-pair_slot (full held) = refl

  pub length-pair_slots : (slots : List (Slot (Entry K V N))) → length (pair_slots slots) ≡ length slots
  length-pair_slots slots = length-map slots pair_slot

  pub bucket_at-pair_slots : (slots : List (Slot (Entry K V N))) (b : ℕ) → bucket_at (pair_slots slots) b
      ≡ pair_slot (bucket_at slots b)
  bucket_at-pair_slots slots b = get_or-map pair_slot slots b empty

  pub bucket_states-pair_slots : (slots : List (Slot (Entry K V N))) → bucket_states (pair_slots slots) ≡ bucket_states slots
  bucket_states-pair_slots [] = refl
  bucket_states-pair_slots (s ∷ slots) = ap (λ m. m ∷ bucket_states (pair_slots slots)) (bucket_state-pair_slot s)
      ∙ ap (λ ms. bucket_state s ∷ ms) (bucket_states-pair_slots slots)

  pub entry_count-pair_slots : (slots : List (Slot (Entry K V N))) → entry_count (pair_slots slots) ≡ entry_count slots
  entry_count-pair_slots slots = sym (entry_count-bucket_states (pair_slots slots))
      ∙ ap entry_count (bucket_states-pair_slots slots) ∙ entry_count-bucket_states slots

  pub is_full-pair_slots : (slots : List (Slot (Entry K V N))) (b : ℕ) → is_full (bucket_at (pair_slots slots) b)
      ≡ is_full (bucket_at slots b)
  is_full-pair_slots slots b = ap is_full (bucket_at-pair_slots slots b) ∙ is_full-pair_slot (bucket_at slots b)

  pub entry_at-pair_slots : (slots : List (Slot (Entry K V N))) (b : ℕ) → entry_at (pair_slots slots) b
      ≡ option_map pair_of (entry_at slots b)
  entry_at-pair_slots slots b = ap entry_of (bucket_at-pair_slots slots b) ∙ entry_of-pair_slot (bucket_at slots b)

  entry_by_pair : (o : Option (Entry K V N)) (pair : K × V) → option_map pair_of o ≡ Some pair → (entry : Entry K V N)
      × (o ≡ Some entry) × (pair_of entry ≡ pair)
  entry_by_pair None pair e = absurd (cc)
  entry_by_pair (Some entry) pair e = let same : pair_of entry ≡ pair = cc in (entry, refl, same)

  pub entry_of-pair_at : (slots : List (Slot (Entry K V N))) (b : ℕ) (pair : K × V) → entry_at (pair_slots slots) b
      ≡ Some pair
      → (entry : Entry K V N) × (entry_at slots b ≡ Some entry) × (pair_of entry ≡ pair)
  entry_of-pair_at slots b pair e = entry_by_pair (entry_at slots b) pair (sym (entry_at-pair_slots slots b) ∙ e)

  pub pair_slots-set : (slots : List (Slot (Entry K V N))) (b : ℕ) (s : Slot (Entry K V N))
      → pair_slots (set slots b s) ≡ set (pair_slots slots) b (pair_slot s)
  pair_slots-set slots b s = map-set pair_slot slots b s

  module _ (old new : List (Slot (Entry K V N))) (same : pair_slots new ≡ pair_slots old) where
    pub same_length : length new ≡ length old
    same_length = sym (length-pair_slots new) ∙ ap length same ∙ length-pair_slots old

    pub same_count : entry_count new ≡ entry_count old
    same_count = sym (entry_count-pair_slots new) ∙ ap entry_count same ∙ entry_count-pair_slots old

    pub same_states : bucket_states new ≡ bucket_states old
    same_states = sym (bucket_states-pair_slots new) ∙ ap bucket_states same ∙ bucket_states-pair_slots old

    pub same_full : (b : ℕ) → is_full (bucket_at new b) ≡ is_full (bucket_at old b)
    same_full b = sym (is_full-pair_slots new b) ∙ ap (λ slots. is_full (bucket_at slots b)) same
        ∙ is_full-pair_slots old b

  held_pair : (s : Slot (Entry K V N)) (held : Tagged (K × V)) → pair_slot s ≡ full held → (was : Tagged (Entry K V N))
      × (s ≡ full was) × (was.tag ≡ held.tag)
  held_pair empty held e = absurd (cc)
  held_pair deleted held e = absurd (cc)
  held_pair (full was) held e = let same : record { tag = was.tag; entry = pair_of was.entry } ≡ held = cc in
      (was, refl, ap (λ h. h.tag) same)

  pub Fits-pair_slots : (slots : List (Slot (Entry K V N))) (hash_of : ℕ → ℕ) → Fits slots hash_of
      → Fits (pair_slots slots) hash_of
  Fits-pair_slots slots hash_of fits = record {
    tags = λ b held e. let w = held_pair (bucket_at slots b) held (sym (bucket_at-pair_slots slots b) ∙ e) in sym w.2
        ∙ fits.tags b w.0 w.1;
    reached = λ b there. rw (bucket_states-pair_slots slots) (fits.reached b (sym (is_full-pair_slots slots b) ∙ there));
  }

  pub Fits-entries : (slots : List (Slot (Entry K V N))) (hash_of : ℕ → ℕ) → Fits (pair_slots slots) hash_of
      → Fits slots hash_of
  Fits-entries slots hash_of fits = record {
    tags = λ b held e. fits.tags b (record { tag = held.tag; entry = pair_of held.entry })
        (bucket_at-pair_slots slots b ∙ ap pair_slot e);
    reached = λ b there. subst (λ states. Reaches states (hash_of b) b) (bucket_states-pair_slots slots)
        (fits.reached b (is_full-pair_slots slots b ∙ there));
  }

  pub Removes-pair_slots : (old new : List (Slot (Entry K V N))) (b : ℕ) → Removes old new b
      → Removes (pair_slots old) (pair_slots new) b
  Removes-pair_slots old new b (inl w) = inl (
    rw (bucket_states-pair_slots old) w.0,
    ap pair_slots w.1
        ∙ pair_slots-set old b empty,
  )
  Removes-pair_slots old new b (inr w) = inr (
    rw (bucket_states-pair_slots old) w.0,
    ap pair_slots w.1
        ∙ pair_slots-set old b deleted,
  )

  refilled_pair : (s : Slot (Entry K V N)) (entry next : Entry K V N) → entry_of s ≡ Some entry → pair_of next
      ≡ pair_of entry → pair_slot (refilled s next) ≡ pair_slot s
  refilled_pair empty entry next e same = refl
  refilled_pair deleted entry next e same = refl
  refilled_pair (full held) entry next e same =
      let is : held.entry ≡ entry = cc in
      let slot_with : K × V → Slot (K × V) = λ p. full (record { tag = held.tag; entry = p }) in
      ap slot_with (same ∙ sym (ap pair_of is))

  refilled_slot : (s : Slot (Entry K V N)) (next : Entry K V N) → pair_slot (refilled s next)
      ≡ refilled (pair_slot s) (pair_of next)
  refilled_slot empty next = refl
  refilled_slot deleted next = refl
  refilled_slot (full held) next = refl

  pub pair_slots-rewritten : (slots : List (Slot (Entry K V N))) (b : ℕ) (next : Entry K V N)
      → pair_slots (set slots b (refilled (bucket_at slots b) next))
      ≡ set (pair_slots slots) b (refilled (bucket_at (pair_slots slots) b) (pair_of next))
  pair_slots-rewritten slots b next =
      pair_slots-set slots b (refilled (bucket_at slots b) next)
      ∙ ap (set (pair_slots slots) b) (refilled_slot (bucket_at slots b) next ∙ ap (λ s. refilled s (pair_of next))
      (sym (bucket_at-pair_slots slots b)))

  pub pair_slots-refilled : (slots : List (Slot (Entry K V N))) (b : ℕ) (entry next : Entry K V N) → entry_at slots b
      ≡ Some entry → pair_of next ≡ pair_of entry
      → pair_slots (set slots b (refilled (bucket_at slots b) next)) ≡ pair_slots slots
  pair_slots-refilled slots b entry next there same = map-set_same pair_slot slots b
      (refilled (bucket_at slots b) next) empty (refilled_pair (bucket_at slots b) entry next there same)
