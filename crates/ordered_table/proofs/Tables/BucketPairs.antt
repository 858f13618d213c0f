use Rattle.std.proofs.Common.{◌≡◌, ℕ, suc, Bool, true, false, List, [], ◌∷◌, ◌++◌, length, Some, None, refl, sym, ap}
use Rattle.std.proofs.Common.{◌∙◌, subst, arith, append-nil, inl, inr}
use Rattle.std.specs.Cmp.{IsEquivalence}
use Rattle.std.specs.Prelude.{Contains, option_to_list}
use Rattle.std.specs.List.{AllByRecursion}
use Rattle.group_table.specs.Bucket.{Slot, empty, deleted, IsFull, bucket_at, entry_at}
use Rattle.group_table.specs.Change.{Removes}
use Rattle.group_table.proofs.SearchLemmas.{entry_by_full, full_by_entry}
use Rattle.std.proofs.lemmas.List.Elements.{Contains-append_left}
use Rattle.lru_model.specs.Lists.{place_of, other_places, front_places, after}
use Rattle.lru_model.specs.Lists.{lookup_entry, without, first, last, without_first, without_last}
use Rattle.ordered_table.specs.OrderedTable.{OrderedTable, IsLinked, entries_in, pairs_of, without_bucket}
use Rattle.lru_model.specs.Lists.{first as first_bucket, last as last_bucket}
use Rattle.lru_model.proofs.PairLists.DistinctKeys.{AreDistinct, NoneNamed, none_found}
use Rattle.ordered_table.proofs.Chains.Orders.{first_in, no_first, last_in, length-without}
use Rattle.lru_model.proofs.PairLists.NamedPairs.{cut_found, cut_without, others_unnamed, last_end}
use Rattle.lru_model.proofs.PairLists.NamedPairs.{without_last_end}
use Rattle.ordered_table.proofs.Tables.OrderCuts.{Cut, cut_at, cut_first, cut_last, cut_without as order_without}
use Rattle.ordered_table.proofs.Tables.OrderCuts.{without_lacks, entries-cut, entries-without, entries-apart}

before_in : {b : ℕ} {order : List ℕ} (cut : Cut b order) (c : ℕ) → Contains cut.before c → Contains order c
before_in {b} cut c w = subst (λ l. Contains l c) (sym cut.whole) (Contains-append_left cut.before (b ∷ cut.after) c w)

module _ {T : Type 0} where
  abbrev pub AreFull : List (Slot T) → List ℕ → Type 0
  AreFull slots = AllByRecursion (λ b. IsFull slots b)

  pub entries-length : (slots : List (Slot T)) (order : List ℕ) → AreFull slots order → length (entries_in slots order)
      ≡ length order
  entries-length slots [] h = refl
  entries-length slots (b ∷ bs) h =
      let e = entry_by_full (bucket_at slots b) h.0 in ap (λ o. length (option_to_list o ++ entries_in slots bs)) e.1
      ∙ ap (λ n. suc n) (entries-length slots bs h.1)

  pub all_full : (slots : List (Slot T)) (order : List ℕ) → ((b : ℕ) → Contains order b → IsFull slots b)
      → AreFull slots order
  all_full slots [] h = tt
  all_full slots (b ∷ bs) h =
      (h b (0, omega arith, refl), all_full slots bs (λ c k. h c (suc k.0, omega (arith, k.1), k.2)))

module _ {K V : Type 0} (slots : List (Slot (K × V))) (names : K → Bool) (p : K × V) (named : names p.0 ≡ true) (b : ℕ)
    (after : List ℕ) where
  place_cut : (before : List ℕ) → AreFull slots before → NoneNamed names (entries_in slots before)
      → place_of names (entries_in slots before ++ p ∷ entries_in slots after) (before ++ b ∷ after) ≡ Some b
  place_cut [] full none = rw named refl
  place_cut (c ∷ cs) full none =
      let e = entry_by_full (bucket_at slots c) full.0 in
      let first = subst (λ o. NoneNamed names (option_to_list o ++ entries_in slots cs)) e.1 none in
      rw e.1 (rw first.0 (place_cut cs full.1 first.1))

  places_cut : (before : List ℕ) → AreFull slots before → NoneNamed names (entries_in slots before)
      → other_places names (entries_in slots before ++ p ∷ entries_in slots after) (before ++ b ∷ after) ≡ before
      ++ after
  places_cut [] full none = rw named refl
  places_cut (c ∷ cs) full none =
      let e = entry_by_full (bucket_at slots c) full.0 in
      let first = subst (λ o. NoneNamed names (option_to_list o ++ entries_in slots cs)) e.1 none in
      rw e.1 (rw first.0 (ap (λ l. c ∷ l) (places_cut cs full.1 first.1)))

module _ {K V : Type 0} (t : OrderedTable K V) (linked : IsLinked t) where
  module _ (b : ℕ) (p : K × V) (there : entry_at t.slots b ≡ Some p) where
    pub cut_here : Cut b t.order
    cut_here = cut_at b t.order linked.distinct (linked.all b (full_by_entry (bucket_at t.slots b) p there))

    module _ (names : K → Bool) {eq : K → K → Bool} (laws : IsEquivalence eq) (one : (x y : K) → names x ≡ true
        → names y ≡ eq x y)
        (distinct : AreDistinct eq (pairs_of t)) (named : names p.0 ≡ true) where
      pub cut_pairs : pairs_of t ≡ entries_in t.slots cut_here.before ++ p ∷ entries_in t.slots cut_here.after
      cut_pairs = entries-cut t.slots cut_here p there

      pub unnamed : NoneNamed names (entries_in t.slots cut_here.before)
      unnamed = others_unnamed names laws one (entries_in t.slots cut_here.before)
          (entries_in t.slots cut_here.after) p named (subst (AreDistinct eq) cut_pairs distinct)

      pub pair_found : lookup_entry names (pairs_of t) ≡ Some p
      pair_found = ap (lookup_entry names) cut_pairs ∙ cut_found names p named (entries_in t.slots cut_here.before)
          (entries_in t.slots cut_here.after) unnamed

      pub place_found : place_of names (pairs_of t) t.order ≡ Some b
      place_found = (λ i. place_of names (cut_pairs i) (cut_here.whole i))
          ∙ place_cut t.slots names p named b cut_here.after cut_here.before
          (all_full t.slots cut_here.before (λ c w. linked.only c (before_in cut_here c w))) unnamed

      pub other_places_are : other_places names (pairs_of t) t.order ≡ without_bucket b t.order
      other_places_are = (λ i. other_places names (cut_pairs i) (cut_here.whole i))
          ∙ places_cut t.slots names p named b cut_here.after cut_here.before
          (all_full t.slots cut_here.before (λ c w. linked.only c (before_in cut_here c w))) unnamed
          ∙ sym (order_without cut_here)

      pub places_are : front_places names (pairs_of t) t.order ≡ b ∷ without_bucket b t.order
      places_are = λ i. after (place_found i) (other_places_are i)

      pub others_are : without names (pairs_of t) ≡ entries_in t.slots (without_bucket b t.order)
      others_are = ap (without names) cut_pairs ∙ cut_without names p named (entries_in t.slots cut_here.before)
          (entries_in t.slots cut_here.after) unnamed
          ∙ sym (entries-without t.slots cut_here p there)

  pub pairs-length : length (pairs_of t) ≡ length t.order
  pairs-length = entries-length t.slots t.order (all_full t.slots t.order linked.only)

  pub shorter : (b : ℕ) → IsFull t.slots b → suc (length (without_bucket b t.order)) ≡ length t.order
  shorter b h = omega (arith, length-without b t.order linked.distinct (linked.all b h))

  pub none_named : (names : K → Bool) → ((b : ℕ) (p : K × V) → entry_at t.slots b ≡ Some p → names p.0 ≡ false)
      → lookup_entry names (pairs_of t) ≡ None
  none_named names h = none_found names (pairs_of t) (go t.order (all_full t.slots t.order linked.only))
    where
      go : (order : List ℕ) → AreFull t.slots order → NoneNamed names (entries_in t.slots order)
      go [] f = tt
      go (b ∷ bs) f = let e = entry_by_full (bucket_at t.slots b) f.0 in
          subst (λ o. NoneNamed names (option_to_list o ++ entries_in t.slots bs)) (sym e.1) (h b e.0 e.1, go bs f.1)

  module _ (b : ℕ) (is_first : first_bucket t.order ≡ Some b) where
    first_cut : (cut : Cut b t.order) × (cut.before ≡ [])
    first_cut = cut_first b t.order linked.distinct is_first

    pub newest_full : IsFull t.slots b
    newest_full = linked.only b (first_in t.order b is_first)

    module _ (p : K × V) (there : entry_at t.slots b ≡ Some p) where
      first_pairs : pairs_of t ≡ p ∷ entries_in t.slots first_cut.0.after
      first_pairs = entries-cut t.slots first_cut.0 p there
          ∙ ap (λ l. entries_in t.slots l ++ p ∷ entries_in t.slots first_cut.0.after) first_cut.1

      pub newest_is : first (pairs_of t) ≡ Some p
      newest_is = ap first first_pairs

      pub others_newest : without_first (pairs_of t) ≡ entries_in t.slots (without_bucket b t.order)
      others_newest = ap without_first first_pairs
          ∙ sym (entries-without t.slots first_cut.0 p there
          ∙ ap (λ l. entries_in t.slots l ++ entries_in t.slots first_cut.0.after) first_cut.1)

  pub none_first : first_bucket t.order ≡ None → pairs_of t ≡ []
  none_first e = ap (entries_in t.slots) (no_first t.order e)

  module _ (b : ℕ) (is_last : last_bucket t.order ≡ Some b) where
    last_cut : (cut : Cut b t.order) × (cut.after ≡ [])
    last_cut = cut_last b t.order linked.distinct is_last

    pub oldest_full : IsFull t.slots b
    oldest_full = linked.only b (last_in t.order b is_last)

    module _ (p : K × V) (there : entry_at t.slots b ≡ Some p) where
      last_pairs : pairs_of t ≡ entries_in t.slots last_cut.0.before ++ p ∷ []
      last_pairs = entries-cut t.slots last_cut.0 p there
          ∙ ap (λ l. entries_in t.slots last_cut.0.before ++ p ∷ entries_in t.slots l) last_cut.1

      pub oldest_is : last (pairs_of t) ≡ Some p
      oldest_is = ap last last_pairs ∙ last_end (entries_in t.slots last_cut.0.before) p

      pub others_oldest : without_last (pairs_of t) ≡ entries_in t.slots (without_bucket b t.order)
      others_oldest = ap without_last last_pairs ∙ without_last_end (entries_in t.slots last_cut.0.before) p
          ∙ sym (entries-without t.slots last_cut.0 p there
          ∙ ap (λ l. entries_in t.slots last_cut.0.before ++ entries_in t.slots l) last_cut.1
          ∙ append-nil (entries_in t.slots last_cut.0.before))

module _ {T : Type 0} (old new : List (Slot T)) (b : ℕ) where
  pub removed-entries : Removes old new b → (order : List ℕ) → entries_in new (without_bucket b order)
      ≡ entries_in old (without_bucket b order)
  removed-entries (inl h) order = ap (λ s. entries_in s (without_bucket b order)) h.1
      ∙ entries-apart old b empty (without_bucket b order) (without_lacks b order)
  removed-entries (inr h) order = ap (λ s. entries_in s (without_bucket b order)) h.1
      ∙ entries-apart old b deleted (without_bucket b order) (without_lacks b order)
