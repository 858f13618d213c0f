use Rattle.std.proofs.Common.{◌≡◌, ◌≢◌, ℕ, Bool, true, false, cond, List, [], ◌∷◌, ◌++◌, Some, refl, sym, ap, ◌∙◌, subst}
use Rattle.std.proofs.Common.{◌⊎◌, inl, eq-eqb, ne_eqb}
use Rattle.std.specs.Prelude.{option_to_list, Contains, AllPairs}
use Rattle.std.specs.Cmp.{IsEquivalence}
use Rattle.std.specs.Map.{set_value}
use Rattle.std.specs.List.{IsDistinct}
use Rattle.std.proofs.lemmas.Map.{keys-set_value}
use Rattle.std.proofs.lemmas.Option.{none-some, same_Some}
use Rattle.group_table.specs.Bucket.{IsFull, bucket_at, entry_at, refilled}
use Rattle.group_table.proofs.RefillLemmas.{entry_at-refilled, bucket_states-refilled}
use Rattle.group_table.proofs.SearchLemmas.{full_by_entry}
use Rattle.lru_model.specs.Lists.{keys_of, set_entry, place_of}
use Rattle.ordered_table.specs.OrderedTable.{OrderedTable, IsLinked, KeysFit, pairs_of, entries_in, without_bucket}
use Rattle.ordered_table.specs.OrderedTable.{with_pair}
use Rattle.schnellru.specs.Inside.Fields.{Fields}
use Rattle.schnellru.specs.Inside.Holds.{state_of, Holds}
use Rattle.schnellru.specs.Lending.Values.{set_value_in}
use Rattle.lru_model.specs.Calls.{written}
use Rattle.ordered_table.proofs.Tables.OrderCuts.{without_lacks, entries-apart, entries-cut}
use Rattle.lru_model.proofs.PairLists.DistinctKeys.{AreDistinct, NoneNamed}
use Rattle.lru_model.proofs.PairLists.Members.{Contains-here, Contains-later}
use Rattle.ordered_table.proofs.Chains.Orders.{distinct_head, distinct_tail}
use Rattle.ordered_table.proofs.Tables.BucketPairs.{cut_here, cut_pairs, unnamed}
use Rattle.schnellru.proofs.Maps.HeldMaps.{alike_holds}

module _ {K V : Type 0} (t : OrderedTable K V) (b : ℕ) (q : K × V) where
  pub written_first : IsFull t.slots b → (order : List ℕ) → entries_in (with_pair t b q).slots
      (b ∷ without_bucket b order) ≡ q ∷ entries_in t.slots (without_bucket b order)
  written_first h order =
      ap (λ o. option_to_list o ++ entries_in (with_pair t b q).slots (without_bucket b order))
      (entry_at-refilled t.slots b q h)
      ∙ ap (λ l. q ∷ l) (entries-apart t.slots b (refilled (bucket_at t.slots b) q) (without_bucket b order)
      (without_lacks b order))

module _ {K V : Type 0} (names : K → Bool) (p : K × V) (named : names p.0 ≡ true) where
  set_end : (q : K × V) (xs ys : List (K × V)) → NoneNamed names xs → set_entry names q (xs ++ p ∷ ys) ≡ xs ++ q ∷ ys
  set_end q [] ys h = ap (λ y. cond y (q ∷ ys) (p ∷ set_entry names q ys)) named
  set_end q (x ∷ xs) ys h = ap (λ y. cond y (q ∷ (xs ++ p ∷ ys)) (x ∷ set_entry names q (xs ++ p ∷ ys))) h.0
      ∙ ap (λ l. x ∷ l) (set_end q xs ys h.1)

  value_end : (w : V) (xs ys : List (K × V)) → NoneNamed names xs → set_value names (xs ++ p ∷ ys) w
      ≡ xs ++ (p.0, w) ∷ ys
  value_end w [] ys h = ap (λ y. cond y ((p.0, w) ∷ ys) (p ∷ set_value names ys w)) named
  value_end w (x ∷ xs) ys h = ap
      (λ y. cond y ((x.0, w) ∷ (xs ++ p ∷ ys)) (x ∷ set_value names (xs ++ p ∷ ys) w)) h.0
      ∙ ap (λ l. x ∷ l) (value_end w xs ys h.1)

module _ {K V : Type 0} (names : K → Bool) where
  place_there : (pairs : List (K × V)) (places : List ℕ) (b : ℕ) → place_of names pairs places ≡ Some b
      → Contains places b
  place_there [] places b at = absurd (none-some b at)
  place_there (p ∷ ps) [] b at = absurd (none-some b at)
  place_there (p ∷ ps) (c ∷ cs) b at = go (λ e. place_there ps cs b e) (names p.0) refl
    where
      go : (place_of names ps cs ≡ Some b → Contains cs b) → (y : Bool) → names p.0 ≡ y → Contains (c ∷ cs) b
      go later true is = subst (Contains (c ∷ cs))
          (same_Some c b (ap (λ y. cond y (Some c) (place_of names ps cs)) (sym is) ∙ at)) (Contains-here c cs)
      go later false is = Contains-later c b cs
          (later (ap (λ y. cond y (Some c) (place_of names ps cs)) (sym is) ∙ at))

  pub written_there : (w : V) (pairs : List (K × V)) (places : List ℕ) (b : ℕ) → AllPairs ◌≢◌ places
      → place_of names pairs places ≡ Some b → set_value_in b w pairs places ≡ set_value names pairs w
  written_there w [] places b distinct at = refl
  written_there w (p ∷ ps) [] b distinct at = absurd (none-some b at)
  written_there w (p ∷ ps) (c ∷ cs) b distinct at =
      go (λ e. written_there w ps cs b (distinct_tail c cs distinct) e) (names p.0) refl
    where
      go : (place_of names ps cs ≡ Some b → set_value_in b w ps cs ≡ set_value names ps w)
          → (y : Bool) → names p.0 ≡ y → set_value_in b w (p ∷ ps) (c ∷ cs) ≡ set_value names (p ∷ ps) w
      go later true is =
          ap (λ y. cond y ((p.0, w) ∷ ps) (p ∷ set_value_in b w ps cs))
          (eq-eqb c b (same_Some c b (ap (λ y. cond y (Some c) (place_of names ps cs)) (sym is) ∙ at)))
          ∙ sym (ap (λ y. cond y ((p.0, w) ∷ ps) (p ∷ set_value names ps w)) is)
      go later false is =
          let rest = ap (λ y. cond y (Some c) (place_of names ps cs)) (sym is) ∙ at in
          ap (λ y. cond y ((p.0, w) ∷ ps) (p ∷ set_value_in b w ps cs))
          (ne_eqb c b (λ same. distinct_head c cs distinct
          (subst (Contains cs) (sym same) (place_there ps cs b rest))))
          ∙ ap (λ l. p ∷ l) (later rest)
          ∙ sym (ap (λ y. cond y ((p.0, w) ∷ ps) (p ∷ set_value names ps w)) is)

module _ {K V : Type 0} (t : OrderedTable K V) (linked : IsLinked t) (b : ℕ) (p : K × V)
    (there : entry_at t.slots b ≡ Some p)
    (names : K → Bool) {eq : K → K → Bool} (laws : IsEquivalence eq) (one : (x y : K) → names x ≡ true → names y
    ≡ eq x y) (named : names p.0 ≡ true)
    (distinct : AreDistinct eq (pairs_of t)) where
  cut_set : (q : K × V) → pairs_of (with_pair t b q)
      ≡ entries_in t.slots (cut_here t linked b p there).before ++ q ∷ entries_in t.slots
      (cut_here t linked b p there).after
  cut_set q = let cut = cut_here t linked b p there in let s = refilled (bucket_at t.slots b) q in
      entries-cut (with_pair t b q).slots cut q
      (entry_at-refilled t.slots b q (full_by_entry (bucket_at t.slots b) p there))
      ∙ (λ i. entries-apart t.slots b s cut.before cut.none_before i ++ q
      ∷ entries-apart t.slots b s cut.after cut.none_after i)

  pub set_pairs : (q : K × V) → pairs_of (with_pair t b q) ≡ set_entry names q (pairs_of t)
  set_pairs q = cut_set q
      ∙ sym (ap (set_entry names q) (cut_pairs t linked b p there names laws one distinct named)
      ∙ set_end names p named q _ _ (unnamed t linked b p there names laws one distinct named))

  pub kept_pairs : (w : V) → pairs_of (with_pair t b (p.0, w)) ≡ set_value names (pairs_of t) w
  kept_pairs w = cut_set (p.0, w)
      ∙ sym (ap (λ l. set_value names l w) (cut_pairs t linked b p there names laws one distinct named)
      ∙ value_end names p named w _ _ (unnamed t linked b p there names laws one distinct named))

  module _ {S H : Type 0} (fields : Fields S H) (w : V) where
    pub kept_state : state_of (with_pair t b (p.0, w)) fields ≡ written names w (state_of t fields)
    kept_state = λ i. record (state_of (with_pair t b (p.0, w)) fields) {
      pairs = kept_pairs w i;
      table = record { states = bucket_states-refilled t.slots b (p.0, w) i; places = t.order };
    }

    pub kept_holds : (hash_of : H → K → ℕ) → Holds eq hash_of t fields → IsLinked (with_pair t b (p.0, w))
        → KeysFit (hash_of fields.hasher) (with_pair t b (p.0, w)).slots
        → Holds eq hash_of (with_pair t b (p.0, w)) fields
    kept_holds hash_of holds next fits =
        alike_holds fields eq hash_of t (with_pair t b (p.0, w)) (λ i. t.insertions) holds next fits
        (bucket_states-refilled t.slots b (p.0, w))
        (subst (IsDistinct eq) (sym (ap keys_of (kept_pairs w) ∙ keys-set_value names (pairs_of t) w)) distinct)

pub same_follow : {N W M E : Type 0} (n : N) (f g : W → M) → ((w : W) → f w ≡ g w)
    → ◌≡◌ {A = (N × (W → M)) ⊎ E} (inl (n, f)) (inl (n, g))
same_follow n f g h = λ i. inl (n, λ w. h w i)
