use Rattle.std.proofs.Common.{◌≡◌, ◌≢◌, ℕ, zero, suc, Bool, true, false, List, [], ◌∷◌, ◌++◌, Option, Some, None}
use Rattle.std.proofs.Common.{refl, sym, ap, ◌∙◌, subst, arith, inl, inr}
use Rattle.std.specs.Prelude.{Contains, AllPairs, option_to_list, filter, cond}
use Rattle.std.specs.Cmp.{IsEquivalence}
use Rattle.std.specs.List.{FoldsTo, IsDistinct, AllByRecursion}
use Rattle.std.specs.Borrow.{Bor}
use Rattle.std.specs.Fn.{Mut}
use Rattle.std.proofs.lemmas.List.Elements.{Contains-append_right, Contains-append_cases}
use Rattle.std.proofs.lemmas.Bool.{eqb-true}
use Rattle.group_table.specs.Bucket.{Slot, bucket_at, entry_at, has_tag}
use Rattle.group_table.specs.Probe.{hash_tag}
use Rattle.group_table.specs.Search.{IsSearch}
use Rattle.group_table.proofs.SearchLemmas.{full_by_entry, full_by_tag, held_by, entry_by_full}
use Rattle.lru_model.specs.ByHash.{Refuses, AreCandidates, GivesByHash, GivesNoneByHash}
use Rattle.lru_model.specs.Lists.{keys_of}
use Rattle.ordered_table.specs.OrderedTable.{OrderedTable, IsLinked, KeysFit, hash_in, entries_in, pairs_of}
use Rattle.ordered_table.specs.OrderedTable.{without_bucket}
use Rattle.ordered_table.specs.Searches.{AnswersPair, FindsPair, FindsNoPair}
use Rattle.lru_model.proofs.PairLists.Members.{Contains-here, Contains-later, Contains-cases, Contains-nil}
use Rattle.ordered_table.proofs.Chains.Orders.{distinct_head}
use Rattle.ordered_table.proofs.Chains.Orders.{distinct_tail, in_without}
use Rattle.lru_model.proofs.PairLists.DistinctKeys.{AreDistinct, NoneNamed, all_of, others_unnamed}
use Rattle.ordered_table.proofs.Tables.OrderCuts.{entries-append}
use Rattle.ordered_table.proofs.Tables.BucketPairs.{others_are}
use Rattle.ordered_table.proofs.Tables.KeyHashes.{hash_in-entry}

module _ {T : Type 0} (slots : List (Slot T)) where
  pub entry_in : (bs : List ℕ) (b : ℕ) (x : T) → Contains bs b → entry_at slots b ≡ Some x
      → Contains (entries_in slots bs) x
  entry_in [] b x w e = absurd (Contains-nil b w)
  entry_in (c ∷ cs) b x w e = elim (Contains-cases c b cs w) [
    | inl k ↦
        subst (λ o. Contains (option_to_list o ++ entries_in slots cs) x) (sym (ap (entry_at slots) k ∙ e))
        (zero, omega arith, refl)
    | inr k ↦ Contains-append_right (option_to_list (entry_at slots c)) (entries_in slots cs) x (entry_in cs b x k e)
  ]

  only_entry : (o : Option T) (x : T) → Contains (option_to_list o) x → o ≡ Some x
  only_entry None x w = absurd (omega (arith, w.1))
  only_entry (Some y) x (zero, p, e) = ap (λ z. Some z) e
  only_entry (Some y) x (suc k, p, e) = absurd (omega (arith, p))

  pub bucket_in : (bs : List ℕ) (x : T) → Contains (entries_in slots bs) x → (b : ℕ) × Contains bs b
      × (entry_at slots b ≡ Some x)
  bucket_in [] x w = absurd (omega (arith, w.1))
  bucket_in (c ∷ cs) x w = elim (Contains-append_cases (option_to_list (entry_at slots c)) (entries_in slots cs) x w) [
    | inl k ↦ (c, Contains-here c cs, only_entry (entry_at slots c) x k)
    | inr k ↦ let on = bucket_in cs x k in (on.0, Contains-later c on.0 cs on.1, on.2)
  ]

kept_pass : (p : ℕ → Bool) (bs : List ℕ) (b : ℕ) → Contains (filter p bs) b → p b ≡ true
kept_pass p [] b w = absurd (Contains-nil b w)
kept_pass p (c ∷ cs) b w = go (p c) refl w (λ k. kept_pass p cs b k)
  where
    go : (y : Bool) → p c ≡ y → Contains (cond y (c ∷ filter p cs) (filter p cs)) b
        → (Contains (filter p cs) b → p b ≡ true) → p b ≡ true
    go true e v on = elim (Contains-cases c b (filter p cs) v) [
      | inl k ↦ ap p (sym k) ∙ e
      | inr k ↦ on k
    ]
    go false e v on = on v

module _ {K V : Type 0} (t : OrderedTable K V) (linked : IsLinked t) {eq : K → K → Bool} (laws : IsEquivalence eq)
    (distinct : AreDistinct eq (pairs_of t)) (hash_of : K → ℕ) (fits : KeysFit hash_of t.slots) (hash : ℕ) where
  pub apart : (b c : ℕ) (p q : K × V) → entry_at t.slots b ≡ Some p → entry_at t.slots c ≡ Some q → c ≢ b → eq p.0 q.0
      ≡ false
  apart b c p q there also other =
      let one : (x y : K) → eq p.0 x ≡ true → eq p.0 y ≡ eq x y = λ x y h. laws.congr p.0 x y h in
      let unnamed = others_unnamed eq (eq p.0) one (pairs_of t) distinct in
      let rest = others_are t linked b p there (eq p.0) laws one distinct (laws.refl p.0) in
      let in_rest = in_without b c t.order (linked.all c (full_by_entry (bucket_at t.slots c) q also)) other in
      all_of (λ k. eq p.0 k ≡ false) (entries_in t.slots (without_bucket b t.order)) q
      (subst (NoneNamed (eq p.0)) rest unnamed)
      (entry_in t.slots (without_bucket b t.order) c q in_rest also)

  module _ (asked : List ℕ) (search : IsSearch t.slots hash asked) where
    tagged : (b : ℕ) → Contains asked b → has_tag (hash_tag hash) (bucket_at t.slots b) ≡ true
    tagged b w = kept_pass (λ c. has_tag (hash_tag hash) (bucket_at t.slots c)) _ b
        (subst (λ l. Contains l b) search.in_order w)

    distinct_in : (bs : List ℕ) → AllPairs ◌≢◌ bs → ((b : ℕ) → Contains bs b → Contains asked b)
        → AreDistinct eq (entries_in t.slots bs)
    unfolding IsDistinct
    distinct_in [] d w = tt
    distinct_in (b ∷ bs) d w =
        let there = entry_by_full (bucket_at t.slots b)
        (full_by_tag (bucket_at t.slots b) (hash_tag hash) (tagged b (w b (Contains-here b bs)))) in
        subst (λ o. AreDistinct eq (option_to_list o ++ entries_in t.slots bs)) (sym there.1) (
          others bs there.0 b there.1 (λ c k same. distinct_head b bs d (subst (Contains bs) same k)),
          distinct_in bs (distinct_tail b bs d) (λ c k. w c (Contains-later b c bs k)),
        )
      where
        others : (cs : List ℕ) (p : K × V) (b : ℕ) → entry_at t.slots b ≡ Some p → ((c : ℕ) → Contains cs c → c ≢ b)
            → AllByRecursion (λ k. eq p.0 k ≡ false) (keys_of (entries_in t.slots cs))
        others [] p b e other = tt
        others (c ∷ cs) p b e other = go (entry_at t.slots c) refl
            (others cs p b e (λ x k. other x (Contains-later c x cs k)))
          where
            go : (o : Option (K × V)) → entry_at t.slots c ≡ o → AllByRecursion (λ k. eq p.0 k ≡ false)
                (keys_of (entries_in t.slots cs))
                → AllByRecursion (λ k. eq p.0 k ≡ false) (keys_of (option_to_list o ++ entries_in t.slots cs))
            go None f r = r
            go (Some q) f r = (apart b c p q e f (other c (Contains-here c cs)), r)

    same_tag : (p : K × V) (b : ℕ) → entry_at t.slots b ≡ Some p → has_tag (hash_tag hash) (bucket_at t.slots b) ≡ true
        → hash_tag (hash_of p.0) ≡ hash_tag hash
    same_tag p b there has =
        let held = held_by (bucket_at t.slots b) (full_by_tag (bucket_at t.slots b) (hash_tag hash) has) in
        let tag : held.0.tag ≡ hash_tag hash = eqb-true _ _ (sym (ap (has_tag (hash_tag hash)) held.1) ∙ has) in
        ap hash_tag (sym (hash_in-entry hash_of t.slots b p there)) ∙ sym (fits.tags b held.0 held.1) ∙ tag

    pub are_candidates : AreCandidates eq hash_of (pairs_of t) hash (entries_in t.slots asked)
    are_candidates = record {
      distinct = distinct_in asked search.distinct (λ b w. w);
      there = λ pair w. let at = bucket_in t.slots asked pair w in
          entry_in t.slots t.order at.0 pair (linked.all at.0 (full_by_entry (bucket_at t.slots at.0) pair at.2)) at.2;
      tags = λ pair w. let at = bucket_in t.slots asked pair w in same_tag pair at.0 at.2 (tagged at.0 at.1);
    }

  module _ {F : Type 0} (closure : Mut F (Bor K × (Bor V × Unit {0})) Bool) where
    refused_pairs : (asked : List ℕ) (f g : F) → FoldsTo (λ p c q. AnswersPair closure t.slots p c false q) f asked g
        → Refuses closure f (entries_in t.slots asked) g
    refused_pairs [] f g h = h
    refused_pairs (b ∷ asked) f g h =
        subst (λ o. Refuses closure f (option_to_list o ++ entries_in t.slots asked) g) (sym h.1.there)
        (h.0, h.1.asked, refused_pairs asked h.0 g h.2)

    pub gives_by_hash : (f : F) (b : ℕ) → (found : FindsPair closure t.slots hash f b)
        → GivesByHash eq hash_of (pairs_of t) hash closure f found.accepted.pair
    gives_by_hash f b found =
        let whole : entries_in t.slots (found.before ++ b ∷ []) ≡ entries_in t.slots found.before
        ++ found.accepted.pair ∷ [] =
        entries-append t.slots found.before (b ∷ [])
        ∙ ap (λ o. entries_in t.slots found.before ++ (option_to_list o ++ [])) found.accepted.there in
        record {
          before = entries_in t.slots found.before;
          candidates = subst (AreCandidates eq hash_of (pairs_of t) hash) whole
              (are_candidates (found.before ++ b ∷ []) found.search);
          between = found.between;
          refused = refused_pairs found.before f found.between found.refused;
          last = found.last;
          accepted = found.accepted.asked;
        }

    pub gives_none_by_hash : (f : F) → FindsNoPair closure t.slots hash f
        → GivesNoneByHash eq hash_of (pairs_of t) hash closure f
    gives_none_by_hash f none = record {
      asked = entries_in t.slots none.asked;
      candidates = are_candidates none.asked none.search;
      last = none.last;
      refused = refused_pairs none.asked f none.last none.refused;
      complete = λ pair w same. let at = bucket_in t.slots t.order pair w in
          entry_in t.slots none.asked at.0 pair
          (none.complete (λ c. hash_in hash_of t.slots c) fits at.0
          (full_by_entry (bucket_at t.slots at.0) pair at.2)
          (hash_in-entry hash_of t.slots at.0 pair at.2 ∙ same)) at.2;
    }
