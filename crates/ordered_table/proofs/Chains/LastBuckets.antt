use Rattle.std.proofs.Common.{◌≡◌, ◌≢◌, ℕ, ◌<◌, cond, List, [], ◌∷◌, ◌++◌, length, Option, Some, None, ◌⊎◌, inl}
use Rattle.std.proofs.Common.{inr}
use Rattle.std.proofs.Common.{refl, ap, sym, ◌∙◌, subst, arith, eq-eqb, ne_eqb}
use Rattle.std.specs.Prelude.{nat_eq, Contains, AllPairs}
use Rattle.std.proofs.lemmas.Bool.{cases_eq}
use Rattle.std.proofs.lemmas.Option.{none-some, same_Some}
use Rattle.std.proofs.lemmas.List.{length_push}
use Rattle.std.proofs.lemmas.List.Elements.{Contains-push, Contains-push_cases, Contains-append_left, Contains-get_or}
use Rattle.std.proofs.lemmas.List.Quantifiers.{all_pairs_push}
use Rattle.group_table.specs.Link.{IsLinkType}
use Rattle.group_table.specs.Bucket.{Slot, IsFull, entry_at}
use Rattle.ordered_table.specs.declared.linked.Entry.{Entry}
use Rattle.ordered_table.specs.OrderedTable.{without_bucket}
use Rattle.lru_model.specs.Lists.{first as first_bucket, last as last_bucket}
use Rattle.ordered_table.specs.Chain.{link_to, newer_at}
use Rattle.ordered_table.specs.OrderedTable.{bucket_after, bucket_before}
use Rattle.ordered_table.specs.Chain.{older_at, SetsOlder, IsChain, IsWhole, pair_slots}
use Rattle.lru_model.proofs.PairLists.Members.{Contains-cases, Contains-later, Contains-nil}
use Rattle.ordered_table.proofs.Chains.Orders.{distinct_head}
use Rattle.ordered_table.proofs.Chains.Orders.{distinct_tail, before_from, last_from, before_is, last_is, last_in, after_in}
use Rattle.ordered_table.proofs.Chains.Orders.{in_without, length-without}
use Rattle.ordered_table.proofs.Chains.LinkWrites.{chained_below, bucket_by_link, number-link_to, leads_to_full}
use Rattle.ordered_table.proofs.Chains.LinkWrites.{end_by_link}
use Rattle.ordered_table.proofs.Chains.LinkWrites.{older_link}
use Rattle.ordered_table.proofs.Tables.PairSlots.{same_length, same_full, same_count}

module _ (b : ℕ) where
  pub last-comes : (order : List ℕ) → last_bucket (order ++ b ∷ []) ≡ Some b
  last-comes [] = refl
  last-comes (c ∷ []) = refl
  last-comes (c ∷ d ∷ ds) = last-comes (d ∷ ds)

  pub first-comes : (order : List ℕ) (x : ℕ) → last_bucket order ≡ Some x
      → first_bucket (order ++ b ∷ []) ≡ first_bucket order
  first-comes [] x e = absurd (none-some x e)
  first-comes (c ∷ cs) x e = refl

  module _ (order : List ℕ) (absent : Contains order b → ⊥) where
    pub distinct-comes : AllPairs ◌≢◌ order → AllPairs ◌≢◌ (order ++ b ∷ [])
    distinct-comes d = all_pairs_push ◌≢◌ order b d
        (λ k e p same. absent (subst (Contains order) same (Contains-get_or order k e p)))

  pub after-comes : (order : List ℕ) → (Contains order b → ⊥) → bucket_after b (order ++ b ∷ []) ≡ None
  after-comes [] absent = rw (eq-eqb b b refl) refl
  after-comes (c ∷ cs) absent =
      rw (ne_eqb c b (λ e. absent (0, omega arith, e)))
      (after-comes cs (λ w. absent (Contains-later c b cs w)))

  module _ (x : ℕ) where
    pub after-last_comes : (order : List ℕ) → AllPairs ◌≢◌ order → last_bucket order ≡ Some x
        → bucket_after x (order ++ b ∷ []) ≡ Some b
    after-last_comes [] d e = absurd (none-some x e)
    after-last_comes (c ∷ []) d e = rw (eq-eqb c x (same_Some c x e)) refl
    after-last_comes (c ∷ n ∷ ns) d e =
        rw (ne_eqb c x (λ same. distinct_head c (n ∷ ns) d
        (subst (Contains (n ∷ ns)) (sym same) (last_in (n ∷ ns) x e))))
        (after-last_comes (n ∷ ns) (distinct_tail c (n ∷ ns) d) e)

    pub after-other_comes : (order : List ℕ) → Contains order x → (last_bucket order ≡ Some x → ⊥)
        → bucket_after x (order ++ b ∷ []) ≡ bucket_after x order
    after-other_comes [] there p = absurd (Contains-nil x there)
    after-other_comes (c ∷ []) there p = elim (Contains-cases c x [] there) [
      | inl h ↦ absurd (p (ap Some h))
      | inr h ↦ absurd (Contains-nil x h)
    ]
    after-other_comes (c ∷ n ∷ ns) there p = elim (cases_eq c x) [
      | inl h ↦ rw (eq-eqb c x h) refl
      | inr h ↦ elim (Contains-cases c x (n ∷ ns) there) [
        | inl k ↦ absurd (h k)
        | inr k ↦ rw (ne_eqb c x h) (after-other_comes (n ∷ ns) k p)
      ]
    ]

    before_from-comes : (prev : Option ℕ) (order : List ℕ) → b ≢ x
        → before_from prev x (order ++ b ∷ []) ≡ before_from prev x order
    before_from-comes prev [] other = rw (ne_eqb b x other) refl
    before_from-comes prev (c ∷ cs) other = ap (cond (nat_eq c x) prev) (before_from-comes (Some c) cs other)

  before_from-itself : (prev : Option ℕ) (order : List ℕ) → (Contains order b → ⊥)
      → before_from prev b (order ++ b ∷ []) ≡ last_from prev order
  before_from-itself prev [] absent = rw (eq-eqb b b refl) refl
  before_from-itself prev (c ∷ cs) absent =
      rw (ne_eqb c b (λ e. absent (0, omega arith, e)))
      (before_from-itself (Some c) cs (λ w. absent (Contains-later c b cs w)))

  module _ (order : List ℕ) (absent : Contains order b → ⊥) (d : AllPairs ◌≢◌ order) where
    pub before-comes : bucket_before b (order ++ b ∷ []) ≡ last_bucket order
    before-comes = before_is b (order ++ b ∷ []) (distinct-comes order absent d)
        ∙ before_from-itself None order absent ∙ sym (last_is order)

    pub before-other_comes : (x : ℕ) → Contains order x → bucket_before x (order ++ b ∷ []) ≡ bucket_before x order
    before-other_comes x there = before_is x (order ++ b ∷ []) (distinct-comes order absent d)
        ∙ before_from-comes x None order (λ e. absent (subst (Contains order) (sym e) there))
        ∙ sym (before_is x order d)

pub oldest_again : (b : ℕ) (order : List ℕ) → AllPairs ◌≢◌ order → Contains order b → bucket_after b order ≡ None
    → order ≡ without_bucket b order ++ b ∷ []
oldest_again b [] d there e = absurd (Contains-nil b there)
oldest_again b (c ∷ []) d there e = elim (Contains-cases c b [] there) [
  | inl h ↦ rw (eq-eqb c b h) (ap (λ y. y ∷ []) h)
  | inr h ↦ absurd (Contains-nil b h)
]
oldest_again b (c ∷ n ∷ ns) d there e = elim (cases_eq c b) [
  | inl h ↦ absurd (none-some n (sym (rw (eq-eqb c b h) at e)))
  | inr h ↦
      let e' : bucket_after b (n ∷ ns) ≡ None = rw (ne_eqb c b h) at e in
      elim (Contains-cases c b (n ∷ ns) there) [
        | inl k ↦ absurd (h k)
        | inr k ↦ rw (ne_eqb c b h)
            (ap (λ xs. c ∷ xs) (oldest_again b (n ∷ ns) (distinct_tail c (n ∷ ns) d) k e'))
      ]
]

no_last : (order : List ℕ) → last_bucket order ≡ None → order ≡ []
no_last [] e = refl
no_last (c ∷ []) e = absurd (none-some c (sym e))
no_last (c ∷ n ∷ ns) e = absurd (omega (arith, ap length (no_last (n ∷ ns) e)))

after-alone : (b : ℕ) (order : List ℕ) → AllPairs ◌≢◌ order → Contains order b
    → last_bucket (without_bucket b order) ≡ None → bucket_after b order ≡ None
after-alone b [] d there e = refl
after-alone b (c ∷ []) d there e = elim (cases_eq c b) [
  | inl h ↦ rw (eq-eqb c b h) refl
  | inr h ↦ rw (ne_eqb c b h) refl
]
after-alone b (c ∷ x ∷ xs) d there e = absurd
    (omega (arith, length-without b (c ∷ x ∷ xs) d there, ap length (no_last (without_bucket b (c ∷ x ∷ xs)) e)))

module _ {N : Type 0} {number : N → ℕ} {link : ℕ → N} {none : N}
    (laws : IsLinkType number link none) {K V : Type 0} where
  module _ {slots : List (Slot (Entry K V N))} {newest oldest : N} {order : List ℕ}
      (chain : IsChain number link none slots newest oldest order) where
    last_below : (y : ℕ) → last_bucket order ≡ Some y → y < number none
    last_below y e = chained_below chain y (last_in order y e)

    pub oldest_leads : (oldest ≡ none) ⊎ IsFull slots (number oldest)
    oldest_leads = rw chain.oldest_last
        (leads_to_full laws slots chain.reached (last_bucket order) (λ y e. chain.only y (last_in order y e)))

  module _ {s0 s1 : List (Slot (Entry K V N))} {newest oldest : N} (b : ℕ) {order : List ℕ}
      (chain : IsChain number link none s0 newest oldest order) (absent : Contains order b → ⊥) (full : IsFull s0 b)
      (newer : newer_at s0 b ≡ Some oldest) (older : older_at s0 b ≡ Some none)
      (some : oldest ≢ none) (last : SetsOlder number s0 s1 oldest (link b)) where
    last_is_there : (y : ℕ) × (last_bucket order ≡ Some y)
    last_is_there = go (last_bucket order) refl
      where
        go : (o : Option ℕ) → last_bucket order ≡ o → (y : ℕ) × (last_bucket order ≡ Some y)
        go None e = absurd (some (chain.oldest_last ∙ ap (link_to link none) e))
        go (Some y) e = (y, e)

    abbrev was : ℕ
    was = last_is_there.0

    was_last : last_bucket order ≡ Some was
    was_last = last_is_there.1

    is_was : number oldest ≡ was
    is_was = ap number chain.oldest_last ∙ number-link_to laws (last_bucket order) was was_last
        (last_below chain was was_last)

    apart : b ≢ number oldest
    apart h = absent (subst (Contains order) (sym (h ∙ is_was)) (last_in order was was_last))

    come_older : (x : ℕ) → Contains order x → older_at s1 x ≡ Some
        (link_to link none (bucket_after x (order ++ b ∷ [])))
    come_older x there = elim (cases_eq x (number oldest)) [
      | inl h ↦
          let is : last_bucket order ≡ Some x = bucket_by_link laws (last_bucket order) x (last_below chain)
          (chained_below chain x there) (h ∙ ap number chain.oldest_last) in
          subst (λ k. older_at s1 k ≡ Some (link b)) (sym h)
          (last.there (subst (IsFull s0) h (chain.only x there)))
          ∙ ap (λ o. Some (link_to link none o)) (sym (after-last_comes b x order chain.distinct is))
      | inr h ↦
          let later = after-other_comes b x order there
          (λ e. h (sym (ap number chain.oldest_last ∙ number-link_to laws (last_bucket order) x e
          (chained_below chain x there)))) in
          last.others x h ∙ chain.older x there ∙ ap (λ o. Some (link_to link none o)) (sym later)
    ]

    pub IsChain-linked_last : IsChain number link none s1 newest (link b) (order ++ b ∷ [])
    IsChain-linked_last = record {
      reached = omega (arith, same_length s0 s1 last.pairs, chain.reached);
      distinct = distinct-comes b order absent chain.distinct;
      only = λ x w. same_full s0 s1 last.pairs x
          ∙ elim (Contains-push_cases order b x w) [
            | inl there ↦ chain.only x there
            | inr h ↦ subst (IsFull s0) h full
          ];
      newest_first = chain.newest_first ∙ ap (link_to link none) (sym (first-comes b order was was_last));
      oldest_last = ap (link_to link none) (sym (last-comes b order));
      newer = λ x w. elim (Contains-push_cases order b x w) [
        | inl there ↦ last.stays x ∙ chain.newer x there
            ∙ ap (λ o. Some (link_to link none o)) (sym (before-other_comes b order absent chain.distinct x there))
        | inr h ↦ subst (λ k. newer_at s1 k ≡ Some (link_to link none (bucket_before k (order ++ b ∷ [])))) h
            (last.stays b ∙ newer ∙ ap Some chain.oldest_last ∙ ap (λ o. Some (link_to link none o))
            (sym (before-comes b order absent chain.distinct)))
      ];
      older = λ x w. elim (Contains-push_cases order b x w) [
        | inl there ↦ come_older x there
        | inr h ↦ subst (λ k. older_at s1 k ≡ Some (link_to link none (bucket_after k (order ++ b ∷ [])))) h
            (last.others b apart ∙ older ∙ ap (λ o. Some (link_to link none o)) (sym (after-comes b order absent)))
      ];
    }

  module _ {slots : List (Slot (Entry K V N))} {newest oldest : N} {order : List ℕ}
      (whole : IsWhole number link none slots newest oldest order) (b : ℕ) (there : Contains order b) where
    module _ (entry : Entry K V N) (is : entry_at slots b ≡ Some entry) where
      pub oldest_already : entry.older ≡ none → order ≡ without_bucket b order ++ b ∷ []
      oldest_already e = oldest_again b order whole.chain.distinct there (end_by_link laws (bucket_after b order)
          (λ y k. chained_below whole.chain y (after_in b y order k))
          (sym (older_link laws whole.chain b there entry is) ∙ e))

      pub oldest_left : {slots' : List (Slot (Entry K V N))} {newest' oldest' : N} → entry.older ≢ none
          → IsChain number link none slots' newest' oldest' (without_bucket b order) → oldest' ≢ none
      oldest_left older left e =
          let alone = end_by_link laws (last_bucket (without_bucket b order))
          (λ y k. chained_below left y (last_in (without_bucket b order) y k)) (sym left.oldest_last ∙ e) in
          older (older_link laws whole.chain b there entry is
          ∙ ap (link_to link none) (after-alone b order whole.chain.distinct there alone))

    pub IsWhole-demoted : {s2 : List (Slot (Entry K V N))} {newest' oldest' : N} → pair_slots s2 ≡ pair_slots slots
        → IsChain number link none s2 newest' oldest' (without_bucket b order ++ b ∷ [])
        → IsWhole number link none s2 newest' oldest' (without_bucket b order ++ b ∷ [])
    IsWhole-demoted {s2} same chain = record {
      chain = chain;
      all = λ x full. elim (cases_eq x b) [
        | inl h ↦ subst (Contains (without_bucket b order ++ b ∷ [])) (sym h) (Contains-push (without_bucket b order) b)
        | inr h ↦ Contains-append_left (without_bucket b order) (b ∷ []) x
            (in_without b x order (whole.all x (sym (same_full slots s2 same x) ∙ full)) h)
      ];
      count = omega (
        arith,
        same_count slots s2 same,
        whole.count,
        length-without b order whole.chain.distinct there,
        length_push (without_bucket b order) b,
      );
    }
