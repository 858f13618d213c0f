use Rattle.std.proofs.Common.{◌≡◌, ◌≢◌, ℕ, ◌<◌, List, [], ◌∷◌, length, set, Option, Some, None, ◌⊎◌, inl, inr}
use Rattle.std.proofs.Common.{refl, ap, sym, ◌∙◌, subst, arith}
use Rattle.std.specs.Prelude.{option_map, Contains}
use Rattle.std.proofs.lemmas.Bool.{cases_eq}
use Rattle.std.proofs.lemmas.Option.{same_Some}
use Rattle.group_table.specs.Link.{IsLinkType, link_below}
use Rattle.group_table.specs.Bucket.{Slot, bucket_at, is_full, IsFull, entry_at, entry_of, refilled}
use Rattle.group_table.specs.Change.{Removes}
use Rattle.group_table.proofs.BucketLemmas.{full_lt}
use Rattle.group_table.proofs.RefillLemmas.{entry_at-refilled, entry_at-refilled_other}
use Rattle.group_table.proofs.SearchLemmas.{full_by_entry}
use Rattle.group_table.proofs.ChangeLemmas.{length-removed, bucket_at-removed_other}
use Rattle.ordered_table.specs.declared.linked.Entry.{Entry}
use Rattle.ordered_table.specs.OrderedTable.{without_bucket}
use Rattle.lru_model.specs.Lists.{first as first_bucket, last as last_bucket}
use Rattle.ordered_table.specs.Chain.{link_to, newer_at}
use Rattle.ordered_table.specs.OrderedTable.{bucket_after, bucket_before}
use Rattle.ordered_table.specs.Chain.{older_at, SetsLinks, SetsLink, SetsNewer, SetsOlder, SetsEnd, IsChain}
use Rattle.ordered_table.specs.Chain.{IsGap, pair_slots}
use Rattle.lru_model.proofs.PairLists.Members.{Contains-cases}
use Rattle.ordered_table.proofs.Chains.Orders.{other_than, after_in, before_in, first_in, without_in}
use Rattle.ordered_table.proofs.Chains.Orders.{after_other, before_other}
use Rattle.ordered_table.proofs.Chains.Orders.{distinct_without, distinct_cons}
use Rattle.ordered_table.proofs.Chains.Neighbours.{before-next, before-stays, after-previous, after-stays, first-left}
use Rattle.ordered_table.proofs.Chains.Neighbours.{first-left_stays, last-left}
use Rattle.ordered_table.proofs.Chains.Neighbours.{last-left_stays, before-itself, after-itself, before-first, before-later}
use Rattle.ordered_table.proofs.Chains.Neighbours.{after-later}
use Rattle.ordered_table.proofs.Tables.PairSlots.{same_length, same_full, pair_slots-refilled}

pub chained_below : {K V N : Type 0} {number : N → ℕ} {link : ℕ → N} {none : N} {slots : List (Slot (Entry K V N))}
    {newest oldest : N} {order : List ℕ}
    → IsChain number link none slots newest oldest order → (x : ℕ) → Contains order x → x < number none
chained_below {slots = slots} chain x there = omega (arith, full_lt slots x (chain.only x there), chain.reached)

module _ {K V N : Type 0} (slots : List (Slot (Entry K V N))) (b : ℕ) (entry : Entry K V N) (there : entry_at slots b
    ≡ Some entry) where
  pub SetsLinks-written : (newer older : N)
      → SetsLinks slots (set slots b
      (refilled (bucket_at slots b) (record { key = entry.key; value = entry.value; newer = newer; older = older }))) b newer older
  SetsLinks-written newer older =
      let next : Entry K V N = record { key = entry.key; value = entry.value; newer = newer; older = older } in
      record {
        pairs = pair_slots-refilled slots b entry next there refl;
        newer_there = ap (option_map (λ x. x.newer))
            (entry_at-refilled slots b next (full_by_entry (bucket_at slots b) entry there));
        older_there = ap (option_map (λ x. x.older))
            (entry_at-refilled slots b next (full_by_entry (bucket_at slots b) entry there));
        others = entry_at-refilled_other slots b next;
      }

  module _ (number : N → ℕ) (at to : N) (is : b ≡ number at) where
    set_link : (kind other : Entry K V N → N) (next : Entry K V N)
        → pair_slots (set slots b (refilled (bucket_at slots b) next)) ≡ pair_slots slots
        → kind next ≡ to → other next ≡ other entry
        → SetsLink number kind other slots (set slots b (refilled (bucket_at slots b) next)) at to
    set_link kind other next pairs writes keeps =
        let new = set slots b (refilled (bucket_at slots b) next) in
        let wrote = entry_at-refilled slots b next (full_by_entry (bucket_at slots b) entry there) in record {
          pairs = pairs;
          there = λ full. subst (λ c. option_map kind (entry_at new c) ≡ Some to) is
              (ap (option_map kind) wrote ∙ ap Some writes);
          others = λ c apart. ap (option_map kind) (entry_at-refilled_other slots b next c (λ e. apart (e ∙ is)));
          stays = λ c. elim (cases_eq c b) [
            | inl h ↦ subst (λ k. option_map other (entry_at new k) ≡ option_map other (entry_at slots k)) (sym h)
                (ap (option_map other) wrote ∙ ap Some keeps ∙ sym (ap (option_map other) there))
            | inr h ↦ ap (option_map other) (entry_at-refilled_other slots b next c h)
          ];
        }

    pub SetsNewer-written : SetsNewer number slots
        (set slots b (refilled (bucket_at slots b) (record { key = entry.key; value = entry.value; newer = to; older = entry.older }))) at
        to
    SetsNewer-written = set_link (λ x. x.newer) (λ x. x.older) _ (SetsLinks-written to entry.older).pairs refl refl

    pub SetsOlder-written : SetsOlder number slots
        (set slots b (refilled (bucket_at slots b) (record { key = entry.key; value = entry.value; newer = entry.newer; older = to }))) at
        to
    SetsOlder-written = set_link (λ x. x.older) (λ x. x.newer) _ (SetsLinks-written entry.newer to).pairs refl refl

module _ {N : Type 0} {number : N → ℕ} {link : ℕ → N} {none : N}
    (laws : IsLinkType number link none) where
  pub number-link_to : (o : Option ℕ) (x : ℕ) → o ≡ Some x → x < number none → number (link_to link none o) ≡ x
  number-link_to o x e p = rw e (laws.number_of_link x p)

  pub inner_link : (o : Option ℕ) (x : ℕ) → o ≡ Some x → x < number none → link_to link none o ≢ none
  inner_link o x e p = rw e (link_below laws x p)

  pub bucket_by_link : (o : Option ℕ) (x : ℕ) → ((y : ℕ) → o ≡ Some y → y < number none) → x < number none → x
      ≡ number (link_to link none o) → o ≡ Some x
  bucket_by_link None x bounds p e = absurd (omega arith)
  bucket_by_link (Some y) x bounds p e = ap Some (sym (e ∙ laws.number_of_link y (bounds y refl)))

  pub end_by_link : (o : Option ℕ) → ((y : ℕ) → o ≡ Some y → y < number none) → link_to link none o ≡ none → o ≡ None
  end_by_link None bounds e = refl
  end_by_link (Some y) bounds e = absurd (link_below laws y (bounds y refl) e)

  module _ {K V : Type 0} where
    pub leads_to_full : (slots : List (Slot (Entry K V N))) → length slots < number none → (o : Option ℕ)
        → ((y : ℕ) → o ≡ Some y → IsFull slots y)
        → (link_to link none o ≡ none) ⊎ IsFull slots (number (link_to link none o))
    leads_to_full slots reached None is_full = inl refl
    leads_to_full slots reached (Some y) is_full = inr
        (rw (laws.number_of_link y (omega (arith, full_lt slots y (is_full y refl), reached))) (is_full y refl))

    pub none_written : (slots : List (Slot (Entry K V N))) → length slots < number none → (to : N)
        → SetsNewer number slots slots none to
    none_written slots reached to = record {
      pairs = refl;
      there = λ full. absurd (omega (arith, full_lt slots (number none) full, reached));
      others = λ b other. refl;
      stays = λ b. refl;
    }

    module _ {slots : List (Slot (Entry K V N))} {newest oldest : N} {order : List ℕ}
        (chain : IsChain number link none slots newest oldest order) where
      module _ (b : ℕ) (there : Contains order b) (entry : Entry K V N) (is : entry_at slots b ≡ Some entry) where
        pub newer_link : entry.newer ≡ link_to link none (bucket_before b order)
        newer_link = same_Some _ _ (sym (ap (option_map (λ x. x.newer)) is) ∙ chain.newer b there)

        pub older_link : entry.older ≡ link_to link none (bucket_after b order)
        older_link = same_Some _ _ (sym (ap (option_map (λ x. x.older)) is) ∙ chain.older b there)

        pub newer_leads : (entry.newer ≡ none) ⊎ IsFull slots (number entry.newer)
        newer_leads = rw newer_link (leads_to_full slots chain.reached (bucket_before b order)
            (λ y e. chain.only y (before_in b y order chain.distinct e)))

        pub older_leads : (entry.older ≡ none) ⊎ IsFull slots (number entry.older)
        older_leads = rw older_link (leads_to_full slots chain.reached (bucket_after b order)
            (λ y e. chain.only y (after_in b y order e)))

        gap : (new : List (Slot (Entry K V N))) → length new ≡ length slots
            → ((c : ℕ) → c ≢ b → bucket_at new c ≡ bucket_at slots c)
            → IsGap number link none new newest oldest order b entry.newer entry.older
        gap new same others = record {
          before = slots;
          chain = chain;
          there = there;
          newer_is = ap (option_map (λ x. x.newer)) is;
          older_is = ap (option_map (λ x. x.older)) is;
          same = same;
          others = others;
        }

        pub IsGap-full : IsGap number link none slots newest oldest order b entry.newer entry.older
        IsGap-full = gap slots refl (λ c other. refl)

        pub IsGap-taken : (new : List (Slot (Entry K V N))) → Removes slots new b
            → IsGap number link none new newest oldest order b entry.newer entry.older
        IsGap-taken new removes = gap new (length-removed slots new b removes)
            (λ c other. bucket_at-removed_other slots new b c other removes)

      pub newest_leads : (newest ≡ none) ⊎ IsFull slots (number newest)
      newest_leads = rw chain.newest_first
          (leads_to_full slots chain.reached (first_bucket order) (λ y e. chain.only y (first_in order y e)))

    module _ {s0 : List (Slot (Entry K V N))} {newest oldest newer older : N} {b : ℕ} {order : List ℕ}
        (gap : IsGap number link none s0 newest oldest order b newer older) where
      newer_to : newer ≡ link_to link none (bucket_before b order)
      newer_to = same_Some _ _ (sym gap.newer_is ∙ gap.chain.newer b gap.there)

      older_to : older ≡ link_to link none (bucket_after b order)
      older_to = same_Some _ _ (sym gap.older_is ∙ gap.chain.older b gap.there)

      pub gap_reached : length s0 < number none
      gap_reached = rw gap.same gap.chain.reached

      others_full : (x : ℕ) → Contains order x → x ≢ b → IsFull s0 x
      others_full x inside other = ap is_full (gap.others x other) ∙ gap.chain.only x inside

      pub gap_newer_leads : (newer ≡ none) ⊎ IsFull s0 (number newer)
      gap_newer_leads = rw newer_to (leads_to_full s0 gap_reached (bucket_before b order) (λ y e.
          others_full y (before_in b y order gap.chain.distinct e) (before_other b y order gap.chain.distinct e)))

      pub gap_older_leads : (older ≡ none) ⊎ IsFull s0 (number older)
      gap_older_leads = rw older_to (leads_to_full s0 gap_reached (bucket_after b order) (λ y e.
          others_full y (after_in b y order e) (after_other b y order gap.chain.distinct e)))

    module _ {s0 s1 s2 : List (Slot (Entry K V N))} {newest oldest newest' oldest' newer older : N} (b : ℕ)
        {order : List ℕ} (gap : IsGap number link none s0 newest oldest order b newer older)
        (first : SetsOlder number s0 s1 newer older) (newest_is : SetsEnd none newest newest' newer older)
        (second : SetsNewer number s1 s2 older newer) (oldest_is : SetsEnd none oldest oldest' older newer) where
      abbrev chain : IsChain number link none gap.before newest oldest order
      chain = gap.chain

      abbrev there : Contains order b
      there = gap.there

      newer_is : newer ≡ link_to link none (bucket_before b order)
      newer_is = newer_to gap

      older_is : older ≡ link_to link none (bucket_after b order)
      older_is = older_to gap

      abbrev left : List ℕ
      left = without_bucket b order

      before_below : (y : ℕ) → bucket_before b order ≡ Some y → y < number none
      before_below y e = chained_below chain y (before_in b y order chain.distinct e)

      after_below : (y : ℕ) → bucket_after b order ≡ Some y → y < number none
      after_below y e = chained_below chain y (after_in b y order e)

      left_first : (o : Option ℕ) → bucket_before b order ≡ o → newest' ≡ link_to link none (first_bucket left)
      left_first None e = newest_is.ends (newer_is ∙ ap (link_to link none) e) ∙ older_is
          ∙ ap (link_to link none) (sym (first-left b order chain.distinct there e))
      left_first (Some y) e =
          newest_is.stays (λ k. inner_link (bucket_before b order) y e (before_below y e) (sym newer_is ∙ k))
          ∙ chain.newest_first ∙ ap (link_to link none) (sym (first-left_stays b order chain.distinct there y e))

      left_last : (o : Option ℕ) → bucket_after b order ≡ o → oldest' ≡ link_to link none (last_bucket left)
      left_last None e = oldest_is.ends (older_is ∙ ap (link_to link none) e) ∙ newer_is
          ∙ ap (link_to link none) (sym (last-left b order chain.distinct there e))
      left_last (Some y) e =
          oldest_is.stays (λ k. inner_link (bucket_after b order) y e (after_below y e) (sym older_is ∙ k))
          ∙ chain.oldest_last ∙ ap (link_to link none) (sym (last-left_stays b order chain.distinct there y e))

      left_newer : (x : ℕ) → Contains order x → x ≢ b → newer_at s2 x ≡ Some (link_to link none (bucket_before x left))
      left_newer x inside other = elim (cases_eq x (number older)) [
        | inl h ↦
            let next : bucket_after b order ≡ Some x = bucket_by_link (bucket_after b order) x after_below
            (chained_below chain x inside) (h ∙ ap number older_is) in
            let full : IsFull s1 (number older) = subst (IsFull s1) h (same_full s0 s1 first.pairs x
            ∙ others_full gap x inside other) in
            subst (λ k. newer_at s2 k ≡ Some newer) (sym h) (second.there full)
            ∙ ap Some (newer_is ∙ ap (link_to link none) (sym (before-next b x other order chain.distinct next)))
        | inr h ↦
            let stays = before-stays b x other order chain.distinct
            (λ e. h (sym (ap number older_is ∙ number-link_to (bucket_after b order) x e
            (chained_below chain x inside)))) in
            second.others x h ∙ first.stays x ∙ ap (λ s. option_map (λ y. y.newer) (entry_of s)) (gap.others x other)
            ∙ chain.newer x inside ∙ ap (λ o. Some (link_to link none o)) (sym stays)
      ]

      left_older : (x : ℕ) → Contains order x → x ≢ b → older_at s2 x ≡ Some (link_to link none (bucket_after x left))
      left_older x inside other = elim (cases_eq x (number newer)) [
        | inl h ↦
            let previous : bucket_before b order ≡ Some x = bucket_by_link (bucket_before b order) x before_below
            (chained_below chain x inside) (h ∙ ap number newer_is) in
            let full : IsFull s0 (number newer) = subst (IsFull s0) h (others_full gap x inside other) in
            second.stays x ∙ subst (λ k. older_at s1 k ≡ Some older) (sym h) (first.there full)
            ∙ ap Some (older_is ∙ ap (link_to link none) (sym (after-previous b x other order chain.distinct previous)))
        | inr h ↦
            let stays = after-stays b x other order chain.distinct
            (λ e. h (sym (ap number newer_is ∙ number-link_to (bucket_before b order) x e
            (chained_below chain x inside)))) in
            second.stays x ∙ first.others x h ∙ ap (λ s. option_map (λ y. y.older) (entry_of s)) (gap.others x other)
            ∙ chain.older x inside ∙ ap (λ o. Some (link_to link none o)) (sym stays)
      ]

      pub IsChain-unlinked : IsChain number link none s2 newest' oldest' (without_bucket b order)
      IsChain-unlinked = record {
        reached = omega (arith, same_length s1 s2 second.pairs, same_length s0 s1 first.pairs, gap_reached gap);
        distinct = distinct_without b order chain.distinct;
        only = λ x w. same_full s1 s2 second.pairs x ∙ same_full s0 s1 first.pairs x
            ∙ (let v = without_in b x order w in others_full gap x v.0 v.1);
        newest_first = left_first (bucket_before b order) refl;
        oldest_last = left_last (bucket_after b order) refl;
        newer = λ x w. let v = without_in b x order w in left_newer x v.0 v.1;
        older = λ x w. let v = without_in b x order w in left_older x v.0 v.1;
      }

    pub IsChain-fields : {s0 s1 : List (Slot (Entry K V N))} {newest oldest newer older : N} (b : ℕ) {order : List ℕ}
        → IsChain number link none s0 newest oldest order → (Contains order b → ⊥) → SetsLinks s0 s1 b newer older
        → IsChain number link none s1 newest oldest order
    IsChain-fields {s0} {s1} b {order} chain absent sets = record {
      reached = omega (arith, same_length s0 s1 sets.pairs, chain.reached);
      distinct = chain.distinct;
      only = λ x w. same_full s0 s1 sets.pairs x ∙ chain.only x w;
      newest_first = chain.newest_first;
      oldest_last = chain.oldest_last;
      newer = λ x w. ap (option_map (λ y. y.newer)) (sets.others x (other_than b order absent x w)) ∙ chain.newer x w;
      older = λ x w. ap (option_map (λ y. y.older)) (sets.others x (other_than b order absent x w)) ∙ chain.older x w;
    }

    module _ {s0 s1 : List (Slot (Entry K V N))} {newest oldest oldest' : N} (b : ℕ) {order : List ℕ}
        (chain : IsChain number link none s0 newest oldest order) (absent : Contains order b → ⊥) (full : IsFull s0 b)
        (newer : newer_at s0 b ≡ Some none) (older : older_at s0 b ≡ Some newest)
        (first : SetsNewer number s0 s1 newest (link b)) (oldest_is : SetsEnd none oldest oldest' newest (link b)) where
      first_below : (y : ℕ) → first_bucket order ≡ Some y → y < number none
      first_below y e = chained_below chain y (first_in order y e)

      apart : (o : Option ℕ) → first_bucket order ≡ o → b ≢ number newest
      apart None e h = omega (
        arith,
        h ∙ ap number (chain.newest_first ∙ ap (link_to link none) e),
        full_lt s0 b full,
        chain.reached,
      )
      apart (Some y) e h =
          let is : b ≡ y = h ∙ ap number chain.newest_first
          ∙ number-link_to (first_bucket order) y e (first_below y e) in
          absent (subst (Contains order) (sym is) (first_in order y e))

      come_last : (rest : List ℕ) → rest ≡ order → oldest' ≡ link_to link none (last_bucket (b ∷ rest))
      come_last [] e = oldest_is.ends (chain.newest_first ∙ ap (λ xs. link_to link none (first_bucket xs)) (sym e))
      come_last (c ∷ cs) e =
          let is : first_bucket order ≡ Some c = ap first_bucket (sym e) in
          oldest_is.stays (λ k. inner_link (first_bucket order) c is (first_below c is) (sym chain.newest_first ∙ k))
          ∙ chain.oldest_last ∙ ap (λ xs. link_to link none (last_bucket xs)) (sym e)

      come_newer : (x : ℕ) → Contains order x → newer_at s1 x ≡ Some (link_to link none (bucket_before x (b ∷ order)))
      come_newer x there = elim (cases_eq x (number newest)) [
        | inl h ↦
            let is : first_bucket order ≡ Some x = bucket_by_link (first_bucket order) x first_below
            (chained_below chain x there) (h ∙ ap number chain.newest_first) in
            subst (λ k. newer_at s1 k ≡ Some (link b)) (sym h)
            (first.there (subst (IsFull s0) h (chain.only x there)))
            ∙ ap (λ o. Some (link_to link none o)) (sym (before-first b order absent chain.distinct x there is))
        | inr h ↦
            let later = before-later b order absent chain.distinct x there
            (λ e. h (sym (ap number chain.newest_first ∙ number-link_to (first_bucket order) x e
            (chained_below chain x there)))) in
            first.others x h ∙ chain.newer x there ∙ ap (λ o. Some (link_to link none o)) (sym later)
      ]

      pub IsChain-linked : IsChain number link none s1 (link b) oldest' (b ∷ order)
      IsChain-linked = record {
        reached = omega (arith, same_length s0 s1 first.pairs, chain.reached);
        distinct = distinct_cons b order absent chain.distinct;
        only = λ x w. same_full s0 s1 first.pairs x
            ∙ elim (Contains-cases b x order w) [
              | inl h ↦ subst (IsFull s0) h full
              | inr there ↦ chain.only x there
            ];
        newest_first = refl;
        oldest_last = come_last order refl;
        newer = λ x w. elim (Contains-cases b x order w) [
          | inl h ↦ subst (λ k. newer_at s1 k ≡ Some (link_to link none (bucket_before k (b ∷ order)))) h
              (first.others b (apart (first_bucket order) refl) ∙ newer ∙ ap (λ o. Some (link_to link none o))
              (sym (before-itself b order absent chain.distinct)))
          | inr there ↦ come_newer x there
        ];
        older = λ x w. elim (Contains-cases b x order w) [
          | inl h ↦ subst (λ k. older_at s1 k ≡ Some (link_to link none (bucket_after k (b ∷ order)))) h
              (first.stays b ∙ older ∙ ap Some chain.newest_first ∙ ap (λ o. Some (link_to link none o))
              (sym (after-itself b order absent chain.distinct)))
          | inr there ↦ first.stays x ∙ chain.older x there
              ∙ ap (λ o. Some (link_to link none o)) (sym (after-later b order absent chain.distinct x there))
        ];
      }
