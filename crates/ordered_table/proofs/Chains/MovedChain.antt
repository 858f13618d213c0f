use Rattle.std.proofs.Common.{◌≡◌, ◌≢◌, ℕ, ◌+◌, ◌<◌, ◌≤◌, List, length, map, set, get_or, Option, Some, None, inl}
use Rattle.std.proofs.Common.{inr, refl, ap, sym, ◌∙◌, subst, arith}
use Rattle.std.specs.Prelude.{option_map, Contains}
use Rattle.std.proofs.lemmas.Bool.{cases_eq}
use Rattle.std.proofs.lemmas.List.{get_or_past}
use Rattle.std.proofs.lemmas.Option.{same_Some}
use native.Mathlib.Decide.{dec_lt}
use Rattle.group_table.specs.Link.{IsLinkType}
use Rattle.group_table.specs.Bucket.{Slot, bucket_at, is_full, IsFull, entry_at, entry_count, refilled}
use Rattle.group_table.specs.Relocation.{Renumbers, moved_to}
use Rattle.group_table.proofs.BucketLemmas.{full_lt, count_by-pos}
use Rattle.group_table.proofs.SearchLemmas.{entry_by_full, full_by_entry}
use Rattle.ordered_table.specs.declared.linked.Entry.{Entry}
use Rattle.lru_model.specs.Lists.{first as first_bucket, last as last_bucket}
use Rattle.ordered_table.specs.Chain.{link_to, pair_slots}
use Rattle.ordered_table.specs.OrderedTable.{bucket_after, bucket_before}
use Rattle.ordered_table.specs.Chain.{newer_at, older_at, moved_link, HasPlace, MovesLinks, IsChain, IsWhole}
use Rattle.ordered_table.proofs.Chains.Orders.{after_in, before_in, first_in, last_in}
use Rattle.ordered_table.proofs.Chains.Neighbours.{first-moved, last-moved, Contains-moved, distinct-moved, MovesApart}
use Rattle.ordered_table.proofs.Chains.Neighbours.{after-moved, before-moved}
use Rattle.ordered_table.proofs.Tables.PairSlots.{same_length, same_full}
use Rattle.ordered_table.proofs.Chains.LinkWrites.{SetsLinks-written}

below_next : (b old : ℕ) → b < old + 1 → b ≢ old → b < old
below_next b old p other = elim (dec_lt b old) [ yes q ↦ q | no q ↦ absurd (other (omega arith)) ]

module _ {N : Type 0} (number : N → ℕ) (none : N) {K V : Type 0} where
  pub MovesLinks-written : (links : List N) (slots : List (Slot (Entry K V N))) (b : ℕ) (entry : Entry K V N)
      → entry_at slots b ≡ Some entry → (newer older : N)
      → newer ≡ moved_link number none links entry.newer → older ≡ moved_link number none links entry.older
      → MovesLinks number none links slots
      (set slots b (refilled (bucket_at slots b) (record { key = entry.key; value = entry.value; newer = newer; older = older }))) b
  MovesLinks-written links slots b entry is newer older p q =
      let w = SetsLinks-written slots b entry is newer older in
      record {
        pairs = w.pairs;
        newer_there = w.newer_there ∙ ap Some p
            ∙ sym (ap (λ o. option_map (moved_link number none links) (option_map (λ x. x.newer) o)) is);
        older_there = w.older_there ∙ ap Some q
            ∙ sym (ap (λ o. option_map (moved_link number none links) (option_map (λ x. x.older) o)) is);
        others = w.others;
      }

  -- the links of the entries from the old buckets below `old` have been rewritten
  pub record MovedUpTo (start now : List (Slot (Entry K V N))) (links : List N) (old : ℕ) : Type 0 where
    pub pairs : pair_slots now ≡ pair_slots start
    pub newer : (b : ℕ) → b < old → get_or links b none ≢ none
        → newer_at now (moved_to number none links b) ≡ option_map (moved_link number none links)
        (newer_at start (moved_to number none links b))
    pub older : (b : ℕ) → b < old → get_or links b none ≢ none
        → older_at now (moved_to number none links b) ≡ option_map (moved_link number none links)
        (older_at start (moved_to number none links b))
    pub rest : (b : ℕ) → old ≤ b → get_or links b none ≢ none → entry_at now (moved_to number none links b)
        ≡ entry_at start (moved_to number none links b)

no_full : {T : Type 0} (before : List (Slot T)) (b : ℕ) → IsFull before b → entry_count before ≡ 0 → ⊥
no_full before b there e = absurd (omega (arith, count_by-pos is_full before b (full_lt before b there) there, e))

by_entry : {T : Type 0} (before : List (Slot T)) (b : ℕ) (o : Option T) → entry_at before b ≡ o → (o ≡ None → ⊥)
    → IsFull before b
by_entry before b None e some = absurd (some refl)
by_entry before b (Some entry) e some = full_by_entry (bucket_at before b) entry e

module _ {N : Type 0} {number : N → ℕ} {none : N} {T : Type 0} {before after : List (Slot T)} {links : List N} where
  pub fewer_links : Renumbers number none before after links → length links ≤ length before
  fewer_links (inl w) = omega (arith, ap length w.1)
  fewer_links (inr r) = omega (arith, r.one_each)

  pub place_of : Renumbers number none before after links → (b : ℕ) → IsFull before b → b < length links
  place_of (inl w) b there = absurd (no_full before b there w.0)
  place_of (inr r) b there = omega (arith, r.one_each, full_lt before b there)

  pub moved_entry : Renumbers number none before after links → (b : ℕ) → IsFull before b
      → entry_at after (moved_to number none links b) ≡ entry_at before b
  moved_entry (inl w) b there = absurd (no_full before b there w.0)
  moved_entry (inr r) b there = let w = entry_by_full (bucket_at before b) there in r.moves.moved b w.0 w.1 ∙ sym w.1

  pub moved_apart : Renumbers number none before after links → (b c : ℕ) → IsFull before b → IsFull before c
      → moved_to number none links b ≡ moved_to number none links c → b ≡ c
  moved_apart (inl w) b c there other e = absurd (no_full before b there w.0)
  moved_apart (inr r) b c there other e =
      let x = entry_by_full (bucket_at before b) there in
      let y = entry_by_full (bucket_at before c) other in
      r.moves.apart b c x.0 y.0 x.1 y.1 e

  pub full_by_link : Renumbers number none before after links → (b : ℕ) → get_or links b none ≢ none → IsFull before b
  full_by_link (inl w) b leads = absurd (leads (ap (λ xs. get_or xs b none) w.1))
  full_by_link (inr r) b leads = by_entry before b (entry_at before b) refl (λ e. leads (r.moves.others b e))

module _ {N : Type 0} {number : N → ℕ} {none : N} {K V : Type 0} {start : List (Slot (Entry K V N))}
    {links : List N} where
  pub MovedUpTo-none : MovedUpTo number none start start links 0
  MovedUpTo-none = record {
    pairs = refl;
    newer = λ b p leads. absurd (omega arith);
    older = λ b p leads. absurd (omega arith);
    rest = λ b p leads. refl;
  }

  module _ {now : List (Slot (Entry K V N))} {old : ℕ} (w : MovedUpTo number none start now links old) where
    pub MovedUpTo-passed : get_or links old none ≡ none → MovedUpTo number none start now links (old + 1)
    MovedUpTo-passed e =
        let other : (b : ℕ) → get_or links b none ≢ none → b ≢ old = λ b leads h. leads
        (ap (λ k. get_or links k none) h ∙ e) in
        record {
          pairs = w.pairs;
          newer = λ b p leads. w.newer b (below_next b old p (other b leads)) leads;
          older = λ b p leads. w.older b (below_next b old p (other b leads)) leads;
          rest = λ b p leads. w.rest b (omega arith) leads;
        }

    module _ {before next : List (Slot (Entry K V N))} (renumbers : Renumbers number none before start links)
        (leads : get_or links old none ≢ none)
        (moves : MovesLinks number none links now next (moved_to number none links old)) where
      other_place : (b : ℕ) → b ≢ old → get_or links b none ≢ none
          → moved_to number none links b ≢ moved_to number none links old
      other_place b other there e = other
          (moved_apart renumbers b old (full_by_link renumbers b there) (full_by_link renumbers old leads) e)

      pub MovedUpTo-more : MovedUpTo number none start next links (old + 1)
      MovedUpTo-more = record {
        pairs = moves.pairs ∙ w.pairs;
        newer = λ b p there. elim (cases_eq b old) [
          | inl h ↦ rw h (moves.newer_there
              ∙ ap (λ o. option_map (moved_link number none links) (option_map (λ x. x.newer) o))
              (w.rest old (omega arith) leads))
          | inr h ↦ ap (option_map (λ x. x.newer)) (moves.others _ (other_place b h there))
              ∙ w.newer b (below_next b old p h) there
        ];
        older = λ b p there. elim (cases_eq b old) [
          | inl h ↦ rw h (moves.older_there
              ∙ ap (λ o. option_map (moved_link number none links) (option_map (λ x. x.older) o))
              (w.rest old (omega arith) leads))
          | inr h ↦ ap (option_map (λ x. x.older)) (moves.others _ (other_place b h there))
              ∙ w.older b (below_next b old p h) there
        ];
        rest = λ b p there. moves.others _ (other_place b (λ h. absurd (omega (arith, h))) there)
            ∙ w.rest b (omega arith) there;
      }

module _ {N : Type 0} {number : N → ℕ} {link : ℕ → N} {none : N}
    (laws : IsLinkType number link none) {K V : Type 0}
    {before start : List (Slot (Entry K V N))} {newest oldest : N} {order : List ℕ}
    (whole : IsWhole number link none before newest oldest order)
    {links : List N} (renumbers : Renumbers number none before start links) where
  abbrev m : ℕ → ℕ
  m b = moved_to number none links b

  pub few_links : length links ≤ number none
  few_links = omega (arith, fewer_links renumbers, whole.chain.reached)

  has_place : (o : Option ℕ) → ((y : ℕ) → o ≡ Some y → IsFull before y)
      → HasPlace number none links (link_to link none o)
  has_place None full = inl refl
  has_place (Some y) full =
      let p = place_of renumbers y (full y refl) in
      inr (rw (laws.number_of_link y (omega (arith, p, few_links))) p)

  full_before : (b y : ℕ) → bucket_before b order ≡ Some y → IsFull before y
  full_before b y e = whole.chain.only y (before_in b y order whole.chain.distinct e)

  full_after : (b y : ℕ) → bucket_after b order ≡ Some y → IsFull before y
  full_after b y e = whole.chain.only y (after_in b y order e)

  full_first : (y : ℕ) → first_bucket order ≡ Some y → IsFull before y
  full_first y e = whole.chain.only y (first_in order y e)

  full_last : (y : ℕ) → last_bucket order ≡ Some y → IsFull before y
  full_last y e = whole.chain.only y (last_in order y e)

  pub newest_place : HasPlace number none links newest
  newest_place = rw whole.chain.newest_first (has_place (first_bucket order) full_first)

  pub oldest_place : HasPlace number none links oldest
  oldest_place = rw whole.chain.oldest_last (has_place (last_bucket order) full_last)

  module _ (b : ℕ) (there : IsFull before b) where
    pub moved_newer : newer_at start (m b) ≡ Some (link_to link none (bucket_before b order))
    moved_newer = ap (option_map (λ x. x.newer)) (moved_entry renumbers b there)
        ∙ whole.chain.newer b (whole.all b there)

    pub moved_older : older_at start (m b) ≡ Some (link_to link none (bucket_after b order))
    moved_older = ap (option_map (λ x. x.older)) (moved_entry renumbers b there)
        ∙ whole.chain.older b (whole.all b there)

    pub newer_place : (l : N) → newer_at start (m b) ≡ Some l → HasPlace number none links l
    newer_place l e = subst (HasPlace number none links) (same_Some _ l (sym moved_newer ∙ e))
        (has_place (bucket_before b order) (full_before b))

    pub older_place : (l : N) → older_at start (m b) ≡ Some l → HasPlace number none links l
    older_place l e = subst (HasPlace number none links) (same_Some _ l (sym moved_older ∙ e))
        (has_place (bucket_after b order) (full_after b))

    pub moved_full : IsFull start (m b)
    moved_full = let w = entry_by_full (bucket_at before b) there in full_by_entry (bucket_at start (m b)) w.0
        (moved_entry renumbers b there ∙ w.1)

  module _ {now : List (Slot (Entry K V N))} (reached : length start < number none)
      (w : MovedUpTo number none start now links (length links)) where
    below_none : (y : ℕ) → IsFull before y → m y < number none
    below_none y there = omega (arith, full_lt start (m y) (moved_full y there), reached)

    leads_on : (y : ℕ) → IsFull before y → get_or links y none ≢ none
    leads_on y there e = absurd (omega (arith, ap number e, below_none y there))

    moved_link_to : (o : Option ℕ) → ((y : ℕ) → o ≡ Some y → IsFull before y)
        → moved_link number none links (link_to link none o) ≡ link_to link none (option_map m o)
    moved_link_to None full = get_or_past links (number none) none few_links
    moved_link_to (Some y) full =
        let p = place_of renumbers y (full y refl) in
        ap (λ k. get_or links k none) (laws.number_of_link y (omega (arith, p, few_links)))
        ∙ laws.equal_by_number (get_or links y none) (link (m y))
        (sym (laws.number_of_link (m y) (below_none y (full y refl))))

    moves_apart : MovesApart m order
    moves_apart b c p q e = moved_apart renumbers b c (whole.chain.only b p) (whole.chain.only c q) e

    now_newer : (b : ℕ) → Contains order b → newer_at now (m b)
        ≡ Some (link_to link none (bucket_before (m b) (map m order)))
    now_newer b inside =
        let there = whole.chain.only b inside in
        w.newer b (place_of renumbers b there) (leads_on b there)
        ∙ ap (option_map (moved_link number none links)) (moved_newer b there)
        ∙ ap Some (moved_link_to (bucket_before b order) (full_before b)
        ∙ ap (link_to link none) (sym (before-moved m order moves_apart whole.chain.distinct b inside)))

    now_older : (b : ℕ) → Contains order b → older_at now (m b)
        ≡ Some (link_to link none (bucket_after (m b) (map m order)))
    now_older b inside =
        let there = whole.chain.only b inside in
        w.older b (place_of renumbers b there) (leads_on b there)
        ∙ ap (option_map (moved_link number none links)) (moved_older b there)
        ∙ ap Some (moved_link_to (bucket_after b order) (full_after b)
        ∙ ap (link_to link none) (sym (after-moved m order moves_apart whole.chain.distinct b inside)))

    pub IsChain-moved : IsChain number link none now (moved_link number none links newest)
        (moved_link number none links oldest) (map (moved_to number none links) order)
    IsChain-moved = record {
      reached = omega (arith, same_length start now w.pairs, reached);
      distinct = distinct-moved m order moves_apart whole.chain.distinct;
      only = λ x p. let r = Contains-moved m x order p in
          subst (IsFull now) r.2 (same_full start now w.pairs (m r.0) ∙ moved_full r.0 (whole.chain.only r.0 r.1));
      newest_first = ap (moved_link number none links) whole.chain.newest_first
          ∙ moved_link_to (first_bucket order) full_first ∙ ap (link_to link none) (sym (first-moved m order));
      oldest_last = ap (moved_link number none links) whole.chain.oldest_last
          ∙ moved_link_to (last_bucket order) full_last ∙ ap (link_to link none) (sym (last-moved m order));
      newer = λ x p. let r = Contains-moved m x order p in
          subst (λ k. newer_at now k ≡ Some (link_to link none (bucket_before k (map m order)))) r.2
          (now_newer r.0 r.1);
      older = λ x p. let r = Contains-moved m x order p in
          subst (λ k. older_at now k ≡ Some (link_to link none (bucket_after k (map m order)))) r.2 (now_older r.0 r.1);
    }
