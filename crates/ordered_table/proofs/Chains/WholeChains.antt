-- The order that the links of a table keep: reads follow the links, and each change of the table changes the order.
use Rattle.std.proofs.Common.{◌≡◌, ◌≢◌, ℕ, zero, suc, ◌<◌, ◌≤◌, List, [], ◌∷◌, length, set, Option, Some, None}
use Rattle.std.proofs.Common.{inl, inr, refl, ap, sym, ◌∙◌, subst, arith, eq-eqb, length-set}
use Rattle.std.specs.Prelude.{option_map, unwrap_or, Contains, AllPairs}
use Rattle.std.proofs.lemmas.Bool.{cases_eq, false≢true}
use Rattle.std.proofs.lemmas.Option.{same_Some}
use Rattle.std.proofs.lemmas.List.Sums.{count_by-le-length}
use Rattle.group_table.specs.Link.{IsLinkType}
use Rattle.group_table.specs.Bucket.{Slot, bucket_at, is_full, IsFull, entry_at, entry_of, entry_count, bucket_states}
use Rattle.group_table.specs.Bucket.{refilled}
use Rattle.group_table.specs.Table.{Insertions, Table, IsTable}
use Rattle.group_table.specs.Change.{Places, Removes}
use Rattle.group_table.proofs.BucketLemmas.{bucket_at-past, is_full-bucket_states, entry_count-bucket_states}
use Rattle.group_table.proofs.RefillLemmas.{entry_at-refilled, entry_at-refilled_other, bucket_states-refilled}
use Rattle.group_table.proofs.SearchLemmas.{full_by_entry}
use Rattle.group_table.proofs.ChangeLemmas.{entry_count-places, bucket_at-placed_other}
use Rattle.group_table.proofs.ChangeLemmas.{entry_at-removed, bucket_at-removed_other, entry_count-removes}
use Rattle.ordered_table.specs.declared.linked.Entry.{Entry}
use Rattle.ordered_table.specs.OrderedTable.{OrderedTable, IsLinked, without_bucket, with_pair}
use Rattle.lru_model.specs.Lists.{first as first_bucket}
use Rattle.ordered_table.specs.Chain.{link_to, pair_slots, older_at, along, IsChain}
use Rattle.ordered_table.specs.OrderedTable.{bucket_after}
use Rattle.ordered_table.specs.Chain.{IsWhole}
use Rattle.lru_model.proofs.PairLists.Members.{Contains-here, Contains-later}
use Rattle.ordered_table.proofs.Chains.Orders.{other_than, distinct_head, distinct_tail}
use Rattle.ordered_table.proofs.Chains.Orders.{in_without, length-without}
use Rattle.ordered_table.proofs.Chains.Neighbours.{after-later}
use Rattle.ordered_table.proofs.Tables.PairSlots.{same_count, same_full, bucket_states-pair_slots, is_full-pair_slots}
use Rattle.ordered_table.proofs.Tables.PairSlots.{entry_count-pair_slots, pair_of, pair_slots-rewritten}
use Rattle.ordered_table.proofs.Chains.LinkWrites.{chained_below}
use Rattle.ordered_table.proofs.Tables.KeyHashes.{not_full}

module _ {N : Type 0} {number : N → ℕ} {link : ℕ → N} {none : N}
    (laws : IsLinkType number link none) {K V : Type 0} where
  one_along : (n : ℕ) (slots : List (Slot (Entry K V N))) (from older : N) (at : Option (Entry K V N))
      → option_map (λ x. x.older) at ≡ Some older
      → unwrap_or (option_map (λ entry. number from ∷ along number n slots entry.older) at) [] ≡ number from
      ∷ along number n slots older
  one_along n slots from older None e = absurd (cc)
  one_along n slots from older (Some entry) e = ap (λ l. number from ∷ along number n slots l)
      (same_Some entry.older older e)

  along-chain : (slots : List (Slot (Entry K V N))) → length slots < number none → (n : ℕ) (order : List ℕ)
      → AllPairs ◌≢◌ order
      → ((x : ℕ) → Contains order x → x < number none)
      → ((x : ℕ) → Contains order x → older_at slots x ≡ Some (link_to link none (bucket_after x order)))
      → length order ≤ n → along number n slots (link_to link none (first_bucket order)) ≡ order
  along-chain slots reached zero [] d below older p = refl
  along-chain slots reached (suc n) [] d below older p =
      let past : entry_at slots (number none) ≡ None = ap entry_of (bucket_at-past slots (number none) (omega arith)) in
      ap (λ at. unwrap_or (option_map (λ entry. number none ∷ along number n slots entry.older) at) []) past
  along-chain slots reached zero (c ∷ cs) d below older p = absurd (omega arith)
  along-chain slots reached (suc n) (c ∷ cs) d below older p =
      let is : number (link c) ≡ c = laws.number_of_link c (below c (Contains-here c cs)) in
      let last : bucket_after c (c ∷ cs) ≡ first_bucket cs = rw (eq-eqb c c refl) refl in
      let leads : older_at slots (number (link c)) ≡ Some (link_to link none (first_bucket cs)) =
      ap (older_at slots) is ∙ older c (Contains-here c cs) ∙ ap (λ o. Some (link_to link none o)) last in
      let absent : Contains cs c → ⊥ = distinct_head c cs d in
      let rest = along-chain slots reached n cs (distinct_tail c cs d) (λ x w. below x (Contains-later c x cs w))
      (λ x w. older x (Contains-later c x cs w) ∙ ap (λ o. Some (link_to link none o))
      (after-later c cs absent (distinct_tail c cs d) x w)) (omega arith) in
      one_along n slots (link c) (link_to link none (first_bucket cs)) (entry_at slots (number (link c))) leads
      ∙ ap (λ x. x ∷ along number n slots (link_to link none (first_bucket cs))) is ∙ ap (λ xs. c ∷ xs) rest

  pub whole_order : {slots : List (Slot (Entry K V N))} {newest oldest : N} {order : List ℕ}
      → IsWhole number link none slots newest oldest order → along number (length slots) slots newest ≡ order
  whole_order {slots} {newest} {oldest} {order} whole =
      ap (along number (length slots) slots) whole.chain.newest_first
      ∙ along-chain slots whole.chain.reached (length slots) order whole.chain.distinct
      (chained_below whole.chain) whole.chain.older (omega (arith, count_by-le-length is_full slots, whole.count))

  pub IsWhole-shown : {slots : List (Slot (Entry K V N))} {newest oldest : N} {order : List ℕ}
      → IsWhole number link none slots newest oldest order
      → IsWhole number link none slots newest oldest (along number (length slots) slots newest)
  IsWhole-shown {slots} {newest} {oldest} whole = subst (IsWhole number link none slots newest oldest)
      (sym (whole_order whole)) whole

  pub IsLinked-view : {insertions : Insertions} {slots : List (Slot (Entry K V N))} {newest oldest : N} {order : List ℕ}
      → IsWhole number link none slots newest oldest order
      → IsTable (bucket_states slots)
      → IsLinked {K = K} {V = V} (record { slots = pair_slots slots; order = order; insertions = insertions })
  IsLinked-view {slots = slots} whole table = record {
    table = rw (bucket_states-pair_slots slots) table;
    distinct = whole.chain.distinct;
    all = λ b there. whole.all b (sym (is_full-pair_slots slots b) ∙ there);
    only = λ b there. is_full-pair_slots slots b ∙ whole.chain.only b there;
    count = entry_count-pair_slots slots ∙ whole.count;
  }

  pub IsChain-kept : (old new : List (Slot (Entry K V N))) (newest oldest : N) (order : List ℕ) → length new
      ≡ length old
      → ((b : ℕ) → Contains order b → bucket_at new b ≡ bucket_at old b)
      → IsChain number link none old newest oldest order → IsChain number link none new newest oldest order
  IsChain-kept old new newest oldest order same kept chain = record {
    reached = rw same chain.reached;
    distinct = chain.distinct;
    only = λ b there. ap is_full (kept b there) ∙ chain.only b there;
    newest_first = chain.newest_first;
    oldest_last = chain.oldest_last;
    newer = λ b there. ap (λ s. option_map (λ x. x.newer) (entry_of s)) (kept b there) ∙ chain.newer b there;
    older = λ b there. ap (λ s. option_map (λ x. x.older) (entry_of s)) (kept b there) ∙ chain.older b there;
  }

  module _ {s0 s2 : List (Slot (Entry K V N))} {newest oldest newest' oldest' : N} {order : List ℕ}
      (whole : IsWhole number link none s0 newest oldest order) (b : ℕ) where
    pub IsWhole-promoted : IsFull s0 b → pair_slots s2 ≡ pair_slots s0 → IsChain number link none s2 newest' oldest'
        (b ∷ without_bucket b order)
        → IsWhole number link none s2 newest' oldest' (b ∷ without_bucket b order)
    IsWhole-promoted there same chain = record {
      chain = chain;
      all = λ x full. elim (cases_eq x b) [
        | inl h ↦ subst (Contains (b ∷ without_bucket b order)) (sym h) (Contains-here b (without_bucket b order))
        | inr h ↦ Contains-later b x (without_bucket b order)
            (in_without b x order (whole.all x (sym (same_full s0 s2 same x) ∙ full)) h)
      ];
      count = omega (
        arith,
        same_count s0 s2 same,
        whole.count,
        length-without b order whole.chain.distinct
            (whole.all b there),
      );
    }

    module _ {s1 : List (Slot (Entry K V N))} (there : IsFull s0 b) (removes : Removes s0 s1 b)
        (same : pair_slots s2 ≡ pair_slots s1)
        (chain : IsChain number link none s2 newest' oldest' (without_bucket b order)) where
      emptied : IsFull s2 b → ⊥
      emptied h = not_full (bucket_at s1 b) (entry_at-removed s0 s1 b there removes) (sym (same_full s1 s2 same b) ∙ h)

      pub IsWhole-taken : IsWhole number link none s2 newest' oldest' (without_bucket b order)
      IsWhole-taken = record {
        chain = chain;
        all = λ x h.
            let other : x ≢ b = λ e. emptied (subst (IsFull s2) e h) in
            in_without b x order
            (whole.all x (sym (ap is_full (bucket_at-removed_other s0 s1 b x other removes))
            ∙ sym (same_full s1 s2 same x) ∙ h)) other;
        count =
            omega (
              arith,
              entry_count-removes s0 s1 b there removes,
              same_count s1 s2 same,
              whole.count,
              length-without b order whole.chain.distinct (whole.all b there),
            );
      }

  module _ {old new : Table (Entry K V N)} {newest oldest : N} {order : List ℕ}
      (whole : IsWhole number link none old.slots newest oldest order)
      {hash b : ℕ} {entry : Entry K V N} (places : Places old new hash entry b) (within : b < length old.slots) where
    pub placed_absent : Contains order b → ⊥
    placed_absent w = false≢true (sym (sym (is_full-bucket_states old.slots b) ∙ places.first.free_there)
        ∙ whole.chain.only b w)

    pub IsChain-placed : IsChain number link none new.slots newest oldest order
    IsChain-placed =
        IsChain-kept old.slots new.slots newest oldest order (ap length places.slots ∙ length-set old.slots b _)
        (λ x w. bucket_at-placed_other old new hash entry b places x (other_than b order placed_absent x w)) whole.chain

    pub IsWhole-placed : {s2 : List (Slot (Entry K V N))} {newest' oldest' : N} → pair_slots s2 ≡ pair_slots new.slots
        → IsChain number link none s2 newest' oldest' (b ∷ order) → IsWhole number link none s2 newest' oldest'
        (b ∷ order)
    IsWhole-placed {s2} same chain = record {
      chain = chain;
      all = λ x h. elim (cases_eq x b) [
        | inl k ↦ subst (Contains (b ∷ order)) (sym k) (Contains-here b order)
        | inr k ↦ Contains-later b x order
            (whole.all x (sym (ap is_full (bucket_at-placed_other old new hash entry b places x k))
            ∙ sym (same_full new.slots s2 same x) ∙ h))
      ];
      count = omega (
        arith,
        same_count new.slots s2 same,
        entry_count-places old new hash entry b places within,
        whole.count,
      );
    }

  module _ {slots : List (Slot (Entry K V N))} {newest oldest : N} {order : List ℕ}
      (whole : IsWhole number link none slots newest oldest order)
      (b : ℕ) (entry : Entry K V N) (is : entry_at slots b ≡ Some entry)
      (next : Entry K V N) (same_newer : next.newer ≡ entry.newer) (same_older : next.older ≡ entry.older) where
    abbrev after : List (Slot (Entry K V N))
    after = set slots b (refilled (bucket_at slots b) next)

    still_full : (x : ℕ) → is_full (bucket_at after x) ≡ is_full (bucket_at slots x)
    still_full x = sym (is_full-bucket_states after x) ∙ ap (λ states. is_full (bucket_at states x))
        (bucket_states-refilled slots b next) ∙ is_full-bucket_states slots x

    kept_link : {A : Type 0} (f : Entry K V N → A) → f next ≡ f entry → (x : ℕ) → option_map f (entry_at after x)
        ≡ option_map f (entry_at slots x)
    kept_link f same x = elim (cases_eq x b) [
      | inl h ↦ rw h (ap (option_map f) (entry_at-refilled slots b next (full_by_entry (bucket_at slots b) entry is))
          ∙ ap Some same ∙ sym (ap (option_map f) is))
      | inr h ↦ ap (option_map f) (entry_at-refilled_other slots b next x h)
    ]

    pub IsWhole-refilled : IsWhole number link none after newest oldest order
    IsWhole-refilled = record {
      chain = record {
        reached = omega (arith, length-set slots b (refilled (bucket_at slots b) next), whole.chain.reached);
        distinct = whole.chain.distinct;
        only = λ x w. still_full x ∙ whole.chain.only x w;
        newest_first = whole.chain.newest_first;
        oldest_last = whole.chain.oldest_last;
        newer = λ x w. kept_link (λ e. e.newer) same_newer x ∙ whole.chain.newer x w;
        older = λ x w. kept_link (λ e. e.older) same_older x ∙ whole.chain.older x w;
      };
      all = λ x full. whole.all x (sym (still_full x) ∙ full);
      count = sym (entry_count-bucket_states after) ∙ ap entry_count (bucket_states-refilled slots b next)
          ∙ entry_count-bucket_states slots ∙ whole.count;
    }

    pub view-refilled : (insertions : Insertions) → ◌≡◌ {A = OrderedTable K V}
        (record { slots = pair_slots after; order = along number (length after) after newest; insertions = insertions })
        (with_pair (record { slots = pair_slots slots; order = order; insertions = insertions }) b (pair_of next))
    view-refilled insertions =
        let wrote = pair_slots-rewritten slots b next in
        let stays = whole_order IsWhole-refilled in
        cc

    pub IsLinked-refilled : {insertions : Insertions} → IsTable (bucket_states slots)
        → IsLinked (with_pair (record { slots = pair_slots slots; order = order; insertions = insertions }) b (pair_of next))
    IsLinked-refilled {insertions} table =
        rw (← pair_slots-rewritten slots b next)
        (IsLinked-view IsWhole-refilled (rw (bucket_states-refilled slots b next) table))
