-- A log, and what a reference changes.
use Rattle.std.proofs.Common.{◌≡◌, ℕ, ◌+◌, ◌-◌, ◌*◌, ◌/◌, ◌<◌, ◌≤◌, true, false, List, [], ◌∷◌, ◌++◌, length, get_or, set}
use Rattle.std.proofs.Common.{take, drop, sum, replicate}
use Rattle.std.proofs.Common.{Option, Some, None, refl, sym, ap, ◌∙◌, subst, arith, inl, inr}
use Rattle.std.specs.Prelude.{◌^◌, nat_eq, Vec, vec_capacity, sum_by}
use Rattle.std.specs.List.{drop-map}
use Rattle.std.specs.Set.{remove_key}
use Rattle.std.proofs.lemmas.Bool.{both_ways, cases_lt, cases_eq, cases_order}
use Rattle.std.proofs.lemmas.Grind.{get_or-set_at}
use Rattle.std.proofs.lemmas.List.{take-append-drop, get_or-take, length_push, get_or-drop, get_or_past, ext_get_or}
use Rattle.std.proofs.lemmas.List.{get_or-set_other, get_or_push, get_or_append_left, get_or-replicate, length-set}
use Rattle.std.proofs.lemmas.List.{length-map, length-replicate, length-take, map-append, map-set}
use Rattle.std.proofs.lemmas.List.Sums.{sum_by-append, sum-map}
use Rattle.std.proofs.Math.ListN.{get_or-map}
use Rattle.std.proofs.lemmas.Map.Made.{length-remove_key}
use Rattle.std.proofs.lemmas.Option.{none-some, same_Some}
use Rattle.lru_theory.specs.Traces.{is_in}
use Rattle.lru_trace.specs.Blocks.{AreSums}
use Rattle.lru_trace.specs.Slots.{position, newest, live, held, HasSlot, IsLog, slot_weight, weight_in, weight_of}
use Rattle.lru_trace.specs.Slots.{weights_of}
use Rattle.lru_trace.proofs.Blocks.{block_enough, changed_sums, pushed_sums, sum-zeros, zeros_are_sums}
use Rattle.lru_trace.proofs.Newest.{newest_append, newest_absent, newest_split, newest_freed, is_in_middle}
use Rattle.lru_trace.proofs.Newest.{since_middle, without_middle, slot_weights, erased, taken_within, held_key}
use Rattle.lru_trace.proofs.Newest.{newest_push}

module _ {Z : Type 0} {log : Vec ℕ Z} {slots weights blocks : List ℕ} {used : ℕ}
    (is : IsLog log slots weights blocks used) where
  abbrev pub weight : ℕ → ℕ
  weight = weight_in weights

  abbrev pub xs : List (Option ℕ)
  xs = live log.items

  abbrev pub ws : List ℕ
  ws = weights_of weight log.items

  long : length xs ≡ length log.items
  long = length-map log.items held

  sum_from : (n : ℕ) → sum (drop n ws) ≡ sum_by weight (newest (drop n xs))
  sum_from n = ap sum (drop-map (slot_weight weight) n log.items)
      ∙ sum-map (slot_weight weight) (drop n log.items) ∙ slot_weights weight (drop n log.items)
      ∙ ap (λ ys. sum_by weight (newest ys)) (sym (drop-map held n log.items))

  pub all_weights : sum blocks ≡ sum_by weight (newest xs)
  all_weights = is.sums.from 0 ∙ sum_from 0

  slot_within : (slot key : ℕ) → get_or xs slot None ≡ Some key → slot < length log.items
  slot_within slot key e = elim (cases_lt slot (length log.items)) [
    | inl h ↦ h
    | inr h ↦ absurd (none-some key (sym (get_or_past xs slot None (omega (arith, h, long))) ∙ e))
  ]

  pub unreferenced : (key : ℕ) → get_or slots key 0 ≡ 2 ^ 64 - 1 → is_in nat_eq key (newest xs) ≡ false
  unreferenced key none = newest_absent key xs (λ i e. (is.keys key i e).some (sym (is.keys key i e).is ∙ none))

  module _ (key slot : ℕ) (at : HasSlot slots key slot) where
    abbrev behind : List ℕ
    behind = newest (drop (slot + 1) xs)

    abbrev left : List ℕ
    left = set slots key (2 ^ 64 - 1)

    abbrev free : List ℕ
    free = set log.items slot (2 ^ 32 - 1)

    lives : get_or xs slot None ≡ Some key
    lives = is.found key slot at

    pub slot_in : slot < length log.items
    slot_in = slot_within slot key lives

    not_behind : is_in nat_eq key behind ≡ false
    not_behind = newest_absent key (drop (slot + 1) xs) (λ i e.
        let same = sym at.is ∙ (is.keys key (slot + 1 + i) (sym (get_or-drop (slot + 1) xs i None) ∙ e)).is in
        absurd (omega (arith, same)))

    whole : newest xs ≡ behind ++ key ∷ newest (take slot xs)
    whole = newest_split xs slot key (omega (arith, slot_in, long)) lives

    pub position_is : Some (sum (drop (slot + 1) ws)) ≡ position weight key (newest xs)
    position_is = rw (
      whole,
      is_in_middle key behind (newest (take slot xs)),
      since_middle key behind (newest (take slot xs)) not_behind,
    ) (ap Some (sum_from (slot + 1)))

    pub referenced : is_in nat_eq key (newest xs) ≡ true
    referenced = rw whole (is_in_middle key behind (newest (take slot xs)))

    pub freed : live free ≡ set xs slot None
    freed = map-set held log.items slot (2 ^ 32 - 1)

    pub taken_out : newest (live free) ≡ remove_key (nat_eq key) (newest xs)
    taken_out = ap newest freed ∙ newest_freed xs slot (omega (arith, slot_in, long))
        ∙ sym (ap (remove_key (nat_eq key)) whole ∙ without_middle key behind (newest (take slot xs)) not_behind)

    only : (k s : ℕ) → (s ≡ slot → ⊥) → get_or xs s None ≡ Some k → k ≡ key → ⊥
    only k s away e same = away (sym (is.keys k s e).is ∙ ap (λ k. get_or slots k 0) same ∙ at.is)

    pub freed_keys : (k s : ℕ) → get_or (live free) s None ≡ Some k → HasSlot left k s
    freed_keys k s e =
        let old = sym (ap (λ ys. get_or ys s None) freed) ∙ e in
        elim (cases_eq s slot) [
          | inl same ↦ absurd (none-some k (sym (erased xs slot s same) ∙ old))
          | inr away ↦
              let there = sym (get_or-set_other xs slot s None None away) ∙ old in
              let has = is.keys k s there in
              record {
                within = omega (arith, has.within, length-set slots key (2 ^ 64 - 1));
                is = get_or-set_other slots key k (2 ^ 64 - 1) 0 (only k s away there) ∙ has.is;
                some = has.some;
              }
        ]

    pub freed_found : (k s : ℕ) → HasSlot left k s → get_or (live free) s None ≡ Some k
    freed_found k s has = elim (cases_eq k key) [
      | inl same ↦ absurd (has.some (sym has.is ∙ ap (λ k. get_or left k 0) same
          ∙ get_or-set_at slots key key (2 ^ 64 - 1) 0 refl at.within))
      | inr other ↦
          let old = is.found k s (record {
            within = omega (arith, has.within, length-set slots key (2 ^ 64 - 1));
            is = sym (get_or-set_other slots key k (2 ^ 64 - 1) 0 other) ∙ has.is;
            some = has.some;
          }) in
          ap (λ ys. get_or ys s None) freed
          ∙ get_or-set_other xs slot s None None (λ same. other (same_Some k key (sym old ∙ ap (λ s. get_or xs s None) same ∙ lives)))
          ∙ old
    ]

    pub is_weighed : get_or ws slot 0 ≡ weight key
    is_weighed = get_or-map (slot_weight weight) log.items slot (2 ^ 32 - 1)
        ∙ ap (weight_of weight) (sym (get_or-map held log.items slot (2 ^ 32 - 1)) ∙ lives)

    pub slot_block : slot / 16 < length blocks
    slot_block = omega (arith, slot_in, is.sums.enough, length-map log.items (slot_weight weight))

    pub enough : weight key ≤ get_or blocks (slot / 16) 0
    enough = omega (arith, is_weighed, block_enough is.sums slot (omega (arith, slot_in, length-map log.items (slot_weight weight))))

    pub freed_sums : AreSums (weights_of weight free) (set blocks (slot / 16) (get_or blocks (slot / 16) 0 - weight key))
    freed_sums = subst (λ ys. AreSums ys (set blocks (slot / 16) (get_or blocks (slot / 16) 0 - weight key)))
        (sym (map-set (slot_weight weight) log.items slot (2 ^ 32 - 1)))
        (changed_sums is.sums slot (omega (arith, slot_in, length-map log.items (slot_weight weight)))
        (get_or blocks (slot / 16) 0 - weight key) 0 (omega (arith, enough, is_weighed)))

    pub freed_counted : used ≡ length (newest (live free)) + 1
    freed_counted = omega (
      arith,
      is.counted,
      ap length taken_out,
      length-remove_key (nat_eq key) (newest xs) referenced,
    )

    pub freed_absent : is_in nat_eq key (newest (live free)) ≡ false
    freed_absent = newest_absent key (live free) (λ s e. (freed_keys key s e).some (sym (freed_keys key s e).is
        ∙ get_or-set_at slots key key (2 ^ 64 - 1) 0 refl at.within))

  module _ (key : ℕ) (within : key < length slots) (absent : is_in nat_eq key (newest xs) ≡ false) where
    abbrev more : List ℕ
    more = log.items ++ key ∷ []

    abbrev placed : List ℕ
    placed = set slots key (length log.items)

    pub is_key : held key ≡ Some key
    is_key = held_key key (λ e. omega (arith, e, within, is.few))

    pub grown : live more ≡ xs ++ Some key ∷ []
    grown = map-append held log.items (key ∷ []) ∙ ap (λ o. xs ++ o ∷ []) is_key

    own : get_or placed key 0 ≡ length log.items
    own = get_or-set_at slots key key (length log.items) 0 refl within

    fresh : (k s : ℕ) → get_or xs s None ≡ Some k → k ≡ key → ⊥
    fresh k s e same = both_ways _ absent (ap (λ k. is_in nat_eq k (newest xs)) (sym same) ∙ referenced k s (is.keys k s e))

    pub added_keys : (k s : ℕ) → get_or (live more) s None ≡ Some k → HasSlot placed k s
    added_keys k s e =
        let now = sym (ap (λ ys. get_or ys s None) grown) ∙ e in
        elim (cases_order s (length log.items)) [
          | inl last ↦
              let same = same_Some key k (sym (get_or_push xs (Some key) None s (omega (arith, last, long))) ∙ now) in
              record {
                within = omega (arith, same, within, length-set slots key (length log.items));
                is = ap (λ k. get_or placed k 0) (sym same) ∙ own ∙ sym last;
                some = λ none. omega (arith, none, last, log.ok.0, log.small);
              }
          | inr (inl before) ↦
              let there = sym (get_or_append_left xs (Some key ∷ []) None s (omega (arith, before, long))) ∙ now in
              let has = is.keys k s there in
              record {
                within = omega (arith, has.within, length-set slots key (length log.items));
                is = get_or-set_other slots key k (length log.items) 0 (fresh k s there) ∙ has.is;
                some = has.some;
              }
          | inr (inr past) ↦ absurd (none-some k (sym (get_or_past (xs ++ Some key ∷ []) s None
              (omega (arith, past, long, length_push xs (Some key)))) ∙ now))
        ]

    pub added_found : (k s : ℕ) → HasSlot placed k s → get_or (live more) s None ≡ Some k
    added_found k s has = ap (λ ys. get_or ys s None) grown ∙ elim (cases_eq k key) [
      | inl same ↦
          let here = sym own ∙ ap (λ k. get_or placed k 0) (sym same) ∙ has.is in
          get_or_push xs (Some key) None s (omega (arith, here, long)) ∙ ap Some (sym same)
      | inr other ↦
          let old = is.found k s (record {
            within = omega (arith, has.within, length-set slots key (length log.items));
            is = sym (get_or-set_other slots key k (length log.items) 0 other) ∙ has.is;
            some = has.some;
          }) in
          get_or_append_left xs (Some key ∷ []) None s (omega (arith, slot_within s k old, long)) ∙ old
    ]

    abbrev block : ℕ
    block = length log.items / 16

    pub added_sums : length log.items < 16 * length blocks
        → AreSums (weights_of weight more) (set blocks block (get_or blocks block 0 + weight key))
    added_sums room = subst (λ ys. AreSums ys (set blocks block (get_or blocks block 0 + weight key)))
        (sym (map-append (slot_weight weight) log.items (key ∷ []) ∙ ap (λ o. ws ++ weight_of weight o ∷ []) is_key))
        (subst (λ n. AreSums (ws ++ weight key ∷ []) (set blocks (n / 16) (get_or blocks block 0 + weight key)))
        (length-map log.items (slot_weight weight))
        (pushed_sums is.sums (weight key) (get_or blocks block 0 + weight key)
        (omega (arith, room, length-map log.items (slot_weight weight)))
        (ap (λ n. get_or blocks (n / 16) 0 + weight key) (sym (length-map log.items (slot_weight weight))))))

    pub added_counted : used + 1 ≡ length (newest (live more))
    added_counted = omega (arith, is.counted, ap (λ ys. length (newest ys)) grown, ap length (newest_push xs key))

  pub absent_before : (key slot : ℕ) → get_or xs slot None ≡ Some key
      → is_in nat_eq key (newest (take slot xs)) ≡ false
  absent_before key slot there = newest_absent key (take slot xs) (λ i e.
      let low = taken_within slot xs i key e in
      let same = sym (is.keys key i (sym (get_or-take slot xs i None low) ∙ e)).is ∙ (is.keys key slot there).is in
      absurd (omega (arith, same, low)))

  pub first_fit : (n : ℕ) → sum_by weight (newest (take n xs)) < 2 ^ 64
  first_fit n =
      let parts = ap newest (sym (take-append-drop n xs)) ∙ newest_append (take n xs) (drop n xs) in
      omega (
        arith,
        is.fits,
        all_weights,
        ap (sum_by weight) parts,
        sum_by-append weight (newest (drop n xs)) (newest (take n xs)),
      )

  same_weights : (other : ℕ → ℕ) → ((key slot : ℕ) → get_or xs slot None ≡ Some key → other key ≡ weight key)
      → weights_of other log.items ≡ ws
  same_weights other same = ext_get_or 0 (weights_of other log.items) ws
      (length-map log.items (slot_weight other) ∙ sym (length-map log.items (slot_weight weight)))
      (λ i h. get_or-map (slot_weight other) log.items i (2 ^ 32 - 1)
      ∙ go i (held (get_or log.items i (2 ^ 32 - 1))) (get_or-map held log.items i (2 ^ 32 - 1))
      ∙ sym (get_or-map (slot_weight weight) log.items i (2 ^ 32 - 1)))
    where
      go : (i : ℕ) (o : Option ℕ) → get_or xs i None ≡ o → weight_of other o ≡ weight_of weight o
      go i None e = refl
      go i (Some key) e = same key i e

  -- a new key has no slot
  abbrev wider : List ℕ
  wider = slots ++ (2 ^ 64 - 1) ∷ []

  pub wider_keys : (key slot : ℕ) → get_or xs slot None ≡ Some key → HasSlot wider key slot
  wider_keys key slot e =
      let has = is.keys key slot e in
      record {
        within = omega (arith, has.within, length_push slots (2 ^ 64 - 1));
        is = get_or_append_left slots _ 0 key has.within ∙ has.is;
        some = has.some;
      }

  pub wider_found : (key slot : ℕ) → HasSlot wider key slot → get_or xs slot None ≡ Some key
  wider_found key slot has = elim (cases_lt key (length slots)) [
    | inl low ↦ is.found key slot (record {
      within = low;
      is = sym (get_or_append_left slots _ 0 key low) ∙ has.is;
      some = has.some;
    })
    | inr past ↦
        let last : length slots ≡ key = omega (arith, past, has.within, length_push slots (2 ^ 64 - 1)) in
        absurd (has.some (sym has.is ∙ get_or_push slots (2 ^ 64 - 1) 0 key last))
  ]

  pub weighed_more : (more : ℕ) → length slots ≤ length weights
      → AreSums (weights_of (weight_in (weights ++ more ∷ [])) log.items) blocks
  weighed_more more same = subst (λ ys. AreSums ys blocks) (sym (same_weights (weight_in (weights ++ more ∷ []))
      (λ key slot e. get_or_append_left weights (more ∷ []) 1 key (omega (arith, same, (is.keys key slot e).within)))))
      is.sums

  -- without the last key, which has no slot
  module _ (last : ℕ) (some : length slots ≡ last + 1) (absent : is_in nat_eq last (newest xs) ≡ false) where
    below : (key slot : ℕ) → get_or xs slot None ≡ Some key → key < last
    below key slot e = elim (cases_eq key last) [
      | inl same ↦ absurd (both_ways _ absent (ap (λ k. is_in nat_eq k (newest xs)) (sym same)
          ∙ referenced key slot (is.keys key slot e)))
      | inr other ↦ omega (arith, some, other, (is.keys key slot e).within)
    ]

    pub fewer_keys : (key slot : ℕ) → get_or xs slot None ≡ Some key → HasSlot (take last slots) key slot
    fewer_keys key slot e =
        let has = is.keys key slot e in
        record {
          within = omega (arith, below key slot e, some, length-take last slots);
          is = get_or-take last slots key 0 (below key slot e) ∙ has.is;
          some = has.some;
        }

    pub fewer_found : (key slot : ℕ) → HasSlot (take last slots) key slot → get_or xs slot None ≡ Some key
    fewer_found key slot has =
        let low : key < last = omega (arith, has.within, length-take last slots) in
        is.found key slot (record {
          within = omega (arith, low, some);
          is = sym (get_or-take last slots key 0 low) ∙ has.is;
          some = has.some;
        })

    pub fewer_sums : AreSums (weights_of (weight_in (take last weights)) log.items) blocks
    fewer_sums = subst (λ ys. AreSums ys blocks) (sym (same_weights (weight_in (take last weights))
        (λ key slot e. get_or-take last weights key 1 (below key slot e)))) is.sums

pub empty_log : {Z : Type 0} {log : Vec ℕ Z} {slots weights blocks : List ℕ} (keys count : ℕ) → log.items ≡ []
    → 16 * count ≤ vec_capacity log → slots ≡ replicate keys (2 ^ 64 - 1) → keys < 2 ^ 32 → blocks ≡ replicate count 0
    → IsLog log slots weights blocks 0
empty_log {log = log} {slots = slots} {weights = weights} {blocks = blocks} keys count none room free few zeros = record {
  room = omega (arith, room, ap length zeros, length-replicate {A = ℕ} count 0);
  few = omega (arith, few, ap length free, length-replicate keys (2 ^ 64 - 1));
  keys = λ key slot e. absurd (none-some key (sym (ap (λ items. get_or (live items) slot None) none) ∙ e));
  found = λ key slot has. absurd (has.some (sym has.is ∙ ap (λ s. get_or s key 0) free ∙ get_or-replicate keys key
      (2 ^ 64 - 1) 0 (omega (arith, has.within, ap length free, length-replicate keys (2 ^ 64 - 1)))));
  sums = rw (none, zeros) (zeros_are_sums 0 count (omega arith));
  fits = omega (arith, ap sum zeros, sum-zeros count);
  counted = ap (λ items. length (newest (live items))) (sym none);
}
