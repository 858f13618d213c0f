-- A rehash in place: before the first place, after each place, and after the last place.
use Rattle.std.proofs.Common.{◌≡◌, ◌≢◌, ℕ, ◌+◌, ◌-◌, ◌^◌, ◌<◌, ◌≤◌, ◌⊎◌, List, length, replicate, get_or, set}
use Rattle.std.proofs.Common.{Option, Some, None, refl, ap, sym, ◌∙◌, subst, arith, inl, inr, count_by, is_some}
use Rattle.std.proofs.Common.{get_or-set_same, get_or-set_other, length-set}
use Rattle.std.proofs.lemmas.Bool.{cases_eq}
use Rattle.std.proofs.lemmas.Option.{none-some}
use Rattle.std.proofs.lemmas.List.{length-replicate, ext_get_or, set-get_or}
use native.Mathlib.Decide.{dec_lt}
use Rattle.group_table.specs.Sizes.{IsPowerFromFour, full_capacity}
use Rattle.group_table.specs.Bucket.{empty, bucket_at, is_deleted}
use Rattle.group_table.specs.Control.{buckets_of}
use Rattle.group_table.specs.Layout.{slots_of, IsValid}
use Rattle.group_table.specs.Moves.{place_at}
use Rattle.group_table.specs.Relocation.{Moves, KeepsHashes}
use Rattle.group_table.proofs.InPlace.{IsSettled, IsWaiting, IsHalfway, IsInTurn}
use Rattle.group_table.proofs.BucketLemmas.{empty_not_deleted, deleted_count-none, used_count-split}
use Rattle.group_table.proofs.ControlLemmas.{buckets_are}
use Rattle.group_table.proofs.CopyLemmas.{copy_at}
use Rattle.group_table.proofs.FitsLemmas.{Fits-none}
use Rattle.group_table.proofs.FreshLemmas.{slots_of-fresh, IsValid-fresh}
use Rattle.group_table.proofs.MoveLemmas.{Moves-none}
use Rattle.group_table.proofs.RelocationLemmas.{entry_count-laid_out}
use Rattle.group_table.proofs.PlaceCounts.{place_within, count-taken}

module _ {T : Type 0} (old gone placed now : List (Option T)) (b : ℕ) where
  settled_by_placed : (entry : T) → place_at placed b ≡ Some entry → IsSettled old gone placed now b
      ⊎ IsWaiting old gone placed now b → IsSettled old gone placed now b
  settled_by_placed entry e (inl s) = s
  settled_by_placed entry e (inr w) = absurd (none-some entry (sym w.none_placed ∙ e))

  pub settled_by_none : place_at now b ≡ None → IsSettled old gone placed now b ⊎ IsWaiting old gone placed now b
      → IsSettled old gone placed now b
  settled_by_none e (inl s) = s
  settled_by_none e (inr w) = record { went = w.not_gone ∙ sym (sym w.stays ∙ e); stands = e ∙ sym w.none_placed }

  pub waiting_by_none : (entry : T) → place_at placed b ≡ None → place_at now b ≡ Some entry
      → IsSettled old gone placed now b ⊎ IsWaiting old gone placed now b → IsWaiting old gone placed now b
  waiting_by_none entry e f (inl s) = absurd (none-some entry (sym e ∙ sym s.stands ∙ f))
  waiting_by_none entry e f (inr w) = w

module _ {T N : Type 0} {number : N → ℕ} {none : N} {IsGiven : (ℕ → ℕ) → Type 0} {whole now : List (Option T)}
    {control : List ℕ} {links : List N} {passed : ℕ}
    (half : IsHalfway number none IsGiven whole now control links passed) where
  pub buckets_now : buckets_of control ≡ length now
  buckets_now = buckets_are _ _ half.valid.laid_out ∙ half.placed_length ∙ sym half.now_length

module _ {T N : Type 0} (number : N → ℕ) (none : N) (IsGiven : (ℕ → ℕ) → Type 0) (whole : List (Option T))
    (links : List N) (m : ℕ)
    (power : IsPowerFromFour (length whole)) (m_is : m ≡ length whole + 16) (fits : m < 2 ^ 63)
    (one_each : length links ≡ length whole) (none_linked : (b : ℕ) → get_or links b none ≡ none) where
  abbrev nowhere : List (Option T)
  nowhere = replicate (length whole) None

  all_empty : (b : ℕ) → bucket_at (slots_of (replicate m 255) nowhere) b ≡ empty
  all_empty b = rw (slots_of-fresh T (length whole) m (omega arith)) (copy_at (length whole) b empty)

  pub IsHalfway-start : IsHalfway number none IsGiven whole whole (replicate m 255) links 0
  IsHalfway-start = record {
    gone = nowhere;
    placed = nowhere;
    growth_left = full_capacity (length whole);
    gone_length = length-replicate (length whole) _;
    placed_length = length-replicate (length whole) _;
    now_length = refl;
    links_length = one_each;
    valid = IsValid-fresh T (length whole) m (inr (power, m_is)) fits;
    none_deleted = deleted_count-none _ (λ b e. empty_not_deleted _ (all_empty b) e);
    counted = refl;
    settled = λ b p. absurd (omega arith);
    each = λ b. inr
        (record {
          stays = refl;
          not_gone = copy_at (length whole) b None;
          none_placed = copy_at
              (length whole) b None;
        });
    moves = Moves-none number none (place_at nowhere) _ links
        (λ b. copy_at (length whole) b None) all_empty none_linked;
    hashes = λ hash_at given moved_hash_of same. Fits-none _ moved_hash_of all_empty;
  }

module _ {T N : Type 0} (number : N → ℕ) (none : N) (IsGiven : (ℕ → ℕ) → Type 0) (whole now : List (Option T))
    (control : List ℕ) (links : List N) (b : ℕ)
    (half : IsHalfway number none IsGiven whole now control links b) where
  passed_settled : IsSettled whole half.gone half.placed now b → (k : ℕ) → k < b + 1
      → IsSettled whole half.gone half.placed now k
  passed_settled here k p = elim (dec_lt k b) [
    | yes q ↦ half.settled k q
    | no q ↦ let e : b ≡ k = omega arith in subst (IsSettled whole half.gone half.placed now) e here
  ]

  passed_by : IsSettled whole half.gone half.placed now b
      → IsHalfway number none IsGiven whole now control links (b + 1)
  passed_by here = record {
    gone = half.gone;
    placed = half.placed;
    growth_left = half.growth_left;
    gone_length = half.gone_length;
    placed_length = half.placed_length;
    now_length = half.now_length;
    links_length = half.links_length;
    valid = half.valid;
    none_deleted = half.none_deleted;
    counted = half.counted;
    settled = passed_settled here;
    each = half.each;
    moves = half.moves;
    hashes = half.hashes;
  }

  pub IsHalfway-placed : b < length whole → get_or control b 0 < 128
      → IsHalfway number none IsGiven whole now control links (b + 1)
  IsHalfway-placed within byte = passed_by (at (get_or half.placed b None) refl)
    where
      at : (place : Option T) → get_or half.placed b None ≡ place → IsSettled whole half.gone half.placed now b
      at (Some entry) is = settled_by_placed whole half.gone half.placed now b entry is (half.each b)
      at None is =
          let free = rw is at (half.valid.laid_out.agrees b (omega (arith, within, half.placed_length))) in
          absurd (elim free [ inl e ↦ omega (arith, e, byte) | inr e ↦ omega (arith, e, byte) ])

  pub IsHalfway-none : place_at now b ≡ None → IsHalfway number none IsGiven whole now control links (b + 1)
  IsHalfway-none gone = passed_by (settled_by_none whole half.gone half.placed now b gone (half.each b))

  module _ (entry : T) (byte : 128 ≤ get_or control b 0) (there : place_at now b ≡ Some entry) where
    in_now : b < length now
    in_now = place_within now b entry there

    free_there : place_at half.placed b ≡ None
    free_there = at (get_or half.placed b None) refl
      where
        at : (place : Option T) → get_or half.placed b None ≡ place → get_or half.placed b None ≡ None
        at None is = is
        at (Some placed) is = let tag =
            rw is at (half.valid.laid_out.agrees b (omega (arith, in_now, half.now_length, half.placed_length))) in
            absurd (omega (arith, tag, byte))

    waits : IsWaiting whole half.gone half.placed now b
    waits = waiting_by_none whole half.gone half.placed now b entry free_there there (half.each b)

    pub stood_there : place_at whole b ≡ Some entry
    stood_there = sym waits.stays ∙ there

    pub IsHalfway-taken : IsHalfway number none IsGiven (set whole b None) (set now b None) control links (b + 1)
    IsHalfway-taken =
        let in_whole : b < length whole = omega (arith, in_now, half.now_length) in
        let here : IsSettled (set whole b None) half.gone half.placed (set now b None) b = record {
          went = waits.not_gone ∙ sym (get_or-set_same whole b None None in_whole);
          stands = get_or-set_same now b None None in_now ∙ sym free_there;
        } in
        let settles : (k : ℕ) → k ≢ b → IsSettled whole half.gone half.placed now k
        → IsSettled (set whole b None) half.gone half.placed (set now b None) k = λ k other s. record {
          went = s.went ∙ sym (get_or-set_other whole b k None None other);
          stands = get_or-set_other now b k None None other ∙ s.stands;
        } in
        let goes_on : (k : ℕ) → k ≢ b → IsWaiting whole half.gone half.placed now k
        → IsWaiting (set whole b None) half.gone half.placed (set now b None) k = λ k other w. record {
          stays = get_or-set_other now b k None None other ∙ w.stays ∙ sym (get_or-set_other whole b k None None other);
          not_gone = w.not_gone;
          none_placed = w.none_placed;
        } in
        record {
          gone = half.gone;
          placed = half.placed;
          growth_left = half.growth_left;
          gone_length = half.gone_length ∙ sym (length-set whole b None);
          placed_length = half.placed_length ∙ sym (length-set whole b None);
          now_length = length-set now b None ∙ half.now_length ∙ sym (length-set whole b None);
          links_length = half.links_length ∙ sym (length-set whole b None);
          valid = half.valid;
          none_deleted = half.none_deleted;
          counted = omega (arith, count-taken now b entry there, count-taken whole b entry stood_there, half.counted);
          settled = λ k p. elim (cases_eq k b) [
            | inl e ↦ subst (IsSettled (set whole b None) half.gone half.placed (set now b None)) (sym e) here
            | inr other ↦ settles k other (half.settled k (omega (arith, other)))
          ];
          each = λ k. elim (cases_eq k b) [
            | inl e ↦ inl (subst (IsSettled (set whole b None) half.gone half.placed (set now b None)) (sym e) here)
            | inr other ↦ elim (half.each k) [ inl s ↦ inl (settles k other s) | inr w ↦ inr (goes_on k other w) ]
          ];
          moves = half.moves;
          hashes = half.hashes;
        }

  pub IsInTurn-taken : 128 ≤ get_or control b 0
      → IsInTurn number none IsGiven whole (set now b None) control links (b + 1) b (place_at now b)
  IsInTurn-taken byte = at (place_at now b) refl
    where
      at : (place : Option T) → place_at now b ≡ place
          → IsInTurn number none IsGiven whole (set now b None) control links (b + 1) b place
      at None is =
          let same : set now b None ≡ now = ap (set now b) (sym is) ∙ set-get_or now b None in
          subst (λ then. IsHalfway number none IsGiven whole then control links (b + 1)) (sym same) (IsHalfway-none is)
      at (Some entry) is = (stood_there entry byte is, IsHalfway-taken entry byte is)

module _ {T N : Type 0} (number : N → ℕ) (none : N) (IsGiven : (ℕ → ℕ) → Type 0) (whole now : List (Option T))
    (control : List ℕ) (links : List N)
    (half : IsHalfway number none IsGiven whole now control links (length whole)) where
  all_placed : half.placed ≡ now
  all_placed = ext_get_or None half.placed now (half.placed_length ∙ sym half.now_length)
      (λ k p. sym (half.settled k (omega (arith, half.placed_length))).stands)

  all_gone : half.gone ≡ whole
  all_gone = ext_get_or None half.gone whole half.gone_length
      (λ k p. (half.settled k (omega (arith, half.gone_length))).went)

  pub none_deleted_last : count_by is_deleted (slots_of control now) ≡ 0
  none_deleted_last = rw (← all_placed) half.none_deleted

  pub IsValid-last : IsValid control now (full_capacity (length whole) - count_by is_some whole)
  IsValid-last =
      let valid : IsValid control now half.growth_left = rw (← all_placed) half.valid in
      let capacity : full_capacity (length now) ≡ full_capacity (length whole) = ap full_capacity half.now_length in
      let left : half.growth_left ≡ full_capacity (length whole) - count_by is_some whole =
      omega (
        arith,
        capacity,
        valid.room_left,
        used_count-split
            (slots_of control now),
        none_deleted_last,
        entry_count-laid_out control now valid.laid_out,
        half.counted,
      ) in
      subst (IsValid control now) left valid

  pub Moves-last : Moves number none (place_at whole) (slots_of control now) links
  Moves-last = rw (← all_placed, ← all_gone) half.moves

  pub hashes_last : (hash_at : ℕ → ℕ) → IsGiven hash_at
      → KeepsHashes number none (place_at whole) (slots_of control now) links hash_at
  hashes_last = rw (← all_placed, ← all_gone) half.hashes
