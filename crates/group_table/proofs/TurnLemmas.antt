-- A table is rehashed in place: the turn of one entry.
use Rattle.std.proofs.Common.{◌≡◌, ◌≢◌, ℕ, ◌+◌, ◌-◌, ◌<◌, ◌≤◌, ◌⊎◌, max, List, length, get_or, set}
use Rattle.std.proofs.Common.{Option, Some, None, refl, ap, sym, ◌∙◌, subst, arith, inl, inr, count_by, is_some}
use Rattle.std.proofs.Common.{get_or-set_same, get_or-set_other, length-set}
use Rattle.std.proofs.lemmas.Bool.{cases_eq}
use Rattle.std.proofs.lemmas.Option.{none-some}
use Rattle.std.proofs.lemmas.List.{ext_get_or}
use Rattle.group_table.specs.Link.{IsLinkType}
use Rattle.group_table.specs.Sizes.{full_capacity}
use Rattle.group_table.specs.Bucket.{entry_count}
use Rattle.group_table.specs.Probe.{hash_tag, probed, IsFirst}
use Rattle.group_table.specs.Control.{buckets_of}
use Rattle.group_table.specs.Group.{full_at}
use Rattle.group_table.specs.Layout.{slots_of, written}
use Rattle.group_table.specs.Moves.{place_at, Joins}
use Rattle.group_table.specs.Relocation.{Moves}
use Rattle.group_table.proofs.InPlace.{IsSettled, IsWaiting, IsHalfway, IsInTurn}
use Rattle.group_table.proofs.ControlLemmas.{buckets_are}
use Rattle.group_table.proofs.LayoutLemmas.{length-laid_out, length-states_by, entries_within}
use Rattle.group_table.proofs.PlaceLemmas.{IsFreeFor, some_free_byte}
use Rattle.group_table.proofs.JoinLemmas.{some_buckets, first_reached, join_within, join_none, IsValid-joined}
use Rattle.group_table.proofs.JoinLemmas.{joins_there, deleted_count-joined}
use Rattle.group_table.proofs.MoveLemmas.{Moves-more, KeepsHashes-more}
use Rattle.group_table.proofs.RelocationLemmas.{entry_count-laid_out}
use Rattle.group_table.proofs.PlaceCounts.{place_within, count-filled, count-changed, count-taken, count-fewer}
use Rattle.group_table.proofs.HalfwayLemmas.{buckets_now, settled_by_none, waiting_by_none, stood_there}
use Rattle.group_table.proofs.HalfwayLemmas.{IsHalfway-taken}

module _ {T N : Type 0} {number : N → ℕ} {none : N} {IsGiven : (ℕ → ℕ) → Type 0} (whole : List (Option T))
    {now : List (Option T)} {control : List ℕ} {links : List N} {passed : ℕ} (old : ℕ) {entry : T}
    (half : IsHalfway number none IsGiven (set whole old None) now control links passed)
    (stood : place_at whole old ≡ Some entry)
    (within : count_by is_some whole ≤ full_capacity (length whole)) where
  in_whole : old < length whole
  in_whole = place_within whole old entry stood

  out : place_at (set whole old None) old ≡ None
  out = get_or-set_same whole old None None in_whole

  same_length : length (set whole old None) ≡ length whole
  same_length = length-set whole old None

  pub now_length : length now ≡ length whole
  now_length = half.now_length ∙ same_length

  one_fewer : count_by is_some now + 1 ≡ count_by is_some whole
  one_fewer = omega (arith, half.counted, count-taken whole old entry stood)

  placed_fewer : count_by is_some half.placed ≤ count_by is_some now
  placed_fewer = count-fewer half.placed now (half.placed_length ∙ sym half.now_length)
      (λ k. elim (half.each k) [ inl s ↦ inr (sym s.stands) | inr w ↦ inl w.none_placed ])

  less : entry_count (slots_of control half.placed) < full_capacity (length (slots_of control half.placed))
  less =
      let capacity : full_capacity (length (slots_of control half.placed)) ≡ full_capacity (length whole) =
      ap full_capacity (length-laid_out control half.placed half.valid.laid_out ∙ half.placed_length ∙ same_length) in
      omega (
        arith,
        capacity,
        entry_count-laid_out control half.placed half.valid.laid_out,
        placed_fewer,
        one_fewer,
        within,
      )

  pub some_free : (b : ℕ) × (b < length now) × (128 ≤ get_or control b 0)
  some_free =
      let pos = some_buckets control half.placed half.growth_left half.valid half.none_deleted less in
      let w = some_free_byte control half.placed half.growth_left half.valid pos in
      (w.0, omega (arith, w.1, half.placed_length, half.now_length), w.2)

  n_placed : buckets_of control ≡ length half.placed
  n_placed = buckets_are _ _ half.valid.laid_out

  module _ {hash b : ℕ} (reached : IsFreeFor control half.placed hash b) where
    in_placed : b < length half.placed
    in_placed = join_within control half.placed half.growth_left half.valid half.none_deleted less hash b reached

    put_within : b < length now
    put_within = omega (arith, in_placed, half.placed_length, half.now_length)

  pub record IsPut (hash b : ℕ) : Type 0 where
    pub reached : IsFreeFor control half.placed hash b
    pub in_whole : b < length whole
    pub in_now : b < length now
    pub in_control : b < length control

  pub put_into : {hash b : ℕ} → IsFirst (full_at control) (probed (buckets_of control) hash) b → IsPut hash b
  put_into {hash} {b} first =
      let reached = first_reached control half.placed half.growth_left half.valid half.none_deleted less hash b first in
      record {
        reached = reached;
        in_whole = omega (arith, put_within reached, now_length);
        in_now = put_within reached;
        in_control = omega (arith, in_placed reached, entries_within _ _ half.valid.laid_out);
      }

  module _ (link : ℕ → N) (laws : IsLinkType number link none)
      (below : length whole < number none) (hash b tag : ℕ)
      (reached : IsFreeFor control half.placed hash b)
      (tag_is : tag ≡ hash_tag hash) (tag_fits : tag < 128)
      (gives : (hash_at : ℕ → ℕ) → IsGiven hash_at → hash ≡ hash_at old) where
    free_placed : place_at half.placed b ≡ None
    free_placed = join_none control half.placed half.growth_left half.valid half.none_deleted less hash b reached

    same_bytes : written control now b tag ≡ written control half.placed b tag
    same_bytes = ap (λ k. set (set control b tag) (b + max 16 k) tag) (sym (buckets_now half) ∙ n_placed)

    abbrev gone_then : List (Option T)
    gone_then = set half.gone old (Some entry)

    abbrev placed_then : List (Option T)
    placed_then = set half.placed b (Some entry)

    abbrev now_then : List (Option T)
    now_then = set now b (Some entry)

    joins : Joins (slots_of control half.placed) (slots_of (written control half.placed b tag) placed_then) hash entry b
    joins = joins_there control half.placed half.growth_left half.valid half.none_deleted less hash b reached tag
        entry tag_fits tag_is

    was_out : place_at half.gone old ≡ None
    was_out = elim (half.each old) [ inl s ↦ s.went ∙ out | inr w ↦ w.not_gone ]

    gone_there : place_at gone_then old ≡ Some entry
    gone_there = get_or-set_same half.gone old (Some entry) None
        (omega (arith, half.gone_length, same_length, in_whole))

    gone_elsewhere : (k : ℕ) → k ≢ old → place_at gone_then k ≡ place_at half.gone k
    gone_elsewhere k other = get_or-set_other half.gone old k (Some entry) None other

    moves_then : Moves number none (place_at gone_then) (slots_of (written control half.placed b tag) placed_then)
        (set links old (link b))
    moves_then =
        Moves-more number none link laws (place_at half.gone)
        (place_at gone_then) old was_out gone_there gone_elsewhere
        (omega (arith, half.links_length, same_length, in_whole))
        (omega (arith, in_placed reached, half.placed_length, same_length, below)) joins half.moves

    module _ (next : List (Option T)) (next_length : length next ≡ length whole)
        (counted : count_by is_some now_then ≡ count_by is_some next)
        (elsewhere : (k : ℕ) → k ≢ b → place_at next k ≡ place_at whole k)
        (there : place_at gone_then b ≡ place_at next b) where
      here : IsSettled next gone_then placed_then now_then b
      here = record {
        went = there;
        stands = get_or-set_same now b (Some entry) None (put_within reached)
            ∙ sym (get_or-set_same half.placed b (Some entry) None (in_placed reached));
      }

      at_old : old ≢ b → IsSettled next gone_then placed_then now_then old
      at_old other =
          let before : place_at now old ≡ place_at half.placed old =
          elim (half.each old) [ inl s ↦ s.stands | inr w ↦ w.stays ∙ out ∙ sym w.none_placed ] in
          record {
            went = gone_there ∙ sym stood ∙ sym (elsewhere old other);
            stands = get_or-set_other now b old (Some entry) None other ∙ before
                ∙ sym (get_or-set_other half.placed b old (Some entry) None other);
          }

      module _ (k : ℕ) (other : k ≢ b) (apart : k ≢ old) where
        same_whole : place_at (set whole old None) k ≡ place_at next k
        same_whole = get_or-set_other whole old k None None apart ∙ sym (elsewhere k other)

        still_settled : IsSettled (set whole old None) half.gone half.placed now k
            → IsSettled next gone_then placed_then now_then k
        still_settled s = record {
          went = gone_elsewhere k apart ∙ s.went ∙ same_whole;
          stands = get_or-set_other now b k (Some entry) None other ∙ s.stands
              ∙ sym (get_or-set_other half.placed b k (Some entry) None other);
        }

        still_waiting : IsWaiting (set whole old None) half.gone half.placed now k
            → IsWaiting next gone_then placed_then now_then k
        still_waiting w = record {
          stays = get_or-set_other now b k (Some entry) None other ∙ w.stays ∙ same_whole;
          not_gone = gone_elsewhere k apart ∙ w.not_gone;
          none_placed = get_or-set_other half.placed b k (Some entry) None other ∙ w.none_placed;
        }

      each_then : (k : ℕ) → IsSettled next gone_then placed_then now_then k ⊎ ((k ≢ b) × (k ≢ old))
      each_then k = elim (cases_eq k b) [
        | inl e ↦ inl (subst (IsSettled next gone_then placed_then now_then) (sym e) here)
        | inr other ↦ elim (cases_eq k old) [
          | inl e ↦ inl (subst (IsSettled next gone_then placed_then now_then) (sym e) (at_old (λ f. other (e ∙ f))))
          | inr apart ↦ inr (other, apart)
        ]
      ]

      IsHalfway-then : IsHalfway number none IsGiven next now_then (written control half.placed b tag)
          (set links old (link b)) passed
      IsHalfway-then = record {
        gone = gone_then;
        placed = placed_then;
        growth_left = half.growth_left - 1;
        gone_length = length-set half.gone old (Some entry) ∙ half.gone_length ∙ same_length ∙ sym next_length;
        placed_length = length-set half.placed b (Some entry) ∙ half.placed_length ∙ same_length ∙ sym next_length;
        now_length = length-set now b (Some entry) ∙ half.now_length ∙ same_length ∙ sym next_length;
        links_length = length-set links old (link b) ∙ half.links_length ∙ same_length ∙ sym next_length;
        valid = IsValid-joined control half.placed half.growth_left half.valid half.none_deleted less hash b reached
            tag entry tag_fits;
        none_deleted = deleted_count-joined joins ∙ half.none_deleted;
        counted = counted;
        settled = λ k p. elim (each_then k) [ inl s ↦ s | inr w ↦ still_settled k w.0 w.1 (half.settled k p) ];
        each = λ k. elim (each_then k) [
          | inl s ↦ inl s
          | inr w ↦ elim (half.each k)
              [ inl s ↦ inl (still_settled k w.0 w.1 s) | inr v ↦ inr (still_waiting k w.0 w.1 v) ]
        ];
        moves = moves_then;
        hashes = λ hash_at given. KeepsHashes-more number none link laws (place_at half.gone)
            (place_at gone_then) old was_out gone_there gone_elsewhere
            (omega (arith, half.links_length, same_length, in_whole))
            (omega (arith, in_placed reached, half.placed_length, same_length, below)) joins half.moves hash_at
            (gives hash_at given) (half.hashes hash_at given);
      }

    pub IsHalfway-last : place_at now b ≡ None → IsHalfway number none IsGiven whole (set now b (Some entry))
        (written control now b tag) (set links old (link b)) passed
    IsHalfway-last free =
        let there : place_at gone_then b ≡ place_at whole b = elim (cases_eq b old) [
          | inl e ↦ subst (λ k. place_at gone_then k ≡ place_at whole k) (sym e) (gone_there ∙ sym stood)
          | inr other ↦
              let s = settled_by_none (set whole old None) half.gone half.placed now b free (half.each b) in
              gone_elsewhere b other ∙ s.went ∙ get_or-set_other whole old b None None other
        ] in
        rw same_bytes (IsHalfway-then whole refl (count-filled now b entry (put_within reached) free ∙ one_fewer)
        (λ k other. refl) there)

    module _ (waiting : T) (found : place_at now b ≡ Some waiting) where
      waits_there : IsWaiting (set whole old None) half.gone half.placed now b
      waits_there = waiting_by_none (set whole old None) half.gone half.placed now b waiting free_placed found
          (half.each b)

      in_old : place_at (set whole old None) b ≡ Some waiting
      in_old = sym waits_there.stays ∙ found

      not_old : b ≢ old
      not_old e = none-some waiting (sym out ∙ ap (place_at (set whole old None)) (sym e) ∙ in_old)

      pub stood_next : place_at whole b ≡ Some waiting
      stood_next = sym (get_or-set_other whole old b None None not_old) ∙ in_old

      pub IsHalfway-next : IsHalfway number none IsGiven (set whole b None) (set now b (Some entry))
          (written control now b tag) (set links old (link b)) passed
      IsHalfway-next =
          let counted : count_by is_some now_then ≡ count_by is_some (set whole b None) =
          omega (
            arith,
            count-changed now b waiting entry found,
            count-taken whole b waiting stood_next,
            one_fewer,
          ) in
          let there : place_at gone_then b ≡ place_at (set whole b None) b =
          gone_elsewhere b not_old ∙ waits_there.not_gone
          ∙ sym (get_or-set_same whole b None None (place_within whole b waiting stood_next)) in
          rw same_bytes (IsHalfway-then (set whole b None) (length-set whole b None) counted
          (λ k other. get_or-set_other whole b k None None other) there)

    pub IsInTurn-next : IsInTurn number none IsGiven whole (set now b (Some entry)) (written control now b tag)
        (set links old (link b)) passed b (place_at now b)
    IsInTurn-next = at (place_at now b) refl
      where
        at : (place : Option T) → place_at now b ≡ place
            → IsInTurn number none IsGiven whole (set now b (Some entry)) (written control now b tag)
            (set links old (link b)) passed b place
        at None is = IsHalfway-last is
        at (Some waiting) is = (stood_next waiting is, IsHalfway-next waiting is)

module _ {T N : Type 0} (number : N → ℕ) (none : N) (link : ℕ → N)
    (laws : IsLinkType number link none) (IsGiven : (ℕ → ℕ) → Type 0)
    (whole now : List (Option T)) (control : List ℕ) (links : List N) (b : ℕ) (entry : T)
    (half : IsHalfway number none IsGiven whole now control links b)
    (within : count_by is_some whole ≤ full_capacity (length whole)) (below : length whole < number none)
    (byte : 128 ≤ get_or control b 0) (there : place_at now b ≡ Some entry) where
  put_back : set (set now b None) b (Some entry) ≡ now
  put_back = ext_get_or None (set (set now b None) b (Some entry)) now
      (length-set (set now b None) b (Some entry) ∙ length-set now b None) (λ k p. elim (cases_eq k b) [
        | inl e ↦ rw e (get_or-set_same (set now b None) b (Some entry) None
            (omega (arith, length-set now b None, place_within now b entry there)) ∙ sym there)
        | inr other ↦ get_or-set_other (set now b None) b k (Some entry) None other
            ∙ get_or-set_other now b k None None other
      ])

  pub IsHalfway-stays : (hash tag : ℕ) → (step : ℕ) × (step < 16) × (probed (buckets_of control) hash step ≡ b)
      → tag ≡ hash_tag hash → tag < 128
      → ((hash_at : ℕ → ℕ) → IsGiven hash_at → hash ≡ hash_at b)
      → IsHalfway number none IsGiven whole now (written control now b tag) (set links b (link b)) (b + 1)
  IsHalfway-stays hash tag first tag_is tag_fits gives =
      let taken_length = length-set now b None in
      let half_taken = IsHalfway-taken number none IsGiven whole now control links b half entry byte there in
      let stood = stood_there number none IsGiven whole now control links b half entry byte there in
      let free = get_or-set_same now b None None (place_within now b entry there) in
      let laid_out = half_taken.valid.laid_out in
      let same = buckets_are _ _ laid_out ∙ sym (length-states_by control half_taken.placed laid_out) in
      let reached : IsFreeFor control half_taken.placed hash b = (
        record {
          step = first.0;
          there = subst (λ n. probed n hash first.0 ≡ b) same first.2;
          goes_on = λ before p. absurd (omega (arith, first.1));
        },
        byte,
      ) in
      let last = IsHalfway-last whole b half_taken stood within link laws below
      hash b tag reached tag_is tag_fits gives free in
      rw (put_back, taken_length) at last
