-- What the code knows after each lane and each group of a search that calls a closure.
use Rattle.std.proofs.Common.{◌≡◌, ◌≢◌, ℕ, ◌+◌, ◌%◌, ◌/◌, ◌<◌, ◌≤◌, min, Bool, true, false, cond, List, [], ◌∷◌, ◌++◌}
use Rattle.std.proofs.Common.{length}
use Rattle.std.proofs.Common.{get_or, Option, None, Some, refl, ap, sym, ◌∙◌, subst, arith, append_assoc}
use Rattle.std.proofs.Common.{nat_eq}
use Rattle.std.specs.List.{Contains}
use Rattle.std.specs.Borrow.{Bor}
use Rattle.std.specs.Fn.{Mut}
use Rattle.std.proofs.lemmas.Bool.{ne_eqb}
use native.Mathlib.Decide.{dec_lt}
use Rattle.group_table.specs.Sizes.{IsPowerFromFour}
use Rattle.group_table.specs.Bucket.{Slot, empty, deleted, full, bucket_at, has_tag, bucket_states}
use Rattle.group_table.specs.Probe.{hash_tag, probed, state_probed, Reaches}
use Rattle.group_table.specs.Search.{candidates, Answers, RejectsEach, Finds, FindsNone}
use Rattle.group_table.specs.Layout.{slot_of, slots_of, states_by, IsLaidOut}
use Rattle.group_table.specs.Group.{width, tagged_lanes, IsEmptyLane, HasEmptyLane, HasNoEmptyLane, AcceptsIn}
use Rattle.group_table.specs.Group.{RejectsGroup, IsProbe, passed_by}
use Rattle.group_table.specs.Control.{buckets_of}
use Rattle.group_table.specs.declared.probe.Probe.{Probe}
use Rattle.group_table.proofs.ControlLemmas.{buckets_are}
use Rattle.group_table.proofs.BucketLemmas.{full_lt, empty_not_full, bucket_at-past, length-bucket_states}
use Rattle.group_table.proofs.ProbeLemmas.{probed-meets, probed-lane, up_to_lane, up_to_end, group_within, probe_within}
use Rattle.group_table.proofs.LayoutLemmas.{length-laid_out, bucket_at-laid_out}
use Rattle.group_table.proofs.LayoutLemmas.{power_of}
use Rattle.group_table.proofs.SearchLemmas.{FoldsTo-append, full_by_tag, held_by, has_tag-full, tagged_lanes-more}
use Rattle.group_table.proofs.SearchLemmas.{RejectsEach-more}
use Rattle.group_table.proofs.SearchLemmas.{RejectsEach-skip, candidates-group, candidates-distinct}
use Rattle.group_table.proofs.SearchLemmas.{Contains-candidates}

has_tag-test : (T : Type 0) (tag : ℕ) (b : Bool) → has_tag {T = T} tag (cond b deleted empty) ≡ false
has_tag-test T tag true = refl
has_tag-test T tag false = refl

has_tag-slot_of : {T : Type 0} (byte tag : ℕ) (e : Option T) → byte ≢ tag → has_tag tag (slot_of byte e) ≡ false
has_tag-slot_of {T} byte tag None p = has_tag-test T tag (nat_eq byte 128)
has_tag-slot_of byte tag (Some entry) p = ne_eqb byte tag p

module _ {T : Type 0} (control : List ℕ) (entries : List (Option T)) (laid_out : IsLaidOut control entries)
    (start lane b : ℕ) (is : b ≡ (start + lane) % length entries)
    (within : b < length entries) where
  pub lane_is : b ≡ (start + lane) % length (slots_of control entries)
  lane_is = is ∙ ap (λ n. (start + lane) % n) (sym (length-laid_out control entries laid_out))

  module _ {F : Type 0} (closure : Mut F (Bor T × Unit {0}) Bool) (tag : ℕ) (f between : F)
      (before : RejectsEach closure (slots_of control entries) f
      (tagged_lanes (slots_of control entries) tag start lane) between) where
    pub refused_passed : get_or control b 0 ≢ tag
        → RejectsEach closure (slots_of control entries) f
        (tagged_lanes (slots_of control entries) tag start (lane + 1)) between
    refused_passed other =
        RejectsEach-skip closure (slots_of control entries) tag start lane f between before
        (rw (← lane_is, bucket_at-laid_out control entries laid_out b within) (has_tag-slot_of _ tag _ other))

    module _ (entry : T) (there : bucket_at (slots_of control entries) b ≡ full (record { tag = tag; entry = entry }))
        (g : F) where
      pub refused_asked : Answers closure (slots_of control entries) between b false g
          → RejectsEach closure (slots_of control entries) f
          (tagged_lanes (slots_of control entries) tag start (lane + 1)) g
      refused_asked asked =
          RejectsEach-more closure (slots_of control entries) tag start lane f between g entry before
          (rw lane_is at there) (rw lane_is at asked)

      pub AcceptsIn-from : lane < min 16 (length entries) → Answers closure (slots_of control entries) between b true g
          → AcceptsIn closure (slots_of control entries) tag start f b g
      AcceptsIn-from p asked = record {
        lanes = lane + 1;
        in_group = omega (arith, length-laid_out control entries laid_out);
        asked = tagged_lanes (slots_of control entries) tag start lane;
        in_order =
            ap (λ k. tagged_lanes (slots_of control entries) tag start lane ++ k ∷ []) lane_is
            ∙ sym (tagged_lanes-more (slots_of control entries) tag start lane
            (has_tag-full _ _ tag (rw lane_is at there) refl));
        between = between;
        refused = before;
        accepted = asked;
      }

module _ {T F : Type 0} (closure : Mut F (Bor T × Unit {0}) Bool) (slots : List (Slot T)) (hash s : ℕ)
    (power : IsPowerFromFour (length slots)) (whole : s % 16 ≡ 0)
    (within : s < length slots) (none_before : (t : ℕ) → t < s → state_probed (bucket_states slots) hash t ≢ empty)
    (f between g : F)
    (before : RejectsEach closure slots f (candidates slots hash s) between) where
  reached_here : (lanes : ℕ) → lanes ≤ 16 → (step earlier : ℕ) → step < s + lanes → earlier / 16 < step / 16
      → state_probed (bucket_states slots) hash earlier ≢ empty
  reached_here lanes small step earlier p q = none_before earlier (omega arith)

  pub Finds-from : (b : ℕ) → AcceptsIn closure slots (hash_tag hash) (probed (length slots) hash s) between b g
      → Finds closure slots hash f b
  Finds-from b here =
      let fits : s + here.lanes ≤ length slots =
      omega (arith, here.in_group, group_within (length slots) s power whole within) in
      let order : (candidates slots hash s ++ here.asked) ++ b ∷ [] ≡ candidates slots hash (s + here.lanes) =
      append_assoc (candidates slots hash s) here.asked (b ∷ [])
      ∙ ap (λ xs. candidates slots hash s ++ xs) here.in_order
      ∙ sym (candidates-group slots hash s here.lanes whole (omega (arith, here.in_group))) in
      record {
        asked = candidates slots hash s ++ here.asked;
        search =
            record {
              steps = s + here.lanes;
              within = fits;
              reached = reached_here here.lanes (omega (arith, here.in_group));
              in_order = order;
              distinct = rw order (candidates-distinct slots hash (s + here.lanes) power fits);
            };
        between = here.between;
        refused = FoldsTo-append _ f _ between _ here.between before here.refused;
        last = g;
        accepted = here.accepted;
      }

  pub refused_group : RejectsGroup closure slots (hash_tag hash) (probed (length slots) hash s) between g
      → RejectsEach closure slots f (candidates slots hash (s + min 16 (length slots))) g
  refused_group here =
      rw (candidates-group slots hash s (min 16 (length slots)) whole (omega arith))
      (FoldsTo-append _ f _ between _ g before here)

  reached_by : (lane : ℕ) → lane < min 16 (length slots) → IsEmptyLane slots (probed (length slots) hash s) lane
      → (b : ℕ) → b < length slots
      → Reaches (bucket_states slots) hash b → (t : ℕ) × (t < s + min 16 (length slots)) × (probed (length slots) hash t ≡ b)
  reached_by lane p ends b small r =
      let n = length slots in
      let same = length-bucket_states slots in
      elim (dec_lt 16 n) [
        | yes q ↦
            let at : probed n hash r.step ≡ b = rw same at r.there in
            elim (dec_lt (s / 16) (r.step / 16)) [
              | yes past ↦
                  let group : (s + lane) / 16 ≡ s / 16 = omega arith in
                  let met : bucket_at (bucket_states slots) (probed n hash (s + lane)) ≡ empty =
                  rw (probed-lane n hash s lane whole (omega arith)) ends in
                  absurd (r.goes_on (s + lane) (omega arith) (rw same met))
              | no past ↦ (r.step, omega arith, at)
            ]
        | no q ↦ let met = probed-meets n hash b power small in (met.0, omega (arith, met.1), met.2)
      ]

  all_asked : HasEmptyLane slots (probed (length slots) hash s) (min 16 (length slots)) → (b : ℕ)
      → has_tag (hash_tag hash) (bucket_at slots b) ≡ true
      → Reaches (bucket_states slots) hash b → Contains (candidates slots hash (s + min 16 (length slots))) b
  all_asked ends b tagged reached =
      let last = s + min 16 (length slots) in
      let r = reached_by ends.0 ends.1 ends.2 b
      (full_lt slots b (full_by_tag (bucket_at slots b) (hash_tag hash) tagged)) reached in
      subst (Contains (candidates slots hash last)) r.2
      (Contains-candidates slots hash r.0 last r.1
      (subst (λ k. has_tag (hash_tag hash) (bucket_at slots k) ≡ true) (sym r.2) tagged))

  pub FindsNone-from : RejectsGroup closure slots (hash_tag hash) (probed (length slots) hash s) between g
      → HasEmptyLane slots (probed (length slots) hash s) (min 16 (length slots)) → FindsNone closure slots hash f
  FindsNone-from here ends =
      let last = s + min 16 (length slots) in
      let fits = group_within (length slots) s power whole within in
      record {
        asked = candidates slots hash last;
        search = record {
          steps = last;
          within = fits;
          reached = reached_here (min 16 (length slots))
              (omega arith);
          in_order = refl;
          distinct = candidates-distinct slots hash last power fits;
        };
        last = g;
        refused = refused_group here;
        all_reached = all_asked ends;
        complete = λ hash_of fitting b there e.
            let held = held_by (bucket_at slots b) there in
            all_asked ends b (has_tag-full _ held.0 _ held.1 (fitting.tags b held.0 held.1 ∙ ap hash_tag e))
            (subst (λ h. Reaches (bucket_states slots) h b) e (fitting.reached b there));
      }

pub FindsNone-empty : {T F : Type 0} (closure : Mut F (Bor T × Unit {0}) Bool) (slots : List (Slot T)) (hash : ℕ)
    (f : F) → length slots ≡ 0 → FindsNone closure slots hash f
FindsNone-empty closure slots hash f e = record {
  asked = [];
  search = record {
    steps = 0;
    within = omega arith;
    reached = λ step before p. absurd
        (omega arith);
    in_order = refl;
    distinct = λ i j d l m. absurd (omega arith);
  };
  last = f;
  refused = refl;
  all_reached = λ b tagged r. absurd
      (empty_not_full _ (bucket_at-past slots b (omega (arith, e))) (full_by_tag _ (hash_tag hash) tagged));
  complete = λ hash_of fits b there same. absurd (empty_not_full _ (bucket_at-past slots b (omega (arith, e))) there);
}

module _ {T : Type 0} (control : List ℕ) (entries : List (Option T)) (laid_out : IsLaidOut control entries) (hash s : ℕ)
    (pos : 0 < length entries) (whole : s % 16 ≡ 0)
    (none_before : (t : ℕ) → t < s → state_probed (states_by control entries) hash t ≢ empty)
    (none_here : HasNoEmptyLane (slots_of control entries) (probed (length (slots_of control entries)) hash s)
    (width (slots_of control entries))) where
  none_up_to : (t : ℕ) → t < s + min 16 (length entries)
      → bucket_at (states_by control entries) (probed (length entries) hash t) ≢ empty
  none_up_to =
      let same = length-laid_out control entries laid_out in
      let states = length-bucket_states (slots_of control entries) in
      up_to_lane (length entries) hash s whole (λ b. bucket_at (states_by control entries) b ≢ empty)
      (min 16 (length entries)) (omega arith)
      (λ t p. rw (states, same) at (none_before t p))
      (rw same at none_here)

  pub not_ended : (b : ℕ) → b < length entries → bucket_at (states_by control entries) b ≡ empty
      → s + 16 < length entries
  not_ended b p e = elim (dec_lt (s + 16) (length entries)) [
    | yes q ↦ q
    | no q ↦ absurd
        (up_to_end (length entries) hash s whole (λ k. bucket_at (states_by control entries) k ≢ empty)
        (power_of control entries laid_out pos) (omega arith) none_up_to b p e)
  ]

  pub none_on : s + 16 < length entries → (t : ℕ) → t < s + 16 → state_probed (states_by control entries) hash t ≢ empty
  none_on q t p = rw (length-bucket_states (slots_of control entries), length-laid_out control entries laid_out)
      (none_up_to t (omega arith))

-- a search for the hash goes past its first n steps: `f` rejected the candidates there and became `g`, and no bucket
-- there is empty
pub record GoesPast {T F : Type 0} (closure : Mut F (Bor T × Unit {0}) Bool) (slots : List (Slot T)) (hash n : ℕ)
    (f g : F) : Type 0 where
  pub within : n < length slots
  pub refused : RejectsEach closure slots f (candidates slots hash n) g
  pub not_empty : (before : ℕ) → before < n → state_probed (bucket_states slots) hash before ≢ empty

module _ {T F : Type 0} (closure : Mut F (Bor T × Unit {0}) Bool) (control : List ℕ) (entries : List (Option T))
    (laid_out : IsLaidOut control entries)
    (some : (b : ℕ) × (b < length entries) × (bucket_at (states_by control entries) b ≡ empty)) (hash : ℕ) where
  abbrev slots : List (Slot T)
  slots = slots_of control entries

  same : length slots ≡ length entries
  same = length-laid_out control entries laid_out

  pub GoesPast-none : (f : F) (n : ℕ) → n ≡ 0 → GoesPast closure slots hash n f f
  GoesPast-none f n e = record {
    within = omega (arith, same, some.1, e);
    refused = rw e refl;
    not_empty = λ before below met. absurd {A = ⊥} (omega (arith, e));
  }

  module _ (probe : Probe) (at : IsProbe (buckets_of control) hash probe) where
    at_slots : IsProbe (length slots) hash probe
    at_slots = rw same (rw (buckets_are _ _ laid_out) at at)

    pub group_starts : probe.start < length entries
    group_starts = rw same at (probe_within _ hash probe at_slots (omega (arith, same, some.1)))

    module _ (f between g : F) (past : GoesPast closure slots hash (passed_by probe) f between)
        (tag : ℕ) (tag_is : tag ≡ hash_tag hash) where
      power : IsPowerFromFour (length slots)
      power = rw same (power_of _ _ laid_out (omega (arith, some.1)))

      pub Finds-here : (b : ℕ) → AcceptsIn closure slots tag probe.start between b g → Finds closure slots hash f b
      Finds-here b here =
          Finds-from closure slots hash (passed_by probe) power at_slots.whole past.within past.not_empty f between g
          past.refused b (rw (at_slots.start, tag_is) at here)

      pub FindsNone-here : RejectsGroup closure slots tag probe.start between g
          × HasEmptyLane slots probe.start (width slots) → FindsNone closure slots hash f
      FindsNone-here here =
          FindsNone-from closure slots hash (passed_by probe) power at_slots.whole past.within past.not_empty f between
          g past.refused (rw (at_slots.start, tag_is) at here.0) (rw at_slots.start at here.1)

      module _ (here : RejectsGroup closure slots tag probe.start between g
          × HasNoEmptyLane slots probe.start (width slots)) where
        more : passed_by probe + 16 < length entries
        more = not_ended _ _ laid_out hash (passed_by probe) (omega (arith, some.1)) at_slots.whole past.not_empty
            (rw at_slots.start at here.1) some.0 some.1 some.2

        pub GoesPast-here : GoesPast closure slots hash (passed_by probe + 16) f g
        GoesPast-here =
            let wide : min 16 (length slots) ≡ 16 = omega (arith, same, more) in
            record {
              within = rw same more;
              refused = rw wide at (refused_group closure slots hash (passed_by probe) power at_slots.whole past.within
                  past.not_empty f between g past.refused (rw (at_slots.start, tag_is) at here.0));
              not_empty = none_on _ _ laid_out hash (passed_by probe) (omega (arith, some.1)) at_slots.whole
                  past.not_empty (rw at_slots.start at here.1) more;
            }
