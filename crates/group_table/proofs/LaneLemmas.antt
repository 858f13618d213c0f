use Rattle.std.proofs.Common.{◌≡◌, ◌≢◌, ℕ, zero, suc, ◌+◌, ◌-◌, ◌*◌, ◌%◌, ◌^◌, ◌<◌, ◌≤◌, ◌⊎◌, ◌↔◌, min, max, Bool, true}
use Rattle.std.proofs.Common.{false, List, length, get_or, Option}
use Rattle.std.proofs.Common.{refl, ap, sym, ◌∙◌, subst, arith, pow-suc, pow_mono, inl, inr}
use Rattle.std.proofs.Math.Nat.{add-mul-mod_self_left, mod-eq_of_lt, mod-lt}
use Rattle.std.specs.Borrow.{Bor}
use Rattle.std.specs.Fn.{Mut}
use Rattle.std.proofs.lemmas.Bool.{lt-ltb, le-ltb}
use native.Mathlib.Decide.{dec_lt}
use Rattle.group_table.specs.Sizes.{IsPowerFromFour}
use Rattle.group_table.specs.Bucket.{Slot, empty, full, bucket_at}
use Rattle.group_table.specs.Search.{Answers, RejectsEach}
use Rattle.group_table.specs.Lanes.{IsRepeated, IsMaskAt, IsMaskOf, HasLane}
use Rattle.group_table.specs.Layout.{slots_of, states_by, byte_of, IsLaidOut}
use Rattle.group_table.specs.Group.{width, tagged_lanes, HasEmptyLane, HasNoEmptyLane, AcceptsIn, RejectsGroup}
use Rattle.group_table.specs.Group.{IsFreeLane}
use Rattle.group_table.proofs.LayoutLemmas.{length-laid_out, power_of, state_from_byte, byte_from_state}
use Rattle.group_table.proofs.WriteLemmas.{byte_at-bucket, byte_at-between, byte_at-again}
use Rattle.group_table.proofs.Circle.{distance}
use Rattle.group_table.proofs.FindLemmas.{refused_passed, refused_asked, AcceptsIn-from}

pub whole_rounds : (n : ℕ) → IsPowerFromFour n → (q : ℕ) × (max 16 n ≡ n * q)
whole_rounds n power = elim (dec_lt n 16) [
  | yes p ↦ small power.0 power.1 p
  | no p ↦ (1, omega arith)
]
  where
    small : (k : ℕ) → n ≡ 4 * 2 ^ k → n < 16 → (q : ℕ) × (max 16 n ≡ n * q)
    small zero e p = let f : n ≡ 4 = e in (4, omega arith)
    small (suc zero) e p = let f : n ≡ 8 = e in (2, omega arith)
    small (suc (suc k)) e p = let z : 2 ^ 0 ≤ 2 ^ k = pow_mono {i = 0} {j = k} (omega arith) in
        absurd (omega (arith, z, pow-suc 2 (suc k), pow-suc 2 k))

module _ (n start : ℕ) where
  -- the lane belongs to a bucket, not to a byte between the buckets and their repetition
  abbrev pub IsReal : ℕ → Type 0
  IsReal lane = (start + lane < n) ⊎ (max 16 n ≤ start + lane)

  pub real_or_between : (lane : ℕ) → IsReal lane ⊎ ((n ≤ start + lane) × (start + lane < max 16 n))
  real_or_between lane = elim (dec_lt (start + lane) n) [
    | yes p ↦ inl (inl p)
    | no p ↦ elim (dec_lt (start + lane) (max 16 n)) [ yes q ↦ inr (omega arith, q) | no q ↦ inl (inr (omega arith)) ]
  ]

  pub all_real : 16 ≤ n → (lane : ℕ) → IsReal lane
  all_real p lane = elim (real_or_between lane) [ inl r ↦ r | inr w ↦ absurd (omega (arith, w.0, w.1)) ]

  abbrev pub passed : ℕ → ℕ
  passed lanes = min lanes (n - start) + (start + lanes - max 16 n)

  passed-next : start < n → (lane : ℕ) → IsReal lane → passed lane + 1 ≡ passed (lane + 1)
  passed-next bound lane (inl p) = omega arith
  passed-next bound lane (inr p) = omega arith

  passed-between : (lane : ℕ) → n ≤ start + lane → start + lane < max 16 n → passed lane ≡ passed (lane + 1)
  passed-between lane p q = omega arith

  passed-all : start < n → passed 16 ≡ min 16 n
  passed-all bound = omega arith

  passed-lt : start < n → (lane : ℕ) → lane < 16 → IsReal lane → passed lane < min 16 n
  passed-lt bound lane p (inl q) = omega arith
  passed-lt bound lane p (inr q) = omega arith

  module _ (power : IsPowerFromFour n) (bound : start < n) where
    place_past : (lane : ℕ) → lane < 16 → max 16 n ≤ start + lane → (start + lane) % n ≡ start + lane - max 16 n
    place_past lane p q =
        let w = whole_rounds n power in
        let e : start + lane ≡ start + lane - max 16 n + n * w.0 = omega (arith, w.1) in
        ap (λ k. k % n) e ∙ add-mul-mod_self_left (start + lane - max 16 n) n w.0 ∙ mod-eq_of_lt (omega arith)

    pub passed-place : (lane : ℕ) → lane < 16 → IsReal lane → (start + lane) % n ≡ (start + passed lane) % n
    passed-place lane p (inl q) = let e : start + lane ≡ start + passed lane = omega arith in ap (λ k. k % n) e
    passed-place lane p (inr q) =
        let x = start + lane - max 16 n in
        let one : x + n * 1 ≡ start + passed lane = omega arith in
        let small : x < n = omega arith in
        place_past lane p q ∙ sym (mod-eq_of_lt small) ∙ sym (add-mul-mod_self_left x n 1) ∙ ap (λ k. k % n) one

    module _ (control : List ℕ) (repeated : IsRepeated control n) where
      pub lane_byte : (lane : ℕ) → lane < 16 → IsReal lane
          → get_or control (start + lane) 0 ≡ get_or control ((start + lane) % n) 0
      lane_byte lane p (inl q) = ap (λ k. get_or control k 0) (sym (mod-eq_of_lt q))
      lane_byte lane p (inr q) =
          repeated.again (start + lane) q (omega arith) ∙ ap (λ k. get_or control k 0) (sym (place_past lane p q))

      pub byte_between : (lane : ℕ) → n ≤ start + lane → start + lane < max 16 n → get_or control (start + lane) 0 ≡ 255
      byte_between lane p q = repeated.between (start + lane) p (omega arith)

      pub real_unless_empty : (lane : ℕ) → get_or control (start + lane) 0 ≢ 255 → IsReal lane
      real_unless_empty lane used =
          elim (real_or_between lane) [ inl r ↦ r | inr w ↦ absurd (used (byte_between lane w.0 w.1)) ]

      pub wide_unless_empty : ((lane : ℕ) → lane < 16 → get_or control (start + lane) 0 ≢ 255) → 16 ≤ n
      wide_unless_empty used = elim (dec_lt n 16) [
        | yes p ↦ absurd (used (n - start) (omega arith) (byte_between (n - start) (omega arith) (omega arith)))
        | no p ↦ omega arith
      ]

      pub full_lane : (mask : ℕ) → IsMaskAt (λ byte. 128 ≤ byte) control start mask → (lane : ℕ) → lane < 16
          → (HasLane mask lane → ⊥) → get_or control ((start + lane) % n) 0 < 128
      full_lane mask h lane p none = elim (dec_lt (get_or control (start + lane) 0) 128) [
        | yes q ↦ subst (λ byte. byte < 128) (lane_byte lane p (real_unless_empty lane (λ e. omega arith))) q
        | no q ↦ absurd (none ((h lane).1 (p, omega arith)))
      ]

      pub lane_between : (mask lane : ℕ) → IsMaskAt (λ byte. 128 ≤ byte) control start mask → HasLane mask lane
          → get_or control ((start + lane) % n) 0 < 128 → (n ≤ start + lane) × (start + lane < max 16 n)
      lane_between mask lane h set there = elim (real_or_between lane) [
        | inl real ↦ let w = (h lane).0 set in absurd (omega (arith, w.1, lane_byte lane w.0 real, there))
        | inr w ↦ w
      ]

      pub free_before : (mask lane : ℕ) → IsMaskAt (λ byte. 128 ≤ byte) control start mask → lane < 16
          → ((i : ℕ) → HasLane mask i → lane ≤ i) → HasLane mask lane → get_or control ((start + lane) % n) 0 < 128
          → (all first : ℕ) → IsMaskOf (λ byte. 128 ≤ byte) control all → ((i : ℕ) → HasLane all i → first ≤ i)
          → HasLane all first → (e : ℕ) → e < n → 128 ≤ get_or control e 0 → IsFreeLane control n start first
      free_before mask lane h in_group least set there all first h_all least_all set_all e within free =
          let past = lane_between mask lane h set there in
          let below : first ≤ e = least_all e ((h_all e).1 (omega (arith, past.0, past.1, within), free)) in
          let byte : 128 ≤ get_or control first 0 = ((h_all first).0 set_all).1 in
          let early : (before : ℕ) → before < n - start → get_or control ((start + before) % n) 0 < 128 =
          λ before p. full_lane mask h before (omega (arith, p, past.0, in_group))
          (λ held. omega (arith, p, past.0, least before held)) in
          let left : first < start = elim (dec_lt first start) [
            | yes p ↦ p
            | no p ↦
                let on : start + (first - start) ≡ first = omega arith in
                let same : (start + (first - start)) % n ≡ first =
                ap (λ k. k % n) on ∙ mod-eq_of_lt (omega (arith, below, within)) in
                absurd (omega (
                  arith,
                  byte,
                  subst (λ k. get_or control k 0 < 128) same
                      (early (first - start) (omega (arith, below, within))),
                ))
          ] in
          let round : start + (n - start + first) ≡ first + n * 1 = omega arith in
          let late : (before : ℕ) → before < n - start + first → get_or control ((start + before) % n) 0 < 128 =
          λ before p. elim (dec_lt before (n - start)) [
            | yes q ↦ early before q
            | no q ↦
                let k = start + before - n in
                let on : start + before ≡ k + n * 1 = omega arith in
                let same : (start + before) % n ≡ k =
                ap (λ j. j % n) on ∙ add-mul-mod_self_left k n 1
                ∙ mod-eq_of_lt (omega (arith, below, within, p)) in
                subst (λ j. get_or control j 0 < 128) (sym same) (elim (dec_lt (get_or control k 0) 128) [
                  | yes r ↦ r
                  | no r ↦ absurd
                      (omega (
                        arith,
                        p,
                        least_all k
                            ((h_all k).1 (omega (arith, p, past.0, past.1, below, within), omega arith)),
                      ))
                ])
          ] in
          record {
            first = record {
              step = n - start + first;
              there = ap (λ k. k % n) round ∙ add-mul-mod_self_left first n 1
                  ∙ mod-eq_of_lt (omega (arith, below, within));
              free_there = le-ltb _ 128 byte;
              full_before = λ before p. lt-ltb _ 128 (late before p);
            };
            in_group = omega (arith, past.0, past.1);
          }

pub repeated_bytes : {T : Type 0} (control : List ℕ) (entries : List (Option T)) → IsLaidOut control entries
    → 0 < length entries → IsRepeated control (length entries)
repeated_bytes control entries laid_out pos = record { again = again; between = between }
  where
    same : length (slots_of control entries) ≡ length entries
    same = length-laid_out control entries laid_out

    long : length control ≡ length entries + 16
    long = elim laid_out.counts [ inl w ↦ absurd (omega (arith, w.0)) | inr w ↦ w.1 ]

    again : (p : ℕ) → max 16 (length entries) ≤ p → p < length entries + 16
        → get_or control p 0 ≡ get_or control (p - max 16 (length entries)) 0
    again p q r =
        laid_out.bytes p (omega (arith, long)) ∙ byte_at-again (slots_of control entries) p (omega (arith, same))
        (omega arith)
        ∙ ap (λ k. byte_of (bucket_at (slots_of control entries) (p - max 16 k))) same
        ∙ sym (byte_at-bucket (slots_of control entries) (p - max 16 (length entries)) (omega (arith, same)))
        ∙ sym (laid_out.bytes (p - max 16 (length entries)) (omega (arith, long)))

    between : (p : ℕ) → length entries ≤ p → p < 16 → get_or control p 0 ≡ 255
    between p q r = laid_out.bytes p (omega (arith, long))
        ∙ byte_at-between (slots_of control entries) p (omega (arith, same)) r

-- The closure rejected the entries with the tag in the first `lanes` lanes. The mask contains the later lanes with the
-- tag.
pub record AsksLanes {T F : Type 0} (closure : Mut F (Bor T × Unit {0}) Bool) (control : List ℕ)
    (entries : List (Option T)) (tag start : ℕ) (f : F) (mask : ℕ) (g : F) : Type 0 where
  pub lanes : ℕ
  pub in_group : lanes ≤ 16
  pub left : (lane : ℕ) → HasLane mask lane ↔ ((lanes ≤ lane) × (lane < 16) × (get_or control (start + lane) 0 ≡ tag))
  pub refused : RejectsEach closure (slots_of control entries) f
      (tagged_lanes (slots_of control entries) tag start (passed (length entries) start lanes)) g

module _ {T : Type 0} (control : List ℕ) (entries : List (Option T)) (laid_out : IsLaidOut control entries) (start : ℕ)
    (bound : start < length entries) where
  abbrev n : ℕ
  n = length entries

  abbrev slots : List (Slot T)
  slots = slots_of control entries

  pos : 0 < length entries
  pos = omega arith

  pub ended_lane : (e : ℕ) → e < length entries → bucket_at (states_by control entries) e ≡ empty → (lane : ℕ)
      → lane < 16 → get_or control (start + lane) 0 ≡ 255
      → HasEmptyLane (slots_of control entries) start (width (slots_of control entries))
  ended_lane e within is lane p byte =
      let same = length-laid_out control entries laid_out in
      elim (real_or_between n start lane) [
        | inl real ↦
            let place = passed-place n start (power_of control entries laid_out pos) bound lane p real in
            let there : get_or control ((start + lane) % n) 0 ≡ 255 =
            sym (lane_byte n start (power_of control entries laid_out pos) bound control
            (repeated_bytes control entries laid_out pos) lane p real) ∙ byte in
            let mark : bucket_at (states_by control entries) ((start + lane) % n) ≡ empty =
            state_from_byte control entries laid_out ((start + lane) % n) (mod-lt _ pos) there in
            (passed n start lane, omega (arith, passed-lt n start bound lane p real, same), rw (same, ← place) mark)
        | inr w ↦
            let d = distance n start e bound within in
            (d.0, omega (arith, d.1, same), rw (same, d.2) is)
      ]

  pub none_ended : ((lane : ℕ) → lane < 16 → get_or control (start + lane) 0 ≢ 255)
      → HasNoEmptyLane (slots_of control entries) start (width (slots_of control entries))
  none_ended used lane p e =
      let same = length-laid_out control entries laid_out in
      let power = power_of control entries laid_out pos in
      let repeated = repeated_bytes control entries laid_out pos in
      let wide = wide_unless_empty n start power bound control repeated used in
      let inside : lane < 16 = omega (arith, same) in
      let real = real_unless_empty n start power bound control repeated lane (used lane inside) in
      used lane inside
      (lane_byte n start power bound control repeated lane inside real
      ∙ byte_from_state control entries laid_out ((start + lane) % n) (mod-lt _ pos) (rw same at e))

  module _ {F : Type 0} (closure : Mut F (Bor T × Unit {0}) Bool) (tag : ℕ) (low : tag < 128) (f : F) where
    pub AsksLanes-first : (mask : ℕ) → IsMaskAt (λ byte. byte ≡ tag) control start mask
        → AsksLanes closure control entries tag start f mask f
    AsksLanes-first mask h = record {
      lanes = 0;
      in_group = omega arith;
      left = λ lane. (λ set. let w = (h lane).0 set in (omega arith, w.0, w.1), λ w. (h lane).1 (w.1, w.2));
      refused = let none : 0 ≡ passed n start 0 = omega arith in
          subst (λ k. RejectsEach closure slots f (tagged_lanes slots tag start k) f) none refl;
    }

    skipped : (g : F) (k j : ℕ) → k + j ≤ 16 →
        ((lane : ℕ) → k ≤ lane → lane < k + j → get_or control (start + lane) 0 ≢ tag)
        → RejectsEach closure slots f (tagged_lanes slots tag start (passed n start k)) g
        → RejectsEach closure slots f (tagged_lanes slots tag start (passed n start (k + j))) g
    skipped g k zero p others before = let e : k ≡ k + 0 = omega arith in
        subst (λ i. RejectsEach closure slots f (tagged_lanes slots tag start (passed n start i)) g) e before
    skipped g k (suc j) p others before =
        let lane = k + j in
        let on : k + j + 1 ≡ k + suc j = omega arith in
        let up_to = skipped g k j (omega arith) (λ i q r. others i q (omega arith)) before in
        let power = power_of control entries laid_out pos in
        let repeated = repeated_bytes control entries laid_out pos in
        subst (λ i. RejectsEach closure slots f (tagged_lanes slots tag start (passed n start i)) g) on
        (elim (real_or_between n start lane) [
          | inl real ↦
              let place = passed-place n start power bound lane (omega arith) real in
              let other : get_or control ((start + passed n start lane) % n) 0 ≢ tag =
              λ e. others lane (omega arith) (omega arith)
              (lane_byte n start power bound control repeated lane (omega arith) real
              ∙ ap (λ b. get_or control b 0) place ∙ e) in
              subst (λ i. RejectsEach closure slots f (tagged_lanes slots tag start i) g)
              (passed-next n start bound lane real)
              (refused_passed control entries laid_out start (passed n start lane)
              ((start + passed n start lane) % n) refl (mod-lt _ pos) closure tag f g up_to other)
          | inr w ↦ subst (λ i. RejectsEach closure slots f (tagged_lanes slots tag start i) g)
              (passed-between n start lane w.0 w.1) up_to
        ])

    module _ (mask : ℕ) (g : F) (so_far : AsksLanes closure control entries tag start f mask g) where
      up_to_lane : (lane : ℕ) → so_far.lanes ≤ lane → lane ≤ 16 → ((i : ℕ) → i < lane → HasLane mask i → ⊥)
          → RejectsEach closure slots f (tagged_lanes slots tag start (passed n start lane)) g
      up_to_lane lane p q none =
          let e : so_far.lanes + (lane - so_far.lanes) ≡ lane = omega arith in
          subst (λ i. RejectsEach closure slots f (tagged_lanes slots tag start (passed n start i)) g) e
          (skipped g so_far.lanes (lane - so_far.lanes) (omega arith)
          (λ i r s t. none i (omega arith) ((so_far.left i).1 (r, omega arith, t))) so_far.refused)

      pub RejectsGroup-from : ((lane : ℕ) → HasLane mask lane → ⊥)
          → RejectsGroup closure (slots_of control entries) tag start f g
      RejectsGroup-from none =
          let all : passed n start 16 ≡ width slots =
          omega (arith, passed-all n start bound, length-laid_out control entries laid_out) in
          subst (λ i. RejectsEach closure slots f (tagged_lanes slots tag start i) g) all
          (up_to_lane 16 so_far.in_group (omega arith) (λ i p. none i))

      module _ (lane b : ℕ) (set : HasLane mask lane) (first : (i : ℕ) → HasLane mask i → lane ≤ i)
          (is : b ≡ (start + lane) % length entries) where
        real : IsReal n start lane
        real =
            let w = (so_far.left lane).0 set in
            real_unless_empty n start (power_of control entries laid_out pos) bound control
            (repeated_bytes control entries laid_out pos) lane (λ e. omega (arith, w.2, e, low))

        pub lane_within : b < length entries
        lane_within = rw is (mod-lt _ pos)

        pub lane_tag : get_or control b 0 ≡ tag
        lane_tag =
            let w = (so_far.left lane).0 set in
            ap (λ k. get_or control k 0) is ∙ sym
            (lane_byte n start (power_of control entries laid_out pos) bound control
            (repeated_bytes control entries laid_out pos) lane w.1 real) ∙ w.2

        lane_is : b ≡ (start + passed n start lane) % n
        lane_is = is ∙ passed-place n start (power_of control entries laid_out pos) bound lane
            ((so_far.left lane).0 set).1 real

        before : RejectsEach closure slots f (tagged_lanes slots tag start (passed n start lane)) g
        before = let w = (so_far.left lane).0 set in
            up_to_lane lane w.0 (omega (arith, w.1)) (λ i p h. omega (arith, p, first i h))

        module _ (entry : T)
            (there : bucket_at (slots_of control entries) b ≡ full (record { tag = tag; entry = entry })) (h : F) where
          pub AcceptsIn-lane : Answers closure (slots_of control entries) g b true h
              → AcceptsIn closure (slots_of control entries) tag start f b h
          AcceptsIn-lane asked =
              let w = (so_far.left lane).0 set in
              AcceptsIn-from control entries laid_out start
              (passed n start lane) b lane_is lane_within closure tag f g before entry there h
              (passed-lt n start bound lane w.1 real) asked

          pub AsksLanes-next : (rest : ℕ) → ((i : ℕ) → HasLane rest i ↔ (HasLane mask i × (i ≢ lane)))
              → Answers closure (slots_of control entries) g b false h
              → AsksLanes closure control entries tag start f rest h
          AsksLanes-next rest others asked =
              let w = (so_far.left lane).0 set in
              record {
                lanes = lane + 1;
                in_group = omega (arith, w.1);
                left = λ i. (
                  λ held. let o = (others i).0 held in let u = (so_far.left i).0 o.0 in
                      (omega (arith, first i o.0, λ (e : lane ≡ i). o.1 (sym e)), u.1, u.2),
                  λ u. (others i).1 ((so_far.left i).1 (omega (arith, u.0, w.0), u.1, u.2), λ e. omega (arith, u.0, e)),
                );
                refused = subst (λ k. RejectsEach closure slots f (tagged_lanes slots tag start k) h)
                    (passed-next n start bound lane real)
                    (refused_asked control entries laid_out start
                    (passed n start lane) b lane_is lane_within closure tag f g before entry there h asked);
              }
