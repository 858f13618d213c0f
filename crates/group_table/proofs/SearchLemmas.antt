use Rattle.std.proofs.Common.{◌≡◌, ◌≢◌, ℕ, zero, suc, ◌+◌, ◌%◌, ◌<◌, ◌≤◌, Bool, true, false, cond, List, [], ◌∷◌, ◌++◌}
use Rattle.std.proofs.Common.{length}
use Rattle.std.proofs.Common.{map, refl, ap, sym, ◌∙◌, subst, arith, append_assoc, add-one, add-zero, eq-eqb, AllPairs}
use Rattle.std.proofs.Common.{Some}
use Rattle.std.specs.List.{range_with_len, FoldsTo, Contains}
use Rattle.std.specs.Borrow.{Bor}
use Rattle.std.specs.Fn.{Mut, Called}
use Rattle.std.proofs.lemmas.List.{append-nil}
use Rattle.std.proofs.lemmas.List.Elements.{Contains-push, Contains-append_left}
use Rattle.std.proofs.lemmas.List.FromFn.{filter_of_map_range_with_len_more, get_or-map-range_with_len}
use Rattle.std.proofs.lemmas.List.FromFn.{length-map-range_with_len}
use Rattle.std.proofs.lemmas.List.Kept.{AllPairs-filter}
use Rattle.std.proofs.lemmas.Fn.{FoldsTo-push}
use native.Mathlib.Decide.{dec_lt}
use Rattle.group_table.specs.Sizes.{IsPowerFromFour}
use Rattle.group_table.specs.Bucket.{Slot, Tagged, empty, deleted, full, bucket_at, is_full, entry_of, has_tag}
use Rattle.group_table.specs.Probe.{hash_tag, probed}
use Rattle.group_table.specs.Search.{tagged, candidates, Answers, RejectsEach}
use Rattle.group_table.specs.Group.{tagged_lanes}
use Rattle.group_table.proofs.ProbeLemmas.{probed-lane, probed-apart}

pub FoldsTo-append : {P A : Type 0} (R : P → A → P → Type 0) (p : P) (xs : List A) (q : P) (ys : List A) (u : P)
    → FoldsTo R p xs q → FoldsTo R q ys u → FoldsTo R p (xs ++ ys) u
FoldsTo-append R p [] q ys u f h = subst (λ s. FoldsTo R s ys u) (sym f) h
FoldsTo-append R p (x ∷ xs) q ys u f h = (f.0, f.1, FoldsTo-append R f.0 xs q ys u f.2 h)

module _ {T : Type 0} where
  pub held_by : (s : Slot T) → is_full s ≡ true → (held : Tagged T) × (s ≡ full held)
  held_by empty e = absurd (cc)
  held_by deleted e = absurd (cc)
  held_by (full held) e = (held, refl)

  pub entry_by_full : (s : Slot T) → is_full s ≡ true → (entry : T) × (entry_of s ≡ Some entry)
  entry_by_full s there = let w = held_by s there in (w.0.entry, ap entry_of w.1)

  pub full_by_entry : (s : Slot T) (entry : T) → entry_of s ≡ Some entry → is_full s ≡ true
  full_by_entry empty entry e = absurd (cc)
  full_by_entry deleted entry e = absurd (cc)
  full_by_entry (full held) entry e = refl

  pub full_by_tag : (s : Slot T) (tag : ℕ) → has_tag tag s ≡ true → is_full s ≡ true
  full_by_tag empty tag e = absurd (cc)
  full_by_tag deleted tag e = absurd (cc)
  full_by_tag (full held) tag e = refl

  pub has_tag-full : (s : Slot T) (held : Tagged T) (tag : ℕ) → s ≡ full held → held.tag ≡ tag → has_tag tag s ≡ true
  has_tag-full s held tag e f = rw e (eq-eqb held.tag tag f)

module _ {T : Type 0} (slots : List (Slot T)) (tag : ℕ) where
  abbrev pub if_tagged : ℕ → List ℕ
  if_tagged b = cond (has_tag tag (bucket_at slots b)) (b ∷ []) []

  tagged-next : (order : ℕ → ℕ) (steps : ℕ)
      → tagged slots tag order (steps + 1) ≡ tagged slots tag order steps ++ if_tagged (order steps)
  tagged-next order steps = filter_of_map_range_with_len_more _ _ 0 steps steps (omega arith)

  pub tagged_lanes-skip : (start lane : ℕ) → has_tag tag (bucket_at slots ((start + lane) % length slots)) ≡ false
      → tagged_lanes slots tag start (lane + 1) ≡ tagged_lanes slots tag start lane
  tagged_lanes-skip start lane h = tagged-next _ lane ∙ rw h (append-nil _)

  pub tagged_lanes-more : (start lane : ℕ) → has_tag tag (bucket_at slots ((start + lane) % length slots)) ≡ true
      → tagged_lanes slots tag start (lane + 1) ≡ tagged_lanes slots tag start lane ++
      (start + lane) % length slots ∷ []
  tagged_lanes-more start lane h = tagged-next _ lane ∙ rw h

module _ {T : Type 0} (slots : List (Slot T)) (hash : ℕ) where
  candidates-next : (steps : ℕ) → candidates slots hash (steps + 1)
      ≡ candidates slots hash steps ++ if_tagged slots (hash_tag hash) (probed (length slots) hash steps)
  candidates-next steps = tagged-next slots (hash_tag hash) (probed (length slots) hash) steps

  pub candidates-group : (s lanes : ℕ) → s % 16 ≡ 0 → lanes ≤ 16
      → candidates slots hash (s + lanes) ≡ candidates slots hash s ++ tagged_lanes slots (hash_tag hash)
      (probed (length slots) hash s) lanes
  candidates-group s zero whole p = rw add-zero (sym (append-nil _))
  candidates-group s (suc lanes) whole p =
      let e : s + suc lanes ≡ s + lanes + 1 = omega arith in
      let f : lanes + 1 ≡ suc lanes = omega arith in
      let start = probed (length slots) hash s in
      ap (candidates slots hash) e
      ∙ candidates-next (s + lanes)
      ∙ ap (λ b. candidates slots hash (s + lanes) ++ if_tagged slots (hash_tag hash) b)
      (probed-lane (length slots) hash s lanes whole (omega arith))
      ∙ ap (λ xs. xs ++ if_tagged slots (hash_tag hash) ((start + lanes) % length slots))
      (candidates-group s lanes whole (omega arith))
      ∙ append_assoc (candidates slots hash s) (tagged_lanes slots (hash_tag hash) start lanes)
      (if_tagged slots (hash_tag hash) ((start + lanes) % length slots))
      ∙ ap (λ xs. candidates slots hash s ++ xs)
      (sym (tagged-next slots (hash_tag hash) (λ lane. (start + lane) % length slots) lanes)
      ∙ ap (tagged_lanes slots (hash_tag hash) start) f)

  pub candidates-distinct : (steps : ℕ) → IsPowerFromFour (length slots) → steps ≤ length slots
      → AllPairs ◌≢◌ (candidates slots hash steps)
  candidates-distinct steps power p =
      AllPairs-filter ◌≢◌ _ (map (probed (length slots) hash) (range_with_len 0 steps)) (λ i j d l m e.
      let in_list : j < steps = rw (length-map-range_with_len (probed (length slots) hash) 0 steps) at m in
      let first = get_or-map-range_with_len (probed (length slots) hash) 0 steps i i d (omega arith) (omega arith) in
      let second = get_or-map-range_with_len (probed (length slots) hash) 0 steps j j d in_list (omega arith) in
      let same = probed-apart (length slots) hash i j power (omega arith) (omega arith) (sym first ∙ e ∙ second) in
      omega (arith, same))

  pub Contains-candidates : (s steps : ℕ) → s < steps
      → has_tag (hash_tag hash) (bucket_at slots (probed (length slots) hash s)) ≡ true
      → Contains (candidates slots hash steps) (probed (length slots) hash s)
  Contains-candidates s zero p e = absurd (omega arith)
  Contains-candidates s (suc steps) p e =
      subst (λ k. Contains (candidates slots hash k) (probed (length slots) hash s)) (add-one steps)
      (elim (dec_lt s steps) [
        | yes q ↦ rw (candidates-next steps) (Contains-append_left _ _ _ (Contains-candidates s steps q e))
        | no q ↦ let same : s ≡ steps = omega arith in
            rw same (rw (candidates-next steps, rw same at e) (Contains-push _ _))
      ])

module _ {T F : Type 0} (closure : Mut F (Bor T × Unit {0}) Bool) (slots : List (Slot T)) where
  pub Answers-from_call : {f g : F} {b tag : ℕ} {answer result : Bool} (entry : T) {shown : Bor T}
      → bucket_at slots b ≡ full (record { tag = tag; entry = entry })
      → shown.now ≡ entry → Called closure f (shown, tt) result g → result ≡ answer → Answers closure slots f b answer g
  Answers-from_call {f} {g} {b} {tag} {answer} {result} entry {shown} e shows called is =
      record {
        entry = entry;
        there = ap entry_of e;
        called = record
            { shown = shown; shows = shows; called = subst (λ r. Called closure f (shown, tt) r g) is called };
      }

  module _ (tag start lane : ℕ) where
    pub RejectsEach-more : (f between g : F) (entry : T)
        → RejectsEach closure slots f (tagged_lanes slots tag start lane) between
        → bucket_at slots ((start + lane) % length slots) ≡ full (record { tag = tag; entry = entry })
        → Answers closure slots between ((start + lane) % length slots) false g
        → RejectsEach closure slots f (tagged_lanes slots tag start (lane + 1)) g
    RejectsEach-more f between g entry before e asked =
        rw (tagged_lanes-more slots tag start lane (has_tag-full _ _ tag e refl))
        (FoldsTo-push _ f _ between _ g before asked)

    pub RejectsEach-skip : (f between : F) → RejectsEach closure slots f (tagged_lanes slots tag start lane) between
        → has_tag tag (bucket_at slots ((start + lane) % length slots)) ≡ false
        → RejectsEach closure slots f (tagged_lanes slots tag start (lane + 1)) between
    RejectsEach-skip f between before e = rw (tagged_lanes-skip slots tag start lane e) before
