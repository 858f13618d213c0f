-- Entries that move one by one into a fresh table.
use Rattle.std.proofs.Common.{◌≡◌, ◌≢◌, ℕ, ◌+◌, ◌<◌, List, [], ◌∷◌, ◌++◌, length, get_or, set, Option, Some, None}
use Rattle.std.proofs.Common.{take, drop}
use Rattle.std.proofs.Common.{ap, sym}
use Rattle.std.proofs.Common.{◌∙◌, subst, arith, count_by, cond, is_some, true, get_or-set_same, get_or-set_other, inl}
use Rattle.std.proofs.Common.{inr}
use Rattle.std.proofs.lemmas.Bool.{cases_eq}
use Rattle.std.proofs.lemmas.Option.{none-some, same_Some}
use Rattle.std.proofs.lemmas.List.{get_or_past, get_or-take, length-take, take_more, take-append-drop}
use Rattle.std.proofs.lemmas.List.Sums.{sum_by-append}
use native.Mathlib.Decide.{dec_lt}
use Rattle.group_table.specs.Link.{IsLinkType}
use Rattle.group_table.specs.Bucket.{Slot, empty, bucket_at, is_full, entry_at, entry_of}
use Rattle.group_table.specs.Fits.{Fits}
use Rattle.group_table.specs.Relocation.{moved_to, Moves, KeepsHashes}
use Rattle.group_table.specs.Moves.{Joins}
use Rattle.group_table.proofs.BucketLemmas.{empty_not_full}
use Rattle.group_table.proofs.SearchLemmas.{full_by_entry}
use Rattle.group_table.proofs.FitsLemmas.{Fits-reached, Fits-agree, with_hash-there, with_hash-elsewhere}
use Rattle.group_table.proofs.JoinLemmas.{entry_at-joined, bucket_at-joined_other}

module _ {T N : Type 0} (number : N → ℕ) (none : N) where
  pub Moves-none : (old : ℕ → Option T) (new : List (Slot T)) (links : List N) → ((b : ℕ) → old b ≡ None)
      → ((b : ℕ) → bucket_at new b ≡ empty)
      → ((b : ℕ) → get_or links b none ≡ none) → Moves number none old new links
  Moves-none old new links gone fresh unlinked = record {
    moved = λ b entry e. absurd (none-some _ (sym (gone b) ∙ e));
    others = λ b e. unlinked b;
    apart = λ b c x y e f same. absurd (none-some _ (sym (gone b) ∙ e));
    onto = λ c there. absurd (empty_not_full _ (fresh c) there);
  }

  module _ (old more : ℕ → Option T) {new : List (Slot T)} (links : List N) (same : (b : ℕ) → more b ≡ old b) where
    pub Moves-same : Moves number none old new links → Moves number none more new links
    Moves-same m = record {
      moved = λ b entry e. m.moved b entry (sym (same b) ∙ e);
      others = λ b e. m.others b (sym (same b) ∙ e);
      apart = λ b c x y e f. m.apart b c x y (sym (same b) ∙ e) (sym (same c) ∙ f);
      onto = λ c there. let w = m.onto c there in (w.0, w.1, same w.0 ∙ w.2, w.3);
    }

    pub KeepsHashes-same : (hash_of : ℕ → ℕ) → KeepsHashes number none old new links hash_of
        → KeepsHashes number none more new links hash_of
    KeepsHashes-same hash_of keeps moved_hash_of gives =
        keeps moved_hash_of (λ b entry e. gives b entry (same b ∙ e))

  module _ (link : ℕ → N) (laws : IsLinkType number link none)
      (old more : ℕ → Option T) {new joined : List (Slot T)} {links : List N} (b : ℕ) {c hash : ℕ} {entry : T}
      (was : old b ≡ None) (is : more b ≡ Some entry) (others : (k : ℕ) → k ≢ b → more k ≡ old k)
      (within : b < length links) (below : c < number none) (joins : Joins new joined hash entry c)
      (m : Moves number none old new links) where
    abbrev linked : List N
    linked = set links b (link c)

    linked_there : moved_to number none linked b ≡ c
    linked_there = ap number (get_or-set_same links b (link c) none within) ∙ laws.number_of_link c below

    linked_elsewhere : (k : ℕ) → k ≢ b → moved_to number none linked k ≡ moved_to number none links k
    linked_elsewhere k other = ap number (get_or-set_other links b k (link c) none other)

    apart_from : (k : ℕ) (x : T) → old k ≡ Some x → moved_to number none links k ≢ c
    apart_from k x e same =
        empty_not_full (bucket_at new c) joins.was_empty
        (subst (λ j. is_full (bucket_at new j) ≡ true) same (full_by_entry _ x (m.moved k x e)))

    was_there : (k : ℕ) (x : T) → k ≢ b → more k ≡ Some x → old k ≡ Some x
    was_there k x other e = sym (others k other) ∙ e

    pub Moves-more : Moves number none more joined linked
    Moves-more = record {
      moved = λ k x e. elim (cases_eq k b) [
        | inl h ↦
            let same : x ≡ entry = same_Some x entry (sym e ∙ ap more h ∙ is) in
            ap (λ j. entry_at joined (moved_to number none linked j)) h ∙ ap (entry_at joined) linked_there
            ∙ entry_at-joined joins ∙ ap Some (sym same)
        | inr h ↦
            let before = was_there k x h e in
            ap (entry_at joined) (linked_elsewhere k h) ∙ ap entry_of
            (bucket_at-joined_other joins _ (apart_from k x before)) ∙ m.moved k x before
      ];
      others = λ k e. elim (cases_eq k b) [
        | inl h ↦ absurd (none-some entry (sym e ∙ ap more h ∙ is))
        | inr h ↦ get_or-set_other links b k (link c) none h ∙ m.others k (sym (others k h) ∙ e)
      ];
      apart = λ j k x y e f same. elim (cases_eq j b) [
        | inl h ↦ elim (cases_eq k b) [
          | inl i ↦ h ∙ sym i
          | inr i ↦ absurd
              (apart_from k y (was_there k y i f)
              (sym (linked_elsewhere k i) ∙ sym same ∙ ap (moved_to number none linked) h ∙ linked_there))
        ]
        | inr h ↦ elim (cases_eq k b) [
          | inl i ↦ absurd
              (apart_from j x (was_there j x h e)
              (sym (linked_elsewhere j h) ∙ same ∙ ap (moved_to number none linked) i ∙ linked_there))
          | inr i ↦ m.apart j k x y (was_there j x h e) (was_there k y i f)
              (sym (linked_elsewhere j h) ∙ same ∙ linked_elsewhere k i)
        ]
      ];
      onto = λ k there. elim (cases_eq k c) [
        | inl h ↦ (b, entry, is, linked_there ∙ sym h)
        | inr h ↦
            let w = m.onto k (sym (ap is_full (bucket_at-joined_other joins k h)) ∙ there) in
            let other : w.0 ≢ b = λ i. none-some w.1 (sym was ∙ ap old (sym i) ∙ w.2) in
            (w.0, w.1, others w.0 other ∙ w.2, linked_elsewhere w.0 other ∙ w.3)
      ];
    }

    pub KeepsHashes-more : (hash_of : ℕ → ℕ) → hash ≡ hash_of b
        → KeepsHashes number none old new links hash_of → KeepsHashes number none more joined linked hash_of
    KeepsHashes-more hash_of hashed keeps moved_hash_of gives =
        let before : Fits new moved_hash_of = keeps moved_hash_of (λ k x e.
        let other : k ≢ b = λ i. none-some x (sym was ∙ ap old (sym i) ∙ e) in
        ap moved_hash_of (sym (linked_elsewhere k other)) ∙ gives k x (others k other ∙ e)) in
        let now : hash ≡ moved_hash_of c = hashed ∙ sym (gives b entry is) ∙ ap moved_hash_of linked_there in
        rw joins.slots (Fits-agree _ _ _ (λ k there. elim (cases_eq k c) [
          | inl h ↦ with_hash-there moved_hash_of c hash k h ∙ now ∙ ap moved_hash_of (sym h)
          | inr h ↦ with_hash-elsewhere moved_hash_of c hash k h
        ]) (Fits-reached new moved_hash_of hash c entry joins.within joins.reached before))

module _ {T : Type 0} (places : List (Option T)) (b : ℕ) (within : b < length places) where
  next_place : take (b + 1) places ≡ take b places ++ get_or places b None ∷ []
  next_place = take_more places b None within

  pub none_yet : get_or (take b places) b None ≡ None
  none_yet = get_or_past (take b places) b None (omega (arith, length-take b places))

  pub come_there : get_or (take (b + 1) places) b None ≡ get_or places b None
  come_there = get_or-take (b + 1) places b None (omega arith)

  pub come_elsewhere : (k : ℕ) → k ≢ b → get_or (take (b + 1) places) k None ≡ get_or (take b places) k None
  come_elsewhere k other = elim (dec_lt k b) [
    | yes p ↦ get_or-take (b + 1) places k None (omega arith) ∙ sym (get_or-take b places k None p)
    | no p ↦ get_or_past (take (b + 1) places) k None (omega (arith, length-take (b + 1) places))
        ∙ sym (get_or_past (take b places) k None (omega (arith, length-take b places)))
  ]

  pub come_none : get_or places b None ≡ None → (k : ℕ)
      → get_or (take (b + 1) places) k None ≡ get_or (take b places) k None
  come_none gone k = elim (cases_eq k b) [
    | inl h ↦ rw h (come_there ∙ gone ∙ sym none_yet)
    | inr h ↦ come_elsewhere k h
  ]

  counted : count_by is_some (take (b + 1) places)
      ≡ count_by is_some (take b places) + cond (is_some (get_or places b None)) 1 0
  counted = ap (count_by is_some) next_place
      ∙ sum_by-append (λ o. cond {A = ℕ} (is_some o) 1 0) (take b places) (get_or places b None ∷ []) ∙ omega arith

  pub count_one : is_some (get_or places b None) ≡ true
      → count_by is_some (take (b + 1) places) ≡ count_by is_some (take b places) + 1
  count_one some =
      let one : ◌≡◌ {A = ℕ} (cond (is_some (get_or places b None)) 1 0) 1 = ap (λ t. cond {A = ℕ} t 1 0) some in
      omega (arith, counted, one)

  pub count_none : get_or places b None ≡ None
      → count_by is_some (take (b + 1) places) ≡ count_by is_some (take b places)
  count_none gone =
      let none : ◌≡◌ {A = ℕ} (cond (is_some (get_or places b None)) 1 0) 0 =
      ap (λ o. cond {A = ℕ} (is_some o) 1 0) gone in
      omega (arith, counted, none)

  pub come_fewer : is_some (get_or places b None) ≡ true → count_by is_some (take b places) < count_by is_some places
  come_fewer some =
      let all = ap (count_by is_some) (sym (take-append-drop (b + 1) places)) in
      let parts = sum_by-append (λ o. cond {A = ℕ} (is_some o) 1 0) (take (b + 1) places) (drop (b + 1) places) in
      omega (arith, all, parts, count_one some)
