-- What a search finds with a closure that changes nothing.
use Rattle.std.proofs.Common.{◌≡◌, ℕ, zero, suc, ◌<◌, Bool, true, false, List, [], ◌∷◌, length, get_or, Some, ap, sym}
use Rattle.std.proofs.Common.{◌∙◌, subst, arith}
use Rattle.std.proofs.lemmas.Grind.{get_or_default_zero}
use Rattle.std.proofs.lemmas.Option.{same_Some}
use Rattle.std.specs.Borrow.{Bor}
use Rattle.std.specs.Fn.{Mut, CalledAt}
use Rattle.group_table.specs.Bucket.{Slot, entry_at}
use Rattle.group_table.specs.Fits.{Fits}
use Rattle.group_table.specs.Search.{Answers, RejectsEach, Finds, FindsNone}
use Rattle.group_table.proofs.SearchLemmas.{full_by_entry}

module _ {T F : Type 0} (closure : Mut F (Bor T × Unit {0}) Bool) (slots : List (Slot T)) (f : F) (test : T → Bool)
    (tests : (x : T) (r : Bool) (g : F) → CalledAt closure f x r g → (r ≡ test x) × (g ≡ f)) where
  abbrev Fails : ℕ → Type 0
  Fails b = (entry : T) × (entry_at slots b ≡ Some entry) × (test entry ≡ false)

  refused_same : (asked : List ℕ) (g : F) → RejectsEach closure slots f asked g → g ≡ f
  refused_same [] g h = sym h
  refused_same (b ∷ asked) g h =
      let next = (tests _ _ _ h.1.called).1 in
      refused_same asked g (subst (λ j. RejectsEach closure slots j asked g) next h.2)

  refused_fail : (asked : List ℕ) (g : F) → RejectsEach closure slots f asked g → (k : ℕ) → k < length asked
      → Fails (get_or asked k 0)
  refused_fail [] g h k p = absurd (omega arith)
  refused_fail (b ∷ asked) g h zero p = (h.1.entry, h.1.there, sym (tests _ _ _ h.1.called).0)
  refused_fail (b ∷ asked) g h (suc k) p =
      let next = (tests _ _ _ h.1.called).1 in
      refused_fail asked g (subst (λ j. RejectsEach closure slots j asked g) next h.2) k (omega arith)

  pub Finds-test : (hash b : ℕ) → Finds closure slots hash f b → (entry : T) × (entry_at slots b ≡ Some entry)
      × (test entry ≡ true)
  Finds-test hash b found =
      let same = refused_same found.asked found.between found.refused in
      let called = subst (λ j. Answers closure slots j b true found.last) same found.accepted in
      (called.entry, called.there, sym (tests _ _ _ called.called).0)

  pub FindsNone-test : (hash : ℕ) → FindsNone closure slots hash f → (hash_of : ℕ → ℕ) → Fits slots hash_of
      → (b : ℕ) (entry : T) → hash_of b ≡ hash
      → entry_at slots b ≡ Some entry → test entry ≡ false
  FindsNone-test hash none hash_of fits b entry e there =
      let listed = none.complete hash_of fits b (full_by_entry _ entry there) e in
      let place : get_or none.asked listed.0 0 ≡ b =
      sym (get_or_default_zero none.asked listed.0 b listed.1) ∙ listed.2 in
      let failed = subst Fails place (refused_fail none.asked none.last none.refused listed.0 listed.1) in
      ap test (same_Some entry failed.0 (sym there ∙ failed.1)) ∙ failed.2
