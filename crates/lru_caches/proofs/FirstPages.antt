use Rattle.std.proofs.Common.{◌≡◌, ◌≢◌, ◌<◌, ◌≤◌, ℕ, Bool, true, false, cond, nat_eq, List, ◌∷◌, length, Option, Some, None}
use Rattle.std.proofs.Common.{IsTrue, refl, sym, ap, ◌∙◌, subst, ne_eqb}
use Rattle.std.proofs.lemmas.Cmp.{nat_eq_equiv}
use Rattle.std.proofs.lemmas.Option.{same_Some}
use Rattle.std.proofs.lemmas.Map.{length-set_value}
use Rattle.std.specs.Map.{lookup}
use Rattle.lru_caches.specs.declared.device.BlockDevice as device
use Rattle.lru_caches.specs.declared.page_cache.pages.Page.{Page}
use Rattle.lru_caches.specs.Pages.{block_or, block_at, with_no_pin, unpinned_at, AreClean, AreThere}
use Rattle.lru_caches.proofs.SetPages.{clean-set, there-set, shown-set}

module _ {B D E S : Type 0} (d : device.Ghosts D B E S) (it : D) where
  abbrev pub Holds : ℕ → ℕ → List (ℕ × Page B) → Type 0
  Holds capacity reserved pages = AreClean d pages it × AreThere d pages it × (length pages ≤ capacity)
      × (0 < capacity) × (length pages ≤ reserved)

  pub first-is : (n : ℕ) (page : Page B) (others pages : List (ℕ × Page B)) → pages ≡ (n, page) ∷ others
      → block_at d pages it n ≡ Some (d.seen page.block)
  first-is n page others pages is = ap (λ l. block_at d l it n) is
      ∙ ap (λ b. block_or d (cond b (Some page) (lookup (nat_eq n) others)) (d.blocks it n)) (nat_eq_equiv.refl n)

  module _ (n : ℕ) (page with_it : Page B) (others old new : List (ℕ × Page B)) (was : old ≡ (n, page) ∷ others)
      (is : new ≡ (n, with_it) ∷ others) where
    pub first-shown : d.seen with_it.block ≡ d.seen page.block → (m : ℕ) → block_at d new it m ≡ block_at d old it m
    first-shown same m =
        ap (λ l. block_at d l it m) is ∙ go (nat_eq m n) ∙ ap (λ l. block_at d l it m) (sym was)
      where
        go : (b : Bool) → block_or d (cond b (Some with_it) (lookup (nat_eq m) others)) (d.blocks it m)
            ≡ block_or d (cond b (Some page) (lookup (nat_eq m) others)) (d.blocks it m)
        go true = ap Some same
        go false = refl

    pub first-others : (m : ℕ) → m ≢ n → block_at d new it m ≡ block_at d old it m
    first-others m apart =
        ap (λ l. block_at d l it m) is
        ∙ ap (λ b. block_or d (cond b (Some with_it) (lookup (nat_eq m) others)) (d.blocks it m)) (ne_eqb m n apart)
        ∙ ap (λ b. block_or d (cond b (Some page) (lookup (nat_eq m) others)) (d.blocks it m)) (sym (ne_eqb m n apart))
        ∙ ap (λ l. block_at d l it m) (sym was)

    module _ (capacity reserved : ℕ)
        (kept : with_it.is_dirty ≡ false → (page.is_dirty ≡ false) × (d.seen page.block ≡ d.seen with_it.block)) where
      clean-first : AreClean d ((n, page) ∷ others) it → AreClean d ((n, with_it) ∷ others) it
      clean-first clean good m q found is_clean = go (nat_eq m n) (clean good m) found
        where
          go : (b : Bool) → ((p : Page B) → cond b (Some page) (lookup (nat_eq m) others) ≡ Some p
              → p.is_dirty ≡ false → d.blocks it m ≡ Some (d.seen p.block))
              → cond b (Some with_it) (lookup (nat_eq m) others) ≡ Some q → d.blocks it m ≡ Some (d.seen q.block)
          go true before found =
              let same = same_Some with_it q found in
              let one = kept (subst (λ (p : Page B). p.is_dirty ≡ false) (sym same) is_clean) in
              before page refl one.0 ∙ ap Some one.1 ∙ ap (λ (p : Page B). Some (d.seen p.block)) same
          go false before found = before q found is_clean

      there-first : AreThere d ((n, page) ∷ others) it → AreThere d ((n, with_it) ∷ others) it
      there-first there m q found = go (nat_eq m n) (there m) found
        where
          go : (b : Bool) → ((p : Page B) → cond b (Some page) (lookup (nat_eq m) others) ≡ Some p → IsTrue (d.has it m))
              → cond b (Some with_it) (lookup (nat_eq m) others) ≡ Some q → IsTrue (d.has it m)
          go true before found = before page refl
          go false before found = before q found

      pub first-holds : Holds capacity reserved old → Holds capacity reserved new
      first-holds h = subst (Holds capacity reserved) (sym is) (go (subst (Holds capacity reserved) was h))
        where
          go : Holds capacity reserved ((n, page) ∷ others) → Holds capacity reserved ((n, with_it) ∷ others)
          go h = (clean-first h.0, there-first h.1, h.2, h.3, h.4)

  module _ (n : ℕ) (pages : List (ℕ × Page B)) where
    pub unpinned-shown : (m : ℕ) → block_at d (unpinned_at n pages) it m ≡ block_at d pages it m
    unpinned-shown m = go (lookup (nat_eq n) pages) refl
      where
        go : (o : Option (Page B)) → lookup (nat_eq n) pages ≡ o
            → block_at d (with_no_pin n o pages) it m ≡ block_at d pages it m
        go None e = refl
        go (Some page) e = shown-set d pages n page (record page { is_pinned = false }) e refl m (d.blocks it m)

    pub unpinned-holds : (capacity reserved : ℕ) → Holds capacity reserved pages
        → Holds capacity reserved (unpinned_at n pages)
    unpinned-holds capacity reserved h = go (lookup (nat_eq n) pages) refl
      where
        go : (o : Option (Page B)) → lookup (nat_eq n) pages ≡ o → Holds capacity reserved (with_no_pin n o pages)
        go None e = h
        go (Some page) e =
            let with_it = record page { is_pinned = false } in
            let same = sym (length-set_value (nat_eq n) pages with_it) in (
              clean-set d pages n page with_it e it (λ good is_clean. h.0 good n page e is_clean) h.0,
              there-set d pages n page with_it e it h.1,
              subst (λ k. k ≤ capacity) same h.2,
              h.3,
              subst (λ k. k ≤ reserved) same h.4,
            )
