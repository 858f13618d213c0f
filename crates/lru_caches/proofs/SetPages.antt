use Rattle.std.proofs.Common.{◌≡◌, ℕ, Bool, true, false, cond, nat_eq, List, length, Option, Some, None}
use Rattle.std.proofs.Common.{IsTrue, refl, sym, ap, ◌∙◌, subst}
use Rattle.std.proofs.lemmas.Bool.{eqb-true}
use Rattle.std.proofs.lemmas.Cmp.{nat_eq_equiv}
use Rattle.std.proofs.lemmas.Option.{same_Some}
use Rattle.std.proofs.lemmas.Map.{lookup-set_value, length-set_value}
use Rattle.std.specs.Prelude.{IsSome}
use Rattle.std.specs.Map.{lookup, set_value}
use Rattle.lru_caches.specs.declared.device.BlockDevice as device
use Rattle.lru_caches.specs.declared.page_cache.pages.Page.{Page}
use Rattle.lru_caches.specs.Pages.{block_or, with_clean, cleaned_at, AreClean, AreThere, IsGood}

module _ {B : Type 0} where
  module _ (pages : List (ℕ × Page B)) (n : ℕ) (page with_it : Page B) (there : lookup (nat_eq n) pages ≡ Some page) where
    pub found_set : (m : ℕ) → lookup (nat_eq m) (set_value (nat_eq n) pages with_it)
        ≡ cond (nat_eq n m) (Some with_it) (lookup (nat_eq m) pages)
    found_set m = lookup-set_value nat_eq_equiv (nat_eq n) (λ x y e. ap (λ k. nat_eq k y) (eqb-true n x e)) m with_it pages
        (subst IsSome (sym there) refl)

module _ {B D E S : Type 0} (d : device.Ghosts D B E S) (pages : List (ℕ × Page B)) (n : ℕ) (page with_it : Page B)
    (there : lookup (nat_eq n) pages ≡ Some page) where
  pub shown-set : d.seen with_it.block ≡ d.seen page.block → (m : ℕ) (block : Option S)
      → block_or d (lookup (nat_eq m) (set_value (nat_eq n) pages with_it)) block
      ≡ block_or d (lookup (nat_eq m) pages) block
  shown-set same m block =
      ap (λ o. block_or d o block) (found_set pages n page with_it there m) ∙ go (nat_eq n m) refl
    where
      go : (b : Bool) → nat_eq n m ≡ b → block_or d (cond b (Some with_it) (lookup (nat_eq m) pages)) block
          ≡ block_or d (lookup (nat_eq m) pages) block
      go true e = ap Some same ∙ ap (λ o. block_or d o block) (sym there ∙ ap (λ k. lookup (nat_eq k) pages) (eqb-true n m e))
      go false e = refl

  pub clean-set : (it : D) → (IsGood d it → with_it.is_dirty ≡ false → d.blocks it n ≡ Some (d.seen with_it.block))
      → AreClean d pages it → AreClean d (set_value (nat_eq n) pages with_it) it
  clean-set it is clean good m q found is_clean = go (nat_eq n m) refl (sym (found_set pages n page with_it there m) ∙ found)
    where
      go : (b : Bool) → nat_eq n m ≡ b → cond b (Some with_it) (lookup (nat_eq m) pages) ≡ Some q
          → d.blocks it m ≡ Some (d.seen q.block)
      go true e found = let same = same_Some with_it q found in
          subst (λ k. d.blocks it k ≡ Some (d.seen q.block)) (eqb-true n m e)
          (subst (λ (p : Page B). d.blocks it n ≡ Some (d.seen p.block)) same
          (is good (subst (λ (p : Page B). p.is_dirty ≡ false) (sym same) is_clean)))
      go false e found = clean good m q found is_clean

  pub there-set : (it : D) → AreThere d pages it → AreThere d (set_value (nat_eq n) pages with_it) it
  there-set it has m q found = go (nat_eq n m) refl (sym (found_set pages n page with_it there m) ∙ found)
    where
      go : (b : Bool) → nat_eq n m ≡ b → cond b (Some with_it) (lookup (nat_eq m) pages) ≡ Some q → IsTrue (d.has it m)
      go true e found = subst (λ k. IsTrue (d.has it k)) (eqb-true n m e) (has n page there)
      go false e found = has m q found

pub length-cleaned_at : {B : Type 0} (pages : List (ℕ × Page B)) (n : ℕ) → length (cleaned_at n pages) ≡ length pages
length-cleaned_at {B = B} pages n = go (lookup (nat_eq n) pages)
  where
    go : (o : Option (Page B)) → length (with_clean n o pages) ≡ length pages
    go None = refl
    go (Some page) = length-set_value (nat_eq n) pages (record page { is_dirty = false })

module _ {B D E S : Type 0} (d : device.Ghosts D B E S) (pages : List (ℕ × Page B)) (n : ℕ) where
  pub shown-cleaned_at : (m : ℕ) (block : Option S) → block_or d (lookup (nat_eq m) (cleaned_at n pages)) block
      ≡ block_or d (lookup (nat_eq m) pages) block
  shown-cleaned_at m block = go (lookup (nat_eq n) pages) refl
    where
      go : (o : Option (Page B)) → lookup (nat_eq n) pages ≡ o
          → block_or d (lookup (nat_eq m) (with_clean n o pages)) block ≡ block_or d (lookup (nat_eq m) pages) block
      go None e = refl
      go (Some page) e = shown-set d pages n page (record page { is_dirty = false }) e refl m block

  pub there-cleaned_at : (it : D) → AreThere d pages it → AreThere d (cleaned_at n pages) it
  there-cleaned_at it has = go (lookup (nat_eq n) pages) refl
    where
      go : (o : Option (Page B)) → lookup (nat_eq n) pages ≡ o → AreThere d (with_clean n o pages) it
      go None e = has
      go (Some page) e = there-set d pages n page (record page { is_dirty = false }) e it has

  pub clean-cleaned_at : (it : D) → ((page : Page B) → lookup (nat_eq n) pages ≡ Some page → page.is_dirty ≡ true
      → d.blocks it n ≡ Some (d.seen page.block)) → AreClean d pages it → AreClean d (cleaned_at n pages) it
  clean-cleaned_at it written clean = go (lookup (nat_eq n) pages) refl
    where
      back : (page : Page B) → lookup (nat_eq n) pages ≡ Some page → IsGood d it → (b : Bool) → page.is_dirty ≡ b
          → d.blocks it n ≡ Some (d.seen page.block)
      back page e good true dirty = written page e dirty
      back page e good false is_clean = clean good n page e is_clean

      go : (o : Option (Page B)) → lookup (nat_eq n) pages ≡ o → AreClean d (with_clean n o pages) it
      go None e = clean
      go (Some page) e = clean-set d pages n page (record page { is_dirty = false }) e it
          (λ good _. back page e good page.is_dirty refl) clean
