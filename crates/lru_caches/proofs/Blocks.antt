-- What a cache shows, and what a crash may leave, after a write to its device, or after its pages were made clean.
use Rattle.std.proofs.Common.{◌≡◌, ◌⊎◌, inl, inr, ℕ, Bool, true, false, cond, nat_eq, List, [], ◌∷◌, Option}
use Rattle.std.proofs.Common.{Some, None, IsTrue, refl, sym, ap, ◌∙◌, subst}
use Rattle.std.proofs.lemmas.Option.{none-some}
use Rattle.std.specs.Map.{lookup}
use Rattle.lru_caches.specs.declared.device.BlockDevice as device
use Rattle.lru_caches.specs.declared.page_cache.pages.Page.{Page}
use Rattle.lru_caches.specs.declared.page_cache.PageError.{PageError}
use Rattle.lru_caches.specs.declared.page_cache.PageError.TheVariants.{Device, Memory, NoBlock, Broken, Full}
use Rattle.lru_caches.specs.Pages.{cleaned, block_or, block_at, IsGood, AreClean, AreThere, IsWritten, CrashAdds, IsFault, Serves}

module _ {B D E S : Type 0} (d : device.Ghosts D B E S) where
  pub serves-same : (it : D) → Serves d it it
  serves-same it = record { numbers = λ n. refl; usable = refl; honest = λ h. h }

  pub serves-then : (old between new : D) → Serves d old between → Serves d between new → Serves d old new
  serves-then old between new one two = record {
    numbers = λ n. two.numbers n ∙ one.numbers n;
    usable = two.usable ∙ one.usable;
    honest = λ h. one.honest (two.honest h);
  }

  pub good-before : (old new : D) → Serves d old new → IsGood d new → IsGood d old
  good-before old new serves good = (subst IsTrue serves.usable good.0, serves.honest good.1)

  pub there-after : (pages : List (ℕ × Page B)) (old new : D) → ((n : ℕ) → d.has new n ≡ d.has old n)
      → AreThere d pages old → AreThere d pages new
  there-after pages old new same there n page found = subst IsTrue (sym (same n)) (there n page found)

  pub crash-same : (pages : List (ℕ × Page B)) (it : D) → CrashAdds d pages it it
  crash-same pages it n block left = inl left

  pub crash-then : (pages : List (ℕ × Page B)) (first old new : D) → CrashAdds d pages first old
      → CrashAdds d pages old new → CrashAdds d pages first new
  crash-then pages first old new one two n block left = go (two n block left)
    where
      go : d.may_leave old n block ⊎ IsWritten d (lookup (nat_eq n) pages) block
          → d.may_leave first n block ⊎ IsWritten d (lookup (nat_eq n) pages) block
      go (inl was) = one n block was
      go (inr is) = inr is

  pub is_back : (it : D) (k : ℕ) (page : Page B) → (page.is_dirty ≡ true → d.blocks it k ≡ Some (d.seen page.block))
      → (page.is_dirty ≡ false → d.blocks it k ≡ Some (d.seen page.block)) → d.blocks it k ≡ Some (d.seen page.block)
  is_back it k page written clean = go page.is_dirty refl
    where
      go : (b : Bool) → page.is_dirty ≡ b → d.blocks it k ≡ Some (d.seen page.block)
      go true e = written e
      go false e = clean e

  pub fault-since : (old between new : D) (e : PageError E) → d.faults between ≡ d.faults old
      → IsFault d between new e → IsFault d old new e
  fault-since old between new (Device e) same fault = λ is. fault (is ∙ sym same)
  fault-since old between new Memory same fault = fault
  fault-since old between new NoBlock same fault = fault
  fault-since old between new Broken same fault = fault
  fault-since old between new Full same fault = fault

  pub clean-read : (pages : List (ℕ × Page B)) (old new : D) → (IsGood d new → IsGood d old)
      → ((m : ℕ) (b : S) → d.blocks old m ≡ Some b → d.blocks new m ≡ Some b)
      → AreClean d pages old → AreClean d pages new
  clean-read pages old new before keeps clean good n page found is_clean =
      keeps n (d.seen page.block) (clean (before good) n page found is_clean)

  pub shown-cleaned : (pages : List (ℕ × Page B)) (n : ℕ) (block : Option S)
      → block_or d (lookup (nat_eq n) (cleaned pages)) block ≡ block_or d (lookup (nat_eq n) pages) block
  shown-cleaned [] n block = refl
  shown-cleaned (page ∷ pages) n block = go (nat_eq n page.0) (shown-cleaned pages n block)
    where
      go : (b : Bool)
          → block_or d (lookup (nat_eq n) (cleaned pages)) block ≡ block_or d (lookup (nat_eq n) pages) block
          → block_or d (cond b (Some (record page.1 { is_dirty = false })) (lookup (nat_eq n) (cleaned pages))) block
          ≡ block_or d (cond b (Some page.1) (lookup (nat_eq n) pages)) block
      go true later = refl
      go false later = later

  pub clean-cleaned : (pages : List (ℕ × Page B)) (old new : D)
      → (d.IsHonest new → (n : ℕ) → d.blocks new n ≡ block_at d pages old n) → AreClean d (cleaned pages) new
  clean-cleaned pages old new written good n page found is_clean =
      written good.1 n ∙ sym (shown-cleaned pages n (d.blocks old n)) ∙ ap (λ o. block_or d o (d.blocks old n)) found

  pub there-cleaned : (pages : List (ℕ × Page B)) (it : D) → AreThere d pages it → AreThere d (cleaned pages) it
  there-cleaned pages it there n page found = go (lookup (nat_eq n) pages) refl
    where
      go : (o : Option (Page B)) → lookup (nat_eq n) pages ≡ o → IsTrue (d.has it n)
      go (Some q) e = there n q e
      go None e = absurd (none-some page (sym (none pages e) ∙ found))
        where
          none : (pages : List (ℕ × Page B)) → lookup (nat_eq n) pages ≡ None → lookup (nat_eq n) (cleaned pages) ≡ None
          none [] e = refl
          none (p ∷ ps) e = step (nat_eq n p.0) e (none ps)
            where
              step : (b : Bool) → cond b (Some p.1) (lookup (nat_eq n) ps) ≡ None
                  → (lookup (nat_eq n) ps ≡ None → lookup (nat_eq n) (cleaned ps) ≡ None)
                  → cond b (Some (record p.1 { is_dirty = false })) (lookup (nat_eq n) (cleaned ps)) ≡ None
              step true e later = absurd (none-some p.1 (sym e))
              step false e later = later e
