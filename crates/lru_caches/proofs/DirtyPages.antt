use Rattle.std.proofs.Common.{◌≡◌, ◌≢◌, ℕ, Bool, true, false, cond, nat_eq, List, [], ◌∷◌, ◌++◌, Option}
use Rattle.std.proofs.Common.{Some, None, refl, sym, ap, ◌∙◌, subst}
use Rattle.std.proofs.lemmas.Bool.{eqb-true, eqb-false, true≢false}
use Rattle.std.proofs.lemmas.Cmp.{nat_eq_equiv}
use Rattle.std.proofs.lemmas.Option.{none-some, same_Some}
use Rattle.std.proofs.lemmas.List.Elements.{All-nil, All-cons, All-head, All-tail, All-contains, All-contains_itself, All-weaker}
use Rattle.std.proofs.lemmas.List.Elements.{All-push, Contains-append_left, Contains-append_right, Contains-push}
use Rattle.std.proofs.lemmas.List.Sorted.{Contains-permutation}
use Rattle.std.proofs.lemmas.Map.Views.{lookup-from_Contains}
use Rattle.std.specs.List.{All, Contains, IsDistinct, filter}
use Rattle.std.specs.List.Sorted.{IsPermutation}
use Rattle.std.specs.Map.{lookup, keys_of}
use Rattle.lru_caches.specs.declared.device.BlockDevice as device
use Rattle.lru_caches.specs.declared.page_cache.pages.Page.{Page}
use Rattle.lru_caches.specs.Pages.{is_dirty, dirty_numbers, block_or, block_at, AreClean, AreWritten, IsGood}

module _ {B : Type 0} where
  abbrev pub IsDirtyAt : List (ℕ × Page B) → ℕ → Type 0
  IsDirtyAt pages n = is_dirty (lookup (nat_eq n) pages) ≡ true

  pub all_dirty : (pages : List (ℕ × Page B)) → IsDistinct nat_eq (keys_of pages)
      → All (IsDirtyAt pages) (dirty_numbers pages)
  all_dirty pages distinct = go pages (All-contains_itself pages)
    where
      go : (ps : List (ℕ × Page B)) → All (Contains pages) ps → All (IsDirtyAt pages) (dirty_numbers ps)
      go [] all = All-nil (IsDirtyAt pages)
      go (p ∷ ps) all = step p.1.is_dirty refl (go ps (All-tail (Contains pages) p ps all))
        where
          step : (b : Bool) → p.1.is_dirty ≡ b → All (IsDirtyAt pages) (dirty_numbers ps)
              → All (IsDirtyAt pages) (keys_of (cond b (p ∷ filter (λ p. p.1.is_dirty) ps) (filter (λ p. p.1.is_dirty) ps)))
          step true e later = All-cons (IsDirtyAt pages) p.0 (dirty_numbers ps)
              (ap is_dirty (lookup-from_Contains nat_eq_equiv p.0 p.1 pages distinct
              (All-head (Contains pages) p ps all)) ∙ e) later
          step false e later = later

  pub dirty_page : (pages : List (ℕ × Page B)) (n : ℕ) → IsDirtyAt pages n
      → (page : Page B) × (lookup (nat_eq n) pages ≡ Some page) × (page.is_dirty ≡ true)
  dirty_page pages n dirty = go (lookup (nat_eq n) pages) refl
    where
      go : (o : Option (Page B)) → lookup (nat_eq n) pages ≡ o
          → (page : Page B) × (lookup (nat_eq n) pages ≡ Some page) × (page.is_dirty ≡ true)
      go None e = absurd (true≢false (sym dirty ∙ ap is_dirty e))
      go (Some page) e = (page, e, sym (ap is_dirty e) ∙ dirty)

  pub among_dirty : (pages : List (ℕ × Page B)) (n : ℕ) (page : Page B) → lookup (nat_eq n) pages ≡ Some page
      → page.is_dirty ≡ true → Contains (dirty_numbers pages) n
  among_dirty [] n page found dirty = absurd (none-some page found)
  among_dirty (p ∷ ps) n page found dirty = go (nat_eq n p.0) refl found (among_dirty ps n page)
    where
      more : (b : Bool) → Contains (dirty_numbers ps) n
          → Contains (keys_of (cond b (p ∷ filter (λ p. p.1.is_dirty) ps) (filter (λ p. p.1.is_dirty) ps))) n
      more true later = Contains-append_right (p.0 ∷ []) (dirty_numbers ps) n later
      more false later = later

      first : (b : Bool) → b ≡ true → n ≡ p.0
          → Contains (keys_of (cond b (p ∷ filter (λ p. p.1.is_dirty) ps) (filter (λ p. p.1.is_dirty) ps))) n
      first true e same = subst (λ m. Contains (p.0 ∷ dirty_numbers ps) m) (sym same)
          (Contains-append_left (p.0 ∷ []) (dirty_numbers ps) p.0 (Contains-push [] p.0))
      first false e same = absurd (true≢false (sym e))

      go : (b : Bool) → nat_eq n p.0 ≡ b → cond b (Some p.1) (lookup (nat_eq n) ps) ≡ Some page
          → (lookup (nat_eq n) ps ≡ Some page → page.is_dirty ≡ true → Contains (dirty_numbers ps) n)
          → Contains (dirty_numbers (p ∷ ps)) n
      go true e found later = first p.1.is_dirty
          (ap (λ (q : Page B). q.is_dirty) (same_Some p.1 page found) ∙ dirty) (eqb-true n p.0 e)
      go false e found later = more p.1.is_dirty (later found dirty)

module _ {B D E S : Type 0} (d : device.Ghosts D B E S) where
  pub written-then : (ns : List ℕ) (pages : List (ℕ × Page B)) (n : ℕ) (page : Page B) (first old new : D)
      → AreWritten d ns pages first old → lookup (nat_eq n) pages ≡ Some page
      → d.write_gives old n (d.seen page.block) new → AreWritten d (ns ++ n ∷ []) pages first new
  written-then [] pages n page first old new are found gives =
      (page, new, found, subst (λ it. d.write_gives it n (d.seen page.block) new) are gives, refl)
  written-then (k ∷ ns) pages n page first old new are found gives =
      (are.0, are.1, are.2, are.3, written-then ns pages n page are.1 old new are.4 found gives)

  abbrev pub IsBack : List (ℕ × Page B) → D → ℕ → Type 0
  IsBack pages it n = (page : Page B) → lookup (nat_eq n) pages ≡ Some page → d.blocks it n ≡ Some (d.seen page.block)

  pub back-more : (pages : List (ℕ × Page B)) (done : List ℕ) (k : ℕ) (page : Page B) (old new : D)
      → lookup (nat_eq k) pages ≡ Some page → d.blocks new k ≡ Some (d.seen page.block)
      → ((m : ℕ) → m ≢ k → d.blocks new m ≡ d.blocks old m)
      → All (IsBack pages old) done → All (IsBack pages new) (done ++ k ∷ [])
  back-more pages done k page old new found is others all =
      All-push (IsBack pages new) done k (All-weaker (IsBack pages old) (IsBack pages new) kept done all) here
    where
      here : IsBack pages new k
      here q there = is ∙ ap (λ (p : Page B). Some (d.seen p.block)) (same_Some page q (sym found ∙ there))

      kept : (m : ℕ) → IsBack pages old m → IsBack pages new m
      kept m was q there = go (nat_eq m k) refl
        where
          go : (b : Bool) → nat_eq m k ≡ b → d.blocks new m ≡ Some (d.seen q.block)
          go true e = let same = eqb-true m k e in
              subst (λ j. d.blocks new j ≡ Some (d.seen q.block)) (sym same)
              (here q (subst (λ j. lookup (nat_eq j) pages ≡ Some q) same there))
          go false e = others m (eqb-false m k e) ∙ was q there

  pub all_back : (pages : List (ℕ × Page B)) (numbers : List ℕ) (first it : D)
      → IsPermutation (dirty_numbers pages) numbers → All (IsBack pages it) numbers → IsGood d it → AreClean d pages it
      → ((n : ℕ) → block_at d pages it n ≡ block_at d pages first n)
      → (n : ℕ) → d.blocks it n ≡ block_at d pages first n
  all_back pages numbers first it same all good clean shows n = go (lookup (nat_eq n) pages) refl
    where
      at : (o : Option (Page B)) → lookup (nat_eq n) pages ≡ o → d.blocks it n ≡ block_or d o (d.blocks it n)
          → d.blocks it n ≡ block_at d pages first n
      at o e is = is ∙ ap (λ p. block_or d p (d.blocks it n)) (sym e) ∙ shows n

      back : (page : Page B) → lookup (nat_eq n) pages ≡ Some page → (b : Bool) → page.is_dirty ≡ b
          → d.blocks it n ≡ Some (d.seen page.block)
      back page e true dirty = All-contains (IsBack pages it) numbers n all
          (Contains-permutation (dirty_numbers pages) numbers n same (among_dirty pages n page e dirty)) page e
      back page e false is_clean = clean good n page e is_clean

      go : (o : Option (Page B)) → lookup (nat_eq n) pages ≡ o → d.blocks it n ≡ block_at d pages first n
      go None e = at None e refl
      go (Some page) e = at (Some page) e (back page e page.is_dirty refl)
