use Rattle.std.proofs.Common.{◌≡◌, ◌<◌, ◌≤◌, ◌+◌, ℕ, Bool, true, false, cond, nat_eq, List, [], ◌∷◌, ◌++◌, length, reverse}
use Rattle.std.specs.Prelude.{not, ◌&&◌, ◌||◌}
use Rattle.std.proofs.Common.{Option, Some, None, option_map, IsTrue, refl, sym, ap, ◌∙◌, subst, unwrap_or, arith}
use Rattle.std.proofs.lemmas.Bool.{eqb-true, lt-ltb, le-ltb, true≢false}
use Rattle.std.proofs.lemmas.Cmp.{nat_eq_equiv}
use Rattle.std.proofs.lemmas.List.{reverse-append}
use Rattle.std.proofs.lemmas.List.Elements.{Contains-append_left, Contains-append_right, Contains-push}
use Rattle.std.proofs.lemmas.List.Sorted.{Contains-permutation, IsPermutation-reverse, IsPermutation-sym}
use Rattle.std.proofs.lemmas.Map.{lookup-remove_entry}
use Rattle.std.proofs.lemmas.Map.Views.{lookup-from_Contains}
use Rattle.std.proofs.lemmas.Option.{none-some}
use Rattle.std.specs.List.{Contains, IsDistinct, find}
use Rattle.std.specs.Map.{lookup, keys_of}
use Rattle.lru_model.specs.Lists.{without}
use Rattle.lru_caches.specs.declared.device.BlockDevice as device
use Rattle.lru_caches.specs.declared.page_cache.pages.Page.{Page}
use Rattle.lru_caches.specs.Pages.{may_go, victim, evicted, with_room, block_or, block_at, AreClean, AreThere}

module _ {B : Type 0} (keeps : Bool) where
  abbrev goes : ℕ × Page B → Bool
  goes p = may_go keeps p.1

  victim-push : (pages : List (ℕ × Page B)) (p : ℕ × Page B) → victim keeps (pages ++ p ∷ [])
      ≡ option_map (λ q. q.0) (cond (may_go keeps p.1) (Some p) (find goes (reverse pages)))
  victim-push pages p = ap (λ l. option_map (λ q. q.0) (find goes l)) (reverse-append pages (p ∷ []))

  pub victim-goes : (pages : List (ℕ × Page B)) (p : ℕ × Page B) → may_go keeps p.1 ≡ true
      → victim keeps (pages ++ p ∷ []) ≡ Some p.0
  victim-goes pages p e = victim-push pages p
      ∙ ap (λ b. option_map (λ q. q.0) (cond b (Some p) (find goes (reverse pages)))) e

  found_in : (xs : List (ℕ × Page B)) (p : ℕ × Page B) → find goes xs ≡ Some p
      → Contains xs p × (may_go keeps p.1 ≡ true)
  found_in [] p e = absurd (none-some p e)
  found_in (x ∷ xs) p e = go (may_go keeps x.1) refl e (found_in xs p)
    where
      go : (b : Bool) → may_go keeps x.1 ≡ b → cond b (Some x) (find goes xs) ≡ Some p
          → (find goes xs ≡ Some p → Contains xs p × (may_go keeps p.1 ≡ true))
          → Contains (x ∷ xs) p × (may_go keeps p.1 ≡ true)
      go true e is later =
          let same : x ≡ p = ap (λ o. unwrap_or o x) is in (
            subst (Contains (x ∷ xs)) same (Contains-append_left (x ∷ []) xs x (Contains-push [] x)),
            subst (λ (q : ℕ × Page B). may_go keeps q.1 ≡ true) same e,
          )
      go false e is later = (Contains-append_right (x ∷ []) xs p (later is).0, (later is).1)

  pub victim_page : (pages : List (ℕ × Page B)) (n : ℕ) → IsDistinct nat_eq (keys_of pages)
      → victim keeps pages ≡ Some n
      → (page : Page B) × (lookup (nat_eq n) pages ≡ Some page) × (may_go keeps page ≡ true)
  victim_page pages n distinct is = go (find goes (reverse pages)) refl is
    where
      go : (o : Option (ℕ × Page B)) → find goes (reverse pages) ≡ o → option_map (λ q. q.0) o ≡ Some n
          → (page : Page B) × (lookup (nat_eq n) pages ≡ Some page) × (may_go keeps page ≡ true)
      go None e named = absurd (none-some n named)
      go (Some p) e named =
          let found = found_in (reverse pages) p e in
          let among = Contains-permutation (reverse pages) pages p
          (IsPermutation-sym pages (reverse pages) (IsPermutation-reverse pages)) found.0 in
          let same : p.0 ≡ n = ap (λ o. unwrap_or o n) named in (
            p.1,
            subst (λ k. lookup (nat_eq k) pages ≡ Some p.1) same
                (lookup-from_Contains nat_eq_equiv p.0 p.1 pages distinct among),
            found.1,
          )

  pub clean_victim : (page : Page B) → IsTrue keeps → may_go keeps page ≡ true → page.is_dirty ≡ false
  clean_victim page kept e = go keeps page.is_pinned page.is_dirty kept e
    where
      go : (k p d : Bool) → IsTrue k → not (p || k && d) ≡ true → d ≡ false
      go k true d kept e = absurd (true≢false (sym e))
      go true false true kept e = absurd (true≢false (sym e))
      go true false false kept e = refl
      go false false d kept e = absurd (true≢false (sym kept))

  pub room_left : (capacity : ℕ) (pages : List (ℕ × Page B)) → length pages < capacity
      → with_room capacity keeps pages ≡ pages
  room_left capacity pages fewer =
      ap (λ b. cond b pages (evicted (victim keeps pages) pages)) (lt-ltb (length pages) capacity fewer)

  pub room_made : (capacity : ℕ) (pages : List (ℕ × Page B)) → capacity ≤ length pages
      → with_room capacity keeps pages ≡ evicted (victim keeps pages) pages
  room_made capacity pages full =
      ap (λ b. cond b pages (evicted (victim keeps pages) pages)) (le-ltb (length pages) capacity full)

module _ {X : Type 0} where
  pub length-gone : (test : ℕ → Bool) (xs : List (ℕ × X)) (v : X) → lookup test xs ≡ Some v
      → length (without test xs) + 1 ≡ length xs
  length-gone test [] v e = absurd (none-some v e)
  length-gone test (x ∷ xs) v e = go (test x.0) e (length-gone test xs v)
    where
      go : (b : Bool) → cond b (Some x.1) (lookup test xs) ≡ Some v
          → (lookup test xs ≡ Some v → length (without test xs) + 1 ≡ length xs)
          → length (cond b xs (x ∷ without test xs)) + 1 ≡ length (x ∷ xs)
      go true e later = omega arith
      go false e later = let one = later e in omega arith

module _ {B : Type 0} (pages : List (ℕ × Page B)) (distinct : IsDistinct nat_eq (keys_of pages)) (n : ℕ) where
  lookup-gone : (m : ℕ) → lookup (nat_eq m) (without (nat_eq n) pages)
      ≡ cond (nat_eq n m) None (lookup (nat_eq m) pages)
  lookup-gone m =
      lookup-remove_entry nat_eq_equiv (nat_eq n) (λ x y e. ap (λ k. nat_eq k y) (eqb-true n x e)) m pages distinct

  pub found_before : (m : ℕ) (page : Page B) → lookup (nat_eq m) (without (nat_eq n) pages) ≡ Some page
      → lookup (nat_eq m) pages ≡ Some page
  found_before m page found = go (nat_eq n m) (sym (lookup-gone m) ∙ found)
    where
      go : (b : Bool) → cond b None (lookup (nat_eq m) pages) ≡ Some page → lookup (nat_eq m) pages ≡ Some page
      go true e = absurd (none-some page e)
      go false e = e

  pub absent-gone : (m : ℕ) → lookup (nat_eq m) pages ≡ None → lookup (nat_eq m) (without (nat_eq n) pages) ≡ None
  absent-gone m none = go (nat_eq n m) (lookup-gone m)
    where
      go : (b : Bool) → lookup (nat_eq m) (without (nat_eq n) pages) ≡ cond b None (lookup (nat_eq m) pages)
          → lookup (nat_eq m) (without (nat_eq n) pages) ≡ None
      go true e = e
      go false e = e ∙ none

  module _ {D E S : Type 0} (d : device.Ghosts D B E S) (it : D) where
    pub clean-gone : AreClean d pages it → AreClean d (without (nat_eq n) pages) it
    clean-gone clean good m page found = clean good m page (found_before m page found)

    pub there-gone : AreThere d pages it → AreThere d (without (nat_eq n) pages) it
    there-gone there m page found = there m page (found_before m page found)

    pub shown-gone : ((page : Page B) → lookup (nat_eq n) pages ≡ Some page → d.blocks it n ≡ Some (d.seen page.block))
        → (m : ℕ) → block_at d (without (nat_eq n) pages) it m ≡ block_at d pages it m
    shown-gone same m = ap (λ o. block_or d o (d.blocks it m)) (lookup-gone m) ∙ go (nat_eq n m) refl
      where
        at : (o : Option (Page B)) → lookup (nat_eq n) pages ≡ o → d.blocks it n ≡ block_or d o (d.blocks it n)
        at None e = refl
        at (Some page) e = same page e

        go : (b : Bool) → nat_eq n m ≡ b
            → block_or d (cond b None (lookup (nat_eq m) pages)) (d.blocks it m) ≡ block_at d pages it m
        go true e = subst (λ k. d.blocks it k ≡ block_at d pages it k) (eqb-true n m e)
            (at (lookup (nat_eq n) pages) refl)
        go false e = refl
