-- If each page may be evicted, the pages after a use are the pages that were used last.
use Rattle.std.proofs.Common.{◌≡◌, ◌<◌, ◌≤◌, ◌-◌, ◌⊎◌, ℕ, suc, Bool, true, false, cond, nat_eq, List, [], ◌∷◌, ◌++◌, length}
use Rattle.std.proofs.Common.{take, Option, Some, None, refl, sym, ap, ◌∙◌, subst, inl, inr, arith}
use Rattle.std.specs.Prelude.{not, ◌||◌}
use Rattle.std.proofs.Math.Seq.{take-append_seam}
use Rattle.std.proofs.lemmas.Bool.{eqb-true, cases_lt}
use Rattle.std.proofs.lemmas.Cmp.{nat_eq_equiv}
use Rattle.std.proofs.lemmas.List.{take_all, length-append}
use Rattle.std.proofs.lemmas.List.Elements.{Contains-push}
use Rattle.std.proofs.lemmas.Map.Keys.{IsDistinct-head, IsDistinct-tail}
use Rattle.std.proofs.lemmas.Map.Views.{lookup-from_Contains}
use Rattle.std.proofs.lemmas.Option.{none-some}
use Rattle.std.specs.List.{IsDistinct}
use Rattle.std.specs.Map.{lookup, keys_of}
use Rattle.lru_model.specs.Lists.{without}
use Rattle.lru_model.proofs.CallerLemmas.{no_pair, without_none}
use Rattle.lru_caches.specs.declared.page_cache.pages.Page.{Page}
use Rattle.lru_caches.specs.Pages.{evicted, is_pinned, victim, with_room}
use Rattle.lru_caches.proofs.Evictions.{victim-goes, room_left, room_made, length-gone}
use Rattle.lru_caches.proofs.TurnedEntries.{none_more}

module _ {X : Type 0} where
  split_last : (x : ℕ × X) (xs : List (ℕ × X)) → (ys : List (ℕ × X)) × (p : ℕ × X) × (x ∷ xs ≡ ys ++ p ∷ [])
  split_last x [] = ([], x, refl)
  split_last x (y ∷ xs) = let (ys, p, is) = split_last y xs in (x ∷ ys, p, ap (λ l. x ∷ l) is)

  last_there : (ys : List (ℕ × X)) (p : ℕ × X) → IsDistinct nat_eq (keys_of (ys ++ p ∷ []))
      → lookup (nat_eq p.0) (ys ++ p ∷ []) ≡ Some p.1
  last_there ys p distinct =
      lookup-from_Contains nat_eq_equiv p.0 p.1 (ys ++ p ∷ []) distinct (Contains-push ys p)

  last_gone : (ys : List (ℕ × X)) (p : ℕ × X) → IsDistinct nat_eq (keys_of (ys ++ p ∷ []))
      → without (nat_eq p.0) (ys ++ p ∷ []) ≡ ys
  last_gone [] p distinct = ap (λ b. cond b [] (p ∷ [])) (nat_eq_equiv.refl p.0)
  last_gone (y ∷ ys) p distinct = go (nat_eq p.0 y.0) refl (last_gone ys p tail)
    where
      tail : IsDistinct nat_eq (keys_of (ys ++ p ∷ []))
      tail = IsDistinct-tail nat_eq y.0 (keys_of (ys ++ p ∷ [])) distinct

      go : (b : Bool) → nat_eq p.0 y.0 ≡ b → without (nat_eq p.0) (ys ++ p ∷ []) ≡ ys
          → cond b (ys ++ p ∷ []) (y ∷ without (nat_eq p.0) (ys ++ p ∷ [])) ≡ y ∷ ys
      go true e later = absurd (none-some p.1 (sym (none_more {eq = nat_eq} (nat_eq p.0)
          (λ j k is. ap (λ i. nat_eq i k) (eqb-true p.0 j is)) y.0 (ys ++ p ∷ []) e
          (IsDistinct-head nat_eq y.0 (keys_of (ys ++ p ∷ [])) distinct)) ∙ last_there ys p tail))
      go false e later = ap (λ l. y ∷ l) later

module _ {B : Type 0} where
  oldest_gone : (x : ℕ × Page B) (xs : List (ℕ × Page B)) → IsDistinct nat_eq (keys_of (x ∷ xs))
      → ((n : ℕ) → is_pinned (lookup (nat_eq n) (x ∷ xs)) ≡ false)
      → evicted (victim false (x ∷ xs)) (x ∷ xs) ≡ take (length (x ∷ xs) - 1) (x ∷ xs)
  oldest_gone x xs distinct free = let (ys, p, is) = split_last x xs in go ys p (x ∷ xs) is distinct free
    where
      go : (ys : List (ℕ × Page B)) (p : ℕ × Page B) (all : List (ℕ × Page B)) → all ≡ ys ++ p ∷ []
          → IsDistinct nat_eq (keys_of all) → ((n : ℕ) → is_pinned (lookup (nat_eq n) all) ≡ false)
          → evicted (victim false all) all ≡ take (length all - 1) all
      go ys p all is distinct free =
          let apart = subst (λ l. IsDistinct nat_eq (keys_of l)) is distinct in
          let unpinned = ap is_pinned (sym (ap (lookup (nat_eq p.0)) is ∙ last_there ys p apart)) ∙ free p.0 in
          let fewer : length (ys ++ p ∷ []) - 1 ≡ length ys = omega (arith, length-append ys (p ∷ [])) in
          subst (λ l. evicted (victim false l) l ≡ take (length l - 1) l) (sym is)
          (ap (λ o. evicted o (ys ++ p ∷ [])) (victim-goes false ys p (ap (λ b. not (b || false)) unpinned))
          ∙ last_gone ys p apart
          ∙ sym (ap (λ k. take k (ys ++ p ∷ [])) fewer ∙ take-append_seam ys (p ∷ [])))

  pub newest_stay : (capacity n : ℕ) (page : Page B) (pages : List (ℕ × Page B)) → IsDistinct nat_eq (keys_of pages)
      → length pages ≤ capacity → 0 < capacity → ((m : ℕ) → is_pinned (lookup (nat_eq m) pages) ≡ false)
      → (n, page) ∷ with_room capacity false (without (nat_eq n) pages)
      ≡ take capacity ((n, page) ∷ without (nat_eq n) pages)
  newest_stay capacity n page pages distinct within some free =
      go (cases_lt (length (without (nat_eq n) pages)) capacity) (lookup (nat_eq n) pages) refl
    where
      full : (xs : List (ℕ × Page B)) → IsDistinct nat_eq (keys_of xs)
          → ((m : ℕ) → is_pinned (lookup (nat_eq m) xs) ≡ false) → length xs ≡ capacity
          → (n, page) ∷ with_room capacity false xs ≡ take capacity ((n, page) ∷ xs)
      full [] distinct free is = absurd (omega (arith, is, some))
      full (x ∷ xs) distinct free is =
          let one : capacity ≡ suc (length (x ∷ xs) - 1) = omega (arith, is, some) in
          ap (λ l. (n, page) ∷ l) (room_made false capacity (x ∷ xs) (omega (arith, is)) ∙ oldest_gone x xs distinct free)
          ∙ ap (λ k. take k ((n, page) ∷ x ∷ xs)) (sym one)

      go : (length (without (nat_eq n) pages) < capacity) ⊎ (capacity ≤ length (without (nat_eq n) pages))
          → (o : Option (Page B)) → lookup (nat_eq n) pages ≡ o
          → (n, page) ∷ with_room capacity false (without (nat_eq n) pages)
          ≡ take capacity ((n, page) ∷ without (nat_eq n) pages)
      go (inl fewer) o e = ap (λ l. (n, page) ∷ l) (room_left false capacity (without (nat_eq n) pages) fewer)
          ∙ sym (take_all capacity ((n, page) ∷ without (nat_eq n) pages) (omega (arith, fewer)))
      go (inr many) None e =
          let same = without_none (nat_eq n) pages (no_pair (nat_eq n) pages e) in
          subst (λ l. (n, page) ∷ with_room capacity false l ≡ take capacity ((n, page) ∷ l)) (sym same)
          (full pages distinct free (omega (arith, within, subst (λ l. capacity ≤ length l) same many)))
      go (inr many) (Some q) e = absurd (omega (arith, within, many, length-gone (nat_eq n) pages q e))
