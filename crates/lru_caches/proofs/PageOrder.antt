use Rattle.std.proofs.Common.{◌≡◌, ◌≤◌, ℕ, suc, Bool, true, false, nat_eq, cond, List, [], ◌∷◌, length}
use Rattle.std.proofs.Common.{Option, Some, None, option_map, unwrap_or, refl, sym, ap, ◌∙◌, subst, arith}
use Rattle.std.proofs.lemmas.Bool.{eqb-true, eqb-false}
use Rattle.std.proofs.lemmas.Cmp.{nat_eq_equiv}
use Rattle.std.proofs.lemmas.Option.{none-some}
use Rattle.std.specs.Borrow.{Bor, MutBor}
use Rattle.std.specs.Fn.{Mut, Called}
use Rattle.std.specs.Map.{lookup, set_value}
use Rattle.lru_model.specs.Lists.{lookup_entry, without, after, front}
use Rattle.lru_model.specs.Written.{WritesEach}
use Rattle.lru_model.proofs.CallerLemmas.{found_named, lookup-entry, no_pair, without_none}
use Rattle.lru_caches.specs.declared.page_cache.pages.Page.{Page}
use Rattle.lru_caches.specs.Pages.{cleaned, with_room}
use Rattle.lru_caches.proofs.PageLists.{others_front}
use Rattle.lru_caches.proofs.Evictions.{room_left, length-gone}

module _ {X : Type 0} where
  pub written-first : (n : ℕ) (xs : List (ℕ × X)) (v w : X) → lookup (nat_eq n) xs ≡ Some v
      → set_value (nat_eq n) (front (nat_eq n) xs) w ≡ (n, w) ∷ without (nat_eq n) xs
  written-first n xs v w found = go (lookup_entry (nat_eq n) xs) refl
    where
      go : (o : Option (ℕ × X)) → lookup_entry (nat_eq n) xs ≡ o
          → set_value (nat_eq n) (after o (without (nat_eq n) xs)) w ≡ (n, w) ∷ without (nat_eq n) xs
      go None e = absurd (none-some v (sym (lookup-entry (nat_eq n) xs ∙ ap (option_map (λ p. p.1)) e) ∙ found))
      go (Some p) e =
          let named = found_named (nat_eq n) xs p e in
          let ys = without (nat_eq n) xs in
          ap (λ b. cond b ((p.0, w) ∷ ys) (p ∷ set_value (nat_eq n) ys w)) named
          ∙ ap (λ k. (k, w) ∷ ys) (sym (eqb-true n p.0 named))

  pub front-found : (n : ℕ) (xs : List (ℕ × X)) (v : X) → lookup (nat_eq n) xs ≡ Some v
      → front (nat_eq n) xs ≡ (n, v) ∷ without (nat_eq n) xs
  front-found n xs v found = go (lookup_entry (nat_eq n) xs) refl
    where
      go : (o : Option (ℕ × X)) → lookup_entry (nat_eq n) xs ≡ o
          → after o (without (nat_eq n) xs) ≡ (n, v) ∷ without (nat_eq n) xs
      go None e = absurd (none-some v (sym (lookup-entry (nat_eq n) xs ∙ ap (option_map (λ p. p.1)) e) ∙ found))
      go (Some p) e =
          let same : p.1 ≡ v = ap (λ o. unwrap_or o v)
          (sym (lookup-entry (nat_eq n) xs ∙ ap (option_map (λ q. q.1)) e) ∙ found) in
          ap (λ k. (k, p.1) ∷ without (nat_eq n) xs) (sym (eqb-true n p.0 (found_named (nat_eq n) xs p e)))
          ∙ ap (λ w. (n, w) ∷ without (nat_eq n) xs) same

  pub absent-by-hash : (hash_of : ℕ → ℕ) (hash n : ℕ) (xs : List (ℕ × X)) → hash ≡ hash_of n
      → ((p : ℕ × X) → lookup_entry (nat_eq n) xs ≡ Some p → hash_of p.0 ≡ hash → ⊥) → lookup (nat_eq n) xs ≡ None
  absent-by-hash hash_of hash n xs is none = go (lookup_entry (nat_eq n) xs) refl
    where
      go : (o : Option (ℕ × X)) → lookup_entry (nat_eq n) xs ≡ o → lookup (nat_eq n) xs ≡ None
      go None e = lookup-entry (nat_eq n) xs ∙ ap (option_map (λ p. p.1)) e
      go (Some p) e =
          absurd (none p e (ap hash_of (sym (eqb-true n p.0 (found_named (nat_eq n) xs p e))) ∙ sym is))

  pub front-absent : (n : ℕ) (xs : List (ℕ × X)) → lookup (nat_eq n) xs ≡ None → front (nat_eq n) xs ≡ xs
  front-absent n xs none =
      let no = no_pair (nat_eq n) xs none in
      ap (λ o. after o (without (nat_eq n) xs)) no ∙ without_none (nat_eq n) xs no

  pub front-same : (n m : ℕ) (xs : List (ℕ × X)) → lookup (nat_eq m) (front (nat_eq n) xs) ≡ lookup (nat_eq m) xs
  front-same n m xs = go (nat_eq m n) refl
    where
      at : (o : Option X) → lookup (nat_eq n) xs ≡ o → lookup (nat_eq n) (front (nat_eq n) xs) ≡ lookup (nat_eq n) xs
      at None e = ap (lookup (nat_eq n)) (front-absent n xs e)
      at (Some v) e = ap (lookup (nat_eq n)) (front-found n xs v e)
          ∙ ap (λ b. cond b (Some v) (lookup (nat_eq n) (without (nat_eq n) xs))) (nat_eq_equiv.refl n) ∙ sym e

      go : (b : Bool) → nat_eq m n ≡ b → lookup (nat_eq m) (front (nat_eq n) xs) ≡ lookup (nat_eq m) xs
      go true e = subst (λ k. lookup (nat_eq k) (front (nat_eq n) xs) ≡ lookup (nat_eq k) xs) (sym (eqb-true m n e))
          (at (lookup (nat_eq n) xs) refl)
      go false e = others_front m n (eqb-false m n e) xs

module _ {B : Type 0} (capacity n : ℕ) (keeps : Bool) (page : Page B) (xs new : List (ℕ × Page B)) where
  pub used-new : lookup (nat_eq n) xs ≡ None → new ≡ (n, page) ∷ with_room capacity keeps xs
      → new ≡ (n, page) ∷ with_room capacity keeps (without (nat_eq n) xs)
  used-new none is =
      is ∙ ap (λ l. (n, page) ∷ with_room capacity keeps l) (sym (without_none (nat_eq n) xs (no_pair (nat_eq n) xs none)))

  pub used-found : (was : Page B) → lookup (nat_eq n) xs ≡ Some was → length xs ≤ capacity
      → new ≡ (n, page) ∷ without (nat_eq n) xs → new ≡ (n, page) ∷ with_room capacity keeps (without (nat_eq n) xs)
  used-found was found within is =
      is ∙ ap (λ l. (n, page) ∷ l)
      (sym (room_left keeps capacity (without (nat_eq n) xs) (omega (arith, length-gone (nat_eq n) xs was found, within))))

pub length-cleaned : {B : Type 0} (pages : List (ℕ × Page B)) → length (cleaned pages) ≡ length pages
length-cleaned [] = refl
length-cleaned (page ∷ pages) = ap suc (length-cleaned pages)

module _ {B F : Type 0} (closure : Mut F (Bor ℕ × (MutBor (Page B) × Unit {0})) (Unit {0} × (MutBor (Page B) × Unit {0})))
    (clears : (f : F) (key : Bor ℕ) (value left : MutBor (Page B)) (g : F)
    → Called closure f (key, (value, tt)) (tt, (left, tt)) g
    → left.now ≡ record value.now { is_dirty = false }) where
  pub cleaned-each : (pages new : List (ℕ × Page B)) (f g : F) → WritesEach closure f pages new g → new ≡ cleaned pages
  cleaned-each [] new f g each = each.0
  cleaned-each (page ∷ pages) new f g (w, between, rest, writes, each, is) =
      is ∙ ap (λ l. (page.0, w) ∷ l) (cleaned-each pages rest between g each)
      ∙ ap (λ p. (page.0, p) ∷ cleaned pages)
      (sym writes.writes ∙ clears f writes.key writes.value writes.left between writes.called
      ∙ ap (λ (v : Page B). record v { is_dirty = false }) writes.shows.1)
