-- A callback that keeps each pair while its vector has space.
use Rattle.std.proofs.Common.{◌≡◌, ℕ, ◌+◌, ◌<◌, ◌≤◌, List, [], ◌∷◌, ◌++◌, length, Vec, Global, MutBor, vec_len}
use Rattle.std.proofs.Common.{vec_capacity, refl, ap, ◌∙◌, arith}
use Rattle.std.proofs.lemmas.Fn.{chained_keeps}
use Rattle.std.proofs.lemmas.List.{length-append}
use Rattle.std.specs.Fn.{Mut, Called}
use Rattle.lru_model.specs.Callbacks.{CalledWith}

pub record IsKept {K V : Type 0} (old new : MutBor (Vec (K × V) Global)) (pair : K × V) : Type 0 where
  pub same : new.ghost_name ≡ old.ghost_name
  pub capacity : vec_capacity new.now ≡ vec_capacity old.now
  pub items : vec_len old.now < vec_capacity old.now → new.now.items ≡ old.now.items ++ pair ∷ []
  pub len : vec_len old.now < vec_capacity old.now → vec_len new.now ≡ vec_len old.now + 1

module _ {K V F : Type 0} (closure : Mut F (K × (V × Unit {0})) (Unit {0})) (kept : F → MutBor (Vec (K × V) Global))
    (keeps : (f : F) (pair : K × V) (g : F) → Called closure f (pair.0, (pair.1, tt)) tt g
    → IsKept (kept f) (kept g) pair) (first : F) (growth_left : ℕ) where
  -- the vector after the callback got the pairs `xs`
  pub record AllKept (xs : List (K × V)) (f : F) : Type 0 where
    pub same : (kept f).ghost_name ≡ (kept first).ghost_name
    pub capacity : vec_capacity (kept f).now ≡ growth_left
    pub items : length xs ≤ growth_left → (kept f).now.items ≡ xs
    pub len : length xs ≤ growth_left → vec_len (kept f).now ≡ length xs

  one_more : (xs : List (K × V)) (f : F) (pair : K × V) (g : F) → AllKept xs f
      → Called closure f (pair.0, (pair.1, tt)) tt g → AllKept (xs ++ pair ∷ []) g
  one_more xs f pair g all called =
      let one = keeps f pair g called in
      let more = length-append xs (pair ∷ []) in record {
        same = one.same ∙ all.same;
        capacity = one.capacity ∙ all.capacity;
        items = λ fits.
            let few : length xs ≤ growth_left = omega (arith, fits, more) in
            one.items (omega (arith, fits, more, all.capacity, all.len few)) ∙ ap (λ l. l ++ pair ∷ []) (all.items few);
        len = λ fits.
            let few : length xs ≤ growth_left = omega (arith, fits, more) in
            omega (arith, one.len (omega (arith, fits, more, all.capacity, all.len few)), all.len few, more);
      }

  pub all_kept : (passed : List (K × V)) (last : F) → vec_capacity (kept first).now ≡ growth_left
      → (kept first).now.items ≡ [] → vec_len (kept first).now ≡ 0 → CalledWith closure first passed last
      → AllKept passed last
  all_kept passed last capacity none empty took = chained_keeps _ AllKept one_more passed first last (record {
    same = refl;
    capacity = capacity;
    items = λ _. none;
    len = λ _. empty;
  }) took
