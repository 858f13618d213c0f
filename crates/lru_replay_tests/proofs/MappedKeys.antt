-- If two keys are equal exactly if f maps them to equal keys, a trace misses as often as its mapped trace.
use Rattle.std.proofs.Common.{◌≡◌, ℕ, ◌+◌, Bool, true, false, cond, List, [], ◌∷◌, length, map, refl, ap, sym, ◌∙◌}
use Rattle.std.specs.Prelude.{not, ◌||◌, nat_le}
use Rattle.std.specs.Set.{remove_key}
use Rattle.std.proofs.lemmas.List.{length-map}
use Rattle.lru_theory.specs.Traces.{is_in, since, recency, distance, is_far, misses}

module _ {A B : Type 0} (f : A → B) (eq : B → B → Bool) where
  abbrev same : A → A → Bool
  same x y = eq (f x) (f y)

  mapped_in : (key : A) (xs : List A) → is_in same key xs ≡ is_in eq (f key) (map f xs)
  mapped_in key [] = refl
  mapped_in key (x ∷ xs) = ap (λ b. same key x || b) (mapped_in key xs)

  mapped_without : (key : A) (xs : List A) → map f (remove_key (same key) xs) ≡ remove_key (eq (f key)) (map f xs)
  mapped_without key [] = refl
  mapped_without key (x ∷ xs) = go (same key x) (mapped_without key xs)
    where
      go : (b : Bool) → map f (remove_key (same key) xs) ≡ remove_key (eq (f key)) (map f xs)
          → map f (cond b xs (x ∷ remove_key (same key) xs)) ≡ cond b (map f xs) (f x ∷ remove_key (eq (f key)) (map f xs))
      go true rest = refl
      go false rest = ap (λ ys. f x ∷ ys) rest

  mapped_since : (key : A) (xs : List A) → map f (since same key xs) ≡ since eq (f key) (map f xs)
  mapped_since key [] = refl
  mapped_since key (x ∷ xs) = go (same key x) (mapped_since key xs)
    where
      go : (b : Bool) → map f (since same key xs) ≡ since eq (f key) (map f xs)
          → map f (cond b [] (x ∷ since same key xs)) ≡ cond b [] (f x ∷ since eq (f key) (map f xs))
      go true rest = refl
      go false rest = ap (λ ys. f x ∷ ys) rest

  mapped_recency : (past : List A) → map f (recency same past) ≡ recency eq (map f past)
  mapped_recency [] = refl
  mapped_recency (x ∷ past) = ap (λ ys. f x ∷ ys)
      (mapped_without x (recency same past) ∙ ap (remove_key (eq (f x))) (mapped_recency past))

  mapped_distance : (key : A) (past : List A) → distance same key past ≡ distance eq (f key) (map f past)
  mapped_distance key past = sym (length-map (recency same (since same key past)) f)
      ∙ ap length (mapped_recency (since same key past) ∙ ap (recency eq) (mapped_since key past))

  pub mapped_misses : (n : ℕ) (past trace : List A) → misses same n past trace ≡ misses eq n (map f past) (map f trace)
  mapped_misses n past [] = refl
  mapped_misses n past (key ∷ trace) = (λ i. cond (not (mapped_in key past i) || nat_le n (mapped_distance key past i)) 1 0
      + misses same n (key ∷ past) trace) ∙ ap (λ m. cond (is_far eq n (f key) (map f past)) 1 0 + m)
      (mapped_misses n (key ∷ past) trace)
