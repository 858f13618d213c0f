use Rattle.std.proofs.Common.{◌≡◌, List, [], ◌∷◌, refl}
use Rattle.std.specs.List.{AllZip}
use Rattle.lru_model.specs.Clones.{IsPairClone}
use Rattle.lru_c.specs.Bytes.{Bytes, texts}

module _ (same : Bytes → Bytes → Type 0) (has_bytes : (x y : Bytes) → same x y → y.items ≡ x.items) where
  pub same_texts : (old copy : List (Bytes × Bytes)) → AllZip (IsPairClone same same) old copy
      → texts copy ≡ texts old
  same_texts [] [] clones = refl
  same_texts [] (q ∷ qs) clones = absurd clones
  same_texts (p ∷ ps) [] clones = absurd clones
  same_texts (p ∷ ps) (q ∷ qs) clones = λ i.
      (has_bytes p.0 q.0 clones.0.key i, has_bytes p.1 q.1 clones.0.value i) ∷ same_texts ps qs clones.1 i
