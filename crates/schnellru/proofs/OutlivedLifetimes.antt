-- What a function requires of the lifetimes of its type parameters.
use mathlib.Core.List.{List, [], ◌∷◌}
use seplogic.Ra.Ura.{Ura}
use base.Fml.{Lft}
use base.Logic.{SProp, ent, id⊢, sep, emp, via, fst∗, snd∗, emp∗, mono_l, mono_r}
use contract.BorrowLft.{◌⊑◌}
use contract.Monad.{fact, fact_i, fact_use}

-- in each pair, the first lifetime ends before the second or with it
abbrev pub AllWithin : List (Lft × Lft) → Type 0
AllWithin [] = Unit {0}
AllWithin (l ∷ ls) = (l.0 ⊑ l.1) × AllWithin ls

module _ {M : Type 1} (𝓤 : Ura M) where
  abbrev pub Outlive : List (Lft × Lft) → SProp 𝓤 → SProp 𝓤
  Outlive [] P = P
  Outlive (l ∷ ls) P = sep 𝓤 (fact 𝓤 (l.0 ⊑ l.1)) (Outlive ls P)

  pub outlive_mono : (ls : List (Lft × Lft)) {P Q : SProp 𝓤} → ent 𝓤 P Q → ent 𝓤 (Outlive ls P) (Outlive ls Q)
  outlive_mono [] h = h
  outlive_mono (l ∷ ls) h = mono_r 𝓤 (fact 𝓤 (l.0 ⊑ l.1)) (outlive_mono ls h)

  pub outlive_shows : (ls : List (Lft × Lft)) (P : SProp 𝓤) → ent 𝓤 (Outlive ls P) (fact 𝓤 (AllWithin ls))
  outlive_shows [] P = fact_i 𝓤 (Unit {0}) P tt
  outlive_shows (l ∷ ls) P =
      let first = fact 𝓤 (l.0 ⊑ l.1) in let rest = Outlive ls P in
      fact_use 𝓤 (l.0 ⊑ l.1) (fst∗ 𝓤 first rest)
      (λ h. fact_use 𝓤 (AllWithin ls) (via 𝓤 rest (snd∗ 𝓤 first rest) (outlive_shows ls P))
      (λ hs. fact_i 𝓤 (AllWithin (l ∷ ls)) (sep 𝓤 first rest) (h, hs)))

  pub outlive_holds : (ls : List (Lft × Lft)) → AllWithin ls → ent 𝓤 (emp 𝓤) (Outlive ls (emp 𝓤))
  outlive_holds [] h = id⊢ 𝓤 (emp 𝓤)
  outlive_holds (l ∷ ls) h =
      let rest = Outlive ls (emp 𝓤) in
      via 𝓤 rest (outlive_holds ls h.1) (via 𝓤 (sep 𝓤 (emp 𝓤) rest) (emp∗ 𝓤 rest)
      (mono_l 𝓤 rest (fact_i 𝓤 (l.0 ⊑ l.1) (emp 𝓤) h.0)))
