use Rattle.std.proofs.Common.{◌≡◌, ℕ, ◌<◌, List, [], ◌∷◌, ◌++◌, length, flat_map, refl, sym, ap, ◌∙◌, subst, arith}
use Rattle.std.proofs.Common.{Option, Some, None, IfSome, append_assoc}
use Rattle.std.proofs.lemmas.List.{append-nil, flat_map_more}
use Rattle.std.proofs.lemmas.Bool.{ne_eqb}
use Rattle.std.specs.List.{AllByRecursion}
use Rattle.std.specs.Io.KnownBytes.{Consumes}
use Rattle.std.proofs.KnownBytes.{Consumes-trans}
use Rattle.lru_replay.specs.Lines.{Lacks, lines_of, onto_first, fed, TakesPart, TakesFed, TakesRest, TakesLines}

pub lines_of-fed : (line rest : List ℕ) → Lacks 10 line → lines_of (fed line ++ rest) ≡ line ∷ lines_of rest
lines_of-fed [] rest lacks = refl
lines_of-fed (b ∷ line) rest lacks = rw (ne_eqb b 10 lacks.0) (ap (onto_first b) (lines_of-fed line rest lacks.1))

pub lines_of-all : (lines : List (List ℕ)) (rest : List ℕ) → AllByRecursion (Lacks 10) lines
    → lines_of (flat_map fed lines ++ rest) ≡ lines ++ lines_of rest
lines_of-all [] rest lack = refl
lines_of-all (line ∷ lines) rest lack = ap lines_of (append_assoc (fed line) (flat_map fed lines) rest)
    ∙ lines_of-fed line (flat_map fed lines ++ rest) lack.0 ∙ ap (λ l. line ∷ l) (lines_of-all lines rest lack.1)

pub lines_of-last : (line : List ℕ) → Lacks 10 line → 0 < length line → lines_of line ≡ line ∷ []
lines_of-last [] lacks some = absurd (omega arith)
lines_of-last (b ∷ line) lacks some = go b line lacks
  where
    go : (b : ℕ) (line : List ℕ) → Lacks 10 (b ∷ line) → lines_of (b ∷ line) ≡ (b ∷ line) ∷ []
    go b [] lacks = rw (ne_eqb b 10 lacks.0) refl
    go b (c ∷ line) lacks = rw (ne_eqb b 10 lacks.0) (ap (onto_first b) (go c line lacks.1))

pub takes_line_more : (a b c : Option (List ℕ)) (lines : List (List ℕ)) (line : List ℕ) → TakesLines a b lines []
    → TakesFed b c line → TakesLines a c (lines ++ line ∷ []) []
takes_line_more a b c lines line (lack, none, p) (lacks, q) =
    (all_more lines lack, tt, subst (Consumes a c) same (Consumes-trans a b c _ _ p q))
  where
    all_more : (lines : List (List ℕ)) → AllByRecursion (Lacks 10) lines
        → AllByRecursion (Lacks 10) (lines ++ line ∷ [])
    all_more [] lack = (lacks, tt)
    all_more (l ∷ lines) lack = (lack.0, all_more lines lack.1)

    same : (flat_map fed lines ++ []) ++ fed line ≡ flat_map fed (lines ++ line ∷ []) ++ []
    same = ap (λ l. l ++ fed line) (append-nil (flat_map fed lines)) ∙ flat_map_more fed [] lines line
        ∙ sym (append-nil (flat_map fed (lines ++ line ∷ [])))

pub takes_part_more : (a b c : Option (List ℕ)) (lines : List (List ℕ)) (part : List ℕ) → TakesLines a b lines []
    → TakesPart b c part → TakesLines a c lines part
takes_part_more a b c lines part (lack, none, p) (lacks, q) = (
  lack,
  lacks,
  subst (Consumes a c) (ap (λ l. l ++ part) (append-nil (flat_map fed lines)))
      (Consumes-trans a b c _ _ p q),
)

pub takes_line_before : (a b c : Option (List ℕ)) (first : List ℕ) (lines : List (List ℕ)) (part : List ℕ)
    → TakesFed a b first → TakesLines b c lines part → TakesLines a c (first ∷ lines) part
takes_line_before a b c first lines part (lacks, p) (lack, none, q) = (
  (lacks, lack),
  none,
  subst (Consumes a c) (sym (append_assoc (fed first) (flat_map fed lines) part))
      (Consumes-trans a b c (fed first) (flat_map fed lines ++ part) p q),
)

pub lines_left : (x y : List ℕ) (lines : List (List ℕ)) (part : List ℕ) → TakesLines (Some x) (Some y) lines part
    → lines_of x ≡ lines ++ lines_of (part ++ y)
lines_left x y lines part (lack, none, p) = ap lines_of (p ∙ append_assoc (flat_map fed lines) part y)
    ∙ lines_of-all lines (part ++ y) lack

pub lines_at_end : (a b c : Option (List ℕ)) (lines : List (List ℕ)) (rest : List ℕ) → TakesLines a b lines []
    → TakesRest b c rest → IfSome a (λ input. lines_of input ≡ lines ++ lines_of rest)
lines_at_end None b c lines rest p q = tt
lines_at_end (Some x) None c lines rest (lack, none, p) q = absurd p
lines_at_end (Some x) (Some y) None lines rest p (lacks, q, end) = absurd q
lines_at_end (Some x) (Some y) (Some z) lines rest p (lacks, q, end) =
    lines_left x y lines [] p ∙ ap (λ l. lines ++ lines_of l) (q ∙ ap (λ l. rest ++ l) end ∙ append-nil rest)
