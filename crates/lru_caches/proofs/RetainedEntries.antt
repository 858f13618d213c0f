-- A retain of a map filters the reversed list of its entries.
use Rattle.std.proofs.Common.{◌≡◌, Bool, true, false, List, [], ◌∷◌, ◌++◌, reverse, length, map, refl, sym, ap}
use Rattle.std.proofs.Common.{◌+◌, ◌∙◌, subst, arith}
use Rattle.std.proofs.lemmas.List.{append-nil, length-append}
use Rattle.std.specs.List.{items_where_true}
use Rattle.std.specs.List.Retain.{ReturnsInTurn, IsFiltered}
use Rattle.std.specs.Borrow.{Bor}
use Rattle.std.specs.Fn.{Mut}
use Rattle.lru_limits.specs.Rules.{Rules}
use Rattle.lru_model.specs.ByHash.{Asks}
use Rattle.lru_model.specs.Retains.{Answers, retained, Retains}
use Rattle.lru_model.specs.State.{State}
use Rattle.lru_caches.proofs.TurnedEntries.{reverse-cons}

module _ {X P : Type 0} (R : P → X → Bool → P → Type 0) where
  returns_push : (p q u : P) (bs : List Bool) (xs : List X) (b : Bool) (x : X) → length bs ≡ length xs
      → ReturnsInTurn R p bs xs q → R q x b u → ReturnsInTurn R p (bs ++ b ∷ []) (xs ++ x ∷ []) u
  returns_push p q u [] [] b x same h step = (u, subst (λ s. R s x b u) (sym h) step, refl)
  returns_push p q u [] (y ∷ ys) b x same h step = absurd (omega (arith, same))
  returns_push p q u (c ∷ cs) [] b x same h step = absurd h
  returns_push p q u (c ∷ cs) (y ∷ ys) b x same h step =
      let fewer : length cs ≡ length ys = omega (arith, same) in
      (h.0, h.1, returns_push h.0 q u cs ys b x fewer h.2 step)

module _ {X : Type 0} where
  picked_push : (bs : List Bool) (xs : List X) (b : Bool) (x : X) → length bs ≡ length xs
      → items_where_true (bs ++ b ∷ []) (xs ++ x ∷ [])
      ≡ items_where_true bs xs ++ items_where_true (b ∷ []) (x ∷ [])
  picked_push [] [] b x same = refl
  picked_push [] (y ∷ ys) b x same = absurd (omega (arith, same))
  picked_push (c ∷ cs) [] b x same = absurd (omega (arith, same))
  picked_push (true ∷ cs) (y ∷ ys) b x same =
      let fewer : length cs ≡ length ys = omega (arith, same) in
      ap (λ l. y ∷ l) (picked_push cs ys b x fewer)
  picked_push (false ∷ cs) (y ∷ ys) b x same =
      let fewer : length cs ≡ length ys = omega (arith, same) in picked_push cs ys b x fewer

  abbrev answers_of : List (X × Bool) → List Bool
  answers_of [] = []
  answers_of (one ∷ rest) = answers_of rest ++ one.1 ∷ []

  abbrev asked_of : List (X × Bool) → List X
  asked_of [] = []
  asked_of (one ∷ rest) = asked_of rest ++ one.0 ∷ []

  same_length : (asked : List (X × Bool)) → length (answers_of asked) ≡ length (asked_of asked)
  same_length [] = refl
  same_length (one ∷ rest) =
      length-append (answers_of rest) (one.1 ∷ []) ∙ ap (λ n. n + 1) (same_length rest)
      ∙ sym (length-append (asked_of rest) (one.0 ∷ []))

  asked_of-reverse : (asked : List (X × Bool)) → asked_of asked ≡ reverse (map (λ one. one.0) asked)
  asked_of-reverse [] = refl
  asked_of-reverse (one ∷ rest) = ap (λ l. l ++ one.0 ∷ []) (asked_of-reverse rest)
      ∙ sym (reverse-cons one.0 (map (λ one. one.0) rest))

module _ {K V F : Type 0} (closure : Mut F (Bor K × (Bor V × Unit {0})) Bool) where
  in_turn : (f g : F) (asked : List ((K × V) × Bool)) → Answers closure f asked g
      → ReturnsInTurn (Asks closure) f (answers_of asked) (asked_of asked) g
  in_turn f g [] h = sym h
  in_turn f g (one ∷ rest) h =
      returns_push (Asks closure) f h.0 g (answers_of rest) (asked_of rest) one.1 one.0 (same_length rest)
      (in_turn f h.0 rest h.1) h.2

module _ {K V S : Type 0} (rules : Rules K V S) where
  left : (asked : List ((K × V) × Bool)) (s : S)
      → reverse (retained rules asked s).pairs ≡ items_where_true (answers_of asked) (asked_of asked)
  left [] s = refl
  left ((pair, true) ∷ rest) s = reverse-cons pair (retained rules rest s).pairs
      ∙ ap (λ l. l ++ pair ∷ []) (left rest s)
      ∙ sym (picked_push (answers_of rest) (asked_of rest) true pair (same_length rest))
  left ((pair, false) ∷ rest) s = left rest s ∙ sym (append-nil (items_where_true (answers_of rest) (asked_of rest)))
      ∙ sym (picked_push (answers_of rest) (asked_of rest) false pair (same_length rest))

pub retains-filter : {K V S H F : Type 0} (closure : Mut F (Bor K × (Bor V × Unit {0})) Bool) (rules : Rules K V S)
    (f : F) (old new : State K V S H) → Retains closure rules f old new
    → IsFiltered (Asks closure) f (reverse old.pairs) (reverse new.pairs)
retains-filter closure rules f old new h =
    let each = asked_of-reverse h.asked ∙ ap reverse h.each in (
      answers_of h.asked,
      h.last,
      same_length h.asked ∙ ap length each,
      subst (λ xs. ReturnsInTurn (Asks closure) f (answers_of h.asked) xs h.last) each
          (in_turn closure f h.last h.asked h.answers),
      ap (λ st. reverse st.pairs) h.state.is ∙ left rules h.asked old.limiter
          ∙ ap (items_where_true (answers_of h.asked)) each,
    )
