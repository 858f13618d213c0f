use Rattle.std.proofs.Common.{◌≡◌, ℕ, ◌+◌, ◌-◌, ◌/◌, ◌%◌, ◌<◌, ◌≤◌, ◌^◌, List, [], ◌∷◌, ◌++◌, length, set, take}
use Rattle.std.proofs.Common.{drop, refl, sym, ap, ◌∙◌, subst, arith, Option, Result, Ok, Err, decimal, append_assoc}
use Rattle.std.proofs.lemmas.List.{drop-set, length-append, take-append-drop, take_rest}
use Rattle.std.proofs.lemmas.Fmt.{decimal_step}
use Rattle.std.specs.Io.KnownBytes.{Appends}
use Rattle.std.proofs.KnownBytes.{Appends-trans}
use Rattle.lru_replay.specs.declared.lines.outcome.ReplayError.{ReplayError}
use Rattle.lru_replay.specs.Output.{Writes, Begins, Fails, rest_text, pair_text}

pub begins_after : (a b c : Option (List ℕ)) (t u : List ℕ) → Appends a b t → Begins b c u → Begins a c (t ++ u)
begins_after a b c t u p (part, (rest, is), q) =
    (t ++ part, (rest, ap (λ l. t ++ l) is ∙ sym (append_assoc t part rest)), Appends-trans a b c t part p q)

begins_front : (a b : Option (List ℕ)) (t u : List ℕ) → Begins a b t → Begins a b (t ++ u)
begins_front a b t u (part, (rest, is), p) = (part, (rest ++ u, ap (λ l. l ++ u) is ∙ append_assoc part rest u), p)

pub writes_after : {A : Type 0} (a b c : Option (List ℕ)) (t u : List ℕ) (r : Result A ReplayError) → Appends a b t
    → Writes b c r u → Writes a c r (t ++ u)
writes_after a b c t u (Ok x) p q = Appends-trans a b c t u p q
writes_after a b c t u (Err e) p (same, begun) = (same, begins_after a b c t u p begun)

pub failed : (a b c : Option (List ℕ)) (t u v all : List ℕ) (e : ReplayError) → Appends a b t → Fails e b c u → all ≡ t
    ++ (u ++ v) → Fails e a c all
failed a b c t u v all e p (same, begun) whole =
    (same, subst (Begins a c) (sym whole) (begins_after a b c t (u ++ v) p (begins_front b c u v begun)))

pub failed_front : (a b : Option (List ℕ)) (t u : List ℕ) (e : ReplayError) → Fails e a b t → Fails e a b (t ++ u)
failed_front a b t u e (same, begun) = (same, begins_front a b t u begun)

pub rest_text-append : (xs ys : List (ℕ × ℕ)) → rest_text (xs ++ ys) ≡ rest_text xs ++ rest_text ys
rest_text-append [] ys = refl
rest_text-append (x ∷ xs) ys = ap (λ l. (32 ∷ pair_text x) ++ l) (rest_text-append xs ys)
    ∙ sym (append_assoc (32 ∷ pair_text x) (rest_text xs) (rest_text ys))

pub digit_put : (front digits : List ℕ) (at d : ℕ) → 1 ≤ at → at ≤ length digits → front
    ++ drop (at - 1) (set digits (at - 1) d) ≡ (front ++ d ∷ []) ++ drop at digits
digit_put front digits at d some within =
    let put = drop-set digits (at - 1) d (omega arith) in
    let back : (at - 1) + 1 ≡ at = omega arith in
    ap (λ l. front ++ l) (put ∙ ap (λ k. d ∷ drop k digits) back) ∙ sym (append_assoc front (d ∷ []) (drop at digits))

pub length-decimal_step : (n : ℕ) → 10 ≤ n → n < 2 ^ 64 → length (decimal n) ≡ length (decimal (n / 10)) + 1
length-decimal_step n low h = ap length (decimal_step n low h) ∙ length-append (decimal (n / 10)) ((48 + n % 10) ∷ [])

pub moved_on : (all done rest left : List ℕ) (n : ℕ) → all ≡ done ++ rest → left ≡ take (length rest - n) (drop n rest)
    → all ≡ (done ++ take n rest) ++ left
moved_on all done rest left n e is =
    e ∙ ap (λ l. done ++ l) (sym (take-append-drop n rest)
    ∙ ap (λ l. take n rest ++ l) (sym (take_rest rest n) ∙ sym is)) ∙ sym (append_assoc done (take n rest) left)
