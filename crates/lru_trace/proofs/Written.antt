use Rattle.std.proofs.Common.{◌≡◌, ℕ, ◌-◌, List, ◌++◌, length, take, drop, sym, ap, ◌∙◌, append_assoc}
use Rattle.std.proofs.lemmas.List.{take-append-drop, take_rest}

pub moved_on : (all done rest left : List ℕ) (n : ℕ) → all ≡ done ++ rest → left ≡ take (length rest - n) (drop n rest)
    → all ≡ (done ++ take n rest) ++ left
moved_on all done rest left n e is =
    e ∙ ap (λ l. done ++ l) (sym (take-append-drop n rest)
    ∙ ap (λ l. take n rest ++ l) (sym (take_rest rest n) ∙ sym is)) ∙ sym (append_assoc done (take n rest) left)
