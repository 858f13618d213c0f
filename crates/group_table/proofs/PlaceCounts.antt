use Rattle.std.proofs.Common.{◌≡◌, ℕ, suc, ◌+◌, ◌<◌, ◌≤◌, ◌⊎◌, cond, List, [], ◌∷◌, length, get_or, set}
use Rattle.std.proofs.Common.{Option, Some, None, ap, sym, ◌∙◌, arith, inl, inr, count_by, is_some}
use Rattle.std.proofs.lemmas.Option.{none-some}
use Rattle.std.proofs.lemmas.List.{get_or_past}
use Rattle.std.proofs.lemmas.List.Sums.{sum_by-set, sum_by-cons}
use native.Mathlib.Decide.{dec_lt}
use Rattle.group_table.specs.Moves.{place_at}

module _ {T : Type 0} where
  abbrev counts : Option T → ℕ
  counts place = cond (is_some place) 1 0

  pub place_within : (places : List (Option T)) (b : ℕ) (entry : T) → place_at places b ≡ Some entry → b < length places
  place_within places b entry there = elim (dec_lt b (length places)) [
    | yes p ↦ p
    | no p ↦ absurd (none-some entry (sym (get_or_past places b None (omega arith)) ∙ there))
  ]

  pub count-filled : (places : List (Option T)) (b : ℕ) (entry : T) → b < length places → place_at places b ≡ None
      → count_by is_some (set places b (Some entry)) ≡ count_by is_some places + 1
  count-filled places b entry within none =
      let before : counts (get_or places b None) ≡ 0 = ap counts none in
      omega (arith, before, sum_by-set counts places b (Some entry) None within)

  pub count-changed : (places : List (Option T)) (b : ℕ) (stood entry : T) → place_at places b ≡ Some stood
      → count_by is_some (set places b (Some entry)) ≡ count_by is_some places
  count-changed places b stood entry there =
      let before : counts (get_or places b None) ≡ 1 = ap counts there in
      omega (arith, before, sum_by-set counts places b (Some entry) None (place_within places b stood there))

  pub count-taken : (places : List (Option T)) (b : ℕ) (entry : T) → place_at places b ≡ Some entry
      → count_by is_some (set places b None) + 1 ≡ count_by is_some places
  count-taken places b entry there =
      let before : counts (get_or places b None) ≡ 1 = ap counts there in
      omega (arith, before, sum_by-set counts places b None None (place_within places b entry there))

  pub count-fewer : (some all : List (Option T)) → length some ≡ length all
      → ((b : ℕ) → (place_at some b ≡ None) ⊎ (place_at some b ≡ place_at all b))
      → count_by is_some some ≤ count_by is_some all
  count-fewer [] all same each = omega arith
  count-fewer (x ∷ some) [] same each = absurd (omega arith)
  count-fewer (x ∷ some) (y ∷ all) same each =
      let rest = count-fewer some all (omega arith) (λ b. each (suc b)) in
      let here : counts x ≤ counts y = elim (each 0) [
        | inl none ↦ let zero_is : counts x ≡ 0 = ap counts none in omega arith
        | inr equal ↦ let equally : counts x ≡ counts y = ap counts equal in omega arith
      ] in
      omega (arith, rest, here, sum_by-cons counts x some, sum_by-cons counts y all)
