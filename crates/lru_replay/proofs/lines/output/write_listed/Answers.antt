use Rattle.std.proofs.Common.{◌≡◌, ◌+◌, ℕ, List, ◌∷◌, length, Option, Some, Bor, MatchOption, rules}
use Rattle.lru_replay.proofs.WrittenTexts.{writes_after}
use Rattle.lru_replay.proofs.lines.output.write_listed.Goals as goal

split_pairs : (pairs : List (ℕ × ℕ)) (r : Option (Bor (ℕ × ℕ) × Bor (List (ℕ × ℕ)))) (first : Bor (ℕ × ℕ))
    (rest : Bor (List (ℕ × ℕ))) → r ≡ Some (first, rest)
    → MatchOption r (length pairs ≡ 0) (λ parts. (pairs ≡ parts.0.now ∷ parts.1.now)
    × (length parts.1.now + 1 ≡ length pairs)) → pairs ≡ first.now ∷ rest.now
split_pairs pairs r first rest is cases = let found = rw is at cases in found.0

pub returns : goal.returns
returns g c = rw (split_pairs _ c.split_first.result c.in-Some.first c.in-Some.rest (search rules)
    c.split_first.ensures.cases) (writes_after _ _ _ _ _ _ c.in_ok-write_pair.ensures c.write_passed.ensures)
