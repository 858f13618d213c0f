use Rattle.std.proofs.Common.{◌≡◌, ℕ, zero, suc, ◌*◌, ◌^◌, ◌≤◌, ◌<◌, sym, subst, ap, ◌∙◌, arith, inl, inr, ◌⊎◌}
use Rattle.std.specs.Prelude.{if◌then◌else◌}
use Rattle.std.proofs.lemmas.Bool.{cases_lt, lt-leb, le-leb}
use Rattle.std.proofs.Common.{pow_mono}
use Rattle.lru_trace.specs.Svg.{level_of}

pub at_level : (most n level : ℕ) → level ≤ most → 2 ^ level ≤ n → n < 2 * 2 ^ level → level_of most n ≡ level
unfolding level_of
at_level zero n level few from below = omega (arith, few)
at_level (suc most) n level few from below = go (λ few. at_level most n level few from below) (cases_lt level (suc most))
  where
    go : (level ≤ most → level_of most n ≡ level) → (level < suc most) ⊎ (suc most ≤ level) → level_of (suc most) n ≡ level
    go later (inl less) =
        let more : 2 ^ suc level ≤ 2 ^ suc most = pow_mono less in
        let above : n < 2 ^ suc most = omega (arith, below, more) in
        ap (λ t. if t then suc most else level_of most n) (lt-leb (2 ^ suc most) n above)
        ∙ later (omega (arith, less))
    go later (inr more) =
        let e : level ≡ suc most = omega (arith, few, more) in
        ap (λ t. if t then suc most else level_of most n) (le-leb (2 ^ suc most) n (subst (λ l. 2 ^ l ≤ n) e from)) ∙ sym e
