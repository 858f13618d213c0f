use Rattle.std.proofs.Common.{◌≡◌, ℕ, Bool, true, false, zero, suc, ◌+◌, ◌-◌, ◌*◌, ◌%◌, ◌^◌, ◌≤◌, ◌<◌, List, [], ◌∷◌, ◌++◌, refl, sym, subst, ap, ◌∙◌, arith}
use Rattle.std.specs.List.{All}
use Rattle.std.proofs.lemmas.List.Elements.{All-push, All-nil, All-cons, All-head, All-tail}
use Rattle.std.proofs.lemmas.Nat.{pow_pos}
use Rattle.std.specs.Prelude.{nat_le, if◌then◌else◌}
use Rattle.std.proofs.lemmas.Bool.{lt-leb, le-leb, leb-true, leb-false}
use Rattle.std.proofs.lemmas.Nat.{pow_below}
use Rattle.std.proofs.Math.Nat.{mod-eq_of_lt}
use Rattle.lru_trace.specs.Rows.{powers}

pub shifted : (k : ℕ) → k < 64 → 1 * 2 ^ k % 18446744073709551616 ≡ 2 ^ k
shifted k h =
    let e : 1 * 2 ^ k ≡ 2 ^ k = omega arith in
    rw e (mod-eq_of_lt (omega (arith, pow_below k 64 h)))

module _ (keys : ℕ) where
  pub no_powers : (level : ℕ) → powers keys 0 level ≡ []
  unfolding powers
  no_powers level = refl

  pub one_power : (count level : ℕ) → powers keys (suc count) level
      ≡ 2 ^ level ∷ (if nat_le keys (2 ^ level) then [] else powers keys count (suc level))
  unfolding powers
  one_power count level = refl

  module _ (level power : ℕ) (few : level < 64) (is : power ≡ 2 ^ level) where
    next : powers keys (64 - level) level
        ≡ power ∷ (if nat_le keys power then [] else powers keys (64 - (level + 1)) (level + 1))
    next =
        let n : 64 - level ≡ suc (64 - (level + 1)) = omega (arith, few) in
        let m : suc level ≡ level + 1 = omega arith in
        rw is (ap (λ n. powers keys n level) n ∙ one_power (64 - (level + 1)) level
        ∙ ap (λ l. 2 ^ level ∷ (if nat_le keys (2 ^ level) then [] else powers keys (64 - (level + 1)) l)) m)

    pub powers_go_on : power < keys
        → powers keys (64 - level) level ≡ power ∷ powers keys (64 - (level + 1)) (level + 1)
    powers_go_on more = next ∙ ap (λ t. power ∷ (if t then [] else powers keys (64 - (level + 1)) (level + 1)))
        (lt-leb keys power more)

    pub powers_stop : keys ≤ power → powers keys (64 - level) level ≡ power ∷ []
    powers_stop less = next ∙ ap (λ t. power ∷ (if t then [] else powers keys (64 - (level + 1)) (level + 1)))
        (le-leb keys power less)

pub All-more : (level power : ℕ) → power ≡ 2 ^ level → (before after : List ℕ) → after ≡ before ++ power ∷ []
    → All (λ n. 0 < n) before → All (λ n. 0 < n) after
All-more level power is before after e all = subst (All (λ n. 0 < n)) (sym e)
    (All-push (λ n. 0 < n) before power all (subst (λ n. 0 < n) (sym is) (omega (arith, pow_pos level))))

pub fewer_powers : (P : ℕ → Type 0) (most big : ℕ) → most ≤ big → (n level : ℕ) → All P (powers big n level)
    → All P (powers most n level)
fewer_powers P most big less zero level all = subst (All P) (sym (no_powers most level)) (All-nil P)
fewer_powers P most big less (suc n) level all =
    let first = 2 ^ level in
    let rest = if nat_le big first then [] else powers big n (suc level) in
    let there : All P (first ∷ rest) = subst (All P) (one_power big n level) all in
    subst (All P) (sym (one_power most n level)) (All-cons P first _ (All-head P first rest there)
    (go (nat_le most first) refl (nat_le big first) refl (fewer_powers P most big less n (suc level))
    (All-tail P first rest there)))
  where
    go : (t : Bool) → nat_le most (2 ^ level) ≡ t → (u : Bool) → nat_le big (2 ^ level) ≡ u
        → (All P (powers big n (suc level)) → All P (powers most n (suc level)))
        → All P (if u then [] else powers big n (suc level)) → All P (if t then [] else powers most n (suc level))
    go true d u e later h = All-nil P
    go false d false e later h = later h
    go false d true e later h = absurd (omega (arith, less, leb-false most (2 ^ level) d, leb-true big (2 ^ level) e))
