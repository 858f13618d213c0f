use Rattle.std.proofs.Common.{◌≡◌, ℕ, zero, suc, ◌-◌, ◌<◌, ◌≤◌, true, false, List, [], ◌∷◌, length, refl, sym, ap, ◌∙◌}
use Rattle.std.proofs.Common.{subst, arith}
use Rattle.lru_model.specs.Lists.{without_first, without_last}
use Rattle.lru_limits.specs.Rules.{Rules}
use Rattle.lru_model.specs.State.{State, buckets, growth_left, Contents, contents, FreesGrowth, Leaves, pop, pops, trim}
use Rattle.lru_model.specs.State.{trim_from}
use Rattle.lru_model.specs.Place.{CannotGrow, no_target, denied, OldestEvicted}

pub length-without_first : {X : Type 0} (xs : List X) → length (without_first xs) ≤ length xs
length-without_first [] = omega arith
length-without_first (x ∷ xs) = omega arith

pub length-without_last : {X : Type 0} (xs : List X) → length (without_last xs) ≡ length xs - 1
length-without_last [] = refl
length-without_last (x ∷ []) = refl
length-without_last (x ∷ y ∷ ys) = omega (arith, length-without_last (y ∷ ys))

module _ {K V S : Type 0} (rules : Rules K V S) where
  pub length-pops : (n : ℕ) (c : Contents K V S) → length (pops rules n c).pairs ≡ length c.pairs - n
  length-pops zero c = omega arith
  length-pops (suc n) c = omega (arith, length-pops n (pop rules c), length-without_last c.pairs)

pub known_is : {K V S H : Type 0} (rules : Rules K V S) (old mid : State K V S H) → CannotGrow rules old mid → mid
    ≡ record old { limiter = mid.limiter }
known_is rules old mid (no_target t e) = rw e refl
known_is rules old mid (denied count bytes t d e) = rw e refl

module _ {K V S : Type 0} (rules : Rules K V S) where
  pub pops-more : (n : ℕ) (c : Contents K V S) → pops rules (suc n) c ≡ pop rules (pops rules n c)
  pops-more zero c = refl
  pops-more (suc n) c = pops-more n (pop rules c)

  pub trim-within : (c : Contents K V S) → rules.is_over_the_limit c.limiter (length c.pairs) ≡ false → trim rules c ≡ c
  unfolding trim
  trim-within c within = go (length c.pairs) within
    where
      go : (n : ℕ) → rules.is_over_the_limit c.limiter n ≡ false → trim_from rules n c ≡ c
      go zero e = refl
      go (suc n) e = rw e refl

  pub trim-empty : (c : Contents K V S) → length c.pairs ≡ 0 → trim rules c ≡ c
  unfolding trim
  trim-empty c none = ap (λ n. trim_from rules n c) none

  pub trim-over : (c : Contents K V S) → 0 < length c.pairs → rules.is_over_the_limit c.limiter (length c.pairs) ≡ true
      → trim rules c ≡ trim rules (pop rules c)
  unfolding trim
  trim-over c some over = go (length c.pairs) some over (length-without_last c.pairs)
    where
      go : (n : ℕ) → 0 < n → rules.is_over_the_limit c.limiter n ≡ true → length (without_last c.pairs) ≡ n - 1
          → trim_from rules n c ≡ trim_from rules (length (without_last c.pairs)) (pop rules c)
      go zero p e f = absurd (omega arith)
      go (suc n) p e f = rw e (let g : n ≡ length (without_last c.pairs) = omega (arith, f) in
          ap (λ m. trim_from rules m (pop rules c)) g)

module _ {K V S H : Type 0} where
  frees_trans : (old mid new : State K V S H) → FreesGrowth old mid → FreesGrowth mid new → FreesGrowth old new
  frees_trans old mid new f g = record {
    table = g.table ∙ f.table;
    keeps = omega (arith, f.keeps, g.keeps);
    at_most = omega (arith, f.at_most, g.at_most);
    exact = λ small. omega (arith, f.exact small, g.exact (omega (arith, f.table, small)));
    untouched = λ same. g.untouched (omega (arith, same, f.keeps, g.keeps, f.at_most, g.at_most))
        ∙ f.untouched (omega (arith, same, f.keeps, g.keeps, f.at_most, g.at_most));
  }

  pub leaves_self : (st : State K V S H) → Leaves st (contents st) st
  leaves_self st = record {
    is = refl;
    growth_left = record {
      table = refl;
      keeps = omega arith;
      at_most = omega arith;
      exact = λ _. refl;
      untouched = λ _. refl;
    };
  }

  pub leaves_trans : (old mid new : State K V S H) (some all : Contents K V S) → Leaves old some mid
      → Leaves mid all new → Leaves old all new
  leaves_trans old mid new some all l m = record {
    is = m.is ∙ ap {A = State K V S H} {B = State K V S H}
        (λ st. record st { pairs = all.pairs; limiter = all.limiter; table = new.table }) l.is;
    growth_left = frees_trans old mid new l.growth_left m.growth_left;
  }

module _ {K V S H : Type 0} (rules : Rules K V S) where
  pub leaves_more : (n : ℕ) (old before new : State K V S H) → Leaves old (pops rules n (contents old)) before
      → Leaves before (pop rules (contents before)) new → Leaves old (pops rules (suc n) (contents old)) new
  leaves_more n old before new first last =
      subst (λ l. Leaves old l new) (ap (λ st. pop rules (contents st)) first.is
      ∙ sym (pops-more rules n (contents old)))
      (leaves_trans old before new (pops rules n (contents old)) (pop rules (contents before)) first last)

  pub oldest_leaves : (hash n : ℕ) (old new : State K V S H) → OldestEvicted rules hash n old new
      → Leaves old (pops rules n (contents old)) new
  oldest_leaves hash zero old new h = rw h (leaves_self old)
  oldest_leaves hash (suc n) old new (before, first, no_bucket, last) = leaves_more n old before new
      (oldest_leaves hash n old before first) last

pub leaves_trimmed : {K V S H : Type 0} (rules : Rules K V S) (old mid new : State K V S H) (left : Contents K V S)
    → Leaves old left mid →
    Leaves mid (trim rules (contents mid)) new → Leaves old (trim rules left) new
leaves_trimmed rules old mid new left some rest = leaves_trans old mid new left (trim rules left) some
    (subst (λ c. Leaves mid (trim rules c) new) (ap contents some.is) rest)

pub room_after : {K V S H : Type 0} (rules : Rules K V S) (n : ℕ) (mid left : State K V S H)
    → Leaves mid (pops rules n (contents mid)) left
    → buckets mid ≤ 16 → n ≤ length mid.pairs → growth_left mid ≡ 0 → growth_left left ≡ 0 → n ≡ 0
room_after rules n mid left step small enough none still =
    omega (
      arith,
      step.growth_left.exact small,
      none,
      still,
      ap (λ st. length st.pairs) step.is,
      length-pops rules n
          (contents mid),
      enough,
    )
