-- Laws of a limiter that limits the length of a map, or the bytes of its table. The limiter may do other things, too.
--     `IsFixed rules offers number`: no callback changes what the function `number` returns for the limiter.
--     `LimitsLength rules offers most`: a map that is not over the limit has at most `most` entries.
--     `LimitsMemory rules offers most`: a table that the limiter permits has at most `most` bytes.
--     `length-limits`: `ByLength` satisfies `LimitsLength`. `memory-limits`: `ByMemoryUsage` satisfies `LimitsMemory`.
--     `storing-length`, `storing-memory`: if a limiter satisfies the law, `Storing` of this limiter satisfies the law,
--         too.
--     `both-first_length`, ..: if the first (or the second) limiter satisfies the law, `Both` satisfies the law, too.
use Rattle.std.specs.Prelude.{◌≡◌, ◌≤◌, ◌&&◌, ◌||◌, ℕ, Bool, true, false, Option, Some, None, if◌then◌else◌, refl}
use Rattle.std.proofs.Common.{ap, ◌∙◌, arith}
use Rattle.std.proofs.lemmas.Bool.{true≢false}
use Rattle.std.proofs.lemmas.Bool.Decides.{nat_tests}
use Rattle.lru_limits.specs.declared.limiters.both.Both.{Both}
use Rattle.lru_limits.specs.declared.limiters.storing.Storing.{Storing}
use Rattle.lru_limits.specs.Rules.{Rules, Offers}
use Rattle.lru_limits.specs.Admissions.{Terms, offers_of, never_changes}
use Rattle.lru_limits.specs.Stores.{plain, rules_at}
use Rattle.lru_limits.specs.Keys.{both_true}
use Rattle.lru_limits.specs.Limiters.{length_rules, length_offers, memory_rules, all_offers}
use Rattle.lru_limits.specs.Both.{both_rules, both_terms}

module _ {K V S I : Type 0} (rules : Rules K V S) (offers : Offers K V S I) where
  pub record IsFixed (number : S → ℕ) : Type 0 where
    pub offered : (s : S) (n : ℕ) (i : I) (v : V) (t : S) (given : Option (K × V)) → offers.on_insert s n i v t given
        → number t ≡ number s
    pub replaced : (s : S) (n : ℕ) (k : K) (i : I) (v w : V)
        → number (offers.on_replace s n k i v w).limiter ≡ number s
    pub removed : (s : S) (k : K) (v : V) → number (rules.on_removed s k v).limiter ≡ number s
    pub cleared : (s : S) → number (rules.on_cleared s) ≡ number s
    pub grown : (s : S) (n : ℕ) → number (rules.on_grow s n).limiter ≡ number s

  pub record LimitsLength (most : S → ℕ) : Type 0 where
    pub fixed : IsFixed most
    pub within : (s : S) (n : ℕ) → rules.is_over_the_limit s n ≡ false → n ≤ most s

  pub record LimitsMemory (most : S → ℕ) : Type 0 where
    pub fixed : IsFixed most
    pub within : (s : S) (bytes : ℕ) → (rules.on_grow s bytes).allowed ≡ true → bytes ≤ most s

module _ {K V : Type 0} where
  -- if a limiter never changes, no callback changes its `number`
  pub plain-fixed : {S : Type 0} {over grants : S → ℕ → Bool} {admits : S → K → V → Bool} (number : S → ℕ)
      → IsFixed (plain over grants) (offers_of (never_changes admits)) number
  plain-fixed number = record {
    offered = λ s n i v t given offer. ap number offer.limiter;
    replaced = λ s n k i v w. refl;
    removed = λ s k v. refl;
    cleared = λ s. refl;
    grown = λ s n. refl;
  }

  pub length-limits : LimitsLength {K = K} {V = V} length_rules length_offers (λ s. s)
  length-limits = record { fixed = plain-fixed (λ s. s); within = λ s n e. grind (arith, nat_tests) }

  pub memory-limits : LimitsMemory {K = K} {V = V} memory_rules all_offers (λ s. s)
  memory-limits = record { fixed = plain-fixed (λ s. s); within = λ s bytes e. grind (arith, nat_tests) }

abbrev stored : {K V S : Type 0} → Rules K V S → Rules K V (Storing S)
stored = rules_at (λ s. s.0) (λ limiter. record { 0 = limiter })

module _ {K V S I : Type 0} {rules : Rules K V S} {offers : Offers K V S I} {most : S → ℕ} where
  storing-fixed : IsFixed rules offers most → IsFixed (stored rules) all_offers (λ s. most s.0)
  storing-fixed fixed = record {
    offered = λ s n i v t given offer. ap (λ l. most l.0) offer.limiter;
    replaced = λ s n k i v w. refl;
    removed = λ s k v. fixed.removed s.0 k v;
    cleared = λ s. fixed.cleared s.0;
    grown = λ s n. fixed.grown s.0 n;
  }

  pub storing-length : LimitsLength rules offers most → LimitsLength (stored rules) all_offers (λ s. most s.0)
  storing-length limits = record { fixed = storing-fixed limits.fixed; within = λ s n. limits.within s.0 n }

  pub storing-memory : LimitsMemory rules offers most → LimitsMemory (stored rules) all_offers (λ s. most s.0)
  storing-memory limits = record { fixed = storing-fixed limits.fixed; within = λ s bytes. limits.within s.0 bytes }

module _ {K V S : Type 0} {rules : Rules K V S} {terms : Terms K V S} {number : S → ℕ}
    (fixed : IsFixed rules (offers_of terms) number) where
  admit : (s : S) (n : ℕ) (k : K) (v : V) → number (terms.admit s n k v) ≡ number s
  admit s n k v = fixed.offered s n k v (terms.admit s n k v) (if terms.accepts s n k v then Some (k, v) else None)
      (record { limiter = refl; pair = refl })

  admit_in_place : (s : S) (n : ℕ) (k : K) (v w : V) → number (terms.admit_in_place s n k v w) ≡ number s
  admit_in_place s n k v w = fixed.replaced s n k k v w

neither : (a b : Bool) → (a || b) ≡ false → (a ≡ false) × (b ≡ false)
neither false b e = (refl, e)
neither true b e = absurd (true≢false e)

either : {S : Type 0} (number : S → ℕ) (accepts : Bool) (s t : S) → number t ≡ number s
    → number (if accepts then t else s) ≡ number s
either number true s t same = same
either number false s t same = refl

module _ {K V A B : Type 0} (a : Rules K V A) (b : Rules K V B) (terms : Terms K V A) (terms' : Terms K V B) where
  both-fixed : (number : Both A B → ℕ)
      → ((s : Both A B) (n : ℕ) (k : K) (v : V)
      → number (record { 0 = terms.admit s.0 n k v; 1 = terms'.admit s.1 n k v }) ≡ number s)
      → ((s : Both A B) (n : ℕ) (k : K) (v w : V)
      → number (record { 0 = terms.admit_in_place s.0 n k v w; 1 = terms'.admit_in_place s.1 n k v w }) ≡ number s)
      → ((s : Both A B) (k : K) (v : V) → number ((both_rules a b).on_removed s k v).limiter ≡ number s)
      → ((s : Both A B) → number ((both_rules a b).on_cleared s) ≡ number s)
      → ((s : Both A B) (n : ℕ) → number ((both_rules a b).on_grow s n).limiter ≡ number s) → IsFixed (both_rules a b) (offers_of (both_terms terms terms')) number
  both-fixed number stores replaces removed cleared grown = record {
    offered = λ s n i v t given offer. ap number offer.limiter
        ∙ either number (terms.accepts s.0 n i v && terms'.accepts s.1 n i v) s _ (stores s n i v);
    replaced = λ s n k i v w.
        either number (terms.accepts_in_place s.0 n k v w && terms'.accepts_in_place s.1 n k v w) s _
        (replaces s n k v w);
    removed = removed;
    cleared = cleared;
    grown = grown;
  }

  module _ {most : A → ℕ} where
    first : IsFixed a (offers_of terms) most → IsFixed (both_rules a b) (offers_of (both_terms terms terms')) (λ s. most s.0)
    first fixed = both-fixed (λ s. most s.0) (λ s n k v. admit fixed s.0 n k v)
        (λ s n k v w. admit_in_place fixed s.0 n k v w) (λ s k v. fixed.removed s.0 k v) (λ s. fixed.cleared s.0)
        (λ s n. fixed.grown s.0 n)

    pub both-first_length : LimitsLength a (offers_of terms) most → LimitsLength (both_rules a b) (offers_of (both_terms terms terms')) (λ s. most s.0)
    both-first_length limits = record {
      fixed = first limits.fixed;
      within = λ s n e. limits.within s.0 n (neither (a.is_over_the_limit s.0 n) (b.is_over_the_limit s.1 n) e).0;
    }

    pub both-first_memory : LimitsMemory a (offers_of terms) most → LimitsMemory (both_rules a b) (offers_of (both_terms terms terms')) (λ s. most s.0)
    both-first_memory limits = record {
      fixed = first limits.fixed;
      within = λ s n e. limits.within s.0 n (both_true (a.on_grow s.0 n).allowed (b.on_grow s.1 n).allowed e).0;
    }

  module _ {most : B → ℕ} where
    second : IsFixed b (offers_of terms') most → IsFixed (both_rules a b) (offers_of (both_terms terms terms')) (λ s. most s.1)
    second fixed = both-fixed (λ s. most s.1) (λ s n k v. admit fixed s.1 n k v)
        (λ s n k v w. admit_in_place fixed s.1 n k v w)
        (λ s k v. fixed.removed s.1 (a.on_removed s.0 k v).key (a.on_removed s.0 k v).value)
        (λ s. fixed.cleared s.1) (λ s n. fixed.grown s.1 n)

    pub both-second_length : LimitsLength b (offers_of terms') most → LimitsLength (both_rules a b) (offers_of (both_terms terms terms')) (λ s. most s.1)
    both-second_length limits = record {
      fixed = second limits.fixed;
      within = λ s n e. limits.within s.1 n (neither (a.is_over_the_limit s.0 n) (b.is_over_the_limit s.1 n) e).1;
    }

    pub both-second_memory : LimitsMemory b (offers_of terms') most → LimitsMemory (both_rules a b) (offers_of (both_terms terms terms')) (λ s. most s.1)
    both-second_memory limits = record {
      fixed = second limits.fixed;
      within = λ s n e. limits.within s.1 n (both_true (a.on_grow s.0 n).allowed (b.on_grow s.1 n).allowed e).1;
    }
