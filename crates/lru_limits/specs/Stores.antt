-- Definitions for limiters that accept an entry unchanged.
--     `plain over grants`: the rules of a limiter that never changes.
--     `rules_at of to rules`: the rules of a wrapper; the function `of` unwraps the inner limiter, and `to` wraps the
--         inner limiter.
--     `ReturnsPairIf accepts s k v t given`: t equals s, and `given` is the entry (k, v), or `None` if `accepts` is
--         false.
--     `unmoved s k v`: `on_removed` changes neither the limiter s nor the entry.
--     `answers s b`: `on_grow` returns b, and the limiter is then s.
--     `replaces s k v w`: `on_replace` accepts the new value w, and the limiter is then s.
--     `given-is`: the returned entry is the offered entry. `given-names`: a reflexive test says that the offered key
--         equals the returned key.
--     `given-adds`, `refused-keeps`, `replaced-exchanges`: lemmas on the running total after an offer, for your own
--         impl of `Summing`.
use Rattle.std.specs.Prelude.{◌≡◌, ◌≤◌, ◌+◌, ◌-◌, ℕ, Bool, true, false, Option, Some, None, IsTrue, if◌then◌else◌}
use Rattle.std.specs.Prelude.{unwrap_or}
use Rattle.std.proofs.Common.{ap, sym, ◌∙◌, subst, arith}
use Rattle.lru_limits.specs.Rules.{Notified, Replaced, Allowed, Rules}

pub record ReturnsPairIf {S K V : Type 0} (accepts : Bool) (s : S) (k : K) (v : V) (t : S)
    (given : Option (K × V)) : Type 0 where
  pub limiter : t ≡ s
  pub pair : given ≡ (if accepts then Some (k, v) else None)

abbrev pub unmoved : {K V S : Type 0} → S → K → V → Notified K V S
unmoved s k v = record { limiter = s; key = k; value = v }

abbrev pub answers : {S : Type 0} → S → Bool → Allowed S
answers s b = record { limiter = s; allowed = b }

abbrev pub replaces : {K V S : Type 0} → S → K → V → V → Replaced K V S
replaces s k v w = record { limiter = s; taken = true; key = k; old_value = v; new_value = w }

abbrev pub plain : {K V S : Type 0} → (S → ℕ → Bool) → (S → ℕ → Bool) → Rules K V S
plain over grants = record {
  is_over_the_limit = over;
  on_removed = unmoved;
  on_cleared = λ s. s;
  on_grow = λ s bytes. answers s (grants s bytes);
}

abbrev pub rules_at : {K V S W : Type 0} → (W → S) → (S → W) → Rules K V S → Rules K V W
rules_at of to rules = record {
  is_over_the_limit = λ w length. rules.is_over_the_limit (of w) length;
  on_removed = λ w k v. let notified = rules.on_removed (of w) k v in
      record { limiter = to notified.limiter; key = notified.key; value = notified.value };
  on_cleared = λ w. to (rules.on_cleared (of w));
  on_grow = λ w bytes. let asked = rules.on_grow (of w) bytes in answers (to asked.limiter) asked.allowed;
}

pub given-is : {S K V : Type 0} (accepts : Bool) (s : S) (k : K) (v : V) (t : S) (p : K × V)
    → ReturnsPairIf accepts s k v t (Some p) → p ≡ (k, v)
given-is true s k v t p h = ap (λ o. unwrap_or o (k, v)) h.pair
given-is false s k v t p h = let e = h.pair in cc

pub given-names : {S K V : Type 0} {accepts : Bool} {s t : S} {i k : K} {v w : V} (E : K → K → Bool)
    → ((x : K) → IsTrue (E x x)) → ReturnsPairIf accepts s i v t (Some (k, w)) → IsTrue (E i k)
given-names {accepts} {s} {t} {i} {k} {v} {w} E reflexive h =
    subst (λ x. IsTrue (E i x)) (sym (ap (λ p. p.0) (given-is accepts s i v t (k, w) h))) (reflexive i)

-- In the lemmas below, the limiter s becomes s' if it accepts an entry, and stays s if it rejects the entry.

-- If the total of s' is the total of s plus the cost of the entry, an accepted entry raises the running total by its
-- cost.
pub given-adds : {K V S : Type 0} (cost : K → V → ℕ) (account : S → ℕ) (accepts : Bool) (s s' : S) (i : K) (v : V)
    (t : S) (k : K) (w : V) → account s' ≡ account s + cost i v
    → ReturnsPairIf accepts (if accepts then s' else s) i v t (Some (k, w)) → account t ≡ account s + cost k w
given-adds cost account true s s' i v t k w more h = ap account h.limiter ∙ more ∙ ap (λ p. account s + cost p.0 p.1)
    (sym (given-is true s' i v t (k, w) h))
given-adds cost account false s s' i v t k w more h = let e = h.pair in cc

pub refused-keeps : {K V S : Type 0} (account : S → ℕ) (accepts : Bool) (s s' : S) (i : K) (v : V) (t : S)
    → ReturnsPairIf accepts (if accepts then s' else s) i v t None → account t ≡ account s
refused-keeps account true s s' i v t h = let e = h.pair in cc
refused-keeps account false s s' i v t h = ap account h.limiter

-- Suppose that the total of s is at least the old cost, and that the total of s' is the total of s, minus the old cost,
-- plus the new cost. Then an accepted new value changes the running total in the same way, and a rejected new value
-- leaves it.
pub replaced-exchanges : {K V S : Type 0} (cost : K → V → ℕ) (account : S → ℕ) (accepts : Bool) (s s' : S) (k : K)
    (v w : V) → account s' ≡ account s - cost k v + cost k w
    → cost k v ≤ account s → account (if accepts then s' else s) ≡ account s - cost k v
    + cost k (if accepts then w else v)
replaced-exchanges cost account true s s' k v w changed enough = changed
replaced-exchanges cost account false s s' k v w changed enough = omega arith
