-- Two limiters that limit one map.
--     `both_rules a b`, `both_terms a b`: the rules and the terms of `Both`.
--     `both-sums`: the running total of the first limiter is also a running total of `Both`.
use Rattle.std.specs.Prelude.{◌≡◌, ◌≤◌, ◌+◌, ◌-◌, ◌&&◌, ◌||◌, ℕ, Bool, true, false, Some, None, IsTrue}
use Rattle.std.specs.Prelude.{if◌then◌else◌, refl}
use Rattle.std.proofs.Common.{ap, sym, ◌∙◌, arith}
use Rattle.lru_limits.specs.declared.limiters.both.Both.{Both}
use Rattle.lru_limits.specs.Rules.{Rules}
use Rattle.lru_limits.specs.Keys.{both_true}
use Rattle.lru_limits.specs.Laws.{IsAccount}
use Rattle.lru_limits.specs.Stores.{ReturnsPairIf, given-adds, refused-keeps}
use Rattle.lru_limits.specs.Admissions.{Terms, offers_of}

module _ {K V A B : Type 0} where
  -- the second `on_removed` gets the key and the value as the first `on_removed` left them
  abbrev pub both_rules : Rules K V A → Rules K V B → Rules K V (Both A B)
  both_rules a b = record {
    is_over_the_limit = λ s n. a.is_over_the_limit s.0 n || b.is_over_the_limit s.1 n;
    on_removed = λ s k v.
        let first = a.on_removed s.0 k v in
        let second = b.on_removed s.1 first.key first.value in
        record {
          limiter = record { 0 = first.limiter; 1 = second.limiter };
          key = second.key;
          value = second.value;
        };
    on_cleared = λ s. record { 0 = a.on_cleared s.0; 1 = b.on_cleared s.1 };
    on_grow = λ s bytes.
        let first = a.on_grow s.0 bytes in
        let second = b.on_grow s.1 bytes in
        record {
          limiter = record { 0 = first.limiter; 1 = second.limiter };
          allowed = first.allowed && second.allowed;
        };
  }

  -- if either limiter rejects an entry or a value, neither limiter changes
  abbrev pub both_terms : Terms K V A → Terms K V B → Terms K V (Both A B)
  both_terms a b = record {
    accepts = λ s n k v. a.accepts s.0 n k v && b.accepts s.1 n k v;
    admit = λ s n k v.
        if a.accepts s.0 n k v && b.accepts s.1 n k v
        then record { 0 = a.admit s.0 n k v; 1 = b.admit s.1 n k v } else s;
    accepts_in_place = λ s n k v w. a.accepts_in_place s.0 n k v w && b.accepts_in_place s.1 n k v w;
    admit_in_place = λ s n k v w.
        if a.accepts_in_place s.0 n k v w && b.accepts_in_place s.1 n k v w
        then record { 0 = a.admit_in_place s.0 n k v w; 1 = b.admit_in_place s.1 n k v w } else s;
  }

-- `adds_if` and `exchanges_if` are like `given-adds` and `replaced-exchanges` of `Stores`, but need the first premise
-- only if the limiter accepts the entry.
module _ {K V S : Type 0} (cost : K → V → ℕ) (account : S → ℕ) where
  adds_if : (accepts : Bool) (s s' : S) (i : K) (v : V) (t : S) (k : K) (w : V)
      → (IsTrue accepts → account s' ≡ account s + cost i v)
      → ReturnsPairIf accepts (if accepts then s' else s) i v t (Some (k, w)) → account t ≡ account s + cost k w
  adds_if true s s' i v t k w more h = given-adds cost account true s s' i v t k w (more refl) h
  adds_if false s s' i v t k w more h = let e = h.pair in cc

  exchanges_if : (accepts : Bool) (s s' : S) (k : K) (v w : V)
      → (IsTrue accepts → account s' ≡ account s - cost k v + cost k w) → cost k v ≤ account s
      → account (if accepts then s' else s) ≡ account s - cost k v + cost k (if accepts then w else v)
  exchanges_if true s s' k v w changed enough = changed refl
  exchanges_if false s s' k v w changed enough = omega (arith, enough)

module _ {K V A : Type 0} {rules : Rules K V A} {terms : Terms K V A} {cost : K → V → ℕ} {account : A → ℕ}
    (sums : IsAccount rules (offers_of terms) cost account) where
  stored : (s : A) (n : ℕ) (k : K) (v : V) → IsTrue (terms.accepts s n k v)
      → account (terms.admit s n k v) ≡ account s + cost k v
  stored s n k v accepted =
      let t = terms.admit s n k v in
      sums.adds s n k v t k v (record { limiter = refl; pair = ap (λ b. if b then Some (k, v) else None) (sym accepted) })

  exchanged : (s : A) (n : ℕ) (k : K) (v w : V) → cost k v ≤ account s → IsTrue (terms.accepts_in_place s n k v w)
      → account (terms.admit_in_place s n k v w) ≡ account s - cost k v + cost k w
  exchanged s n k v w enough accepted =
      sums.exchanges s n k k v w enough ∙ ap (λ b. account s - cost k v + cost k (if b then w else v)) accepted

  pub both-sums : {B : Type 0} (rules' : Rules K V B) (terms' : Terms K V B)
      → IsAccount (both_rules rules rules') (offers_of (both_terms terms terms')) cost (λ s. account s.0)
  both-sums rules' terms' = record {
    adds = λ s n i v t k w.
        let a = terms.accepts s.0 n i v in
        let b = terms'.accepts s.1 n i v in
        adds_if cost (λ s. account s.0) (a && b) s
        (record { 0 = terms.admit s.0 n i v; 1 = terms'.admit s.1 n i v }) i v t k w
        (λ both. stored s.0 n i v (both_true a b both).0);
    refuses = λ s n i v t. refused-keeps (λ s. account s.0) (terms.accepts s.0 n i v && terms'.accepts s.1 n i v) s
        (record { 0 = terms.admit s.0 n i v; 1 = terms'.admit s.1 n i v }) i v t;
    exchanges = λ s n k i v w enough.
        let a = terms.accepts_in_place s.0 n k v w in
        let b = terms'.accepts_in_place s.1 n k v w in
        exchanges_if cost (λ s. account s.0) (a && b) s
        (record { 0 = terms.admit_in_place s.0 n k v w; 1 = terms'.admit_in_place s.1 n k v w }) k v w
        (λ both. exchanged s.0 n k v w enough (both_true a b both).0) enough;
    takes_off = λ s k v. sums.takes_off s.0 k v;
    empties = λ s. sums.empties s.0;
    keeps = λ s n. sums.keeps s.0 n;
  }
