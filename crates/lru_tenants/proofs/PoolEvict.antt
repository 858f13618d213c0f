use Rattle.std.proofs.Common.{◌≡◌, ◌≤◌, ◌<◌, ◌+◌, ℕ, zero, suc, Bool, true, List, [], ◌∷◌, Some, length}
use Rattle.std.proofs.Common.{refl, sym, ap, ◌∙◌, arith, sum_by, nat_eq}
use Rattle.std.specs.Borrow.{Bor}
use Rattle.std.specs.Cmp.{IsEquivalence}
use Rattle.std.specs.Fn.{Mut}
use Rattle.std.specs.Prelude.{Contains}
use Rattle.std.specs.List.{All, IsDistinct}
use Rattle.std.specs.Map.{keys_of, lookup, set_value, values_of}
use Rattle.std.proofs.lemmas.Bool.{eqb-true}
use Rattle.std.proofs.lemmas.List.Elements.{All-nil, All-cons, All-weaker, Contains-append_right}
use Rattle.std.proofs.lemmas.Map.Entries.{sum_by-set_value}
use Rattle.std.proofs.lemmas.Map.Views.{All-values-set_value, lookup-from_Contains}
use Rattle.lru_limits.specs.Rules.{Rules}
use Rattle.lru_model.specs.ByHash.{GivesByHash}
use Rattle.lru_model.specs.Calls.{PopOldest}
use Rattle.lru_model.specs.State.{State}
use Rattle.lru_model.proofs.Theorems.KeySearches.{given-there}
use Rattle.lru_tenants.proofs.Changes.{found-all}
use Rattle.lru_tenants.proofs.Pools.{some-above}
use Rattle.lru_tenants.specs.Cache.{IsTenant}
use Rattle.lru_tenants.specs.Pool.{Part, cost, excess, total_cost, total_share, with_map, IsPart, Evicts}

-- a search by a hash finds the value of the key of the pair that it returns
pub given-found : {K V F : Type 0} {eq : K → K → Bool} {hash_of : K → ℕ} {all : List (K × V)} {hash : ℕ}
    {closure : Mut F (Bor K × (Bor V × Unit {0})) Bool} {f : F} → IsEquivalence eq → IsDistinct eq (keys_of all)
    → (pair : K × V) → GivesByHash eq hash_of all hash closure f pair → lookup (eq pair.0) all ≡ Some pair.1
given-found {all = all} laws distinct pair given =
    lookup-from_Contains laws pair.0 pair.1 all distinct (given-there pair given)

module _ {N K V L S : Type 0} (account : L → ℕ) (hash_of : N → ℕ) (all : List (N × Part K V L S)) where
  -- `rest` is left to search. The greatest excess so far is `most`, of a tenant whose name has the hash.
  pub record IsScan (rest : List (N × Part K V L S)) (most hash : ℕ) : Type 0 where
    pub among : (pair : N × Part K V L S) → Contains rest pair → Contains all pair
    pub bound : (n : ℕ) → most ≤ n → All (λ own. excess account own ≤ n) (values_of rest)
        → All (λ own. excess account own ≤ n) (values_of all)
    pub there : 0 < most → (pair : N × Part K V L S) × Contains all pair × (excess account pair.1 ≡ most)
        × (hash_of pair.0 ≡ hash)

  pub scan-begins : (hash : ℕ) → IsScan all 0 hash
  scan-begins hash = record {
    among = λ pair there. there;
    bound = λ n low rest. rest;
    there = λ above. absurd (omega (arith, above));
  }

  module _ (name : N) (own : Part K V L S) (rest : List (N × Part K V L S)) (most hash above : ℕ)
      (scan : IsScan ((name, own) ∷ rest) most hash) (is : above ≡ excess account own) where
    later : (pair : N × Part K V L S) → Contains rest pair → Contains all pair
    later pair there = scan.among pair (Contains-append_right ((name, own) ∷ []) rest pair there)

    pub scan-higher : most < above → (now : ℕ) → now ≡ hash_of name → IsScan rest above now
    scan-higher higher now hashed = record {
      among = later;
      bound = λ n low left. scan.bound n (omega (arith, low, higher))
          (All-cons (λ own. excess account own ≤ n) own (values_of rest) (omega (arith, low, is)) left);
      there = λ _. ((name, own), scan.among (name, own) (zero, omega arith, refl), sym is, sym hashed);
    }

    pub scan-lower : above ≤ most → IsScan rest most hash
    scan-lower lower = record {
      among = later;
      bound = λ n low left. scan.bound n low
          (All-cons (λ own. excess account own ≤ n) own (values_of rest) (omega (arith, low, lower, is)) left);
      there = scan.there;
    }

  pub scan-ends : (most hash : ℕ) → IsScan [] most hash → All (λ own. excess account own ≤ most) (values_of all)
  scan-ends most hash scan = scan.bound most (omega arith) (All-nil (λ own. excess account own ≤ most))

module _ {N K V L S : Type 0} (account : L → ℕ) (eq : N → N → Bool)
    (old : List (N × Part K V L S)) (most : ℕ) (far : All (λ own. excess account own ≤ most) (values_of old))
    (high : total_share old < total_cost account old) (pair : N × Part K V L S) (own : Part K V L S)
    (there : lookup (eq pair.0) old ≡ Some pair.1) (same : own ≡ pair.1)
    (passes : nat_eq (excess account pair.1) most ≡ true) where
  pub is-there : lookup (eq pair.0) old ≡ Some own
  is-there = there ∙ ap Some (sym same)

  is-far : excess account own ≡ most
  is-far = ap (excess account) same ∙ eqb-true (excess account pair.1) most passes

  pub is-above : own.0 < cost account own
  is-above = omega (arith, is-far, some-above account old most far high)

  module _ {rules : Rules K V L} (next : Part K V L S) (pops : (gone : K × V) × (left : State K V L S)
      × PopOldest rules own.1 (Some gone) left × (next ≡ with_map left own)) where
    pub evicted : Evicts rules account eq old (set_value (eq pair.0) old next)
    evicted = let (gone, left, popped, is) = pops in record {
      name = pair.0;
      own = own;
      there = is-there;
      above = is-above;
      furthest = All-weaker (λ other. excess account other ≤ most) (λ other. excess account other ≤ excess account own)
          (λ other low. omega (arith, low, is-far)) (values_of old) far;
      gone = gone;
      left = left;
      pops = popped;
      is = ap (set_value (eq pair.0) old) is;
    }

    pub evict-frees : (freed : ℕ) → cost account next + freed ≡ cost account own
        → total_cost account (set_value (eq pair.0) old next) + freed ≡ total_cost account old
    evict-frees freed less = omega (
      arith,
      less,
      sum_by-set_value (cost account) (eq pair.0) old own next is-there,
    )

    pub evict-fewer : length own.1.pairs ≡ suc (length next.1.pairs)
        → sum_by (λ own. length own.1.pairs) (values_of (set_value (eq pair.0) old next))
        < sum_by (λ own. length own.1.pairs) (values_of old)
    evict-fewer less = omega (
      arith,
      less,
      sum_by-set_value (λ own. length own.1.pairs) (eq pair.0) old own next is-there,
    )

    pub evict-shares : total_share (set_value (eq pair.0) old next) ≡ total_share old
    evict-shares = let (gone, left, popped, is) = pops in omega (
      arith,
      ap (λ p. p.0) is,
      sum_by-set_value (λ own. own.0) (eq pair.0) old own next is-there,
    )

    pub evict-each : {same_key : K → K → Bool} {costs : K → V → ℕ} {budget : L → ℕ}
        → IsTenant same_key costs account budget next.1 → budget next.1.limiter ≡ budget own.1.limiter → (limit : ℕ)
        → All (IsPart account same_key costs budget limit) (values_of old)
        → All (IsPart account same_key costs budget limit) (values_of (set_value (eq pair.0) old next))
    evict-each {same_key} {costs} {budget} is kept limit all =
        All-values-set_value (eq pair.0) (IsPart account same_key costs budget limit) old next all (record {
          tenant = is;
          limits = kept
              ∙ (found-all (IsPart account same_key costs budget limit) (eq pair.0) old own is-there all).limits;
        })
