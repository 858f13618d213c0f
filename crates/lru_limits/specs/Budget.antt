-- Limiters by cost.
--     `Budget`: the limit, and the sum of the costs of the entries.
--     `can_add limit sum c`: whether the cost c is at most the limit, and sum + c fits 64 bits.
--     `charged b c`: the budget b after the cost c was added to its sum, or b if `can_add` is false.
--     `refunded b c`: the budget b after its sum fell by the cost c, but not below 0.
--     `exchanged b c d`: the budget b after its sum fell by the cost c and rose by the cost d, or b if `can_add` is
--         false.
--     `by_weight`, `weighs`: the rules and the offers of a limiter. Their argument `weight` gives the cost of an entry.
--     `budget_terms`: the terms of the offers `weighs`.
--     `by_cost`, `charges`: the rules and the offers of a limiter. Their argument `cost` gives the cost of a value.
--     `pair_cost o k v`: k + v + o, but at most `u64::MAX`. This is the cost of an entry whose key costs k and whose
--         value costs v.
--     `weighs-sums`, `charges-sums`: the limiters `by_weight` and `by_cost` satisfy the laws of `Summing`.
--     `IsBudgeted`: the laws of a limiter with a running total and a budget.
--     `weighs-budgeted`: `ByWeight` and `ByCost` satisfy `IsBudgeted`.
use Rattle.std.specs.Prelude.{◌≡◌, ◌+◌, ◌-◌, ◌^◌, ◌&&◌, ℕ, min, Bool, true, false, nat_lt, nat_le}
use Rattle.std.specs.Prelude.{if◌then◌else◌, refl}
use Rattle.std.proofs.Common.{ap, ◌∙◌}
use Rattle.lru_limits.specs.Rules.{Rules, Offers}
use Rattle.lru_limits.specs.Laws.{IsAccount, ChangesNoPair}
use Rattle.lru_limits.specs.Limits.{IsFixed}
use Rattle.lru_limits.specs.Admissions.{Terms, offers_of}
use Rattle.lru_limits.specs.Stores.{answers, given-adds, refused-keeps, replaced-exchanges}

pub record Budget : Type 0 where
  pub limit : ℕ
  pub cost : ℕ

abbrev pub can_add : ℕ → ℕ → ℕ → Bool
can_add limit sum c = nat_le c limit && nat_lt (sum + c) (2 ^ 64)

abbrev pub charged : Budget → ℕ → Budget
charged b c = if can_add b.limit b.cost c then record b { cost = b.cost + c } else b

abbrev pub refunded : Budget → ℕ → Budget
refunded b c = record b { cost = b.cost - c }

abbrev pub exchanged : Budget → ℕ → ℕ → Budget
exchanged b c d = if can_add b.limit (b.cost - c) d then record b { cost = b.cost - c + d } else b

module _ {K V : Type 0} (weight : K → V → ℕ) where
  abbrev pub by_weight : Rules K V Budget
  by_weight = record {
    is_over_the_limit = λ b n. nat_lt b.limit b.cost;
    on_removed = λ b k v. record { limiter = refunded b (weight k v); key = k; value = v };
    on_cleared = λ b. record b { cost = 0 };
    on_grow = λ b bytes. answers b true;
  }

  abbrev pub budget_terms : Terms K V Budget
  budget_terms = record {
    accepts = λ b n k v. can_add b.limit b.cost (weight k v);
    admit = λ b n k v. charged b (weight k v);
    accepts_in_place = λ b n k v w. can_add b.limit (b.cost - weight k v) (weight k w);
    admit_in_place = λ b n k v w. exchanged b (weight k v) (weight k w);
  }

  abbrev pub weighs : Offers K V Budget K
  weighs = offers_of budget_terms

module _ {K V : Type 0} (cost : V → ℕ) where
  abbrev pub by_cost : Rules K V Budget
  by_cost = by_weight (λ k v. cost v)

  abbrev pub charges : Offers K V Budget K
  charges = weighs (λ k v. cost v)

abbrev pub pair_cost : ℕ → ℕ → ℕ → ℕ
pair_cost overhead k v = min (k + v + overhead) (2 ^ 64 - 1)

module _ {K V : Type 0} (weight : K → V → ℕ) where
  pub weighs-sums : IsAccount (by_weight weight) (weighs weight) weight (λ b. b.cost)
  weighs-sums = record {
    adds = λ b n i v t k w. given-adds weight (λ b. b.cost) (can_add b.limit b.cost (weight i v)) b
        (record b { cost = b.cost + weight i v }) i v t k w refl;
    refuses = λ b n i v t. refused-keeps (λ b. b.cost) (can_add b.limit b.cost (weight i v)) b
        (record b { cost = b.cost + weight i v }) i v t;
    exchanges = λ b n k i v w. replaced-exchanges weight (λ b. b.cost)
        (can_add b.limit (b.cost - weight k v) (weight k w)) b
        (record b { cost = b.cost - weight k v + weight k w }) k v w refl;
    takes_off = λ b k v enough. refl;
    empties = λ b. refl;
    keeps = λ b n. refl;
  }

pub charges-sums : {K V : Type 0} (cost : V → ℕ) → IsAccount (by_cost {K = K} cost) (charges cost) (λ k v. cost v)
    (λ b. b.cost)
charges-sums cost = weighs-sums (λ k v. cost v)

pub record IsBudgeted {K V S : Type 0} (rules : Rules K V S) (terms : Terms K V S) (account budget : S → ℕ)
    (made : ℕ → S) (rebudgeted : ℕ → S → S) : Type 0 where
  pub over : (s : S) (n : ℕ) → rules.is_over_the_limit s n ≡ nat_lt (budget s) (account s)
  pub fixed : IsFixed rules (offers_of terms) budget
  -- a rejected entry of a new key does not change the limiter
  pub refuses : (s : S) (n : ℕ) (k : K) (v : V) → terms.accepts s n k v ≡ false → terms.admit s n k v ≡ s
  pub leaves : ChangesNoPair rules
  pub made_budget : (b : ℕ) → budget (made b) ≡ b
  pub made_empty : (b : ℕ) → account (made b) ≡ 0
  pub set_budget : (b : ℕ) (s : S) → budget (rebudgeted b s) ≡ b
  pub set_keeps : (b : ℕ) (s : S) → account (rebudgeted b s) ≡ account s

either_limit : (b c : Budget) (accepts : Bool) → c.limit ≡ b.limit
    → (let d : Budget = if accepts then c else b in d).limit ≡ b.limit
either_limit b c true same = same
either_limit b c false same = refl

pub weighs-budgeted : {K V : Type 0} (weight : K → V → ℕ) → IsBudgeted (by_weight weight) (budget_terms weight)
    (λ b. b.cost) (λ b. b.limit) (λ limit. record { limit = limit; cost = 0 }) (λ limit b. record b { limit = limit })
weighs-budgeted weight = record {
  over = λ b n. refl;
  fixed = record {
    offered = λ b n k v t given offer. ap (λ c. c.limit) offer.limiter
        ∙ either_limit b (record b { cost = b.cost + weight k v }) (can_add b.limit b.cost (weight k v)) refl;
    replaced = λ b n k i v w. either_limit b (record b { cost = b.cost - weight k v + weight k w })
        (can_add b.limit (b.cost - weight k v) (weight k w)) refl;
    removed = λ b k v. refl;
    cleared = λ b. refl;
    grown = λ b n. refl;
  };
  refuses = λ b n k v refused. rw refused refl;
  leaves = record { key = λ b k v. refl; value = λ b k v. refl };
  made_budget = λ limit. refl;
  made_empty = λ limit. refl;
  set_budget = λ limit b. refl;
  set_keeps = λ limit b. refl;
}
