-- The rules and offers of `ByCost` for values that are numbers, and the running total that a replay reports.
use Rattle.std.specs.Prelude.{ℕ, Option, Some, None}
use Rattle.lru_limits.specs.Rules.{Rules, Offers}
use Rattle.lru_limits.specs.Budget.{Budget, by_cost, charges}

-- A map is over the limit if the running total is above the limit. Any growth is permitted. The cost of a value is the
-- value.
abbrev pub cost_rules : Rules ℕ ℕ Budget
cost_rules = by_cost (λ value. value)

-- A pair is stored unchanged if its cost alone is at most the limit, and the new total has at most 64 bits.
abbrev pub cost_offers : Offers ℕ ℕ Budget ℕ
cost_offers = charges (λ value. value)

abbrev pub cost_reported : Budget → Option ℕ
cost_reported b = Some b.cost

abbrev pub no_cost : {S : Type 0} → S → Option ℕ
no_cost s = None
