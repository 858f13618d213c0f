use Rattle.std.proofs.Common.{◌≡◌, ℕ, ◌<◌, ◌≤◌, Some, None, sym, ◌∙◌, arith}
use Rattle.std.proofs.lemmas.Bool.Decides.{nat_tests}
use Rattle.group_table.specs.Sizes.{below}
use Rattle.group_table.proofs.PowerLemmas.{buckets_large}
use Rattle.group_table.proofs.SizeLemmas.{full_capacity-small, takes_enough}
use Rattle.group_table.proofs.sizes.buckets_for_capacity.Goals as goal

below_some : (max p : ℕ) → p < max → below max p ≡ Some p
below_some max p h = grind (arith, nat_tests)

below_none : (max p : ℕ) → max ≤ p → below max p ≡ None
below_none max p h = grind (arith, nat_tests)

pub returns-then-buckets-max-clause-value : goal.returns-then-buckets-max-clause-value
returns-then-buckets-max-clause-value c = let eight = c.in_ok-checked_mul.ensures in let next =
    c.next_power_of_two-buckets.ensures in
    sym (buckets_large c.args.max c.args.capacity _ _ c.if-capacity-lt8.false eight.0 eight.1
    (next.power, next.lower_bound, next.upper_bound) ∙ below_some c.args.max _ c.if-buckets-max.true)

pub returns-else-buckets-max-clause-value : goal.returns-else-buckets-max-clause-value
returns-else-buckets-max-clause-value c = let eight = c.in_ok-checked_mul.ensures in let next =
    c.next_power_of_two-buckets.ensures in
    sym (buckets_large c.args.max c.args.capacity _ _ c.if-capacity-lt8.false eight.0 eight.1
    (next.power, next.lower_bound, next.upper_bound) ∙ below_none c.args.max _ c.if-buckets-max.false)

pub returns-then-max-gt4-clause-holds : goal.returns-then-max-gt4-clause-holds
returns-then-max-gt4-clause-holds c = omega (arith, full_capacity-small 4 (omega arith))

pub returns-then-max-gt8-clause-holds : goal.returns-then-max-gt8-clause-holds
returns-then-max-gt8-clause-holds c = omega (arith, full_capacity-small 8 (omega arith))

pub returns-then-buckets-max-clause-valid : goal.returns-then-buckets-max-clause-valid
returns-then-buckets-max-clause-valid c = let eight = c.in_ok-checked_mul.ensures in let next =
    c.next_power_of_two-buckets.ensures in
    (takes_enough c.args.capacity _ next.power c.if-capacity-lt8.false (rw eight.1 at next.lower_bound)).0

pub returns-then-buckets-max-clause-holds : goal.returns-then-buckets-max-clause-holds
returns-then-buckets-max-clause-holds c = let eight = c.in_ok-checked_mul.ensures in let next =
    c.next_power_of_two-buckets.ensures in
    (takes_enough c.args.capacity _ next.power c.if-capacity-lt8.false (rw eight.1 at next.lower_bound)).1
