use Rattle.std.proofs.Common.{◌≡◌, ◌≤◌, ◌+◌, ℕ, Bool, Option, List, [], ◌∷◌, length, Ok, inl}
use Rattle.std.proofs.Common.{inr, refl, sym, ap, ◌∙◌, subst, arith}
use Rattle.std.specs.Prelude.{vec_len}
use Rattle.lru_limits.specs.Budget.{weighs-sums, weighs-budgeted}
use Rattle.lru_model.specs.Calls.{Remove, promoted, cleared}
use Rattle.lru_model.specs.Runs.{Step}
use Rattle.lru_model.specs.Runs.Step.{inserts, gets, removes, pops_oldest, clears, reserves, trims}
use Rattle.lru_model.specs.State.{contents, IsWithin, Trims}
use Rattle.lru_model.proofs.Theorems.BudgetLimits.{not_over, step_keeps_total}
use Rattle.lru_model.proofs.Theorems.Runs.{step_summed}
use Rattle.lru_model.proofs.Theorems.Sums.{total, total-is}
use Rattle.lru_c.specs.Bytes.{Bytes, BytesMap, IsWithinBudget, bytes_rules, bytes_offers, same_bytes, hash_of_bytes}
use Rattle.lru_c.specs.Bytes.{names_bytes, weight, total_weight, texts, Puts, IsReady, Pops, Copies}
use Rattle.lru_c.specs.Bytes.Puts.{too_long, too_heavy, no_memory, inserted}
use Rattle.lru_c.specs.Bytes.Pops.{none, too_long as does_not_fit, removed}
use Rattle.lru_c.specs.Bytes.IsReady.{enough, reserved}

abbrev pub weighs : Bytes → Bytes → ℕ
weighs k v = weight (vec_len k) (vec_len v)

pub stays_in_budget : {old new : BytesMap} → Step bytes_rules bytes_offers same_bytes hash_of_bytes old new
    → IsWithinBudget old → IsWithinBudget new
stays_in_budget {old} {new} step (sum, within) = (
  step_summed (weighs-sums weighs) old new step sum,
  step_keeps_total (weighs-budgeted weighs) (weighs-sums weighs) same_bytes hash_of_bytes old new step sum within,
)

pub got_in_budget : (named : Bytes → Bool) (old new : BytesMap) → new ≡ promoted named old → IsWithinBudget old
    → IsWithinBudget new
got_in_budget named old new step = stays_in_budget {old = old} (gets named step)

pub removed_in_budget : (named : Bytes → Bool) (value : Option Bytes) (old new : BytesMap)
    → Remove bytes_rules named old value new → IsWithinBudget old → IsWithinBudget new
removed_in_budget named value old new step = stays_in_budget (removes named value step)

pub cleared_in_budget : (old new : BytesMap) → new ≡ cleared bytes_rules old → IsWithinBudget old
    → IsWithinBudget new
cleared_in_budget old new step = stays_in_budget {old = old} (clears step)

ready_in_budget : {key : List ℕ} {old ready : BytesMap} → IsReady key old ready → IsWithinBudget old
    → IsWithinBudget ready
ready_in_budget (enough finds same) within = subst IsWithinBudget (sym same) within
ready_in_budget (reserved absent step) within = stays_in_budget (reserves 1 (Ok tt) step) within

pub put_in_budget : {key value : List ℕ} {old new : BytesMap} {code : ℕ} → Puts key value old code new
    → IsWithinBudget old → IsWithinBudget new
put_in_budget (too_long long code same) within = subst IsWithinBudget (sym same) within
put_in_budget {key} (too_heavy heavy code gone step) within =
    stays_in_budget (removes (names_bytes key) gone step) within
put_in_budget (no_memory light code same) within = subst IsWithinBudget (sym same) within
put_in_budget (inserted light ready is_ready k v is_key is_value kept code step) within =
    stays_in_budget (inserts k v (Ok kept) step) (ready_in_budget is_ready within)

pub pop_in_budget : {old new : BytesMap} {answer : _} {key key_left value value_left : List ℕ}
    → Pops old answer key key_left value value_left new → IsWithinBudget old → IsWithinBudget new
pop_in_budget (none is answer key value same) within = subst IsWithinBudget (sym same) within
pop_in_budget (does_not_fit pair is fits answer key value same) within = subst IsWithinBudget (sym same) within
pop_in_budget (removed pair is fits answer key value step) within =
    stays_in_budget (pops_oldest _ step) within

pub trimmed_in_budget : (budget : ℕ) (old new : BytesMap)
    → Trims bytes_rules (record old { limiter = record old.limiter { limit = budget } }) new
    → IsWithin bytes_rules (contents new) → IsWithinBudget old → IsWithinBudget new
trimmed_in_budget budget old new step ends (sum, within) =
    let rebudgeted : BytesMap = record old { limiter = record old.limiter { limit = budget } } in
    let trimmed : Step bytes_rules bytes_offers same_bytes hash_of_bytes rebudgeted new = trims step in
    let now = step_summed (weighs-sums weighs) rebudgeted new trimmed sum in (
      now,
      elim ends [
        | inl empty ↦ omega (arith, now, ap total_weight empty)
        | inr below ↦ not_over (weighs-budgeted weighs) new.limiter (length new.pairs) below
      ],
    )

abbrev text_weight : List ℕ × List ℕ → ℕ
text_weight text = weight (length text.0) (length text.1)

of_texts : (pairs : List (Bytes × Bytes)) → total (λ pair. weighs pair.0 pair.1) pairs ≡ total text_weight (texts pairs)
of_texts [] = refl
of_texts (pair ∷ pairs) = λ i. weight (pair.0.ok.0 i) (pair.1.ok.0 i) + of_texts pairs i

same_weight : (old copy : List (Bytes × Bytes)) → texts copy ≡ texts old → total_weight copy ≡ total_weight old
same_weight old copy same = omega (
  arith,
  total-is (λ pair. weighs pair.0 pair.1) copy,
  total-is (λ pair. weighs pair.0 pair.1) old,
  of_texts copy,
  of_texts old,
  ap (total text_weight) same,
)

pub copy_in_budget : (old copy : BytesMap) → Copies old copy → IsWithinBudget old → IsWithinBudget copy
copy_in_budget old copy copies (sum, within) =
    let limiter = ap (λ (map : BytesMap). map.limiter) copies.rest in (
      ap (λ b. b.cost) limiter ∙ sum ∙ sym (same_weight old.pairs copy.pairs copies.entries),
      subst (λ b. b.cost ≤ b.limit) (sym limiter) within,
    )
