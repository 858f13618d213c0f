use Rattle.std.proofs.Common.{Some, sym, ap, ◌∙◌, subst}
use Rattle.lru_model.specs.Sizes.{IsGreatestUsage}
use Rattle.schnellru_tests.proofs.callers.usage_again.Goals as goal

pub returns : goal.returns
returns c =
    let map = c.args.map.now in
    let greatest = c.memory_usage_for_memory_budget.result in
    let is = c.usages_are_their_budgets.ensures map c.memory_usage-bytes.result greatest c.len-len.ensures.map.sized
    c.memory_usage-bytes.ensures
    (subst (λ bytes. IsGreatestUsage map.max bytes c.memory_usage-bytes.result greatest) (sym c.requires.entry)
    (subst (λ max. IsGreatestUsage max c.args.entry_bytes c.memory_usage-bytes.result greatest) (sym c.requires.links)
    c.memory_usage_for_memory_budget.ensures)) in
    c.memory_usage-bytes.ensures ∙ ap (λ bytes. Some bytes) (sym is)
