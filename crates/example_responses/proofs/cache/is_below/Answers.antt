use Rattle.std.proofs.Common.{nat_eq, ap, ◌∙◌}
use Rattle.std.proofs.lemmas.Str.Pattern.{starts_text}
use Rattle.std.specs.List.{starts_with}
use Rattle.example_responses.proofs.cache.is_below.Goals as goal

pub returns : goal.returns
returns c = starts_text _ _ _ c.starts_with.ensures.cases
    ∙ ap (λ bytes. starts_with nat_eq bytes c.args.prefix.now) c.as_str.ensures.value
