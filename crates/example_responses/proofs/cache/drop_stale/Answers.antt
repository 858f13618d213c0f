use Rattle.std.proofs.Common.{Ok, refl, sym, ap, ◌∙◌}
use Rattle.std.specs.String.{string_eq_equiv}
use Rattle.lru_limits.specs.Texts.{names_text, names_text-lawful}
use Rattle.lru_tenants.proofs.Changes.{only-same}
use Rattle.example_responses.proofs.LookUps.{distinct-keys, fresh-stays, stale-dropped}
use Rattle.example_responses.proofs.cache.drop_stale.Goals as goal

pub returns-then-branch : goal.returns-then-branch
returns-then-branch c =
    let host = names_text c.args.host.now in
    fresh-stays (names_text c.args.path.now) c.args.now host c.args.entries.now
    (sym (c.in_ok-is_fresh.was ∙ ap Ok c.if-branch.true) ∙ c.is_fresh.ensures)
    (only-same ((names_text-lawful (λ bytes. bytes)).one c.args.host.now) c.args.entries.now.tenants)

pub returns : goal.returns
returns c =
    let host = names_text c.args.host.now in
    stale-dropped string_eq_equiv (names_text c.args.path.now)
    ((names_text-lawful (λ bytes. bytes)).one c.args.path.now) c.args.now _ host c.args.entries.now _
    (λ limiter k v. refl) _ (sym (c.in_ok-is_fresh.was ∙ ap Ok c.if-branch.false) ∙ c.is_fresh.ensures)
    (distinct-keys c.args.entries.now host c.len-len.ensures.tenants) c.in_ok-remove.ensures.removes
