use Rattle.std.proofs.Common.{◌≡◌, ◌+◌, ◌/◌, ◌%◌, ◌++◌, [], true, ap, sym, ◌∙◌}
use Rattle.std.specs.Prelude.{◌==◌, if◌then◌else◌}
use Rattle.std.proofs.lemmas.Bool.{eq-eqb}
use Rattle.lru_trace.specs.Svg.{level_of, x_of, grid_text}
use Rattle.lru_trace.proofs.svg.add_tick.Goals as goal

pub returns : goal.returns
returns c =
    let svg = c.args.svg.now.items in
    let power = c.args.power in
    let many = 1 + c.args.octaves / 9 in
    let whole : (level_of 63 power % many == 0) ≡ true = eq-eqb (level_of 63 power % many) 0
    (ap (λ level. level % many) (sym (c.from.ensures ∙ c.level_of.ensures.value)) ∙ c.if-from-octaves-ne0.false) in
    let text = grid_text (x_of c.args.octaves power) power in
    c.in_ok-extend_from_slice.ensures.items ∙ ap (λ l. svg ++ l) (c.as_bytes.ensures.value ∙ c.in_ok-text.ensures.ok
    ∙ ap (λ x. grid_text x power) c.x_of-x.ensures ∙ sym (ap (λ t. if t then text else []) whole))
