use Rattle.std.proofs.Common.{◌≡◌, ◌++◌, [], true, ap, sym, ◌∙◌, append_assoc}
use Rattle.std.specs.Prelude.{if◌then◌else◌}
use Rattle.lru_trace.specs.Svg.{curve_text}
use Rattle.lru_trace.specs.declared.svg.Policy.TheVariants as policies
use Rattle.lru_trace.proofs.svg.add_curves.Goals as goal

pub returns : goal.returns
returns c =
    let svg = c.args.svg.now.items in
    let lru = curve_text c.args.octaves c.args.rows.now policies.Lru in
    let min = curve_text c.args.octaves c.args.rows.now policies.Min in
    let bypass = curve_text c.args.octaves c.args.rows.now policies.Bypass in
    let asked : c.args.best ≡ true = c.if-not-best.false in
    c.in_ok-add_curve-3.ensures
    ∙ ap (λ l. l ++ bypass) (c.in_ok-add_curve-2.ensures ∙ ap (λ l. l ++ min) c.in_ok-add_curve.ensures)
    ∙ append_assoc (svg ++ lru) min bypass ∙ append_assoc svg lru (min ++ bypass)
    ∙ ap (λ t. svg ++ (lru ++ (if t then min ++ bypass else []))) (sym asked)
