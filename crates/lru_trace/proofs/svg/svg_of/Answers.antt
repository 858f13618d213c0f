use Rattle.std.proofs.Common.{◌≡◌, ◌++◌, List, ℕ, flat_map, codes, ap, ◌∙◌, append_assoc}
use Rattle.std.specs.Prelude.{max}
use Rattle.lru_trace.specs.declared.svg.TheConstants.{START}
use Rattle.lru_trace.specs.Svg.{label, title_text, tick_text, curves_text, octaves_of}
use Rattle.lru_trace.proofs.svg.svg_of.Goals as goal

in_a_row : (a b c d e f : List ℕ) → ((((a ++ b) ++ c) ++ d) ++ e) ++ f ≡ a ++ (b ++ (c ++ (d ++ (e ++ f))))
in_a_row a b c d e f = append_assoc (((a ++ b) ++ c) ++ d) e f ∙ append_assoc ((a ++ b) ++ c) d (e ++ f)
    ∙ append_assoc (a ++ b) c (d ++ (e ++ f)) ∙ append_assoc a b (c ++ (d ++ (e ++ f)))

pub returns : goal.returns
returns c =
    let axis = c.args.axis.now in
    let octaves = c.max-octaves.result in
    let is : octaves ≡ octaves_of axis = c.max-octaves.ensures ∙ ap (λ n. max n 1) c.saturating_sub.ensures in
    let title = title_text c.args.counts in
    let axis_label = label c.args.counts.measure in
    let ticks : ℕ → List ℕ = λ octaves. flat_map (tick_text octaves) axis in
    let curves : ℕ → List ℕ = λ octaves. curves_text c.args.best octaves c.args.rows.now in
    c.in_ok-extend_from_slice-3.ensures.items ∙ ap (λ l. l ++ codes "</svg>\n") (c.in_ok-add_curves.ensures
    ∙ ap (λ l. l ++ curves octaves) (c.in_ok-add_ticks.ensures ∙ ap (λ l. l ++ ticks octaves)
    (c.in_ok-extend_from_slice-2.ensures.items ∙ (λ i. (c.in_ok-extend_from_slice.ensures.items
    ∙ (λ i. (c.in_ok-svg.ensures.items ∙ c.as_bytes.ensures.value) i ++ (c.as_bytes-2.ensures.value ∙ c.label.ensures) i)) i
    ++ (c.as_bytes-3.ensures.value ∙ c.in_ok-title.ensures) i))))
    ∙ in_a_row START.now axis_label title (ticks octaves) (curves octaves) (codes "</svg>\n")
    ∙ ap (λ o. START.now ++ (axis_label ++ (title ++ (ticks o ++ (curves o ++ codes "</svg>\n"))))) is
