use Rattle.std.proofs.Common.{◌≡◌, ◌*◌, ◌^◌, ℕ, Bool, List, map, drop, refl, ap, sym, ◌∙◌}
use Rattle.std.specs.Prelude.{is_some, false, max}
use Rattle.lru_trace.specs.Curves.{IsCurveOf, measure_in}
use Rattle.lru_trace.specs.References.{bits_of, wants_best, measure_of}
use Rattle.lru_trace.specs.Rows.{expected_of, row_of, needed, powers, axis_in, powers_in, points}
use Rattle.lru_trace.specs.Svg.{svg_text}
use Rattle.lru_trace.specs.Report.{counts_of, csv_of, text_of, rows, point_rows, written_as}
use Rattle.lru_trace.proofs.report.report_of.Goals.{In_ok-best}
use Rattle.lru_trace.proofs.report.report_of.Goals as goal

module _ (c : In_ok-best) where
  same : measure_in c.args.curve.now ≡ measure_of c.args.options.policies
  same = c.requires.measure

  few : c.bits-bits.result ≡ bits_of c.args.options
  few = c.bits-bits.ensures.value

  asked : is_some c.in_ok-best.best ≡ wants_best c.args.options.policies
  asked = c.in_ok-best.ensures.some ∙ c.requires.keeps

  module _ (warm trace : List (List ℕ × ℕ)) (of : IsCurveOf warm trace c.args.curve.now) where
    counts : c.counts_of-counts.result
        ≡ counts_of (measure_of c.args.options.policies) (bits_of c.args.options) warm trace c.args.others
    counts = c.counts_of-counts.ensures warm trace of ∙ (λ i. counts_of (same i) (few i) warm trace c.args.others)

    axis : c.in_ok-axis.axis.items ≡ axis_in (measure_of c.args.options.policies) warm trace (bits_of c.args.options)
    axis = c.in_ok-axis.ensures.all ∙ ap (λ end. powers end 64 0) (c.end_of.ensures
        ∙ (λ i. max ((c.needed.ensures warm trace of ∙ ap (λ m. needed m warm trace) same) i) 1 * 2 ^ few i))

    are : c.powers_in-powers.result.now ≡ powers_in (measure_of c.args.options.policies) warm trace
        (bits_of c.args.options)
    are = c.powers_in-powers.ensures ∙ (λ i. drop (few i) ((c.deref.ensures.value ∙ axis) i))

    rows_are : {best wanted : Bool} {mine theirs : List ℕ} → best ≡ wanted → mine ≡ theirs
        → map (row_of (measure_in c.args.curve.now) warm trace c.bits-bits.result
        (expected_of c.bits-bits.result c.counts_of-counts.result) best) mine
        ≡ rows c.args.options warm trace c.args.sizes.now c.args.others wanted theirs
    rows_are asked sizes =
        λ i. map (row_of (same i) warm trace (few i) (expected_of (few i) (counts i)) (asked i)) (sizes i)

    points_are : map (row_of (measure_in c.args.curve.now) warm trace c.bits-bits.result
        (expected_of c.bits-bits.result c.counts_of-counts.result) (is_some c.in_ok-best.best))
        (points c.args.sizes.now c.powers_in-powers.result.now)
        ≡ point_rows c.args.options warm trace c.args.sizes.now c.args.others
    points_are = rows_are asked (ap (points c.args.sizes.now) are)

pub returns-in-Text : goal.returns-in-Text
returns-in-Text c = λ warm trace of.
    let at = (goal.at.returns-in-Text c).In_ok-best in
    c.in_ok-text-in-Text.ensures warm trace of (c.in_ok-best.ensures.all warm trace of)
    ∙ (λ i. text_of (counts at warm trace of i)
    (rows_are at warm trace of {mine = c.args.sizes.now} (asked at) refl i)
    (rows_are at warm trace of {best = false} refl (are at warm trace of) i))
    ∙ ap (written_as c.args.options warm trace c.args.sizes.now c.args.others) (sym c.in-Text.is)

pub returns-in-Csv : goal.returns-in-Csv
returns-in-Csv c = λ warm trace of.
    let rows = c.deref-in-Csv.ensures.value ∙ c.in_ok-rows-in-Csv.ensures warm trace of
    (c.in_ok-best.ensures.all warm trace of)
    ∙ points_are (goal.at.returns-in-Csv c).In_ok-best warm trace of in
    c.in_ok-csv-in-Csv.ensures ∙ (λ i. csv_of (c.best-in-Csv.ensures i) (rows i))
    ∙ ap (written_as c.args.options warm trace c.args.sizes.now c.args.others) (sym c.in-Csv.is)

pub returns : goal.returns
returns c = λ warm trace of.
    let at = (goal.at.returns c).In_ok-best in
    let rows = c.deref-in-Svg-2.ensures.value ∙ c.in_ok-rows-in-Svg.ensures warm trace of
    (c.in_ok-best.ensures.all warm trace of)
    ∙ points_are at warm trace of in
    c.in_ok-svg-in-Svg.ensures
    ∙ (λ i. svg_text (counts at warm trace of i) (c.best-in-Svg.ensures i)
    ((c.deref-in-Svg.ensures.value ∙ axis at warm trace of) i) (rows i))
    ∙ ap (written_as c.args.options warm trace c.args.sizes.now c.args.others) (sym c.in-Svg.is)
