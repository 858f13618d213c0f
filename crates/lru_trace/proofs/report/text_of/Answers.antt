use Rattle.std.proofs.Common.{◌++◌, flat_map, ap, ◌∙◌, append_assoc}
use Rattle.lru_trace.specs.Report.{head_text, size_text, bar_text}
use Rattle.lru_trace.proofs.report.text_of.Goals as goal

pub returns : goal.returns
returns c =
    let sizes = flat_map (size_text c.args.counts.measure) c.args.named.now in
    let bars = flat_map bar_text c.args.bars.now in
    c.in_ok-add_bars.ensures ∙ ap (λ l. l ++ bars) (c.in_ok-add_sizes.ensures ∙ ap (λ l. l ++ sizes)
    (c.in_ok-report.ensures.items ∙ c.as_bytes.ensures.value ∙ c.in_ok-head.ensures))
    ∙ append_assoc (head_text c.args.counts) sizes bars
