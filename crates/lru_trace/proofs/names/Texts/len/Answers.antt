use Rattle.std.proofs.Common.{length, sym, ap, ◌∙◌}
use Rattle.lru_trace.proofs.NamesTexts.{texts-length}
use Rattle.lru_trace.proofs.names.Texts.len.Goals as goal

pub returns : goal.returns
returns c = let v = c.self.inside in
    c.len.ensures ∙ v.ends.ok.0 ∙ sym (texts-length 0 v.ends.items v.bytes.items) ∙ ap length c.self.view_is
