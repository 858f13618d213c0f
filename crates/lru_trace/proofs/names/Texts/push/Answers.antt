use Rattle.std.proofs.Common.{[], ◌∷◌, ◌++◌, ap, ◌∙◌}
use Rattle.lru_trace.proofs.NamesTexts.{pushed}
use Rattle.lru_trace.proofs.names.Texts.push.Goals as goal

pub invariant_of-self-2 : goal.invariant_of-self-2
invariant_of-self-2 c =
    let v = c.self.inside in
    (pushed v.ends.items v.bytes.items c.args.text.now c.self.invariant c.reserve.ensures.items
    c.in_ok-extend_from_slice.ensures.items (c.len.ensures ∙ c.extend_from_slice.new.self.ok.0) c.push_reserved.ensures.items).0

pub returns : goal.returns
returns c =
    let v = c.self.inside in
    let is = pushed v.ends.items v.bytes.items c.args.text.now c.self.invariant c.reserve.ensures.items
    c.in_ok-extend_from_slice.ensures.items (c.len.ensures ∙ c.extend_from_slice.new.self.ok.0)
    c.push_reserved.ensures.items in
    record { ok = is.1 ∙ ap (λ l. l ++ c.args.text.now ∷ []) c.self.view_is; err = tt }
