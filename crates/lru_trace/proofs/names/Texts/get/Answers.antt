use Rattle.std.proofs.Common.{[], length, get_or, arith, ap, ◌∙◌}
use Rattle.lru_trace.specs.Names.{texts}
use Rattle.lru_trace.proofs.NamesTexts.{texts-length}
use Rattle.lru_trace.proofs.names.Texts.get.Goals as goal

pub text_of-requires : goal.text_of-requires
text_of-requires c =
    let v = c.self.inside in
    let size = texts-length 0 v.ends.items v.bytes.items in
    rw (c.deref-2.ensures.value, c.deref.ensures.value) (record {
      within = omega (arith, c.requires, ap length c.self.view_is, size);
      are = c.self.invariant;
    })

pub returns : goal.returns
returns c =
    c.text_of.ensures ∙ (λ i. get_or (texts 0 (c.deref-2.ensures.value i) (c.deref.ensures.value i)) c.args.number [])
    ∙ ap (λ l. get_or l c.args.number []) c.self.view_is
