use Rattle.std.proofs.Common.{◌≡◌, ◌<◌, ap, arith, length, ◌∙◌, sym}
use Rattle.group_table.specs.Layout.{slots_of}
use Rattle.group_table.proofs.LayoutLemmas.{is_full-laid_out, length-laid_out}
use Rattle.group_table.proofs.ControlLemmas.{buckets_are}
use Rattle.group_table.proofs.table.Table.is_full.Goals as goal

pub byte-requires : goal.byte-requires
byte-requires g c =
    let laid_out = c.self.invariant.0.laid_out in
    let n : c.buckets.result ≡ length (slots_of c.self.inside.control c.self.inside.entries) =
    c.buckets.ensures.value ∙ ap (λ v. length v.slots) (sym c.self.view_is) in
    omega (arith, n, length-laid_out _ _ laid_out, buckets_are _ _ laid_out)

pub returns-then-b-buckets-clause-full : goal.returns-then-b-buckets-clause-full
returns-then-b-buckets-clause-full g c =
    let laid_out = c.self.invariant.0.laid_out in
    let n : c.buckets.result ≡ length (slots_of c.self.inside.control c.self.inside.entries) =
    c.buckets.ensures.value ∙ ap (λ v. length v.slots) (sym c.self.view_is) in
    let within : c.args.b < length c.self.inside.entries = omega (arith, n, length-laid_out _ _ laid_out) in
    rw (← c.self.view_is, is_full-laid_out _ _ laid_out c.args.b within, ← c.byte.ensures) (λ h. h, λ h. h)
