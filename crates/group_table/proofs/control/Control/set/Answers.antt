use Rattle.std.proofs.Common.{◌≡◌, ◌<◌, length, length-set, refl, inr, ap, sym, ◌∙◌, arith}
use Rattle.std.proofs.lemmas.List.{with_items_is}
use Rattle.group_table.specs.Control.{buckets_of}
use Rattle.group_table.proofs.ControlLemmas.{circle_of, last_of, same_buckets, IsCircle-set}
use Rattle.group_table.proofs.control.Control.set.Goals as goal

pub set_both-requires-clause-circle : goal.set_both-requires-clause-circle
set_both-requires-clause-circle c =
    let within : c.args.b < buckets_of c.self.inside.bytes.items = rw (sym c.self.view_is) at c.requires in
    rw c.as_mut_slice.ensures.value (circle_of c.self.inside.bytes.items _ c.self.invariant (omega (arith, within)))

pub set_both-requires-clause-within : goal.set_both-requires-clause-within
set_both-requires-clause-within c = rw (c.as_mut_slice.ensures.value, c.self.view_is) c.requires

pub invariant_of-self : goal.invariant_of-self
invariant_of-self c =
    let bytes = c.self.inside.bytes.items in
    let within : c.args.b < buckets_of bytes = rw (sym c.self.view_is) at c.requires in
    let circle = circle_of bytes _ c.self.invariant (omega (arith, within)) in
    let same : length c.set_both.new.bytes ≡ c.self.inside.bytes.len =
    ap length c.set_both.ensures ∙ length-set _ _ _ ∙ length-set _ _ _ ∙ c.as_mut_slice.ensures.len in
    rw (with_items_is c.self.inside.bytes c.set_both.new.bytes same, c.set_both.ensures, c.as_mut_slice.ensures.value)
    (inr (
      IsCircle-set bytes c.args.b c.args.byte circle within,
      last_of bytes _ c.self.invariant (omega (arith, within))
          ∙ sym (same_buckets bytes c.args.b c.args.byte circle within),
    ))

pub returns : goal.returns
returns c =
    let bytes = c.self.inside.bytes.items in
    let same : length c.set_both.new.bytes ≡ c.self.inside.bytes.len =
    ap length c.set_both.ensures ∙ length-set _ _ _ ∙ length-set _ _ _ ∙ c.as_mut_slice.ensures.len in
    rw (with_items_is c.self.inside.bytes c.set_both.new.bytes same, c.set_both.ensures, c.as_mut_slice.ensures.value)
    (rw c.self.view_is refl)
