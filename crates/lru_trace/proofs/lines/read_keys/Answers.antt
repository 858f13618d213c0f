use Rattle.std.proofs.Common.{◌≡◌, ◌+◌, ◌-◌, Bool, [], ◌∷◌, ◌∙◌, arith, ap, sym, subst}
use Rattle.std.specs.Prelude.{nat_lt}
use Rattle.lru_trace.specs.Curves.{AreTooLarge, Follows, Leads}
use Rattle.lru_trace.specs.Outcome.{KeysRead}
use Rattle.lru_trace.specs.References.{bits_of, references_in, others_so}
use Rattle.lru_trace.specs.Samples.{sampled}
use Rattle.lru_trace.proofs.AnyCurves.{no_references, alike, alike_still, too_large_from}
use Rattle.lru_trace.proofs.CurveSteps.{if_passed}
use Rattle.lru_trace.proofs.ReadLines.{ReadSoFar, both, few_others, none_read, line_read, last_read, large_line}
use Rattle.lru_trace.proofs.ReadLines.{some_part}
use Rattle.lru_trace.proofs.ReadLines.{taken_part, taken_feed}
use Rattle.lru_trace.proofs.lines.read_keys.Goals.{After-add}
use Rattle.lru_trace.proofs.lines.read_keys.Goals as goal

module _ (g : _) (c : After-add g) where
  abbrev warm : Bool
  warm = nat_lt (c.loop-lines.lines - c.loop-lines.others.malformed - c.loop-lines.others.deleted) c.warm_up-warm_up.result

  follows : Follows warm c.loop-lines.curve (sampled (bits_of c.args.options)
      (references_in c.args.options (c.read_line.new.line.items ∷ []))) c.refer_line.new.curve
  follows = subst (λ l. Follows warm c.loop-lines.curve (sampled (bits_of c.args.options)
      (references_in c.args.options (l ∷ []))) c.refer_line.new.curve) c.deref.ensures.value
      c.in_ok-refer_line.ensures.ok

  added : c.add.new.self ≡ both c.loop-lines.others (others_so c.args.options (c.read_line.new.line.items ∷ []) warm)
  added = c.add.ensures ∙ ap (both c.loop-lines.others) c.in_ok-refer_line.ensures.others
      ∙ ap (λ l. both c.loop-lines.others (others_so c.args.options (l ∷ []) warm)) c.deref.ensures.value

pub loop-lines-init : goal.loop-lines-init
loop-lines-init g c = (omega arith, omega arith, omega arith, no_references _ c.requires, alike, none_read _ _ _ c.requires)

pub returns-in_err-ending-clause-err : goal.returns-in_err-ending-clause-err
returns-in_err-ending-clause-err g c =
    let so_far = c.loop-lines.invariant.5 in
    let (part, reads) = c.in_err-ending.ensures.err in
    some_part _ _ _ _ so_far.bytes part so_far.reads reads

pub returns-in_err-refer_line-clause-err : goal.returns-in_err-refer_line-clause-err
returns-in_err-refer_line-clause-err g c =
    let so_far = c.loop-lines.invariant.5 in
    let (part, reads) = taken_part _ _ c.in_ok-ending.ending _ c.in_ok-ending.ensures.ok in
    some_part _ _ _ _ so_far.bytes part so_far.reads reads

pub returns-in-InputEnd-clause-ok : goal.returns-in-InputEnd-clause-ok
returns-in-InputEnd-clause-ok g c =
    let at = (goal.at.returns-in-InputEnd-clause-ok g c).After-add in
    let to = g.R.Read.remaining c.read_line.new.reader in
    let (taken, some) = rw c.in-InputEnd.is at c.in_ok-ending.ensures.ok in
    subst (KeysRead (g.R.Read.remaining c.args.reader.now) to c.args.options c.refer_line.new.curve) (sym (added g at))
    (last_read c.loop-lines.invariant.5 to c.read_line.new.line.items (warm g at)
    (ap (nat_lt _) c.warm_up-warm_up.ensures) c.refer_line.new.curve (follows g at) taken some)

pub loop-lines-preserved : goal.loop-lines-preserved
loop-lines-preserved g c =
    let at = (goal.at.loop-lines-preserved g c).After-add in
    let line = c.read_line.new.line.items in
    let to = g.R.Read.remaining c.read_line.new.reader in
    let inv = c.loop-lines.invariant in
    let taken = taken_feed _ to c.in_ok-ending.ending line c.in_default.not-Nothing c.in_default-ending.not-InputEnd
    c.in_ok-ending.ensures.ok in
    let more = added g at in
    let few = few_others c.args.options line (warm g at) in (
      omega (arith, inv.0, ap (λ o. o.malformed) more, few.0),
      omega (arith, inv.1, ap (λ o. o.skipped) more, few.1),
      omega (arith, inv.2, ap (λ o. o.malformed + o.deleted) more, few.3),
      omega (arith, inv.3, c.in_ok-refer_line.ensures.references),
      alike_still inv.4 c.in_ok-refer_line.ensures.alike,
      subst (ReadSoFar (g.R.Read.remaining c.args.reader.now) to c.args.options c.refer_line.new.curve
          (c.loop-lines.lines + 1)) (sym more)
          (line_read inv.5 to line (warm g at) (ap (nat_lt _) c.warm_up-warm_up.ensures) c.refer_line.new.curve
          (follows g at) taken),
    )

pub returns-in_err-refer_line-clause-large : goal.returns-in_err-refer_line-clause-large
returns-in_err-refer_line-clause-large g c =
    let read = c.loop-lines.lines - c.loop-lines.others.malformed - c.loop-lines.others.deleted in
    let warm = nat_lt read c.warm_up-warm_up.result in
    let options = c.args.options in
    if_passed _ _ _ c.from_residual-in_err-refer_line.ensures (λ is.
    large_line c.loop-lines.invariant.5 (g.R.Read.remaining c.read_line.new.reader) c.read_line.new.line.items warm
    (ap (nat_lt read) c.warm_up-warm_up.ensures)
    (subst (λ l. Leads warm c.loop-lines.curve (sampled (bits_of options) (references_in options (l ∷ []))) AreTooLarge)
    c.deref.ensures.value (c.in_err-refer_line.ensures.large (too_large_from _ is))) c.in_ok-ending.ending
    c.in_default.not-Nothing c.in_ok-ending.ensures.ok)

pub add-requires : goal.add-requires
add-requires g c =
    let read = c.loop-lines.lines - c.loop-lines.others.malformed - c.loop-lines.others.deleted in
    let warm = nat_lt read c.warm_up-warm_up.result in
    let is = c.in_ok-refer_line.ensures.others in
    let few = few_others c.args.options c.deref.result.now warm in
    let inv = c.loop-lines.invariant in
    record {
      malformed = omega (arith, inv.0, ap (λ o. o.malformed) is, few.0);
      skipped = omega (arith, inv.1, ap (λ o. o.skipped) is, few.1);
      deleted = omega (arith, inv.2, ap (λ o. o.deleted) is, few.2);
    }
