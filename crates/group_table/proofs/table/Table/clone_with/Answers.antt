use Rattle.std.proofs.Common.{sym, ◌∙◌, arith}
use Rattle.std.proofs.lemmas.Bool.{eqb-false}
use Rattle.group_table.proofs.ControlLemmas.{buckets_are}
use Rattle.group_table.proofs.LayoutLemmas.{length-laid_out}
use Rattle.group_table.proofs.TableLemmas.{IsTable-by}
use Rattle.group_table.proofs.CloneLemmas.{Copies-places, bucket_states-copies, Fits-copies, IsValid-copied}
use Rattle.group_table.proofs.CloneLemmas.{entry_count-copied}
use Rattle.group_table.proofs.table.Table.clone_with.Goals as goal

pub invariant_of-result : goal.invariant_of-result
invariant_of-result g c =
    let valid = c.self.invariant.0 in
    let copied = c.in_ok-entries.ensures in
    rw (c.in_ok-control.ensures) (
      IsValid-copied g.F.Fn c.args.f _ valid copied,
      c.self.invariant.1 ∙ sym (entry_count-copied g.F.Fn c.args.f _ valid copied),
    )

pub returns-clause-copies : goal.returns-clause-copies
returns-clause-copies g c =
    let copied = c.in_ok-entries.ensures in
    rw (← c.self.view_is, c.in_ok-control.ensures) (Copies-places g.F.Fn c.args.f _ _ _ copied)

pub returns-clause-states : goal.returns-clause-states
returns-clause-states g c = bucket_states-copies g.F.Fn c.args.f _ _ (returns-clause-copies g c)

pub returns-clause-fits : goal.returns-clause-fits
returns-clause-fits g c hash_of fits = Fits-copies g.F.Fn c.args.f _ _ hash_of (returns-clause-copies g c) fits

pub returns-clause-table : goal.returns-clause-table
returns-clause-table g c =
    let copied = c.in_ok-entries.ensures in
    rw (c.in_ok-control.ensures) (IsTable-by _ _ _ (IsValid-copied g.F.Fn c.args.f _ c.self.invariant.0 copied))

pub returns-in_err-control-clause-succeeds : goal.returns-in_err-control-clause-succeeds
returns-in_err-control-clause-succeeds g c none =
    let some = eqb-false _ _ (sym c.is_empty.ensures ∙ c.if-is_empty.false) in
    absurd (omega (
      arith,
      some,
      buckets_are _ _ c.self.invariant.0.laid_out,
      length-laid_out _ _ c.self.invariant.0.laid_out,
      rw (← c.self.view_is) at none,
    ))

pub returns-in_err-entries-clause-succeeds : goal.returns-in_err-entries-clause-succeeds
returns-in_err-entries-clause-succeeds g c none =
    let some = eqb-false _ _ (sym c.is_empty.ensures ∙ c.if-is_empty.false) in
    absurd (omega (
      arith,
      some,
      buckets_are _ _ c.self.invariant.0.laid_out,
      length-laid_out _ _ c.self.invariant.0.laid_out,
      rw (← c.self.view_is) at none,
    ))
