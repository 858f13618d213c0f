use Rattle.std.proofs.Common.{refl, sym, ◌∙◌}
use Rattle.group_table.proofs.LayoutLemmas.{is_some_entry, entry_at-full}
use Rattle.group_table.proofs.RefillLemmas.{IsValid-refilled, entry_count-refilled, slots_of-refilled, Fits-refilled}
use Rattle.group_table.proofs.TableLemmas.{IsTable-by}
use Rattle.group_table.proofs.table.Table.get_mut.Goals as goal

pub get_mut-requires : goal.get_mut-requires
get_mut-requires g c = is_some_entry _ _ c.self.invariant.0.laid_out c.args.b (rw (← c.self.view_is) at c.requires)

pub invariant_of-self-lent : goal.invariant_of-self-lent
invariant_of-self-lent g c w =
    let there = rw (← c.self.view_is) at c.requires in (
      IsValid-refilled _ _ _ c.self.invariant.0 c.args.b there w,
      c.self.invariant.1
          ∙ sym (entry_count-refilled _ _ _ c.self.invariant.0 c.args.b there w),
    )

pub returns : goal.returns
returns g c =
    let there = rw (← c.self.view_is) at c.requires in (
      (refl, λ w. rw (← c.self.view_is, slots_of-refilled _ _ _ c.self.invariant.0 c.args.b there w)),
      record {
        writes_back = tt;
        entry =
            rw (← c.self.view_is)
            (entry_at-full _ _ c.self.invariant.0.laid_out c.args.b there _ c.get_mut.ensures.value);
        table = rw (← c.self.view_is) (IsTable-by _ _ _ c.self.invariant.0);
        fits = λ hash_of fits last. Fits-refilled _ c.args.b last hash_of c.requires fits;
      },
    )
