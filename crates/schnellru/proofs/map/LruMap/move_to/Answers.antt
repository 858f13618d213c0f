use Rattle.std.proofs.Common.{sym, ◌∙◌, ap, length, arith}
use Rattle.std.proofs.lemmas.Bool.{false≢true}
use Rattle.group_table.proofs.BucketLemmas.{length-bucket_states}
use Rattle.lru_model.proofs.TableSizes.Growth.{usage_addressable}
use Rattle.ordered_table.proofs.Tables.BucketPairs.{pairs-length}
use Rattle.schnellru.proofs.Maps.MovedPairs.{moves_to, moves_holds}
use Rattle.schnellru.proofs.map.LruMap.move_to.Goals as goal

pub move_to-requires-clause-addressable : goal.move_to-requires-clause-addressable
move_to-requires-clause-addressable g c = usage_addressable _ c.args.count _ c.requires.usable.1

pub move_to-requires-clause-within : goal.move_to-requires-clause-within
move_to-requires-clause-within g c =
    let holds = c.self.invariant in let half = rw (← c.self.view_is) at c.requires.half in
    omega (arith, half, holds.linked.count, pairs-length c.self.inside.entries holds.linked)

pub returns-in_err-move_to-clause-succeeds : goal.returns-in_err-move_to-clause-succeeds
returns-in_err-move_to-clause-succeeds g c = λ none same.
    let t = c.self.inside.entries in
    let no_pairs = sym (pairs-length t c.self.invariant.linked) ∙ ap length (rw (← c.self.view_is) at none) in
    let as_many = sym (length-bucket_states t.slots) ∙ sym (rw (← c.self.view_is) at same) in
    absurd (false≢true (c.in_err-move_to.ensures.succeeds no_pairs as_many))

pub invariant_of-self-2 : goal.invariant_of-self-2
invariant_of-self-2 g c =
    let m = c.self.inside in let e = c.in_ok-move_to.ensures in let holds = c.self.invariant in
    moves_holds m.entries c.move_to.new.self c.args.count holds.linked e.linked e.buckets e.pairs e.growth_left e.insertions
    _ _ _ holds e.fits
    c.requires.reached (rw (← c.self.view_is) at c.requires.usable) (rw (← c.self.view_is) at c.requires.half)

pub returns-clause-moved : goal.returns-clause-moved
returns-clause-moved g c =
    let m = c.self.inside in let e = c.in_ok-move_to.ensures in
    rw (← c.self.view_is)
    (moves_to m.entries c.move_to.new.self c.args.count c.self.invariant.linked e.linked e.buckets e.pairs e.growth_left
    e.insertions _)

pub returns-clause-map : goal.returns-clause-map
returns-clause-map g c = (invariant_of-self-2 g c).map
