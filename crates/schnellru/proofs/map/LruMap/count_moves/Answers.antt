use Rattle.std.proofs.Common.{◌+◌, ◌-◌, ◌^◌, min, sym, ap, ◌∙◌, arith}
use Rattle.schnellru.specs.Inside.Holds.{state_of}
use Rattle.schnellru.specs.Inside.Fields.{fields_of}
use Rattle.ordered_table.proofs.Tables.BucketPairs.{pairs-length}
use Rattle.lru_model.proofs.Theorems.PaidMoves.{paid_ahead}
use Rattle.schnellru.proofs.map.LruMap.count_moves.Goals as goal

pub invariant_of-self : goal.invariant_of-self
invariant_of-self g c =
    let m = c.self.inside in let holds = c.self.invariant in let sized = holds.map.sized in
    let paid = rw (← c.self.view_is) at c.requires.paid in
    let len = c.len.ensures.len ∙ sym (pairs-length m.entries holds.linked) in record {
      linked = holds.linked;
      fits = holds.fits;
      map = record {
        distinct = holds.map.distinct;
        sized = record {
          table = sized.table;
          taken = sized.taken;
          reachable = sized.reachable;
          usable = sized.usable;
          moved = c.saturating_add-self-inside.type_inv;
          placed = sized.placed;
          shrunk = sized.shrunk;
        };
        paid = paid_ahead c.saturating_add-self-inside.type_inv
            (λ below. omega (arith, paid below, len, c.saturating_add-self-inside.ensures));
      };
    }

pub returns : goal.returns
returns g c =
    let m = c.self.inside in let rises = c.saturating_add-self-inside.ensures
    ∙ ap (λ n. min (m.moved + n) (2 ^ 64 - 1))
    (c.len.ensures.len ∙ sym (pairs-length m.entries c.self.invariant.linked)) in
    let rest = fields_of m (g.L.LinkType.LinkType.number g.L.LinkType.LinkType.MAX) in
    rw (← c.self.view_is) (λ i. state_of m.entries (record rest { moved = rises i }))
