use borrow.Follows.Closed.{read_of}
use Rattle.std.proofs.Common.{reverse, sym, ◌∙◌}
use Rattle.std.specs.Option.{ghost_name_of}
use Rattle.lru_caches.proofs.TurnedEntries.{lookup-reverse, set-reverse}
use Rattle.lru_caches.proofs.ordered_map.OrderedMap.get_mut.Goals as goal

pub returns : goal.returns
returns g c =
    let key = c.args.key.now in
    let names = g.Q.LookupKey.names key in
    let one = g.met.Q.LookupKey.laws.one key in
    let pairs = c.self.inside.map.pairs in
    rw (← c.self.view_is) (
      λ t. read_of (ghost_name_of c.peek_mut.result)
          (λ (w : g.row.V.Denot). sym (set-reverse names one pairs w c.distinct.ensures) t) (reverse pairs),
      record {
        writes_back = tt;
        value = c.peek_mut.ensures.value ∙ sym (lookup-reverse names one pairs c.distinct.ensures);
      },
    )
