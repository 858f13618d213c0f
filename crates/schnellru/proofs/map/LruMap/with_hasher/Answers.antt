use Rattle.std.proofs.Common.{ap, sym, subst, arith, inl, length, ◌+◌, ◌-◌, ◌*◌, ◌≤◌}
use Rattle.std.specs.List.{IsDistinct}
use Rattle.group_table.specs.Sizes.{full_capacity}
use Rattle.group_table.specs.Bucket.{bucket_states, growth_left}
use Rattle.lru_model.specs.Sizes.{usage}
use Rattle.ordered_table.specs.OrderedTable.{entries_in}
use Rattle.lru_model.proofs.PairLists.DistinctKeys.{AreDistinct}
use Rattle.schnellru.proofs.Maps.HeldMaps.{sized_by}
use Rattle.schnellru.proofs.map.LruMap.with_hasher.Goals as goal

pub invariant_of-result : goal.invariant_of-result
unfolding IsDistinct usage full_capacity
invariant_of-result g c =
    let none = ap length c.new.ensures.slots in record {
      linked = c.new.ensures.linked;
      fits = c.new.ensures.fits _;
      map = record {
        distinct = subst (λ o. AreDistinct g.K.PartialEq.eq (entries_in c.new.result.slots o))
            (sym c.new.ensures.order) tt;
        sized = sized_by (record {
          limiter = c.args.limiter;
          hasher = c.args.hasher;
          moved = 0;
          shrunk = 0;
          entry_bytes = c.args.entry_bytes;
          max = g.L.LinkType.LinkType.number g.L.LinkType.LinkType.MAX;
        }) c.new.result c.new.ensures.linked (inl none)
            (0, ap (usage c.args.entry_bytes) none) (omega arith)
            (omega (arith, ap (λ counts. counts.placed) c.new.ensures.insertions)) (omega arith);
        paid = record {
          moved = omega arith;
          ahead = λ below. subst (λ s. 0 + (full_capacity (length (bucket_states s)) - 2 * growth_left (bucket_states s))
              ≤ 2 * c.new.result.insertions.placed + 0)
              (sym c.new.ensures.slots) (omega arith);
        };
      };
    }
