use Rattle.std.proofs.Common.{arith, refl}
use Rattle.lru_tenants.proofs.pool.part.opened.Goals as goal

pub returns : goal.returns
returns g c =
    let laws = g.met.L.Budgeted.laws in
    rw (c.with_limiter_and_hasher-map.ensures, c.with_budget-limiter.ensures) (record {
      own = refl;
      part = record {
        tenant = record {
          map = c.runs_begin_with_maps.ensures.empty (g.L.Budgeted.made c.args.limit) c.args.hasher _;
          sum = laws.made_empty c.args.limit;
          within = omega (arith, laws.made_empty c.args.limit, laws.made_budget c.args.limit);
          small = omega (arith, laws.made_budget c.args.limit);
        };
        limits = laws.made_budget c.args.limit;
      };
      empty = laws.made_empty c.args.limit;
    })
