use Rattle.std.proofs.Common.{ap, []}
use Rattle.std.proofs.lemmas.List.Elements.{All-nil}
use Rattle.lru_tenants.proofs.ByteChanges.{cache_of}
use Rattle.lru_tenants.proofs.ByteSums.{no_table}
use Rattle.lru_tenants.proofs.bytes.ByteTenants.with_hasher.Goals as goal

pub invariant_of-result : goal.invariant_of-result
invariant_of-result g c = rw (c.with_limiter_and_hasher.ensures, c.new.ensures) (record {
  each = All-nil _;
  all = c.calls_keep_the_bytes.ensures.begins c.args.limit _ c.args.hasher;
  small = c.ranges.limit.fits;
})

pub returns : goal.returns
returns g c = rw (c.with_limiter_and_hasher.ensures, c.new.ensures)
    (ap (λ n. cache_of [] n c.args.limit c.args.hasher) (no_table _))
