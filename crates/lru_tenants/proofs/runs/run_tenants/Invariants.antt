use Rattle.std.proofs.Common.{◌≡◌, ◌≤◌, ◌++◌, length, vec_len, vec_capacity}
use Rattle.std.specs.Vec.Iter.{into_iter_items, into_iter_len}
use Rattle.lru_limits.specs.Admissions.{offers_of}
use denote.Param.{copied}
use Rattle.ordered_table.specs.EntrySize.{entry_size}
use Rattle.lru_tenants.specs.Cache.{fresh, AreTenants}
use Rattle.lru_tenants.specs.TenantRuns.{IsRun}
use Rattle.lru_tenants.proofs.runs.run_tenants.Given as goal

abbrev pub invariant-loop-call : goal.invariant-loop-call
invariant-loop-call g l = record {
  items : l.yielded ++ into_iter_items l.call-iterator ≡ l.fn.calls.items;
  left : into_iter_len l.call-iterator ≡ length (into_iter_items l.call-iterator);
  run : IsRun g.L.Limiter.rules (offers_of g.L.Admission.terms) g.L.Summing.cost_of g.L.Summing.account
      g.L.Budgeted.budget_of g.K.PartialEq.eq g.S.KeyHasher.hash_of
      (fresh g.L.Budgeted.made (entry_size (copied 1 g.row.K) (copied 2 g.row.V) (copied 5 g.row.L-LinkType))
      (g.L.LinkType.LinkType.number g.L.LinkType.LinkType.MAX)) g.N.PartialEq.eq
      l.fn.cache l.yielded l.answers.items l.cache;
  tenants : AreTenants g.K.PartialEq.eq g.L.Summing.cost_of g.L.Summing.account g.L.Budgeted.budget_of l.cache;
  hasher : l.cache.hasher ≡ l.fn.cache.hasher;
  total_limit : l.cache.total_limit ≡ l.fn.cache.total_limit;
  len : vec_len l.answers ≡ length l.yielded;
  capacity : length l.fn.calls.items ≤ vec_capacity l.answers;
}
