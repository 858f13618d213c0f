use Rattle.std.proofs.Common.{ℕ, Bool, [], refl, arith, inl}
use Rattle.group_table.specs.Sizes.{full_capacity}
use Rattle.group_table.specs.Table.{IsTable}
use Rattle.lru_model.specs.Sizes.{usage}
use Rattle.lru_model.specs.State.{IsSound, IsMap, no_counts, empty_map}
use Rattle.lru_model.proofs.PairLists.DistinctKeys.{none_distinct}

no_table : IsTable []
unfolding full_capacity
no_table = record { count = inl refl; addressable = omega arith; used_within = omega arith; none_deleted = λ _. refl }

pub empty_is_sound : (entry_bytes max : ℕ) → IsSound 0 entry_bytes max [] no_counts
unfolding usage
empty_is_sound entry_bytes max = record {
  table = no_table;
  taken = refl;
  reachable = inl refl;
  usable = (0, refl);
  moved = omega arith;
  placed = omega arith;
  shrunk = omega arith;
}

module _ {K V S H : Type 0} (limiter : S) (hasher : H) (entry_bytes max : ℕ) where
  pub empty_is_map : (eq : K → K → Bool) → IsMap eq (empty_map {K = K} {V = V} limiter hasher entry_bytes max)
  unfolding full_capacity
  empty_is_map eq = record {
    distinct = none_distinct eq;
    sized = empty_is_sound entry_bytes max;
    paid = record { moved = omega arith; ahead = λ below. omega arith };
  }
