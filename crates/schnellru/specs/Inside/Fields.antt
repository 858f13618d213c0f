-- The fields of an `LruMap`, except `entries` and `alloc`. `max` is the value of `LinkType::MAX`.
use Rattle.std.specs.Prelude.{ℕ}
use Rattle.schnellru.specs.declared.map.LruMap.TheInside.{Inside}

pub record Fields (S H : Type 0) : Type 0 where
  pub limiter : S
  pub hasher : H
  pub moved : ℕ
  pub shrunk : ℕ
  pub entry_bytes : ℕ
  pub max : ℕ

abbrev pub fields_of : {K V S H Link Hasher : Type 0} → Inside K V S H Link Hasher → ℕ → Fields S H
fields_of m max = record {
  limiter = m.limiter;
  hasher = m.hasher;
  moved = m.moved;
  shrunk = m.shrunk;
  entry_bytes = m.entry_bytes;
  max = max;
}
