-- How the fields of an `LruMap` represent its state. No public contract uses this module.
use Rattle.std.specs.Prelude.{ℕ, Bool}
use Rattle.group_table.specs.Bucket.{bucket_states}
use Rattle.group_table.specs.Change.{insertion_count}
use Rattle.group_table.specs.Table.{Insertions}
use Rattle.lru_model.specs.State.{State, TableState, Counts, IsMap}
use Rattle.schnellru.specs.Inside.Fields.{Fields}
use Rattle.ordered_table.specs.OrderedTable.{OrderedTable, IsLinked, KeysFit, pairs_of}

-- the counts of a map: `insertions` and `placed` come from the table, and `moved` and `shrunk` come from the fields
abbrev pub counts_of : {S H : Type 0} → Insertions → Fields S H → Counts
counts_of insertions fields = record {
  insertions = insertion_count insertions;
  moved = fields.moved;
  placed = insertions.placed;
  shrunk = fields.shrunk;
}

abbrev pub table_state : {K V : Type 0} → OrderedTable K V → TableState
table_state entries = record { states = bucket_states entries.slots; places = entries.order }

module _ {K V S H : Type 0} where
  abbrev pub state_of : OrderedTable K V → Fields S H → State K V S H
  state_of entries fields = record {
    pairs = pairs_of entries;
    limiter = fields.limiter;
    hasher = fields.hasher;
    table = table_state entries;
    counts = counts_of entries.insertions fields;
    entry_bytes = fields.entry_bytes;
    max = fields.max;
  }

  -- the buckets are linked, the hashes of the keys fit the table, and the state satisfies `IsMap`
  pub record Holds (eq : K → K → Bool) (hash_of : H → K → ℕ) (entries : OrderedTable K V) (fields : Fields S H)
      : Type 0 where
    pub linked : IsLinked entries
    pub fits : KeysFit (hash_of fields.hasher) entries.slots
    pub map : IsMap eq (state_of entries fields)
