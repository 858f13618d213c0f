-- How an entry is copied. No public contract uses this module.
use Rattle.std.specs.Prelude.{◌≡◌}
use Rattle.ordered_table.specs.declared.linked.Entry.{Entry}

-- the copy contains clones of the entry's key and value, and has the same links
pub record IsEntryCopy {K V N : Type 0} (same_key : K → K → Type 0) (same_value : V → V → Type 0)
    (entry copy : Entry K V N) : Type 0 where
  pub key : same_key entry.key copy.key
  pub value : same_value entry.value copy.value
  pub newer : copy.newer ≡ entry.newer
  pub older : copy.older ≡ entry.older
