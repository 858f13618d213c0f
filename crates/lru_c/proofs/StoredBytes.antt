use Rattle.std.proofs.Common.{◌≡◌, ◌<◌, ◌^◌, List, ℕ, length, Option, Some, None, refl, ap, ◌∙◌, subst, arith}
use Rattle.std.specs.Cmp.Lexicographic.{bytes_decides}
use Rattle.std.specs.Map.{lookup}
use Rattle.std.specs.Prelude.{option_map, vec_items}
use Rattle.lru_model.specs.Calls.{Remove}
use Rattle.lru_model.specs.Lists.{lookup_entry, without}
use Rattle.lru_model.specs.State.{IsMap}
use Rattle.lru_model.proofs.CallerLemmas.{lookup-entry, found_named}
use Rattle.lru_model.proofs.PairLists.DistinctKeys.{absent_without}
use Rattle.lru_model.proofs.Theorems.Sums.{total-is, split_named, IsSplit}
use Rattle.lru_c.specs.Bytes.{Bytes, BytesMap, IsWithinBudget, bytes_rules, same_bytes, names_bytes, names_bytes-lawful}
use Rattle.lru_c.specs.Bytes.{value_of}
use Rattle.lru_c.proofs.WithinBudget.{weighs}

no_value : (key : List ℕ) (map : BytesMap) → lookup_entry (names_bytes key) map.pairs ≡ None → value_of key map ≡ None
no_value key map absent = ap (option_map vec_items)
    (lookup-entry (names_bytes key) map.pairs ∙ ap (option_map (λ p. p.1)) absent)

abbrev cost : Bytes × Bytes → ℕ
cost pair = weighs pair.0 pair.1

pub long_key_absent : (key : List ℕ) (map : BytesMap) → IsWithinBudget map → map.limiter.limit < length key
    → length key < 2 ^ 64 → value_of key map ≡ None
long_key_absent key map (sum, within) long small =
    no_value key map (go (lookup_entry (names_bytes key) map.pairs) refl (split_named cost (names_bytes key) map.pairs))
  where
    go : (o : Option (Bytes × Bytes)) → lookup_entry (names_bytes key) map.pairs ≡ o
        → IsSplit cost map.pairs o (without (names_bytes key) map.pairs) → o ≡ None
    go None found split = refl
    go (Some pair) found split =
        let same = (bytes_decides key pair.0.items).0 (found_named (names_bytes key) map.pairs pair found) in
        absurd (omega (arith, split, sum, within, long, small, total-is cost map.pairs, ap length same, pair.0.ok.0))

pub removed_absent : (key : List ℕ) (old new : BytesMap) (gone : Option Bytes) → IsMap same_bytes old
    → Remove bytes_rules (names_bytes key) old gone new → value_of key new ≡ None
removed_absent key old new gone map step = no_value key new (
    ap (λ st. lookup_entry (names_bytes key) st.pairs) step.state.is
    ∙ absent_without same_bytes (names_bytes key) ((names_bytes-lawful (λ bytes. bytes)).one key) old.pairs
    map.distinct)

pub inserted_found : (key value : List ℕ) (k v : Bytes) (new : BytesMap) → k.items ≡ key → v.items ≡ value
    → lookup (same_bytes k) new.pairs ≡ Some v → value_of key new ≡ Some value
inserted_found key value k v new is_key is_value found =
    subst (λ bytes. value_of bytes new ≡ Some value) is_key (ap (option_map vec_items) found ∙ ap Some is_value)

pub rejected_absent : (key : List ℕ) (k : Bytes) (new : BytesMap) → k.items ≡ key
    → lookup_entry (same_bytes k) new.pairs ≡ None → value_of key new ≡ None
rejected_absent key k new is_key absent =
    subst (λ bytes. value_of bytes new ≡ None) is_key (no_value k.items new absent)
