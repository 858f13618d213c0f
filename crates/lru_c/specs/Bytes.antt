-- The map from byte strings to byte strings, and what the calls of this map do.
--     `names_bytes bytes k`: the key k has these bytes.
--     `weight key value`: the weight of an entry with a key and a value of these lengths.
--     `poured bytes buffer`: the buffer, with the bytes copied to its beginning if they fit.
use Rattle.std.specs.Prelude.{◌≡◌, ◌++◌, ◌<◌, ◌≤◌, ◌+◌, ◌&&◌, ℕ, Bool, true, false, List, length, drop, Option, Some}
use Rattle.std.specs.Prelude.{None, nat_le, nat_lt, option_map, vec_items, vec_len, is_some, if◌then◌else◌, map}
use Rattle.std.specs.Vec.{vec_ptr}
use Rattle.std.specs.Prelude.{sum_by, Ok}
use Rattle.std.proofs.Common.{ap}
use Rattle.std.specs.Cmp.Lexicographic.{bytes_decides, nat_list_eq_equiv}
use Rattle.std.specs.Hash as fed
use Rattle.std.specs.Str.{bytes_eq}
use Rattle.std.specs.declared.alloc.Global.{Global}
use Rattle.std.specs.declared.vec.Vec.{Vec}
use Rattle.lru_limits.specs.Budget.{Budget, pair_cost, by_weight, weighs}
use Rattle.lru_limits.specs.Hashing.{hash_by}
use Rattle.lru_limits.specs.Laws.{IsLookup}
use Rattle.lru_limits.specs.Mixing.{Mixer}
use Rattle.lru_limits.specs.Rules.{Rules, Offers}
use Rattle.lru_limits.specs.contracts.hasher.DefaultHasherHasher.TheImpl as default_hashes
use Rattle.lru_limits.specs.contracts.hasher.RandomStateBuildHasher.TheImpl as random_builds
use Rattle.lru_model.specs.Calls.{Remove, PopOldest, promoted}
use Rattle.lru_model.specs.Inserts.{Insert}
use Rattle.lru_model.specs.Lists.{front, last, lookup, without}
use Rattle.lru_model.specs.Reservations.{Reserve}
use Rattle.lru_model.specs.State.{State, growth_left}
use Rattle.lru_c.specs.declared.bytes.answers.Lent.{Lent}
use Rattle.lru_c.specs.declared.bytes.answers.Popped.{Popped}
use Rattle.lru_c.specs.declared.bytes.answers.Value.{Value}

abbrev pub Bytes : Type 0
Bytes = Vec ℕ Global

abbrev pub BytesMap : Type 0
BytesMap = State Bytes Bytes Budget Mixer

abbrev pub same_bytes : Bytes → Bytes → Bool
same_bytes x y = bytes_eq x.items y.items

abbrev pub names_bytes : List ℕ → Bytes → Bool
names_bytes bytes k = bytes_eq bytes k.items

pub names_bytes-lawful : {Q : Type 0} (bytes : Q → List ℕ) → IsLookup (λ q k. names_bytes (bytes q) k) same_bytes
    (λ q. fed.slice fed.u8 (bytes q)) (λ k. fed.slice fed.u8 k.items)
names_bytes-lawful bytes = record {
  writes = λ q k named. ap (fed.slice fed.u8) ((bytes_decides (bytes q) k.items).0 named);
  one = λ q x y. nat_list_eq_equiv.congr (bytes q) x.items y.items;
}

abbrev pub input_of_bytes : Bytes → List (List ℕ)
input_of_bytes k = fed.slice fed.u8 k.items

abbrev pub hash_of_bytes : Mixer → Bytes → ℕ
hash_of_bytes = hash_by input_of_bytes random_builds.ghosts default_hashes.ghosts

abbrev pub weight : ℕ → ℕ → ℕ
weight key value = pair_cost 64 key value

abbrev pub value_of : List ℕ → BytesMap → Option (List ℕ)
value_of key map = option_map vec_items (lookup (names_bytes key) map.pairs)

abbrev pub total_weight : List (Bytes × Bytes) → ℕ
total_weight pairs = sum_by (λ pair. weight (vec_len pair.0) (vec_len pair.1)) pairs

abbrev pub IsWithinBudget : BytesMap → Type 0
IsWithinBudget map = (map.limiter.cost ≡ total_weight map.pairs) × (map.limiter.cost ≤ map.limiter.limit)

abbrev pub bytes_rules : Rules Bytes Bytes Budget
bytes_rules = by_weight (λ k v. weight (vec_len k) (vec_len v))

abbrev pub bytes_offers : Offers Bytes Bytes Budget Bytes
bytes_offers = weighs (λ k v. weight (vec_len k) (vec_len v))

abbrev pub poured : List ℕ → List ℕ → List ℕ
poured bytes buffer = if nat_le (length bytes) (length buffer) then bytes ++ drop (length bytes) buffer else buffer

abbrev pub poured_from : Option Bytes → List ℕ → List ℕ
poured_from None buffer = buffer
poured_from (Some value) buffer = poured value.items buffer

abbrev pub answer_of : Option Bytes → Value
answer_of None = record { len = 0; found = false }
answer_of (Some value) = record { len = length value.items; found = true }

-- A look-up that finds a value returns its length. If the value fits into the buffer, it is copied there.
abbrev pub Reads : Option Bytes → Value → List ℕ → List ℕ → Type 0
Reads value answer buffer left = (answer ≡ answer_of value) × (left ≡ poured_from value buffer)

-- If a look-up finds a value, `left` contains the address and the length of the value.
abbrev pub Lends : Option Bytes → Bool → Lent → Lent → Type 0
Lends None found lent left = (found ≡ false) × (left ≡ lent)
Lends (Some value) found lent left =
    (found ≡ true) × (left ≡ record { bytes = vec_ptr value; len = length value.items })

abbrev pub no_entry : Popped
no_entry = record { key_len = 0; value_len = 0; found = false; removed = false }

abbrev pub lengths_of : Bytes × Bytes → Bool → Popped
lengths_of pair removed =
    record { key_len = length pair.0.items; value_len = length pair.1.items; found = true; removed = removed }

abbrev pub fits : Bytes × Bytes → List ℕ → List ℕ → Bool
fits pair key value = nat_le (length pair.0.items) (length key) && nat_le (length pair.1.items) (length value)

-- A look-up that finds an entry returns the lengths of the key and the value. If both fit into the two buffers, they
-- are copied.
abbrev pub Shows : Option (Bytes × Bytes) → Popped → List ℕ → List ℕ → List ℕ → List ℕ → Type 0
Shows None answer key key_left value value_left = (answer ≡ no_entry) × (key_left ≡ key) × (value_left ≡ value)
Shows (Some pair) answer key key_left value value_left = (answer ≡ lengths_of pair false)
    × (key_left ≡ (if fits pair key value then poured pair.0.items key else key))
    × (value_left ≡ (if fits pair key value then poured pair.1.items value else value))

abbrev pub texts : List (Bytes × Bytes) → List (List ℕ × List ℕ)
texts pairs = map (λ pair. (pair.0.items, pair.1.items)) pairs

-- In the copy, the entries have the same order, and their keys and values have the same bytes. Everything else is
-- equal.
pub record Copies (old copy : BytesMap) : Type 0 where
  pub entries : texts copy.pairs ≡ texts old.pairs
  pub rest : copy ≡ record old { pairs = copy.pairs }

-- If the oldest entry fits into the two buffers, it is copied into them and removed. Otherwise only the lengths of its
-- key and value are returned.
pub data Pops (old : BytesMap) (answer : Popped) (key key_left value value_left : List ℕ)
    (new : BytesMap) : Type 0 where
  none : last old.pairs ≡ None → answer ≡ no_entry → key_left ≡ key → value_left ≡ value → new ≡ old →
      Pops old answer key key_left value value_left new
  too_long : (pair : Bytes × Bytes) → last old.pairs ≡ Some pair → fits pair key value ≡ false →
      answer ≡ lengths_of pair false → key_left ≡ key → value_left ≡ value → new ≡ old →
      Pops old answer key key_left value value_left new
  removed : (pair : Bytes × Bytes) → last old.pairs ≡ Some pair → fits pair key value ≡ true →
      answer ≡ lengths_of pair true → key_left ≡ poured pair.0.items key → value_left ≡ poured pair.1.items value →
      PopOldest bytes_rules old (Some pair) new → Pops old answer key key_left value value_left new

abbrev pub others_weight : List ℕ → BytesMap → ℕ
others_weight key map = total_weight (without (names_bytes key) map.pairs)

-- Whether a put must evict: the new entry alone is within the budget, but the new entry and the entries of other keys
-- together are over the budget.
abbrev pub must_evict : List ℕ → ℕ → BytesMap → Bool
must_evict key value_len map = let added = weight (length key) value_len in
    nat_le added map.limiter.limit && nat_lt map.limiter.limit (others_weight key map + added)

-- A pop that makes room for a put of the key `own` with a value of n bytes.
pub data PopsFor (own : List ℕ) (n : ℕ) (old : BytesMap) (answer : Popped) (key key_left value value_left : List ℕ)
    (new : BytesMap) : Type 0 where
  has_room : must_evict own n old ≡ false → answer ≡ no_entry → key_left ≡ key → value_left ≡ value → new ≡ old →
      PopsFor own n old answer key key_left value value_left new
  -- The entry of the key `own` becomes the newest, so the oldest entry has a key other than `own`. The oldest entry is
  -- popped if it fits into the buffers.
  pops : must_evict own n old ≡ true → (pair : Bytes × Bytes) →
      last (without (names_bytes own) old.pairs) ≡ Some pair → last (front (names_bytes own) old.pairs) ≡ Some pair →
      Pops (promoted (names_bytes own) old) answer key key_left value value_left new →
      PopsFor own n old answer key key_left value value_left new

abbrev pub has_bytes : List ℕ → BytesMap → Bool
has_bytes key map = is_some (lookup (names_bytes key) map.pairs)

-- An insert of this key needs no memory for the table.
abbrev pub FindsMemory : List ℕ → BytesMap → Type 0
FindsMemory key map = has_bytes key map ≡ false → 1 ≤ growth_left map

pub data IsReady (key : List ℕ) (old ready : BytesMap) : Type 0 where
  enough : FindsMemory key old → ready ≡ old → IsReady key old ready
  reserved : has_bytes key old ≡ false → Reserve bytes_rules 1 old (Ok tt) ready → IsReady key old ready

pub data Puts (key value : List ℕ) (old : BytesMap) (code : ℕ) (new : BytesMap) : Type 0 where
  too_long : old.limiter.limit < length key → code ≡ 1 → new ≡ old → Puts key value old code new
  too_heavy : old.limiter.limit < weight (length key) (length value) → code ≡ 1 →
      (value_gone : Option Bytes) → Remove bytes_rules (names_bytes key) old value_gone new →
      Puts key value old code new
  no_memory : weight (length key) (length value) ≤ old.limiter.limit → code ≡ 2 → new ≡ old →
      Puts key value old code new
  inserted : weight (length key) (length value) ≤ old.limiter.limit →
      (ready : BytesMap) → IsReady key old ready →
      (k v : Bytes) → k.items ≡ key → v.items ≡ value →
      (kept : Bool) → code ≡ (if kept then 0 else 1) →
      Insert bytes_rules bytes_offers same_bytes hash_of_bytes k v ready (Ok kept) new →
      Puts key value old code new
