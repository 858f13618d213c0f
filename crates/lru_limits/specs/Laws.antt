-- The laws of the traits.
--     `IsLookup names eq query_input key_input`: the laws of `LookupKey`. A query q writes `query_input q` to a hasher,
--         and a key k writes `key_input k`.
--     `IsInsertion names eq offers`: the laws of `Insertion`.
--     `ChangesNoPair rules`: `on_removed` of the limiter changes no removed entry.
--     `IsAccount rules offers cost account`: the laws of `Summing`.
--     `kept_value r`: the new value if the replacement r accepted it, or else the old value.
use Rattle.std.specs.Prelude.{◌≡◌, ◌≤◌, ◌+◌, ◌-◌, ℕ, Bool, List, Some, None, IsTrue, if◌then◌else◌}
use Rattle.lru_limits.specs.Rules.{Rules, Offers, Replaced}

pub record IsLookup {Q K : Type 0} (names : Q → K → Bool) (eq : K → K → Bool) (query_input : Q → List (List ℕ))
    (key_input : K → List (List ℕ)) : Type 0 where
  -- if a query names a key, the query and the key write the same bytes to a hasher
  pub writes : (q : Q) (k : K) → IsTrue (names q k) → query_input q ≡ key_input k
  -- if a query names a key x, the query names exactly the keys that equal x
  pub one : (q : Q) (x y : K) → IsTrue (names q x) → names q y ≡ eq x y

pub record IsInsertion {K V S I : Type 0} (names : I → K → Bool) (eq : K → K → Bool)
    (offers : Offers K V S I) : Type 0 where
  -- the offered key names the key of the entry to store
  pub names_given : (s : S) (n : ℕ) (i : I) (v : V) (t : S) (k : K) (w : V) → offers.on_insert s n i v t (Some (k, w))
      → IsTrue (names i k)
  -- the stored key after `on_replace` equals the stored key before `on_replace`
  pub keeps_key : (s : S) (n : ℕ) (k : K) (i : I) (v w : V) → IsTrue (names i k)
      → IsTrue (eq k (offers.on_replace s n k i v w).key)

abbrev pub kept_value : {K V S : Type 0} → Replaced K V S → V
kept_value r = if r.taken then r.new_value else r.old_value

pub record IsAccount {K V S I : Type 0} (rules : Rules K V S) (offers : Offers K V S I) (cost : K → V → ℕ)
    (account : S → ℕ) : Type 0 where
  -- if an offer returns an entry to store, the running total rises by the cost of this entry
  pub adds : (s : S) (n : ℕ) (i : I) (v : V) (t : S) (k : K) (w : V) → offers.on_insert s n i v t (Some (k, w))
      → account t ≡ account s + cost k w
  pub refuses : (s : S) (n : ℕ) (i : I) (v : V) (t : S) → offers.on_insert s n i v t None → account t ≡ account s
  -- If the running total is at least the cost of the old entry, a replacement subtracts this cost from the total, and
  -- adds the cost of the stored key with `kept_value`.
  pub exchanges : (s : S) (n : ℕ) (k : K) (i : I) (v w : V) → cost k v ≤ account s →
      let r = offers.on_replace s n k i v w in account r.limiter ≡ account s - cost k v + cost r.key (kept_value r)
  -- If the running total is at least the cost of an entry, its removal lowers the total by this cost.
  pub takes_off : (s : S) (k : K) (v : V) → cost k v ≤ account s → account (rules.on_removed s k v).limiter
      ≡ account s - cost k v
  pub empties : (s : S) → account (rules.on_cleared s) ≡ 0
  pub keeps : (s : S) (n : ℕ) → account (rules.on_grow s n).limiter ≡ account s

pub record ChangesNoPair {K V S : Type 0} (rules : Rules K V S) : Type 0 where
  pub key : (s : S) (k : K) (v : V) → (rules.on_removed s k v).key ≡ k
  pub value : (s : S) (k : K) (v : V) → (rules.on_removed s k v).value ≡ v
