-- How links keep buckets in an order: each entry contains a link to the next newer entry, and a link to the next older
-- entry. No public contract uses this module.
use Rattle.std.specs.Prelude.{◌≡◌, ◌≢◌, ◌⊎◌, ℕ, zero, suc, ◌<◌, slice_index_or, List, [], ◌∷◌, length, map}
use Rattle.std.specs.Prelude.{Option, Some, None, option_map, unwrap_or, Contains, AllPairs}
use Rattle.group_table.specs.Bucket.{empty, deleted, full, Slot, IsFull, bucket_at, entry_at, entry_count}
use Rattle.group_table.specs.Relocation.{Renumbers}
use Rattle.lru_model.specs.Lists.{first, last}
use Rattle.ordered_table.specs.OrderedTable.{bucket_after, bucket_before}
use Rattle.ordered_table.specs.declared.linked.Entry.{Entry}
use Rattle.ordered_table.specs.declared.linked.chain.Chain.{Chain}

-- the same bucket, but with only the key and the value of its entry
abbrev pub pair_slot : {K V N : Type 0} → Slot (Entry K V N) → Slot (K × V)
pair_slot empty = empty
pair_slot deleted = deleted
pair_slot (full held) = full (record { tag = held.tag; entry = (held.entry.key, held.entry.value) })

abbrev pub pair_slots : {K V N : Type 0} → List (Slot (Entry K V N)) → List (Slot (K × V))
pair_slots slots = map pair_slot slots

module _ {N : Type 0} (link : ℕ → N) (none : N) where
  abbrev pub link_to : Option ℕ → N
  link_to None = none
  link_to (Some b) = link b

-- The buckets that a walk reaches by the link `from`, and then by the links to older entries: n buckets, or fewer if
-- the links end.
abbrev pub along : {K V N : Type 0} → (N → ℕ) → ℕ → List (Slot (Entry K V N)) → N → List ℕ
along number zero slots from = []
along number (suc n) slots from = unwrap_or (option_map (λ entry. number from ∷ along number n slots entry.older)
    (entry_at slots (number from))) []

module _ {K V N : Type 0} where
  -- `newer_at`: the link from the entry in bucket b to the next newer entry. `older_at`: the link to the next older
  -- entry.
  abbrev pub newer_at : List (Slot (Entry K V N)) → ℕ → Option N
  newer_at slots b = option_map (λ entry. entry.newer) (entry_at slots b)

  abbrev pub older_at : List (Slot (Entry K V N)) → ℕ → Option N
  older_at slots b = option_map (λ entry. entry.older) (entry_at slots b)

  -- the entry in bucket b now has the links `newer` and `older`, and nothing else has changed
  pub record SetsLinks (old new : List (Slot (Entry K V N))) (b : ℕ) (newer older : N) : Type 0 where
    pub pairs : pair_slots new ≡ pair_slots old
    pub newer_there : newer_at new b ≡ Some newer
    pub older_there : older_at new b ≡ Some older
    pub others : (c : ℕ) → c ≢ b → entry_at new c ≡ entry_at old c

module _ {K V N : Type 0} (number : N → ℕ) where
  -- `kind` and `other` are the two links of an entry. If the link `at` leads to an entry, the link `kind` of this entry
  -- is now `to`. All other links stay.
  pub record SetsLink (kind other : Entry K V N → N) (old new : List (Slot (Entry K V N))) (at to : N) : Type 0 where
    pub pairs : pair_slots new ≡ pair_slots old
    pub there : IsFull old (number at) → option_map kind (entry_at new (number at)) ≡ Some to
    pub others : (b : ℕ) → b ≢ number at → option_map kind (entry_at new b) ≡ option_map kind (entry_at old b)
    pub stays : (b : ℕ) → option_map other (entry_at new b) ≡ option_map other (entry_at old b)

  abbrev pub SetsNewer : (old new : List (Slot (Entry K V N))) (at to : N) → Type 0
  SetsNewer = SetsLink (λ entry. entry.newer) (λ entry. entry.older)

  abbrev pub SetsOlder : (old new : List (Slot (Entry K V N))) (at to : N) → Type 0
  SetsOlder = SetsLink (λ entry. entry.older) (λ entry. entry.newer)

module _ {N : Type 0} (number : N → ℕ) (none : N) (links : List N) where
  -- the link to the new bucket of an entry, if l is the link to its old bucket
  abbrev pub moved_link : N → N
  moved_link l = slice_index_or links (number l) none

  -- the link is `none`, or leads to a bucket for which `links` contains the new link
  abbrev pub HasPlace : N → Type 0
  HasPlace l = (l ≡ none) ⊎ (number l < length links)

  -- the links of the entry in bucket b now lead to the new buckets of the neighbours, and nothing else has changed
  pub record MovesLinks {K V : Type 0} (old new : List (Slot (Entry K V N))) (b : ℕ) : Type 0 where
    pub pairs : pair_slots new ≡ pair_slots old
    pub newer_there : newer_at new b ≡ option_map moved_link (newer_at old b)
    pub older_there : older_at new b ≡ option_map moved_link (older_at old b)
    pub others : (c : ℕ) → c ≢ b → entry_at new c ≡ entry_at old c

-- If the link `at` is `none`, the end of the chain is now `to`. If `at` leads to a bucket, the end has not changed.
pub record SetsEnd {N : Type 0} (none old new at to : N) : Type 0 where
  pub ends : at ≡ none → new ≡ to
  pub stays : at ≢ none → new ≡ old

module _ {K V N : Type 0} (number : N → ℕ) (link : ℕ → N) (none : N) where
  -- The links keep some full buckets in the order `order`. `newest` and `oldest` lead to the ends of the order, and
  -- each entry in these buckets has links to its neighbours. Links are wide enough for every bucket.
  pub record IsChain (slots : List (Slot (Entry K V N))) (newest oldest : N) (order : List ℕ) : Type 0 where
    pub reached : length slots < number none
    pub distinct : AllPairs ◌≢◌ order
    pub only : (b : ℕ) → Contains order b → IsFull slots b
    pub newest_first : newest ≡ link_to link none (first order)
    pub oldest_last : oldest ≡ link_to link none (last order)
    pub newer : (b : ℕ) → Contains order b → newer_at slots b ≡ Some (link_to link none (bucket_before b order))
    pub older : (b : ℕ) → Contains order b → older_at slots b ≡ Some (link_to link none (bucket_after b order))

  -- all full buckets are in the chain
  pub record IsWhole (slots : List (Slot (Entry K V N))) (newest oldest : N) (order : List ℕ) : Type 0 where
    pub chain : IsChain slots newest oldest order
    pub all : (b : ℕ) → IsFull slots b → Contains order b
    pub count : entry_count slots ≡ length order

  -- Bucket b is about to be taken out of the chain `order`. Its two links are `newer` and `older`. The slot of b may be
  -- free already. No other slot has changed.
  pub record IsGap (slots : List (Slot (Entry K V N))) (newest oldest : N) (order : List ℕ) (b : ℕ) (newer older : N)
      : Type 0 where
    pub before : List (Slot (Entry K V N))
    pub chain : IsChain before newest oldest order
    pub there : Contains order b
    pub newer_is : newer_at before b ≡ Some newer
    pub older_is : older_at before b ≡ Some older
    pub same : length slots ≡ length before
    pub others : (c : ℕ) → c ≢ b → bucket_at slots c ≡ bucket_at before c

  abbrev pub KeepsOrder : Chain K V N → List ℕ → Type 0
  KeepsOrder chain = IsChain chain.table.slots chain.newest chain.oldest

  abbrev pub HasGap : Chain K V N → List ℕ → ℕ → N → N → Type 0
  HasGap chain = IsGap chain.table.slots chain.newest chain.oldest

  -- the links keep an order of some buckets, and b is one of these buckets
  abbrev pub InChain : Chain K V N → ℕ → Type 0
  InChain chain b = (order : List ℕ) × KeepsOrder chain order × Contains order b

  -- the links keep an order of some buckets, and b is none of these buckets
  abbrev pub OutOfChain : Chain K V N → ℕ → Type 0
  OutOfChain chain b = (order : List ℕ) × KeepsOrder chain order × (Contains order b → ⊥)

  -- the entries have moved into new slots, but still have their old links
  abbrev pub Moved : Chain K V N → List N → Type 0
  Moved chain links = (before : List (Slot (Entry K V N))) × (order : List ℕ)
      × IsWhole before chain.newest chain.oldest order × Renumbers number none before chain.table.slots links
