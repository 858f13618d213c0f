-- A page cache: which blocks the cache shows, which pages are dirty, and what a crash may leave.
--     `d`: the ghost members of the device, such as `may_leave`.
use Rattle.std.specs.Prelude.{◌≡◌, ◌≢◌, ◌⊎◌, ◌+◌, ◌-◌, ◌^◌, ◌<◌, ℕ, zero, suc, min, Bool, true, false, not, ◌&&◌, ◌||◌}
use Rattle.std.specs.Prelude.{if◌then◌else◌, List, [], ◌∷◌, ◌++◌, map, length, reverse, filter, nat_eq, nat_lt, Option}
use Rattle.std.specs.Prelude.{Some, None, option_map, is_some, IsTrue, IsPermutation, Result, Ok, Err, IfErr, OnOk}
use Rattle.std.specs.List.{find}
use Rattle.std.specs.List.Sorted.{IsStrictlyIncreasing}
use Rattle.std.specs.Map.{lookup, keys_of, set_value}
use Rattle.lru_model.specs.Lists.{without}
use Rattle.lru_caches.specs.declared.device.BlockDevice as device
use Rattle.lru_caches.specs.declared.page_cache.pages.Counts.{Counts}
use Rattle.lru_caches.specs.declared.page_cache.pages.Page.{Page}
use Rattle.lru_caches.specs.declared.page_cache.PageError.{PageError}
use Rattle.lru_caches.specs.declared.page_cache.PageError.TheVariants.{Device, Memory, NoBlock, Broken, Full}

pub record Cached (B D : Type 0) : Type 0 where
  -- the cached pages by their numbers, newest first
  pub pages : List (ℕ × Page B)
  pub capacity : ℕ
  pub keeps_dirty : Bool
  -- The numbers of hits, misses and evicted pages. A successful read, write or pin is a hit if the page was in the
  -- cache, or else a miss.
  pub counts : Counts
  pub device : D

module _ {B : Type 0} where
  abbrev pub is_dirty : Option (Page B) → Bool
  is_dirty None = false
  is_dirty (Some page) = page.is_dirty

  abbrev pub is_pinned : Option (Page B) → Bool
  is_pinned None = false
  is_pinned (Some page) = page.is_pinned

  abbrev pub cleaned : List (ℕ × Page B) → List (ℕ × Page B)
  cleaned pages = map (λ p. (p.0, record p.1 { is_dirty = false })) pages

  abbrev pub with_clean : ℕ → Option (Page B) → List (ℕ × Page B) → List (ℕ × Page B)
  with_clean n None pages = pages
  with_clean n (Some page) pages = set_value (nat_eq n) pages (record page { is_dirty = false })

  abbrev pub cleaned_at : ℕ → List (ℕ × Page B) → List (ℕ × Page B)
  cleaned_at n pages = with_clean n (lookup (nat_eq n) pages) pages

  abbrev pub with_no_pin : ℕ → Option (Page B) → List (ℕ × Page B) → List (ℕ × Page B)
  with_no_pin n None pages = pages
  with_no_pin n (Some page) pages = set_value (nat_eq n) pages (record page { is_pinned = false })

  abbrev pub unpinned_at : ℕ → List (ℕ × Page B) → List (ℕ × Page B)
  unpinned_at n pages = with_no_pin n (lookup (nat_eq n) pages) pages

  -- whether a page may be evicted: it is not pinned, and is not a dirty page in a cache that keeps dirty pages
  abbrev pub may_go : Bool → Page B → Bool
  may_go keeps_dirty page = not (page.is_pinned || keeps_dirty && page.is_dirty)

  -- the number of the oldest page that may be evicted
  abbrev pub victim : Bool → List (ℕ × Page B) → Option ℕ
  victim keeps_dirty pages = option_map (λ p. p.0) (find (λ p. may_go keeps_dirty p.1) (reverse pages))

  abbrev pub evicted : Option ℕ → List (ℕ × Page B) → List (ℕ × Page B)
  evicted None pages = pages
  evicted (Some n) pages = without (nat_eq n) pages

  abbrev pub goes_dirty : Option ℕ → List (ℕ × Page B) → Bool
  goes_dirty None pages = false
  goes_dirty (Some n) pages = is_dirty (lookup (nat_eq n) pages)

  -- The cached pages just before a new page is cached. A full cache first evicts the oldest page that may be evicted.
  abbrev pub with_room : ℕ → Bool → List (ℕ × Page B) → List (ℕ × Page B)
  with_room capacity keeps_dirty pages =
      if nat_lt (length pages) capacity then pages else evicted (victim keeps_dirty pages) pages

  abbrev pub dirty_numbers : List (ℕ × Page B) → List ℕ
  dirty_numbers pages = keys_of (filter (λ p. p.1.is_dirty) pages)

abbrev pub hit : Counts → Counts
hit counts = record counts { hits = min (counts.hits + 1) (2 ^ 64 - 1) }

abbrev pub evicts : ℕ → Counts → Counts
evicts n counts = record counts { evictions = min (counts.evictions + n) (2 ^ 64 - 1) }

-- the counts after a miss, if n pages were evicted for the missing page
abbrev pub missed : ℕ → Counts → Counts
missed n counts = record (evicts n counts) { misses = min (counts.misses + 1) (2 ^ 64 - 1) }

module _ {B D : Type 0} where
  abbrev pub IsCached : ℕ → Cached B D → Type 0
  IsCached n cache = IsTrue (is_some (lookup (nat_eq n) cache.pages))

  abbrev pub dirty : Cached B D → ℕ → Bool
  dirty cache n = is_dirty (lookup (nat_eq n) cache.pages)

  abbrev pub pinned : Cached B D → ℕ → Bool
  pinned cache n = is_pinned (lookup (nat_eq n) cache.pages)

  -- The pages after a use of page n: page n comes first, and the other pages follow.
  abbrev pub pages_after : ℕ → Page B → Cached B D → List (ℕ × Page B)
  pages_after n page cache =
      (n, page) ∷ with_room cache.capacity cache.keeps_dirty (without (nat_eq n) cache.pages)

  -- how many pages are evicted before a new page is cached
  abbrev pub evictions : Cached B D → ℕ
  evictions cache = length cache.pages - length (with_room cache.capacity cache.keeps_dirty cache.pages)

  -- the counts after a successful call on page n
  abbrev pub counted : ℕ → Cached B D → Counts
  counted n cache = if is_some (lookup (nat_eq n) cache.pages) then hit cache.counts
      else missed (evictions cache) cache.counts

  abbrev pub pages_read : ℕ → B → Cached B D → List (ℕ × Page B)
  pages_read n block cache =
      pages_after n (record { block = block; is_dirty = dirty cache n; is_pinned = pinned cache n }) cache

  abbrev pub pages_written : ℕ → B → Cached B D → List (ℕ × Page B)
  pages_written n block cache =
      pages_after n (record { block = block; is_dirty = true; is_pinned = pinned cache n }) cache

  abbrev pub pages_pinned : ℕ → B → Cached B D → List (ℕ × Page B)
  pages_pinned n block cache =
      pages_after n (record { block = block; is_dirty = dirty cache n; is_pinned = true }) cache

  abbrev pub IsFull : ℕ → Cached B D → Type 0
  IsFull n cache = (lookup (nat_eq n) cache.pages ≡ None) × (length cache.pages ≡ cache.capacity)
      × (victim cache.keeps_dirty cache.pages ≡ None)

module _ {B D E S : Type 0} (d : device.Ghosts D B E S) where
  abbrev pub block_or : Option (Page B) → Option S → Option S
  block_or None block = block
  block_or (Some page) block = Some (d.seen page.block)

  abbrev pub block_at : List (ℕ × Page B) → D → ℕ → Option S
  block_at pages device n = block_or (lookup (nat_eq n) pages) (d.blocks device n)

  -- block n as a reader of the cache sees it
  abbrev pub shown : Cached B D → ℕ → Option S
  shown cache n = block_at cache.pages cache.device n

  abbrev pub IsGood : D → Type 0
  IsGood device = IsTrue (d.is_usable device) × d.IsHonest device

  -- If the device is good (`IsGood`), the cache still shows each block that the cache showed before.
  abbrev pub ShowsTheSame : Cached B D → Cached B D → Type 0
  ShowsTheSame old new = IsGood new.device → (n : ℕ) (block : S) → shown old n ≡ Some block → shown new n ≡ Some block

  -- the page was cached and dirty; `block` is torn, or is the block of the page
  abbrev pub IsWritten : Option (Page B) → S → Type 0
  IsWritten None block = ⊥
  IsWritten (Some page) block = IsTrue page.is_dirty × ((block ≡ d.seen page.block) ⊎ d.IsTorn block)

  -- A crash after the call leaves each block as a crash before the call might leave it. If page n is dirty, block n may
  -- also be the block of this page, or torn.
  abbrev pub CrashAdds : List (ℕ × Page B) → D → D → Type 0
  CrashAdds pages old new = (n : ℕ) (block : S) → d.may_leave new n block
      → d.may_leave old n block ⊎ IsWritten (lookup (nat_eq n) pages) block

  abbrev pub CrashKeeps : D → D → Type 0
  CrashKeeps old new = (n : ℕ) (block : S) → d.may_leave new n block → d.may_leave old n block

  -- If the device is good (`IsGood`), each clean page n contains the device's block n.
  abbrev pub AreClean : List (ℕ × Page B) → D → Type 0
  AreClean pages device = IsGood device → (n : ℕ) (page : Page B) → lookup (nat_eq n) pages ≡ Some page
      → page.is_dirty ≡ false → d.blocks device n ≡ Some (d.seen page.block)

  abbrev pub AreThere : List (ℕ × Page B) → D → Type 0
  AreThere pages device = (n : ℕ) (page : Page B) → lookup (nat_eq n) pages ≡ Some page → IsTrue (d.has device n)

  pub record Serves (old new : D) : Type 0 where
    pub numbers : (n : ℕ) → d.has new n ≡ d.has old n
    pub usable : d.is_usable new ≡ d.is_usable old
    pub honest : d.IsHonest new → d.IsHonest old

  -- The pages with these numbers were written to the device, one after another. The device got no other call.
  abbrev pub AreWritten : List ℕ → List (ℕ × Page B) → D → D → Type 0
  AreWritten [] pages old new = new ≡ old
  AreWritten (n ∷ numbers) pages old new = (page : Page B) × (between : D) × (lookup (nat_eq n) pages ≡ Some page)
      × d.write_gives old n (d.seen page.block) between × AreWritten numbers pages between new

  -- A flush wrote each dirty page once, in the order of the page numbers, and then synced the device.
  pub record IsFlush (pages : List (ℕ × Page B)) (old new : D) : Type 0 where
    pub numbers : List ℕ
    pub all_dirty : IsPermutation (dirty_numbers pages) numbers
    pub ascending : IsStrictlyIncreasing numbers
    pub written : D
    pub writes : AreWritten numbers pages old written
    pub synced : d.sync_gives written new

  -- a flush that stopped after some of its writes, or that failed in the `sync` after all writes
  pub record IsCutOff (pages : List (ℕ × Page B)) (old new : D) : Type 0 where
    pub numbers : List ℕ
    pub rest : List ℕ
    pub all_dirty : IsPermutation (dirty_numbers pages) (numbers ++ rest)
    pub ascending : IsStrictlyIncreasing (numbers ++ rest)
    pub written : D
    pub writes : AreWritten numbers pages old written
    pub ends : (new ≡ written) ⊎ ((rest ≡ []) × d.sync_gives written new)

  abbrev pub IsFault : D → D → PageError E → Type 0
  IsFault old new (Device e) = d.faults new ≢ d.faults old
  IsFault old new Memory = ⊥
  IsFault old new NoBlock = ⊥
  IsFault old new Broken = ⊥
  IsFault old new Full = ⊥

  abbrev pub IsFlushCause : D → D → PageError E → Type 0
  IsFlushCause old new e = IsFault old new e ⊎ ((e ≡ Broken) × (d.is_usable old ≡ false))

  -- A failed call changes no page and no count. But if memory ran out after an eviction, the evicted page is gone, and
  -- the eviction is counted.
  abbrev pub Leaves : Cached B D → Cached B D → PageError E → Type 0
  Leaves old new e = ((new.pages ≡ old.pages) × (new.counts ≡ old.counts))
      ⊎ ((e ≡ Memory) × (new.pages ≡ with_room old.capacity old.keeps_dirty old.pages)
      × (new.counts ≡ evicts (evictions old) old.counts))

  abbrev pub IsCause : ℕ → Cached B D → D → PageError E → Type 0
  IsCause n old new e = IsFault old.device new e ⊎ ((e ≡ Broken) × (d.is_usable old.device ≡ false))
      ⊎ ((e ≡ NoBlock) × (d.has old.device n ≡ false)) ⊎ (e ≡ Memory) ⊎ ((e ≡ Full) × IsFull n old)

  -- what every read, every write and every pin of page n does
  pub record UsesPage {A : Type 0} (n : ℕ) (old : Cached B D) (result : Result A (PageError E)) (new : Cached B D)
      : Type 0 where
    pub crash : CrashAdds old.pages old.device new.device
    pub unwritten : IsTrue old.keeps_dirty → CrashKeeps old.device new.device
    pub untouched : IsCached n old → new.device ≡ old.device
    pub serves : Serves old.device new.device
    pub cause : IfErr result (IsCause n old new.device)
    pub left : IfErr result (Leaves old new)
    pub full : result ≡ Err Full → new ≡ old
    pub capacity : new.capacity ≡ old.capacity
    pub mode : new.keeps_dirty ≡ old.keeps_dirty
    pub counted : OnOk result (new.counts ≡ counted n old)

  pub record ReadsPage (n : ℕ) (old new : Cached B D) : Type 0 where
    pub block : B
    pub shows : d.IsHonest new.device → shown new n ≡ Some (d.seen block)
    pub pages : new.pages ≡ pages_read n block old
    pub usable : d.is_usable old.device ≡ false → IsCached n old
    pub uses : UsesPage {A = Unit {0}} n old (Ok tt) new

  pub record ReadFails (n : ℕ) (old : Cached B D) (e : PageError E) (new : Cached B D) : Type 0 where
    pub absent : IsCached n old → ⊥
    pub broken : d.is_usable old.device ≡ false → e ≡ Broken
    pub uses : UsesPage {A = Unit {0}} n old (Err e) new

  -- `count` pages, beginning with page `start`, were read one after another
  abbrev pub ReadsPages : ℕ → ℕ → Cached B D → Cached B D → Type 0
  ReadsPages start zero old new = new ≡ old
  ReadsPages start (suc count) old new =
      (between : Cached B D) × ReadsPages start count old between × ReadsPage (start + count) between new

  -- The pages from page `start` on were read one after another, until a read failed. The page of the failed read is
  -- below `end`.
  abbrev pub ReadsUntil : ℕ → ℕ → Cached B D → Cached B D → PageError E → Type 0
  ReadsUntil start end old new e = (count : ℕ) × (start + count < end) × (between : Cached B D)
      × ReadsPages start count old between × ReadFails (start + count) between e new
