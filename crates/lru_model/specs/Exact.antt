-- How an insert changes a list of pairs and a limiter. If no allocation fails, the outcome of the insert depends only
-- on its arguments, the list, the limiter, the result of `on_insert` and the report of the table.
use Rattle.std.specs.Prelude.{◌≡◌, ◌≢◌, ℕ, ◌+◌, ◌-◌, ◌/◌, ◌<◌, ◌≤◌, nat_lt, nat_le, Bool, true, false, not}
use Rattle.std.specs.Prelude.{if◌then◌else◌, ◌∷◌, length, Option, Some, None, MatchOption, Result, Ok, IsErr}
use Rattle.std.specs.declared.alloc.AllocError.{AllocError}
use Rattle.lru_limits.specs.Rules.{Rules, Offers}
use Rattle.group_table.specs.Sizes.{IsPowerFromFour, full_capacity}
use Rattle.lru_model.specs.Sizes.{usage, Target, target, no_table, same_table, new_table}
use Rattle.lru_model.specs.Lists.{is_empty, lookup_entry}
use Rattle.lru_model.specs.State.{State, buckets, growth_left, Contents, contents, Leaves, after_removal, pops, trim}
use Rattle.lru_model.specs.Place.{table_for, IsOutgrown}
use Rattle.lru_model.specs.Inserts.{make_room, replacement, with_replaced, with_removed, MayGive}

-- what the table reports when a pair is inserted
pub record Report : Type 0 where
  -- the bytes of the larger table for which the limiter was queried, or `None` without a query
  pub asked : Option ℕ
  -- the number of oldest pairs that were evicted because growth was refused
  pub evicted : ℕ
  -- whether there is a bucket for the pair
  pub has_bucket : Bool

-- the report of a table that has a bucket for the pair, and so queries nothing and evicts nothing
abbrev pub at_once : Report
at_once = record { asked = None; evicted = 0; has_bucket = true }

module _ {K V S : Type 0} (rules : Rules K V S) where
  -- The report of a table that cannot grow: the n oldest pairs of c are evicted. If c has no pairs, there is no bucket
  -- for the new pair.
  abbrev pub refusal : Option ℕ → ℕ → Contents K V S → Report
  refusal asked n c = record { asked = asked; evicted = n; has_bucket = not (is_empty c.pairs) }

  -- the report of a table that would grow into the given `Target`
  abbrev pub report_of : Target → ℕ → Contents K V S → Report
  report_of no_table n c = refusal None n c
  report_of same_table n c = at_once
  report_of (new_table count bytes) n c =
      if (rules.on_grow c.limiter bytes).allowed then record { asked = Some bytes; evicted = 0; has_bucket = true }
      else refusal (Some bytes) n c

  -- what the table of a map may report for a pair with this hash
  pub data MayReport {H : Type 0} (hash : ℕ) (st : State K V S H) (report : Report) : Type 0 where
    -- The limiter is not queried, and no pair is evicted. Growth is left, or a rehash is enough, or a deleted bucket
    -- may take the pair. Only tables of more than 16 buckets have deleted buckets.
    fits : (growth_left st ≡ 0 → full_capacity (buckets st) / 2 < length st.pairs + 1 → 16 < buckets st) →
        report ≡ at_once →
        MayReport hash st report
    -- If growth is refused, n pairs are evicted. In a table of up to 16 buckets, n is 1.
    too_small : IsOutgrown hash st → (n : ℕ) → 0 < n → (buckets st ≤ 16 → n ≡ 1) →
        full_capacity (buckets st) / 2 + n ≤ length st.pairs + 1 →
        report ≡ report_of (table_for 1 st) n (contents st) →
        MayReport hash st report

  -- What a table of up to 16 buckets reports. c is what is left of the map `st` after removals. Each removed pair
  -- raised `growth_left` by one.
  abbrev pub small_report : {H : Type 0} → State K V S H → Contents K V S → Report
  small_report st c =
      if nat_lt 0 (growth_left st + length st.pairs - length c.pairs) then at_once
      else (if nat_le (length c.pairs + 1) (full_capacity (buckets st) / 2) then at_once
      else report_of (target st.max st.entry_bytes (buckets st) (length c.pairs + 1)) 1 c)

  abbrev pub queried : Option ℕ → S → S
  queried None s = s
  queried (Some bytes) s = (rules.on_grow s bytes).limiter

  -- the contents after the query and the evictions of the report
  abbrev pub met : Report → Contents K V S → Contents K V S
  met report c = pops rules report.evicted (record { pairs = c.pairs; limiter = queried report.asked c.limiter })

  -- the contents after a trim, and whether the map still has pairs
  abbrev pub trimmed : Contents K V S → Result Bool AllocError × Contents K V S
  trimmed c = (Ok (not (is_empty (trim rules c).pairs)), trim rules c)

  -- the pair is not stored, and the limiter is notified of the pair
  abbrev pub not_stored : Report → K × V → Contents K V S → Contents K V S
  not_stored report pair c = let d = met report c in after_removal rules (Some pair) d.pairs d.limiter

  -- If there is a bucket for the pair, the pair is stored as the newest, and a trim follows. If there is no bucket, the
  -- pair is not stored.
  abbrev pub stored : Report → K × V → Contents K V S → Result Bool AllocError × Contents K V S
  stored report pair c = let d = met report c in
      if report.has_bucket then trimmed (record { pairs = pair ∷ d.pairs; limiter = d.limiter })
      else (Ok false, not_stored report pair c)

-- If the limiter accepts the new value, the pair gets this value and becomes the newest, and a trim follows. If the
-- limiter rejects the new value, the pair is removed.
abbrev pub exchanged : {K V S I : Type 0} (rules : Rules K V S) (offers : Offers K V S I) (names : I → K → Bool) (i : I)
    (v : V) → Contents K V S → K × V → Result Bool AllocError × Contents K V S
exchanged rules offers names i v c pair =
    if (replacement rules offers names pair i v c).taken then trimmed rules (with_replaced rules offers names pair i v c)
    else (Ok false, with_removed rules offers names pair i v c)

-- An insert into a list of pairs. `Tells s pair report` means that the table may report `report` if `on_insert`
-- returned `pair` and changed the limiter to s.
module _ {K V S I : Type 0} (rules : Rules K V S) (offers : Offers K V S I) (names : I → K → Bool)
    (Tells : S → K × V → Report → Type 0) (i : I) (v : V) (old : Contents K V S) (result : Result Bool AllocError)
    (new : Contents K V S) where
  pub data InsertsNew : Type 0 where
    -- The limiter either runs out of memory or returns no pair to store.
    not_offered : offers.may_run_out old.limiter (length old.pairs) i v → IsErr result → new ≡ old → InsertsNew
    not_admitted : (s : S) → MayGive rules offers names i v old s None →
        result ≡ Ok false → new ≡ record { pairs = old.pairs; limiter = s } → InsertsNew
    -- The limiter returns a pair. If there is a bucket for the pair, the pair is stored, unless memory runs out.
    admitted : (s : S) (pair : K × V) → MayGive rules offers names i v old s (Some pair) →
        (report : Report) → Tells s pair report →
        stored rules report pair (make_room rules (record { pairs = old.pairs; limiter = s })) ≡ (result, new) →
        InsertsNew
    not_placed : (s : S) (pair : K × V) → MayGive rules offers names i v old s (Some pair) →
        (report : Report) → Tells s pair report → IsErr result →
        new ≡ not_stored rules report pair (make_room rules (record { pairs = old.pairs; limiter = s })) →
        InsertsNew

  abbrev pub InsertsBy : Type 0
  InsertsBy = MatchOption (lookup_entry (names i) old.pairs) InsertsNew
      (λ pair. exchanged rules offers names i v old pair ≡ (result, new))

module _ {K V S I : Type 0} (rules : Rules K V S) (offers : Offers K V S I) (names : I → K → Bool) where
  -- an insert into a list of pairs, if `reports s pair` is the report of the table
  abbrev pub InsertsGiven : (S → K × V → Report) → I → V → Contents K V S → Result Bool AllocError → Contents K V S →
      Type 0
  InsertsGiven reports = InsertsBy rules offers names (λ s pair report. report ≡ reports s pair)

  -- an insert into a list of pairs without a table
  abbrev pub InsertsInList : I → V → Contents K V S → Result Bool AllocError → Contents K V S → Type 0
  InsertsInList = InsertsGiven (λ s pair. at_once)

  module _ {H : Type 0} (old : State K V S H) where
    -- an insert into the map `old`, with a report that the table of `old` may make
    abbrev pub InsertsAsReported : (H → K → ℕ) → I → V → Result Bool AllocError → Contents K V S → Type 0
    InsertsAsReported hash_of i v = InsertsBy rules offers names (λ s pair report. (ready : State K V S H)
        × Leaves (record old { limiter = s }) (make_room rules (record { pairs = old.pairs; limiter = s })) ready
        × MayReport rules (hash_of ready.hasher pair.0) ready report) i v (contents old)

    -- an insert into the map `old`, with `small_report` as the report
    abbrev pub InsertsInSmallTable : I → V → Result Bool AllocError → Contents K V S → Type 0
    InsertsInSmallTable i v = InsertsGiven (λ s pair. small_report rules old
        (make_room rules (record { pairs = old.pairs; limiter = s }))) i v (contents old)

-- the limiter and the arguments determine the result of `on_insert` and the limiter afterwards
abbrev pub IsDetermined : {K V S I : Type 0} → Offers K V S I → Type 0
IsDetermined {K} {V} {S} {I} offers = (s : S) (n : ℕ) (i : I) (v : V) (t u : S) (given other : Option (K × V)) →
    offers.on_insert s n i v t given → offers.on_insert s n i v u other → (t ≡ u) × (given ≡ other)

-- the limiter permits every growth of the table, and growth does not change the limiter
abbrev pub AlwaysGrants : {K V S : Type 0} → Rules K V S → Type 0
AlwaysGrants {K} {V} {S} rules = (s : S) (bytes : ℕ) →
    ((rules.on_grow s bytes).allowed ≡ true) × ((rules.on_grow s bytes).limiter ≡ s)

-- There is a table for n pairs: links are wide enough for this table, and the table takes at most 2 ^ 63 - 16 bytes.
pub record HasTableFor {K V S H : Type 0} (n : ℕ) (st : State K V S H) : Type 0 where
  pub count : ℕ
  pub bytes : ℕ
  pub power : IsPowerFromFour count
  pub reached : count < st.max
  pub usable : usage st.entry_bytes count ≡ Some bytes
  pub takes : n ≤ full_capacity count

abbrev pub HasTables : {K V S H : Type 0} → State K V S H → Type 0
HasTables st = (table_for 1 st ≢ no_table) × (table_for 0 st ≢ no_table)
