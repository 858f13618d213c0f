-- An entry goes into the first free bucket.
use Rattle.std.proofs.Common.{◌≡◌, ◌≢◌, ℕ, ◌+◌, ◌-◌, ◌<◌, ◌≤◌, cond, List, length, get_or, set, ◌⊎◌, Option, Some, None}
use Rattle.std.proofs.Common.{Bool, false, refl, ap, sym, ◌∙◌, subst, arith, inl, inr, nat_eq, eq-eqb}
use Rattle.std.proofs.lemmas.Bool.{ltb-false, eqb-false, cases_eq, ne_eqb, false≢true}
use Rattle.group_table.specs.Bucket.{Slot, Tagged, empty, deleted, full, bucket_at, is_full, is_used, entry_count}
use Rattle.group_table.specs.Bucket.{bucket_state, growth_left, growth_left_at}
use Rattle.group_table.specs.Probe.{probed, Reaches, IsFirst, IsFirstFree}
use Rattle.group_table.specs.Change.{MayFill, HasNoPlace}
use Rattle.group_table.specs.Layout.{slot_of, slots_of, states_by, Agrees, IsValid, written}
use Rattle.group_table.specs.Control.{buckets_of}
use Rattle.group_table.specs.Group.{full_at}
use Rattle.group_table.proofs.BucketLemmas.{bucket_at-bucket_states, full_not_deleted}
use Rattle.group_table.proofs.ProbeLemmas.{probed-lt}
use Rattle.group_table.proofs.ControlLemmas.{buckets_are}
use Rattle.group_table.proofs.FitsLemmas.{Reaches-first}
use Rattle.group_table.proofs.LayoutLemmas.{length-laid_out, length-states_by, bucket_at-laid_out, is_full-byte}
use Rattle.group_table.proofs.LayoutLemmas.{byte_from_state}
use Rattle.group_table.proofs.WriteLemmas.{IsValid-written, entry_count-written}
use Rattle.group_table.proofs.TableLemmas.{empty_there, room_by, room_within}

module _ {T : Type 0} where
  free_empty : (byte : ℕ) (e : Option T) → Agrees byte e → 128 ≤ byte → byte ≡ 255 → (slot_of byte e ≡ empty)
      × (e ≡ None)
  free_empty byte (Some entry) p q h = absurd (omega arith)
  free_empty byte None p q h = (rw h, refl)

  pub free_slot : (byte : ℕ) (e : Option T) → Agrees byte e → 128 ≤ byte
      → ((slot_of byte e ≡ empty) ⊎ (slot_of byte e ≡ deleted)) × (e ≡ None)
  free_slot byte (Some entry) p q = absurd (omega arith)
  free_slot byte None (inl p) q = (inr (rw p), refl)
  free_slot byte None (inr p) q = (inl (rw p), refl)

  free_deleted : (byte : ℕ) (e : Option T) → Agrees byte e → 128 ≤ byte → byte ≢ 255 → (slot_of byte e ≡ deleted)
      × (e ≡ None)
  free_deleted byte (Some entry) p q h = absurd (omega arith)
  free_deleted byte None (inl p) q h = (rw p, refl)
  free_deleted byte None (inr p) q h = absurd (h p)

  -- how much growth an insertion takes: 1 at an empty bucket, and 0 at a deleted one
  abbrev pub Spends : Slot T → ℕ → ℕ → Type 0
  Spends s growth_left spent = ((s ≡ empty) × (0 < growth_left) × (spent ≡ 1)) ⊎ ((s ≡ deleted) × (spent ≡ 0))

  spends_state : (s : Slot T) (growth_left spent : ℕ) → is_full (bucket_state s) ≡ false → spent ≡ cond (is_used (bucket_state s)) 0 1
      → spent ≤ growth_left → Spends s growth_left spent
  spends_state empty growth_left spent free is within = inl (refl, omega (arith, is, within), is)
  spends_state deleted growth_left spent free is within = inr (refl, is)
  spends_state (full held) growth_left spent free is within = absurd (false≢true (sym free))

  free_of : (s : Slot T) (growth_left spent : ℕ) → Spends s growth_left spent → (is_full s ≡ false)
      × (cond (is_used s) 1 0 + spent ≡ 1) × (spent ≤ growth_left)
  free_of s growth_left spent (inl w) = rw w.0 (refl, omega (arith, w.2), omega (arith, w.1, w.2))
  free_of s growth_left spent (inr w) = rw w.0 (refl, omega (arith, w.1), omega (arith, w.1))

abbrev pub IsFreeFor : {T : Type 0} → List ℕ → List (Option T) → ℕ → ℕ → Type 0
IsFreeFor control entries hash b = Reaches (states_by control entries) hash b × (128 ≤ get_or control b 0)

pub some_empty_byte : {T : Type 0} (control : List ℕ) (entries : List (Option T)) (r : ℕ) → IsValid control entries r
    → 0 < length entries → (b : ℕ) × (b < length entries) × (get_or control b 0 ≡ 255)
some_empty_byte control entries r valid pos =
    let w = empty_there control entries r valid pos in
    let within : w.0 < length entries = omega (arith, w.1, length-states_by control entries valid.laid_out) in
    (w.0, within, byte_from_state control entries valid.laid_out w.0 within w.2)

pub some_free_byte : {T : Type 0} (control : List ℕ) (entries : List (Option T)) (r : ℕ) → IsValid control entries r
    → 0 < length entries → (b : ℕ) × (b < length entries) × (128 ≤ get_or control b 0)
some_free_byte control entries r valid pos = let w = some_empty_byte control entries r valid pos in
    (w.0, w.1, omega (arith, w.2))

pub some_buckets : {T : Type 0} {control : List ℕ} {entries : List (Option T)} {r : ℕ} → IsValid control entries r
    → 0 < growth_left (states_by control entries) → 0 < buckets_of control
some_buckets {T} {control} {entries} {r} valid some = omega (
  arith,
  some,
  room_by control entries r valid,
  room_within control entries r valid,
  buckets_are control entries valid.laid_out,
)

pub has_buckets : {n : ℕ} {t : Bool} → t ≡ nat_eq n 0 → t ≡ false → 0 < n
has_buckets {n} is fails = omega (arith, eqb-false n 0 (sym is ∙ fails))

module _ {T : Type 0} {control : List ℕ} {entries : List (Option T)} {r : ℕ} (valid : IsValid control entries r)
    (hash b : ℕ) (some : 0 < buckets_of control)
    (found : IsFirst (full_at control) (probed (buckets_of control) hash) b) where
  n_is : buckets_of control ≡ length entries
  n_is = buckets_are control entries valid.laid_out

  byte_first : IsFirst (full_at control) (probed (length entries) hash) b
  byte_first = subst (λ n. IsFirst (full_at control) (probed n hash) b) n_is found

  byte_free : 128 ≤ get_or control b 0
  byte_free = ltb-false _ 128 found.free_there

  visited : (step : ℕ) → probed (length entries) hash step < length entries
  visited step = probed-lt (length entries) hash step (omega (arith, some, n_is))

  pub place_within : b < length entries
  place_within = rw (← byte_first.there) (visited byte_first.step)

  pub place_first : IsFirstFree (states_by control entries) hash b
  place_first =
      let same = length-states_by control entries valid.laid_out in
      record {
        step = byte_first.step;
        there = rw same byte_first.there;
        free_there = is_full-byte control entries valid.laid_out b place_within ∙ byte_first.free_there;
        full_before = λ before p. rw same
            (is_full-byte control entries valid.laid_out _ (visited before) ∙ byte_first.full_before before p);
      }

  pub place_reached : IsFreeFor control entries hash b
  place_reached = (Reaches-first (states_by control entries) hash b place_first, byte_free)

  pub place_none : get_or entries b None ≡ None
  place_none = (free_slot _ _ (valid.laid_out.agrees b place_within) byte_free).1

  pub place_byte : Agrees {T = T} (get_or control b 0) None
  place_byte = subst (λ e. Agrees (get_or control b 0) e) place_none (valid.laid_out.agrees b place_within)

  module _ {read spent : ℕ} (read_is : read ≡ get_or control b 0) (spent_is : spent ≡ cond (nat_eq read 255) 1 0) where
    place_empty : read ≡ 255 → bucket_at (slots_of control entries) b ≡ empty
    place_empty h = bucket_at-laid_out control entries valid.laid_out b place_within
        ∙ (free_empty _ _ (valid.laid_out.agrees b place_within) byte_free (sym read_is ∙ h)).0

    place_deleted : read ≢ 255 → bucket_at (slots_of control entries) b ≡ deleted
    place_deleted h = bucket_at-laid_out control entries valid.laid_out b place_within
        ∙ (free_deleted _ _ (valid.laid_out.agrees b place_within) byte_free (λ e. h (read_is ∙ e))).0

    pub spends_one : spent ≤ 1
    spends_one = elim (cases_eq read 255) [
      | inl h ↦ omega (arith, spent_is ∙ ap (λ t. cond {A = ℕ} t 1 0) (eq-eqb read 255 h))
      | inr h ↦ omega (arith, spent_is ∙ ap (λ t. cond {A = ℕ} t 1 0) (ne_eqb read 255 h))
    ]

    pub place_spends : spent ≤ r → Spends (bucket_at (slots_of control entries) b) r spent
    place_spends enough =
        elim (cases_eq read 255) [
          | inl h ↦ let one : spent ≡ 1 = spent_is ∙ ap (λ t. cond {A = ℕ} t 1 0) (eq-eqb read 255 h) in
              inl (place_empty h, omega (arith, one, enough), one)
          | inr h ↦ inr (place_deleted h, spent_is ∙ ap (λ t. cond {A = ℕ} t 1 0) (ne_eqb read 255 h))
        ]

    pub no_place_left : r < spent → HasNoPlace (states_by control entries) hash
    no_place_left less =
        elim (cases_eq read 255) [
          | inl h ↦
              let one : spent ≡ 1 = spent_is ∙ ap (λ t. cond {A = ℕ} t 1 0) (eq-eqb read 255 h) in
              let none : r ≡ 0 = omega (arith, one, less) in
              let mark = bucket_at-bucket_states (slots_of control entries) b ∙ ap bucket_state (place_empty h) in
              inr (sym (room_by control entries r valid) ∙ none, b, place_first, mark)
          | inr h ↦ let none : spent ≡ 0 = spent_is ∙ ap (λ t. cond {A = ℕ} t 1 0) (ne_eqb read 255 h) in
              absurd (omega (arith, none, less))
        ]

module _ {T : Type 0} {control : List ℕ} {entries : List (Option T)} {r spent : ℕ} (valid : IsValid control entries r)
    (b : ℕ)
    (spends : Spends (bucket_at (slots_of control entries) b) r spent) where
  pub MayFill-from : MayFill (states_by control entries) b
  MayFill-from = elim spends [
    | inl w ↦ inl (rw (← room_by control entries r valid) w.1)
    | inr w ↦ inr (bucket_at-bucket_states (slots_of control entries) b ∙ rw w.0)
  ]

  pub room_spent : growth_left_at (states_by control entries) b ≡ spent
  room_spent = elim spends [
    | inl w ↦ ap (λ m. cond {A = ℕ} (is_used m) 0 1) (bucket_at-bucket_states (slots_of control entries) b ∙ ap bucket_state w.0)
        ∙ sym w.2
    | inr w ↦ ap (λ m. cond {A = ℕ} (is_used m) 0 1) (bucket_at-bucket_states (slots_of control entries) b ∙ ap bucket_state w.0)
        ∙ sym w.1
  ]

  module _ (tag : ℕ) (entry : T) (within : b < length entries) (tag_fits : tag < 128) where
    pub IsValid-placed : IsValid (written control entries b tag) (set entries b (Some entry)) (r - spent)
    IsValid-placed =
        let frees = free_of (bucket_at (slots_of control entries) b) r spent spends in
        IsValid-written control entries r valid b tag (Some entry) within tag_fits (r - spent)
        (omega (arith, frees.1, frees.2))
        (λ small e. full_not_deleted {A = Tagged T} (full (record { tag = tag; entry = entry })) refl e)

    pub entry_count-placed : entry_count (slots_of (written control entries b tag) (set entries b (Some entry)))
        ≡ entry_count (slots_of control entries) + 1
    entry_count-placed =
        let frees = free_of (bucket_at (slots_of control entries) b) r spent spends in
        let none : ◌≡◌ {A = ℕ} (cond (is_full (bucket_at (slots_of control entries) b)) 1 0) 0 =
        ap (λ t. cond {A = ℕ} t 1 0) frees.0 in
        omega (arith, none, entry_count-written control entries r valid b tag (Some entry) within tag_fits)

    pub growth_left-placed : growth_left (states_by (written control entries b tag) (set entries b (Some entry))) + growth_left_at
        (states_by control entries) b ≡ growth_left (states_by control entries)
    growth_left-placed =
        let frees = free_of (bucket_at (slots_of control entries) b) r spent spends in
        omega (arith, frees.2, room_spent, room_by _ _ _ IsValid-placed, room_by control entries r valid)

module _ {T : Type 0} {control : List ℕ} {entries : List (Option T)} {r : ℕ} (valid : IsValid control entries r)
    (b : ℕ) (bucket : b < length (slots_of control entries))
    (free : is_full (bucket_at (states_by control entries) b) ≡ false) where
  pub free_within : b < length entries
  free_within = omega (arith, bucket, length-laid_out control entries valid.laid_out)

  pub free_none : get_or entries b None ≡ None
  free_none =
      let byte = sym (is_full-byte control entries valid.laid_out b free_within) ∙ free in
      (free_slot _ _ (valid.laid_out.agrees b free_within) (ltb-false _ 128 byte)).1

  pub free_spends : (spent : ℕ) → spent ≡ growth_left_at (states_by control entries) b → spent ≤ growth_left (states_by control entries)
      → Spends (bucket_at (slots_of control entries) b) r spent
  free_spends spent is enough =
      let mark = bucket_at-bucket_states (slots_of control entries) b in
      spends_state _ r spent (sym (ap is_full mark) ∙ free)
      (is ∙ ap (λ m. cond {A = ℕ} (is_used m) 0 1) mark)
      (omega (arith, enough, room_by control entries r valid))
