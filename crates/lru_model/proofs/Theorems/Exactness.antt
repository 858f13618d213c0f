-- The list, the limiter and the report of the table determine how an insert ends.
use Rattle.std.proofs.Common.{◌≡◌, ℕ, ◌+◌, ◌-◌, ◌/◌, ◌≤◌, inl, inr, Bool, true, false, [], length, Option, Some}
use Rattle.std.proofs.Common.{None, Result, Ok, refl, sym, ap, ◌∙◌, subst, arith}
use Rattle.std.specs.Prelude.{not, IsOk, MatchOption}
use native.Mathlib.Decide.{dec_lt}
use Rattle.lru_limits.specs.Rules.{Rules, Offers}
use Rattle.group_table.specs.Sizes.{full_capacity}
use Rattle.lru_model.specs.Lists.{is_empty, last, without_last, lookup_entry}
use Rattle.lru_model.specs.Sizes.{target}
use Rattle.lru_model.specs.State.{State, buckets, growth_left, Contents, contents, Leaves, after_removal, pop, pops, trim}
use Rattle.lru_model.specs.Place.{Place, in_bucket, rehashed, grown, not_grown}
use Rattle.lru_model.specs.Place.{nothing_to_evict, finds_bucket, rehashes}
use Rattle.lru_model.specs.Place.{CannotGrow, no_target, denied, table_for, Outcome, placed, refused, no_memory}
use Rattle.lru_model.specs.Place.{IsPlaced, IsPlacedIfMemory, asked}
use Rattle.std.specs.declared.alloc.AllocError.{AllocError}
use Rattle.std.proofs.lemmas.Bool.{lt-ltb, le-ltb, le-leb, lt-leb}
use Rattle.lru_model.proofs.PairLists.Emptiness.{is_empty-some}
use Rattle.lru_model.specs.Inserts.{Insert, replaced, not_replaced, no_memory_to_admit}
use Rattle.lru_model.specs.Inserts.{make_room, with_replaced, Settles, MayGive}
use Rattle.lru_model.specs.Inserts as inserts
use Rattle.lru_model.proofs.States.LeavingPairs.{known_is, oldest_leaves}
use Rattle.lru_model.proofs.States.Outcomes.{ok-not_err}
use Rattle.lru_model.proofs.Theorems.Moves.{behind, left_are}
use Rattle.lru_model.specs.Exact.{Report, at_once, refusal, report_of, MayReport, fits, too_small, small_report}
use Rattle.lru_model.specs.Exact.{queried, met, trimmed, not_stored, stored, InsertsNew, not_offered, not_admitted}
use Rattle.lru_model.specs.Exact.{admitted, not_placed, InsertsBy, InsertsGiven}
use Rattle.lru_model.specs.Exact.{exchanged}
use Rattle.lru_model.specs.Exact.{IsDetermined}

module _ {K V S : Type 0} (rules : Rules K V S) (pair : K × V) where
  -- the contents after an insertion with this report and this outcome
  abbrev pub Lands : Report → Contents K V S → Outcome → Contents K V S → Type 0
  Lands report c placed new = (report.has_bucket ≡ true) × (new ≡ behind pair (met rules report c))
  Lands report c refused new = (report.has_bucket ≡ false) × (new ≡ not_stored rules report pair c)
  Lands report c no_memory new = new ≡ not_stored rules report pair c

module _ {K V S H : Type 0} (rules : Rules K V S) (pair : K × V) where
  if_memory : (report : Report) (c : Contents K V S) → report.has_bucket ≡ true → (st : State K V S H)
      → contents st ≡ met rules report c → (count spare moves : ℕ) (outcome : Outcome) (new : State K V S H)
      → IsPlacedIfMemory rules pair count spare moves st outcome new → Lands rules pair report c outcome (contents new)
  if_memory report c there st same count spare moves placed new h =
      (there, ap contents h.0.state ∙ ap (behind pair) same)
  if_memory report c there st same count spare moves no_memory new h =
      ap contents h ∙ ap (λ d. after_removal rules (Some pair) d.pairs d.limiter) same
  if_memory report c there st same count spare moves refused new h = absurd h

  is_placed : (report : Report) (c : Contents K V S) → report.has_bucket ≡ true → (st : State K V S H)
      → contents st ≡ met rules report c → {count moves : ℕ} (outcome : Outcome) (new : State K V S H)
      → outcome ≡ placed → IsPlaced pair count moves st new → Lands rules pair report c outcome (contents new)
  is_placed report c there st same outcome new o p = rw o (there, ap contents p.state ∙ ap (behind pair) same)

  module _ (hash_of : H → K → ℕ) (old : State K V S H) where
    -- a report that the table may make, and that agrees with this outcome
    pub record Reported (outcome : Outcome) (new : State K V S H) : Type 0 where
      pub report : Report
      pub may : MayReport rules (hash_of old.hasher pair.0) old report
      pub lands : Lands rules pair report (contents old) outcome (contents new)

    -- growth was refused, after a query or without one
    record Refused (mid : State K V S H) : Type 0 where
      asked : Option ℕ
      report : (n : ℕ) → refusal rules asked n (contents old) ≡ report_of rules (table_for 1 old) n (contents old)
      left : record { pairs = old.pairs; limiter = queried rules asked old.limiter } ≡ contents mid

    is_refused : (mid : State K V S H) → CannotGrow rules old mid → Refused mid
    is_refused mid (no_target t e) =
        record { asked = None; report = λ n. rw t refl; left = sym (ap contents e) }
    is_refused mid (denied count bytes t d e) =
        record { asked = Some bytes; report = λ n. rw (t, d) refl; left = sym (ap contents e) }

    pop_none : (c : Contents K V S) → c.pairs ≡ [] → pop rules c ≡ c
    pop_none c e = (λ j. after_removal rules (last (e j)) (without_last (e j)) c.limiter)
        ∙ sym (λ j. record { pairs = e j; limiter = c.limiter })

    pub place_reports : (outcome : Outcome) (new : State K V S H) → Place rules hash_of pair old outcome new
        → Reported outcome new
    place_reports outcome new (in_bucket l f s o n) = record {
      report = at_once;
      may = fits (λ none half. elim s.spends [ inl e ↦ absurd (omega (arith, e.1, none)) | inr d ↦ d.1 ]) refl;
      lands = is_placed at_once (contents old) refl old refl outcome new o n;
    }
    place_reports outcome new (rehashed b l some m) = record {
      report = at_once;
      may = fits (λ none half. absurd (omega (arith, l, half))) refl;
      lands = if_memory at_once (contents old) refl old refl _ _ _ outcome new m;
    }
    place_reports outcome new (grown b count bytes t g m) =
        let report : Report = record { asked = Some bytes; evicted = 0; has_bucket = true } in record {
          report = report;
          may = too_small b 1 (omega arith) (λ _. refl) (omega (arith, b.above_half)) (rw (t, g) refl);
          lands = if_memory report (contents old) refl (asked rules bytes old) refl _ _ _ outcome new m;
        }
    place_reports outcome new (not_grown b mid c (nothing_to_evict e o n)) =
        let r = is_refused mid c in
        let none = ap (λ st. st.pairs) (known_is rules old mid c) ∙ e in record {
          report = refusal rules r.asked 1 (contents old);
          may = too_small b 1 (omega arith) (λ _. refl) (omega (arith, b.above_half)) (r.report 1);
          lands = rw o (
            ap (λ pairs. not (is_empty pairs)) e,
            ap contents n
                ∙ ap (λ d. after_removal rules (Some pair) d.pairs d.limiter)
                (sym (pop_none (contents mid) none) ∙ ap (pop rules) (sym r.left)),
          );
        }
    place_reports outcome new (not_grown b mid c (finds_bucket n pos one half left gone fills o p)) =
        let r = is_refused mid c in let report = refusal rules r.asked n (contents old) in record {
          report = report;
          may = too_small b n pos one (omega (arith, half)) (r.report n);
          lands = is_placed report (contents old) (ap not (is_empty-some old.pairs (omega (arith, pos, half)))) left
              (ap contents (oldest_leaves rules _ n mid left gone).is ∙ ap (pops rules n) (sym r.left)) outcome new o p;
        }
    place_reports outcome new (not_grown b mid c (rehashes some n pos one half left gone m)) =
        let r = is_refused mid c in let report = refusal rules r.asked n (contents old) in record {
          report = report;
          may = too_small b n pos one (omega (arith, half)) (r.report n);
          lands = if_memory report (contents old) (ap not (is_empty-some old.pairs some)) left
              (ap contents (oldest_leaves rules _ n mid left gone).is ∙ ap (pops rules n) (sym r.left)) _ _ _ outcome
              new m;
        }

trimmed_is : {K V S H : Type 0} (rules : Rules K V S) (mid : State K V S H) (c : Contents K V S)
    (result : Result Bool AllocError) (new : State K V S H) → result ≡ Ok (not (is_empty new.pairs))
    → Leaves mid (trim rules c) new → trimmed rules c ≡ (result, contents new)
trimmed_is rules mid c result new r l =
    ap (λ d. (Ok (not (is_empty d.pairs)), d)) (sym (left_are mid (trim rules c) new l))
    ∙ ap (λ x. (x, contents new)) (sym r)

module _ {K V S H : Type 0} (rules : Rules K V S) (old : State K V S H) where
  abbrev pub way : S → Contents K V S
  way s = make_room rules (record { pairs = old.pairs; limiter = s })

  -- `Tells` permits another report with which the insert ends the same way
  pub record Told (Tells : S → K × V → Report → Type 0) (s : S) (pair : K × V) (report : Report) : Type 0 where
    pub other : Report
    pub told : Tells s pair other
    pub bucket : other.has_bucket ≡ report.has_bucket
    pub same : met rules report (way s) ≡ met rules other (way s)

  lands_as : {Tells : S → K × V → Report → Type 0} (s : S) (pair : K × V) (report : Report)
      (t : Told Tells s pair report) (outcome : Outcome) (new : Contents K V S)
      → Lands rules pair report (way s) outcome new → Lands rules pair t.other (way s) outcome new
  lands_as s pair report t placed new h = (t.bucket ∙ h.0, h.1 ∙ ap (behind pair) t.same)
  lands_as s pair report t refused new h =
      (t.bucket ∙ h.0, h.1 ∙ ap (λ d. after_removal rules (Some pair) d.pairs d.limiter) t.same)
  lands_as s pair report t no_memory new h = h ∙ ap (λ d. after_removal rules (Some pair) d.pairs d.limiter) t.same

module _ {K V S I H : Type 0} (rules : Rules K V S) (offers : Offers K V S I) (names : I → K → Bool)
    {hash_of : H → K → ℕ} (i : I) (v : V) (old : State K V S H) (result : Result Bool AllocError)
    (new : State K V S H) where
  pub insert_reports : Insert rules offers names hash_of i v old result new
      → (report : Report) × ((Tells : S → K × V → Report → Type 0)
      → ((s : S) (pair : K × V) → MayGive rules offers names i v (contents old) s (Some pair) → (ready : State K V S H)
      → Leaves (record old { limiter = s }) (way rules old s) ready
      → MayReport rules (hash_of ready.hasher pair.0) ready report → Told rules old Tells s pair report)
      → InsertsBy rules offers names Tells i v (contents old) result (contents new))
  insert_reports (replaced pair found y r l) = (
    at_once,
    λ Tells tell. rw (found, y)
        (trimmed_is rules old (with_replaced rules offers names pair i v (contents old)) result new r l),
  )
  insert_reports (not_replaced pair found y r l) =
      (at_once, λ Tells tell. rw (found, y) (λ j. (sym r j, sym (left_are old _ new l) j)))
  insert_reports (no_memory_to_admit a k r e) = (at_once, λ Tells tell. rw a (not_offered k r (ap contents e)))
  insert_reports (inserts.not_admitted a s n r e) =
      (at_once, λ Tells tell. rw a (not_admitted s n r (ap contents e)))
  insert_reports (inserts.admitted a s pair n (ready, l, (outcome, landed, p, t))) = (
    w.report,
    λ Tells tell. rw a (settles Tells (tell s pair n ready l w.may) outcome
        (subst (λ c. Lands rules pair w.report c outcome (contents landed)) (ap contents l.is) w.lands) t),
  )
    where
      w : Reported rules pair hash_of ready outcome landed
      w = place_reports rules pair hash_of ready outcome landed p

      settles : (Tells : S → K × V → Report → Type 0) → Told rules old Tells s pair w.report → (outcome : Outcome)
          → Lands rules pair w.report (way rules old s) outcome (contents landed)
          → Settles rules outcome landed result new
          → InsertsNew rules offers names Tells i v (contents old) result (contents new)
      settles Tells told outcome h t = go outcome (lands_as rules old s pair w.report told outcome _ h) t
        where
          go : (outcome : Outcome) → Lands rules pair told.other (way rules old s) outcome (contents landed)
              → Settles rules outcome landed result new
              → InsertsNew rules offers names Tells i v (contents old) result (contents new)
          go placed h t = admitted s pair n told.other told.told (rw h.0
              (ap (trimmed rules) (sym h.1) ∙ trimmed_is rules landed (contents landed) result new t.0 t.1))
          go refused h t = admitted s pair n told.other told.told
              (rw h.0 (λ j. (sym t.0 j, (sym h.1 ∙ ap contents (sym t.1)) j)))
          go no_memory h t = not_placed s pair n told.other told.told t.0 (ap contents t.1 ∙ h)

module _ {K V S I : Type 0} (rules : Rules K V S) (offers : Offers K V S I) (names : I → K → Bool)
    (reports : S → K × V → Report) (i : I) (v : V) (old : Contents K V S) where
  abbrev Ended : Type 0
  Ended = Result Bool AllocError × Contents K V S

  -- how an insert of a new key ends, from what `on_insert` returned
  abbrev ending_new : S → Option (K × V) → Ended
  ending_new s None = (Ok false, record { pairs = old.pairs; limiter = s })
  ending_new s (Some pair) =
      stored rules (reports s pair) pair (make_room rules (record { pairs = old.pairs; limiter = s }))

  abbrev New : Result Bool AllocError → Contents K V S → Type 0
  New result new =
      InsertsNew rules offers names (λ s pair report. report ≡ reports s pair) i v old result new

  new_ends : (result : Result Bool AllocError) (new : Contents K V S) → IsOk result → New result new
      → (s : S) × (given : Option (K × V)) × MayGive rules offers names i v old s given
      × (ending_new s given ≡ (result, new))
  new_ends result new ok (not_offered k r e) = ok-not_err result ok r
  new_ends result new ok (not_admitted s n r e) = (s, None, n, λ j. (sym r j, sym e j))
  new_ends result new ok (admitted s pair n report t e) = (
    s,
    Some pair,
    n,
    ap
        (λ report. stored rules report pair (make_room rules (record { pairs = old.pairs; limiter = s }))) (sym t) ∙ e,
  )
  new_ends result new ok (not_placed s pair n report t r e) = ok-not_err result ok r

  pub inserts_alike : IsDetermined offers → (result other : Result Bool AllocError) (new others : Contents K V S)
      → IsOk result → IsOk other → InsertsGiven rules offers names reports i v old result new
      → InsertsGiven rules offers names reports i v old other others → (result ≡ other) × (new ≡ others)
  inserts_alike determined result other new others ok good h k =
      let same = go (lookup_entry (names i) old.pairs) h k in (ap (λ x. x.0) same, ap (λ x. x.1) same)
    where
      There : Result Bool AllocError → Contents K V S → K × V → Type 0
      There result new pair = exchanged rules offers names i v old pair ≡ (result, new)

      go : (o : Option (K × V)) → MatchOption o (New result new) (There result new)
          → MatchOption o (New other others) (There other others) → ◌≡◌ {A = Ended} (result, new) (other, others)
      go None h k =
          let a = new_ends result new ok h in let b = new_ends other others good k in
          let d = determined old.limiter (length old.pairs) i v a.0 b.0 a.1 b.1 a.2 b.2 in
          sym a.3 ∙ (λ j. ending_new (d.0 j) (d.1 j)) ∙ b.3
      go (Some pair) h k = sym h ∙ k

module _ {K V S H : Type 0} (rules : Rules K V S) (old : State K V S H) (small : buckets old ≤ 16) (s : S)
    (ready : State K V S H) (l : Leaves (record old { limiter = s }) (way rules old s) ready) where
  pub reports_small : (hash : ℕ) (report : Report) → MayReport rules hash ready report
      → report ≡ small_report rules old (way rules old s)
  reports_small hash report may = go may
    where
      c : Contents K V S
      c = way rules old s

      same : contents ready ≡ c
      same = ap contents l.is

      spare : ℕ
      spare = growth_left old + length old.pairs - length c.pairs

      left : growth_left ready ≡ spare
      left = omega (arith, l.growth_left.exact small, ap (λ d. length d.pairs) same)

      half : (length ready.pairs + 1 ≡ length c.pairs + 1)
          × (full_capacity (buckets ready) / 2 ≡ full_capacity (buckets old) / 2)
      half = (ap (λ d. length d.pairs + 1) same, ap (λ n. full_capacity n / 2) l.growth_left.table)

      go : MayReport rules hash ready report → report ≡ small_report rules old c
      go (fits large e) = e ∙ elim (dec_lt 0 spare) [
        | yes some ↦ rw (lt-ltb 0 spare some) refl
        | no none ↦ elim (dec_lt (full_capacity (buckets old) / 2) (length c.pairs + 1)) [
          | yes above ↦
              let huge = large (omega (arith, left, none)) (omega (arith, above, half)) in
              absurd (omega (arith, huge, l.growth_left.table, small))
          | no below ↦ rw (
            le-ltb 0 spare (omega (arith, none)),
            le-leb (length c.pairs + 1) (full_capacity (buckets old) / 2) (omega (arith, below)),
          ) refl
        ]
      ]
      go (too_small b n pos one bound e) = e
          ∙ ap (λ n. report_of rules (table_for 1 ready) n (contents ready)) (one (omega (arith, l.growth_left.table, small)))
          ∙ (λ j. report_of rules (target (l.is j).max (l.is j).entry_bytes (l.growth_left.table j)
          (length (same j).pairs + 1)) 1 (same j))
          ∙ rw (
            le-ltb 0 spare (omega (arith, left, b.no_bucket.no_growth_left)),
            lt-leb (length c.pairs + 1) (full_capacity (buckets old) / 2) (omega (arith, b.above_half, half)),
          ) refl
