-- Insertions into the table are paid for. A reservation is included if no growth was left before it.
use Rattle.std.proofs.Common.{◌≡◌, ℕ, ◌+◌, ◌≤◌, Bool, Result, Ok, length, ap, subst, arith, true}
use Rattle.std.proofs.lemmas.Map.{length-set_value}
use Rattle.std.specs.declared.alloc.AllocError.{AllocError}
use Rattle.group_table.specs.Sizes.{full_capacity}
use Rattle.lru_limits.specs.Rules.{Rules, Offers}
use Rattle.lru_limits.specs.Admissions.{Terms, offers_of}
use Rattle.lru_model.specs.State.{State, buckets, growth_left, potential, IsSized}
use Rattle.lru_model.specs.Place.{Place, Outcome, placed, refused, no_memory, unstored}
use Rattle.lru_model.specs.Inserts.{Insert, replaced, not_replaced, no_memory_to_admit, not_admitted, admitted}
use Rattle.lru_model.specs.Updates.{updated, rejected, not_there}
use Rattle.lru_model.specs.Reservations.{Reserve, unchanged, rehashed, reserved, asked_only}
use Rattle.lru_model.specs.Shrinks.{Shrink, kept, shrunk, no_memory_to_shrink}
use Rattle.lru_model.specs.TryInserts.{TryInsert, there, cannot_store, unready, inserted}
use Rattle.lru_model.specs.TryInserts.{has_growth, reserved as got_growth, not_reserved, cannot_store_then}
use Rattle.lru_model.specs.Runs.{AnyStep, calls, writes, sets_limiter, Run, ends, goes_on}
use Rattle.lru_model.specs.Runs.{inserts, updates, gets, demotes, removes, pops_oldest, pops_newest}
use Rattle.lru_model.specs.Runs.{drains, clears, reserves, shrinks, trims, retains}
use Rattle.lru_model.specs.PaidInsertions.{ReservesIfFull, PaidStep, tries, others}
use Rattle.lru_model.specs.Theorems.{PaysForInsertions}
use Rattle.lru_model.proofs.TableSizes.SizedStates.{fits}
use Rattle.lru_model.proofs.TableSizes.NextTable.{larger_half}
use Rattle.lru_model.proofs.TableSizes.Growth.{target-same}
use Rattle.lru_model.proofs.States.Promotions.{length-front_pairs, length-back_pairs}
use Rattle.lru_model.proofs.Theorems.Moves.{keeps_any}
use Rattle.lru_model.proofs.Theorems.Potential.{IsBounded, bounded_of, paid_self, paid_trans}
use Rattle.lru_model.proofs.Theorems.TableGrowth.{Calm, calm_trans, calm_bounded, self_calm, limiter_calm, leaves_calm}
use Rattle.lru_model.proofs.Theorems.TableGrowth.{settles_calm}
use Rattle.lru_model.proofs.Theorems.CallChanges.{pairs_calm, cleared_calm}
use Rattle.lru_model.proofs.Theorems.Ways.{Lands, place_lands}

module _ {K V S H : Type 0} where
  abbrev pub RisesBy : ℕ → State K V S H → State K V S H → Type 0
  RisesBy n old new = new.counts.insertions + potential new ≤ old.counts.insertions + potential old + n

  pub record StoresOne (old new : State K V S H) : Type 0 where
    pub rises : RisesBy 3 old new
    pub pays : PaysForInsertions old new

  pub record StoresNone (old new : State K V S H) : Type 0 where
    pub rises : RisesBy 0 old new
    pub placed : new.counts.placed ≡ old.counts.placed
    pub shrunk : new.counts.shrunk ≡ old.counts.shrunk

  none_paid : {old new : State K V S H} → StoresNone old new → PaysForInsertions old new
  none_paid n = record {
    placed = omega (arith, n.placed);
    shrunk = omega (arith, n.shrunk);
    rise = λ h below. omega (arith, n.rises, n.placed, n.shrunk);
  }

  calm_none : (old new : State K V S H) → Calm old new → StoresNone old new
  calm_none old new f = record {
    rises = omega (arith, ap (λ c. c.insertions) f.counts, ap full_capacity f.table, f.keeps);
    placed = ap (λ c. c.placed) f.counts;
    shrunk = ap (λ c. c.shrunk) f.counts;
  }

  none_one : {old new : State K V S H} → StoresNone old new → StoresOne old new
  none_one n = record { rises = omega (arith, n.rises); pays = none_paid n }

  none_then : {old mid new : State K V S H} → StoresNone old mid → StoresOne mid new → StoresOne old new
  none_then n o = record { rises = omega (arith, n.rises, o.rises); pays = paid_trans (none_paid n) o.pays }

  then_none : {old mid new : State K V S H} → StoresOne old mid → StoresNone mid new → StoresOne old new
  then_none o n = record { rises = omega (arith, n.rises, o.rises); pays = paid_trans o.pays (none_paid n) }

module _ {K V S H : Type 0} (rules : Rules K V S) (hash_of : H → K → ℕ) (pair : K × V) (old : State K V S H)
    (ok : IsBounded old) where
  place_one : (outcome : Outcome) (new : State K V S H) → Place rules hash_of pair old outcome new → StoresOne old new
  place_one outcome new step =
      let way = place_lands rules (λ c d. Unit {0}) keeps_any.way (λ _. Unit {0}) hash_of pair old tt outcome new step
      in land outcome way.mid way.calm way.lands
    where
      away : (mid : State K V S H) → Calm old mid → new ≡ unstored rules pair mid → StoresOne old new
      away mid f e = none_one (calm_none old new (rw e (calm_trans old mid _ f (limiter_calm mid _))))

      land : (outcome : Outcome) (mid : State K V S H) → Calm old mid
          → Lands rules (λ _. Unit {0}) pair old outcome mid new → StoresOne old new
      land placed mid f l =
          let counts = ap (λ st. st.counts) l.is.state in
          let paid : l.moves + potential new ≤ potential old + 2 = rw (l.is.table, l.left) (l.paid ok) in
          let inserted = ap (λ c. c.insertions) counts in
          let stored = ap (λ c. c.placed) counts in
          let rehashed = ap (λ c. c.shrunk) counts in
          let before = ap (λ c. c.insertions) f.counts in
          let was = ap (λ c. c.placed) f.counts in
          let kept = ap (λ c. c.shrunk) f.counts in
          record {
            rises = omega (arith, paid, inserted, before);
            pays = record {
              placed = omega (arith, stored, was, ok.placed);
              shrunk = omega (arith, rehashed, kept);
              rise = λ h below. omega (arith, paid, inserted, before, stored, was, rehashed, kept, h);
            };
          }
      land refused mid f l = away mid f l.1
      land no_memory mid f l = away mid f l

module _ {K V S H I : Type 0} {rules : Rules K V S} {offers : Offers K V S I} {names : I → K → Bool}
    {hash_of : H → K → ℕ} {i : I} {v : V} {old : State K V S H} (ok : IsBounded old) {result : Result Bool AllocError}
    {new : State K V S H} where
  pub insert_one : Insert rules offers names hash_of i v old result new → StoresOne old new
  insert_one (replaced pair found y r l) = none_one (calm_none old new (leaves_calm old _ new l))
  insert_one (not_replaced pair found y r l) = none_one (calm_none old new (leaves_calm old _ new l))
  insert_one (no_memory_to_admit a l r e) = rw e (none_one (calm_none old old (self_calm old)))
  insert_one (not_admitted a s n r e) = rw e (none_one (calm_none old _ (limiter_calm old s)))
  insert_one (admitted a s pair n (ready, l, (outcome, landed, step, rest))) =
      let calm = calm_trans old (record old { limiter = s }) ready (limiter_calm old s) (leaves_calm _ _ ready l) in
      none_then (calm_none old ready calm)
      (then_none (place_one rules hash_of pair ready (calm_bounded old ready calm ok) outcome landed step)
      (calm_none landed new (settles_calm rules outcome landed result new rest)))

module _ {K V S H : Type 0} (rules : Rules K V S) (n : ℕ) (old : State K V S H) (ok : IsSized old)
    (full : growth_left old ≡ 0) where
  pub reserve_none : (result : Result (Unit {0}) _) (new : State K V S H) → Reserve rules n old result new
      → StoresNone old new
  reserve_none result new (unchanged why e) = rw e (calm_none old old (self_calm old))
  reserve_none result new (rehashed l t r m) = record {
    rises = omega (
      arith,
      full,
      fits ok,
      m.exact,
      ap full_capacity m.table,
      ap (λ st. st.counts.insertions) m.state,
      target-same old.max old.entry_bytes (buckets old) (length old.pairs + n) t,
    );
    placed = ap (λ st. st.counts.placed) m.state;
    shrunk = ap (λ st. st.counts.shrunk) m.state;
  }
  reserve_none result new (reserved l count bytes t g r m) = record {
    rises = omega (
      arith,
      full,
      fits ok,
      m.exact,
      ap full_capacity m.table,
      ap (λ st. st.counts.insertions) m.state,
      larger_half n old ok (omega (arith, l.0)) count bytes t,
    );
    placed = ap (λ st. st.counts.placed) m.state;
    shrunk = ap (λ st. st.counts.shrunk) m.state;
  }
  reserve_none result new (asked_only l count bytes t f e) = rw e (calm_none old _ (limiter_calm old _))

module _ {K V S H : Type 0} where
  shrink_paid : (old new : State K V S H) (result : Result Bool AllocError) → IsSized old → Shrink old result new
      → PaysForInsertions old new
  shrink_paid old new result ok (kept t r e) = rw e (paid_self old)
  shrink_paid old new result ok (shrunk count l r m) = record {
    placed = omega (arith, ap (λ st. st.counts.placed) m.state);
    shrunk = omega (arith, ok.shrunk, ap (λ st. st.counts.shrunk) m.state);
    rise = λ h below. omega (
      arith,
      m.exact,
      ap full_capacity m.table,
      ap (λ st. st.counts.insertions) m.state,
      ap (λ st. st.counts.placed) m.state,
      ap (λ st. st.counts.shrunk) m.state,
      below,
    );
  }
  shrink_paid old new result ok (no_memory_to_shrink count l some r e) = rw e (paid_self old)

module _ {K V S H : Type 0} {terms : Terms K V S} {rules : Rules K V S} {eq : K → K → Bool} {hash_of : H → K → ℕ} where
  any_paid : (old new : State K V S H) → IsSized old → (step : AnyStep rules (offers_of terms) eq hash_of old new)
      → ReservesIfFull terms rules eq hash_of old new step → PaysForInsertions old new
  any_paid old new ok (calls (inserts key value result h)) full = (insert_one (bounded_of old ok) h).pays
  any_paid old new ok (calls (updates key value result (updated pair f t r l))) full =
      none_paid (calm_none old new (leaves_calm old _ new l))
  any_paid old new ok (calls (updates key value result (rejected pair f t r l))) full =
      none_paid (calm_none old new (leaves_calm old _ new l))
  any_paid old new ok (calls (updates key value result (not_there a r e))) full = rw e (paid_self old)
  any_paid old new ok (calls (gets test e)) full =
      none_paid (calm_none old new (rw e (pairs_calm rules old _ _ (length-front_pairs test old.pairs))))
  any_paid old new ok (calls (demotes test e)) full =
      none_paid (calm_none old new (rw e (pairs_calm rules old _ _ (length-back_pairs test old.pairs))))
  any_paid old new ok (calls (removes test result h)) full = none_paid (calm_none old new (leaves_calm old _ new h.state))
  any_paid old new ok (calls (pops_oldest result h)) full = none_paid (calm_none old new (leaves_calm old _ new h.state))
  any_paid old new ok (calls (pops_newest result h)) full = none_paid (calm_none old new (leaves_calm old _ new h.state))
  any_paid old new ok (calls (drains newest oldest result h)) full = let (mid, l, e) = h.state in
      none_paid (calm_none old new (rw e (calm_trans old mid _ (leaves_calm old _ mid l) (cleared_calm rules mid))))
  any_paid old new ok (calls (clears e)) full = none_paid (calm_none old new (rw e (cleared_calm rules old)))
  any_paid old new ok (calls (reserves n result h)) full = none_paid (reserve_none rules n old ok full result new h)
  any_paid old new ok (calls (shrinks result h)) full = shrink_paid old new result ok h
  any_paid old new ok (calls (trims l)) full = none_paid (calm_none old new (leaves_calm old _ new l))
  any_paid old new ok (calls (retains asked each l)) full = none_paid (calm_none old new (leaves_calm old _ new l))
  any_paid old new ok (writes test value e) full =
      none_paid (calm_none old new (rw e (pairs_calm rules old _ _ (length-set_value test old.pairs value))))
  any_paid old new ok (sets_limiter s e) full = none_paid (calm_none old new (rw e (limiter_calm old s)))

  pub try_insert_one : (key : K) (value : V) (old new : State K V S H) (result : Result (Unit {0}) (K × V))
      → IsSized old → TryInsert terms rules key value old eq hash_of result new → StoresOne old new
  try_insert_one key value old new result ok (there pair found r e) = rw e (none_one (calm_none old old (self_calm old)))
  try_insert_one key value old new result ok (cannot_store a c r e) = rw e (none_one (calm_none old old (self_calm old)))
  try_insert_one key value old new result ok (unready a c (not_reserved full error h) r) =
      none_one (reserve_none rules 1 old ok full _ new h)
  try_insert_one key value old new result ok (unready a c (cannot_store_then full h _) r) =
      none_one (reserve_none rules 1 old ok full _ new h)
  try_insert_one key value old new result ok (inserted a c ready (has_growth some e) _ r h) =
      insert_one (bounded_of old ok) (subst (λ st. Insert rules (offers_of terms) eq hash_of key value st (Ok true) new) e h)
  try_insert_one key value old new result ok (inserted a c ready (got_growth full h sized) _ r step) =
      none_then (reserve_none rules 1 old ok full _ ready h) (insert_one (bounded_of ready sized) step)

  paid_step : (old new : State K V S H) → IsSized old → PaidStep terms rules eq hash_of old new
      → PaysForInsertions old new
  paid_step old new ok (tries key value result h) = (try_insert_one key value old new result ok h).pays
  paid_step old new ok (others step full) = any_paid old new ok step full

  pub paid_run : (new old : State K V S H) → Run (PaidStep terms rules eq hash_of) new old → IsSized old
      → PaysForInsertions old new
  paid_run new old ends ok = paid_self new
  paid_run new old (goes_on mid step sized run) ok = paid_trans (paid_step old mid ok step) (paid_run new mid run sized)
