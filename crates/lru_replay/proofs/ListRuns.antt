-- If growth is permitted, calls do to a map what they do to a list of pairs without a table.
use Rattle.std.proofs.Common.{◌≡◌, ℕ, Bool, true, false, cond, List, [], ◌∷◌, Some, None, Result, ap}
use Rattle.std.proofs.Common.{sym, ◌∙◌, ◌⊎◌, subst, inl, inr, arith, ◌+◌, ◌*◌, ◌≤◌, suc, length}
use Rattle.std.specs.List.{IsDistinct}
use Rattle.std.specs.declared.alloc.AllocError.{AllocError}
use Rattle.lru_limits.specs.Rules.{Rules, Offers}
use Rattle.lru_model.proofs.CallerLemmas.{any_step_same, has_tables, shrink_contents}
use Rattle.lru_model.proofs.PassingLemmas.{insert_granted}
use Rattle.lru_model.specs.Exact.{AlwaysGrants, HasTables, HasTableFor, InsertsInList}
use Rattle.lru_model.specs.Calls.{cleared}
use Rattle.lru_model.specs.GetOrInserts.{MakesNewest, got, inserted}
use Rattle.lru_model.specs.Callbacks.{noting, noting_offers, noted, InsertPasses}
use Rattle.lru_model.specs.Inserts.{Insert}
use Rattle.lru_model.specs.Lists.{lookup, lookup_entry, after, newest_value, keys_of}
use Rattle.lru_model.specs.Place.{asked}
use Rattle.lru_model.specs.Reservations.{Reserve, unchanged, rehashed, reserved, asked_only}
use Rattle.lru_model.specs.Runs.{AnyStep}
use Rattle.lru_model.specs.Sizes.{usage}
use Rattle.lru_model.specs.State.{State, Contents, contents, IsMap}
use Rattle.lru_model.specs.Updates.{Update, updated, rejected, not_there}
use Rattle.lru_model.specs.declared.results.Updated.{Updated}
use Rattle.lru_model.specs.declared.results.ReserveError.{ReserveError}
use Rattle.lru_replay.specs.CallRuns.{IsRun, CallStep, ListCallStep}
use Rattle.lru_replay.specs.Replies.{Reply, value, made_reply}
use Rattle.lru_replay.specs.Steps.{ReplyStep, ListStep, beside, updated_in_list}
use Rattle.lru_replay.specs.declared.calls.Call.{Call}
use Rattle.lru_replay.specs.declared.calls.Call.TheVariants as calls

newest_found : {K V : Type 0} (names : K → Bool) (others xs : List (K × V)) (w : V) → lookup names xs ≡ Some w
    → newest_value (after (lookup_entry names xs) others) ≡ Some w
newest_found names others [] w found = absurd (grind (arith, found))
newest_found names others (x ∷ xs) w found = go (names x.0) found (newest_found names others xs w)
  where
    go : (b : Bool) → cond b (Some x.1) (lookup names xs) ≡ Some w
        → (lookup names xs ≡ Some w → newest_value (after (lookup_entry names xs) others) ≡ Some w)
        → newest_value (after (cond b (Some x) (lookup_entry names xs)) others) ≡ Some w
    go true found later = found
    go false found later = later found

update_is : {K V S H : Type 0} {rules : Rules K V S} {offers : Offers K V S K} {eq : K → K → Bool} {key : K} {v : V}
    {old new : State K V S H} {result : Updated V} → Update rules offers eq key v old result new
    → updated_in_list rules offers eq key v (contents old) ≡ (result, contents new)
update_is (updated there found y r l) = rw found (rw y (λ j. (sym r j, sym (ap contents l.is) j)))
update_is (rejected there found y r l) = rw found (rw y (λ j. (sym r j, sym (ap contents l.is) j)))
update_is (not_there none r e) = rw none (λ j. (sym r j, sym (ap contents e) j))

module _ {K V S H : Type 0} (rules : Rules K V S) (offers : Offers K V S K) (eq : K → K → Bool)
    (hash_of : H → K → ℕ) where
  abbrev pub InsertsAsInList : Type 0
  InsertsAsInList = (key : K) (value : V) (old : State K V S H) (result : Result Bool AllocError) (new : State K V S H)
      → AlwaysGrants rules → HasTables old → Insert rules offers eq hash_of key value old result new
      → InsertsInList rules offers eq key value (contents old) result (contents new)

  module _ (law : InsertsAsInList) (grants : AlwaysGrants rules) where
    module _ (old new : State K V S H) where
      asked_same : (bytes : ℕ) → contents (asked rules bytes old) ≡ contents old
      asked_same bytes = ap (λ s. record { pairs = old.pairs; limiter = s }) (grants old.limiter bytes).1

      reserve_same : (n : ℕ) (result : Result (Unit {0}) ReserveError) → Reserve rules n old result new
          → contents new ≡ contents old
      reserve_same n result (unchanged why e) = ap contents e
      reserve_same n result (rehashed l t r m) = ap contents m.state
      reserve_same n result (reserved l count bytes t g r m) = ap contents m.state ∙ asked_same bytes
      reserve_same n result (asked_only l count bytes t f e) = ap contents e ∙ asked_same bytes

    noting_grants : AlwaysGrants (noting rules)
    noting_grants s bytes = ((grants s.0 bytes).0, ap (λ t. (t, s.1)) (grants s.0 bytes).1)

    module _ (old new : State K V S H) (tables : HasTables old) where
      passed_in_list : (key : K) (v : V) (result : Result Bool AllocError) (out : List (K × V))
          → InsertPasses rules offers eq hash_of key v old result out new
          → InsertsInList (noting rules) (noting_offers offers) eq key v (beside [] (contents old)) result
          (beside out (contents new))
      passed_in_list key v result out step = insert_granted (noting rules) (noting_offers offers) eq key v
          (noted [] old) (noted out new) result noting_grants tables step

      made_in_list : (key : K) (v : V) (result : Result Bool AllocError) (reply : Reply K V)
          → MakesNewest rules offers eq hash_of (λ made. made ≡ v) key old result new
          → reply ≡ made_reply result new.pairs
          → ListStep rules offers eq (hash_of old.hasher) (contents old) (calls.GetOrInsert key v) reply (contents new)
      made_in_list key v result reply (got w found r e) is = rw found (
        is ∙ ap (λ x. made_reply x new.pairs) r ∙ ap (λ st. value (newest_value st.pairs)) e
            ∙ ap value (newest_found (eq key) _ old.pairs w found),
        ap contents e,
      )
      made_in_list key v result reply (inserted none w made step) is = rw none (
        result,
        law key v old result new grants tables (subst (λ x. Insert rules offers eq hash_of key x old result
            new) made step),
        is,
      )

      in_list : (call : Call K V S) (reply : Reply K V) → ReplyStep rules offers eq hash_of old call reply new
          → ListStep rules offers eq (hash_of old.hasher) (contents old) call reply (contents new)
      in_list (calls.Insert k v) reply (result, h, is) = (result, law k v old result new grants tables h, is)
      in_list (calls.InsertWith k v) reply (r, h, is) = (r, passed_in_list k v r.0 r.1 h, is)
      in_list (calls.GetOrInsert k v) reply (result, h, is) = made_in_list k v result reply h is
      in_list (calls.Update k v) reply (result, h, is) = (result, update_is h, is)
      in_list (calls.GetByHash hash k) reply (Some w, (h, e), is) = (Some w, (h, ap contents e), is)
      in_list (calls.GetByHash hash k) reply (None, (h, e), is) = (None, (h, ap contents e), is)
      in_list (calls.PeekByHash hash k) reply (result, (h, e), is) = (result, (h, ap contents e), is)
      in_list (calls.Remove k) reply (is, left) = (is, ap contents left.is)
      in_list (calls.RemoveEntry k) reply (is, left) = (is, ap contents left.is)
      in_list calls.PopOldest reply (is, left) = (is, ap contents left.is)
      in_list calls.PopNewest reply (is, left) = (is, ap contents left.is)
      in_list (calls.Reserve n) reply (result, h, is) = (result, reserve_same old new n result h, is)
      in_list calls.Shrink reply (result, h, is) = (result, shrink_contents old result new h, is)
      in_list calls.Trim reply (is, left) = (is, ap contents left.is)
      in_list (calls.Drain front back) reply (out, h, is) =
          (out, (h.pairs, ap contents h.state.2 ∙ ap (λ st. contents (cleared rules st)) h.state.1.is), is)
      in_list calls.Stats reply (figures, (h, e), is) = (figures, (h.len, ap contents e), is)
      in_list call reply h = (h.0, ap contents h.1)

      pub call_in_list : (call : Call K V S) (reply : Reply K V) → CallStep rules offers eq hash_of old call reply new
          → ListCallStep rules offers eq (hash_of old.hasher) (contents old) call reply (contents new)
      call_in_list call reply (inl step) = inl (in_list call reply step)
      call_in_list call reply (inr (stores, is, e)) = inr (stores, is, ap contents e)

module _ {K V S H : Type 0} {rules : Rules K V S} {offers : Offers K V S K} {eq : K → K → Bool} {hash_of : H → K → ℕ}
    {IsStep : State K V S H → Call K V S → Reply K V → State K V S H → Type 0}
    (moves : (old new : State K V S H) (call : Call K V S) (reply : Reply K V) → IsStep old call reply new
    → AnyStep rules offers eq hash_of old new ⊎ (new ≡ old)) where
  pub same_hasher : (old new : State K V S H) (call : Call K V S) (reply : Reply K V) → IsStep old call reply new
      → new.hasher ≡ old.hasher
  same_hasher old new call reply step = elim (moves old new call reply step) [
    | inl any ↦ (any_step_same old new any).0
    | inr same ↦ ap (λ st. st.hasher) same
  ]

  module _ (IsListStep : (K → ℕ) → Contents K V S → Call K V S → Reply K V → Contents K V S → Type 0)
      (in_list : (old new : State K V S H) → HasTables old → (call : Call K V S) (reply : Reply K V)
      → IsStep old call reply new → IsListStep (hash_of old.hasher) (contents old) call reply (contents new)) where
    pub run_in_list : (hasher : H) (old : State K V S H) (calls : List (Call K V S)) (replies : List (Reply K V))
        (new : State K V S H) → old.hasher ≡ hasher → HasTables old
        → IsRun IsStep (λ st. IsMap eq st × HasTables st) old calls replies new
        → IsRun (IsListStep (hash_of hasher)) (λ c. IsDistinct eq (keys_of c.pairs)) (contents old) calls replies
        (contents new)
    run_in_list hasher old [] [] new built tables same = ap contents same
    run_in_list hasher old (call ∷ calls) (reply ∷ replies) new built tables (mid, step, (map, more), run) = (
      contents mid,
      subst (λ h. IsListStep (hash_of h) (contents old) call reply (contents mid)) built
          (in_list old mid tables call reply step),
      map.distinct,
      run_in_list hasher mid calls replies new (same_hasher old mid call reply step ∙ built) more run,
    )
    run_in_list hasher old calls replies new built tables none = absurd none

  module _ (adds : (old new : State K V S H) → AnyStep rules offers eq hash_of old new
      → length new.pairs ≤ length old.pairs + 1) where
    table_stays : (n m : ℕ) (old new : State K V S H) → m ≤ n → new.max ≡ old.max → new.entry_bytes ≡ old.entry_bytes
        → HasTableFor n old → HasTableFor m new
    table_stays n m old new few max bytes t = record {
      count = t.count;
      bytes = t.bytes;
      power = t.power;
      reached = omega (arith, max, t.reached);
      usable = ap (λ e. usage e t.count) bytes ∙ t.usable;
      takes = omega (arith, few, t.takes);
    }

    call_reaches : (calls : ℕ) (old new : State K V S H) (call : Call K V S) (reply : Reply K V)
        → IsStep old call reply new → HasTableFor (8 * (length old.pairs + suc calls + 1)) old
        → HasTableFor (8 * (length new.pairs + calls + 1)) new
    call_reaches calls old new call reply step t = elim (moves old new call reply step) [
      | inl any ↦ let same = any_step_same old new any in
          table_stays _ _ old new (omega (arith, adds old new any)) same.1 same.2 t
      | inr same ↦ table_stays _ _ old new (omega (arith, ap (λ st. length st.pairs) same)) (ap (λ st. st.max) same)
          (ap (λ st. st.entry_bytes) same) t
    ]

    run_reaches : (old : State K V S H) (calls : List (Call K V S)) (replies : List (Reply K V)) (new : State K V S H)
        → HasTableFor (8 * (length old.pairs + length calls + 1)) old → IsRun IsStep (IsMap eq) old calls replies new
        → IsRun IsStep (λ st. IsMap eq st × HasTables st) old calls replies new
    run_reaches old [] [] new t same = same
    run_reaches old (call ∷ calls) (reply ∷ replies) new t (mid, step, map, run) =
        let next = call_reaches (length calls) old mid call reply step t in
        (mid, step, (map, has_tables _ mid next (omega arith) map.sized), run_reaches mid calls replies new next run)
    run_reaches old calls replies new t none = absurd none

    pub whole_reaches : (old : State K V S H) (calls : List (Call K V S)) (replies : List (Reply K V))
        (new : State K V S H) → HasTableFor (8 * (length old.pairs + length calls + 1)) old → IsMap eq old
        → IsRun IsStep (IsMap eq) old calls replies new
        → HasTables old × IsRun IsStep (λ st. IsMap eq st × HasTables st) old calls replies new
    whole_reaches old calls replies new t map run =
        (has_tables _ old t (omega arith) map.sized, run_reaches old calls replies new t run)
