use Rattle.std.proofs.Common.{◌≡◌, ℕ, ◌≤◌, Bool, true, cond, List, ◌∷◌, length, take}
use Rattle.std.proofs.Common.{Option, Some, None, Result, Ok, Err, refl, sym, ap, ◌∙◌, subst, arith}
use Rattle.std.proofs.lemmas.Bool.{lt-ltb}
use Rattle.std.proofs.lemmas.List.{take_all}
use Rattle.std.proofs.lemmas.Map.{keys-set_value}
use Rattle.std.proofs.lemmas.Map.Entries.{length-keys_of}
use Rattle.std.proofs.lemmas.Map.Made.{length-remove_key}
use Rattle.std.specs.Cmp.{IsEquivalence}
use Rattle.std.specs.Prelude.{IsOk, option_map, unwrap_or}
use Rattle.std.specs.List.{list_any}
use Rattle.std.specs.Set.{remove_key}
use Rattle.std.specs.declared.alloc.AllocError.{AllocError}
use Rattle.group_table.specs.Change.{count_up}
use Rattle.lru_limits.specs.Admissions.{Terms, offers_of}
use Rattle.lru_limits.specs.Limiters.{length_rules, length_terms, length_offers}
use Rattle.lru_limits.specs.Limits.{length-limits}
use Rattle.lru_limits.specs.Rules.{Rules}
use Rattle.lru_model.proofs.CallerLemmas.{found_named, promoted_sized, read_back}
use Rattle.lru_model.proofs.Theorems.NewestInserts.{keeps_on, keeps_written, leaves_newest}
use Rattle.lru_model.proofs.Theorems.RunLimits.{step_keeps_number}
use Rattle.lru_model.specs.Calls.{promoted, written}
use Rattle.lru_model.specs.Exact.{AlwaysGrants}
use Rattle.lru_model.specs.GetOrInserts.{MakesNewest, got, inserted, MakesNewestIfMade, failed, as_made}
use Rattle.lru_model.specs.Inserts.{Insert}
use Rattle.lru_model.specs.Kept.{KeepsToLength, stored_key}
use Rattle.lru_model.specs.Lists.{keys_of, lookup, lookup_entry, without, after, front}
use Rattle.lru_model.specs.Reservations.{Reserve, unchanged, rehashed, reserved, asked_only}
use Rattle.lru_model.specs.Runs.{inserts, gets, reserves}
use Rattle.lru_model.specs.State.{State, IsSized}
use Rattle.lru_model.specs.TryInserts.{TryInsert, there as was_there, cannot_store as cannot, unready}
use Rattle.lru_model.specs.TryInserts.{inserted as placed_in, has_growth, reserved as made_room}
use Rattle.lru_model.specs.declared.results.ReserveError.{ReserveError}
use Rattle.lru_theory.specs.Traces.{AreEqual, refer, fault}
use Rattle.lru_theory.proofs.EqualKeys.{equal_refl, both_equal, taken_equal, equal_trans}
use Rattle.lru_replay.specs.References.{Cache, Reference, of_length}
use Rattle.lru_replay.proofs.StoredCounts.{keys_without, keys_taken, there, value_there, insert_counts, same_count}

module _ {K V S H : Type 0} (rules : Rules K V S) (grants : AlwaysGrants rules) where
  pub reserve_is : (n : ℕ) (old : State K V S H) (result : Result (Unit {0}) ReserveError) (new : State K V S H)
      → Reserve rules n old result new
      → (new.pairs ≡ old.pairs) × (new.limiter ≡ old.limiter) × (new.counts.placed ≡ old.counts.placed)
  reserve_is n old result new (unchanged why e) =
      (ap (λ st. st.pairs) e, ap (λ st. st.limiter) e, ap (λ st. st.counts.placed) e)
  reserve_is n old result new (rehashed needs t r m) =
      (ap (λ st. st.pairs) m.state, ap (λ st. st.limiter) m.state, ap (λ st. st.counts.placed) m.state)
  reserve_is n old result new (reserved needs count bytes t g r m) = (
    ap (λ st. st.pairs) m.state,
    ap (λ st. st.limiter) m.state ∙ (grants old.limiter bytes).1,
    ap (λ st. st.counts.placed) m.state,
  )
  reserve_is n old result new (asked_only needs count bytes t f e) = (
    ap (λ st. st.pairs) e,
    ap (λ st. st.limiter) e ∙ (grants old.limiter bytes).1,
    ap (λ st. st.counts.placed) e,
  )

-- What is proved of each call of a map that is this kind of cache. `Admits` says which pairs may be inserted.
pub record Known {K V S H : Type 0} (cache : Cache K V S H) (terms : Terms K V S) (rules : Rules K V S)
    (hash_of : H → K → ℕ) (Admits : S → K → V → Type 0) : Type 0 where
  pub laws : IsEquivalence cache.eq
  pub grants : AlwaysGrants rules
  pub equal : (n : ℕ) (key other : K) (keys : List K) → cache.eq other key ≡ true
      → AreEqual cache.eq (cache.refer n other keys) (cache.refer n key keys)
  pub insert : (key : K) (v : V) (old : State K V S H) (flag : Bool) (new : State K V S H) → cache.Keeps old
      → Admits old.limiter key v → IsSized new → Insert rules (offers_of terms) cache.eq hash_of key v old (Ok flag) new
      → Reference cache key old new
  pub get : (key : K) (w : V) (old : State K V S H) → cache.Keeps old → lookup (cache.eq key) old.pairs ≡ Some w
      → Reference cache key old (promoted (cache.eq key) old)
  pub reserve : (old ready : State K V S H) → cache.Keeps old → IsSized ready → Reserve rules 1 old (Ok tt) ready
      → cache.Keeps ready

module _ {K V S H : Type 0} {cache : Cache K V S H} {terms : Terms K V S} {rules : Rules K V S} {hash_of : H → K → ℕ}
    {Admits : S → K → V → Type 0} (known : Known cache terms rules hash_of Admits) where
  pub makes_refers : (makes : V → Type 0) (key : K) (old : State K V S H) (flag : Bool) (new : State K V S H)
      → cache.Keeps old → IsSized new → ((v : V) → makes v → Admits old.limiter key v)
      → MakesNewest rules (offers_of terms) cache.eq hash_of makes key old (Ok flag) new → Reference cache key old new
  makes_refers makes key old flag new keeps sized admits (inserted none v made h) =
      known.insert key v old flag new keeps (admits v made) sized h
  makes_refers makes key old flag new keeps sized admits (got w found is same) =
      subst (Reference cache key old) (sym same) (known.get key w old keeps found)

  pub remembers_refers : (key : K) (v : V) (old : State K V S H) (kept : Result Bool AllocError) (new : State K V S H)
      → cache.Keeps old → IsSized new → IsOk kept → Admits old.limiter key v
      → MakesNewest rules (offers_of terms) cache.eq hash_of (λ made. made ≡ v) key old kept new
      → Reference cache key old new
  remembers_refers key v old (Ok flag) new keeps sized ok admits h = makes_refers (λ made. made ≡ v) key old flag new keeps
      sized (λ w is. subst (Admits old.limiter key) (sym is) admits) h
  remembers_refers key v old (Err e) new keeps sized ok admits h = absurd cc

  pub makes_if_made : {E : Type 0} (makes : Result V E → Type 0) (key : K) (old : State K V S H) (flag : Bool)
      (new : State K V S H) → cache.Keeps old → IsSized new → ((v : V) → makes (Ok v) → Admits old.limiter key v)
      → MakesNewestIfMade rules (offers_of terms) cache.eq hash_of makes key old (Ok flag) new
      → Reference cache key old new
  makes_if_made makes key old flag new keeps sized admits (failed none e made is same) = absurd cc
  makes_if_made makes key old flag new keeps sized admits (as_made (Ok kept) h is) =
      makes_refers (λ v. makes (Ok v)) key old kept new keeps sized admits h
  makes_if_made makes key old flag new keeps sized admits (as_made (Err e) h is) = absurd cc

  after_ready : (key : K) (old ready new : State K V S H) → cache.Keeps ready
      → (ready.pairs ≡ old.pairs) × (ready.limiter ≡ old.limiter) × (ready.counts.placed ≡ old.counts.placed)
      → Reference cache key ready new → Reference cache key old new
  after_ready key old ready new keeps (pairs, limiter, placed) h = record {
    does = record {
      keys = subst (AreEqual cache.eq (keys_of new.pairs))
          (λ i. cache.refer (cache.limit (limiter i)) key (keys_of (pairs i))) h.does.keys;
      limit = h.does.limit ∙ ap cache.limit limiter;
      keeps = λ _. h.does.keeps keeps;
    };
    stored = λ some. h.stored (subst (λ s. cache.Stores (cache.limit s)) (sym limiter) some)
        ∙ (λ i. count_up (placed i) (fault cache.eq key (keys_of (pairs i))));
  }

  pub tries_refers : (key : K) (v : V) (old new : State K V S H) → cache.Keeps old → IsSized new
      → Admits old.limiter key v → TryInsert terms rules key v old cache.eq hash_of (Ok tt) new
      → Reference cache key old new
  tries_refers key v old new keeps sized admits (was_there pair found is same) = absurd cc
  tries_refers key v old new keeps sized admits (cannot lacks less is same) = absurd cc
  tries_refers key v old new keeps sized admits (unready none can why is) = absurd cc
  tries_refers key v old new keeps sized admits (placed_in none can ready (has_growth some same) still is h) =
      known.insert key v old true new keeps admits sized
      (subst (λ st. Insert rules (offers_of terms) cache.eq hash_of key v st (Ok true) new) same h)
  tries_refers key v old new keeps sized admits (placed_in none can ready (made_room spare h sound) still is placing) =
      let goes = known.reserve old ready keeps sound h in
      let same = reserve_is rules known.grants 1 old (Ok tt) ready h in
      after_ready key old ready new goes same
      (known.insert key v ready true new goes (subst (λ s. Admits s key v) (sym same.1) admits) sized placing)

  pub equal_refers : (key other : K) (old new : State K V S H) → cache.eq other key ≡ true
      → Reference cache other old new → Reference cache key old new
  equal_refers key other old new same h =
      let n = cache.limit old.limiter in
      let keys = keys_of old.pairs in
      record {
        does = record {
          keys = equal_trans known.laws (keys_of new.pairs) (cache.refer n other keys) (cache.refer n key keys) h.does.keys
              (known.equal n key other keys same);
          limit = h.does.limit;
          keeps = h.does.keeps;
        };
        stored = λ some. h.stored some ∙ (λ i. count_up old.counts.placed
            (cond (list_any (λ x. known.laws.congr other key x same i) keys) 0 1));
      }

module _ {K V : Type 0} {eq : K → K → Bool} (laws : IsEquivalence eq) where
  pub stored_equal : (key : K) (xs : List (K × V)) → eq (stored_key (eq key) key xs) key ≡ true
  stored_equal key xs = go (lookup_entry (eq key) xs) refl
    where
      go : (o : Option (K × V)) → lookup_entry (eq key) xs ≡ o
          → eq (unwrap_or (option_map (λ pair. pair.0) o) key) key ≡ true
      go None e = laws.refl key
      go (Some p) e = laws.symm p.0 key ∙ found_named (eq key) xs p e

from_equal : {K : Type 0} (eq : K → K → Bool) (xs ys zs : List K) → xs ≡ ys → AreEqual eq ys zs → AreEqual eq xs zs
from_equal eq xs ys zs e h = subst (λ ks. AreEqual eq ks zs) (sym e) h

in_front : {K : Type 0} {eq : K → K → Bool} → IsEquivalence eq → (n : ℕ) (key x : K) (keys : List K) → eq x key ≡ true
    → AreEqual eq (take n (x ∷ remove_key (eq key) keys)) (refer eq n key keys)
in_front {eq = eq} laws n key x keys same = taken_equal eq n (x ∷ remove_key (eq key) keys)
    (key ∷ remove_key (eq key) keys) (both_equal eq x (remove_key (eq key) keys) key (remove_key (eq key) keys) same
    (equal_refl laws (remove_key (eq key) keys)))

module _ {K V H : Type 0} {eq : K → K → Bool} (laws : IsEquivalence eq) (hash_of : H → K → ℕ) where
  insert_refers : (key : K) (v : V) (old : State K V ℕ H) (flag : Bool) (new : State K V ℕ H) → KeepsToLength old
      → IsSized new → Insert length_rules length_offers eq hash_of key v old (Ok flag) new
      → Reference (of_length eq) key old new
  insert_refers key v old flag new keeps sized h =
      let leaves = leaves_newest eq key v old (Ok flag) new keeps h in
      let step = inserts key v (Ok flag) h in
      let stored = stored_key (eq key) key old.pairs in
      record {
        does = record {
          keys = from_equal eq (keys_of new.pairs) (take old.limiter (stored ∷ remove_key (eq key) (keys_of old.pairs)))
              (refer eq old.limiter key (keys_of old.pairs))
              (ap keys_of leaves.newest ∙ keys_taken old.limiter ((stored, v) ∷ without (eq key) old.pairs)
              ∙ ap (λ ks. take old.limiter (stored ∷ ks)) (keys_without (eq key) old.pairs))
              (in_front laws old.limiter key stored (keys_of old.pairs) (stored_equal laws key old.pairs));
          limit = step_keeps_number eq hash_of length-limits.fixed old new step;
          keeps = λ _. keeps_on eq old new keeps sized step;
        };
        stored = λ some. insert_counts length_rules hash_of length_offers eq key v old new keeps.sized.placed (Ok flag)
            refl (λ none. leaves.answer refl ∙ ap Ok (lt-ltb 0 old.limiter some)) h;
      }

  pub got_refers : (names : K → Bool) (key : K) (w left : V) (old : State K V ℕ H) → names ≡ eq key
      → length old.pairs ≤ old.limiter → IsSized old → lookup names old.pairs ≡ Some w
      → Reference (of_length eq) key old (written names left (promoted names old))
  got_refers names key w left old same within sized found =
      subst (λ test. Reference (of_length eq) key old (written test left (promoted test old))) (sym same)
      (go (value_there (eq key) old.pairs w (subst (λ test. lookup test old.pairs ≡ Some w) same found)))
    where
      go : (p : K × V) × (lookup_entry (eq key) old.pairs ≡ Some p)
          → Reference (of_length eq) key old (written (eq key) left (promoted (eq key) old))
      go (p, at) =
          let is = there (eq key) old.pairs p at in
          let keys = keys_of old.pairs in
          let fewer = length-remove_key (eq key) keys is in
          let first : eq p.0 key ≡ true = laws.symm p.0 key ∙ found_named (eq key) old.pairs p at in
          let all : keys_of (written (eq key) left (promoted (eq key) old)).pairs
          ≡ take old.limiter (p.0 ∷ remove_key (eq key) keys) =
          keys-set_value (eq key) (front (eq key) old.pairs) left
          ∙ ap (λ o. keys_of (after o (without (eq key) old.pairs))) at
          ∙ ap (λ ks. p.0 ∷ ks) (keys_without (eq key) old.pairs)
          ∙ sym (take_all old.limiter (p.0 ∷ remove_key (eq key) keys)
          (omega (arith, fewer, length-keys_of old.pairs, within))) in
          record {
            does = record {
              keys = from_equal eq (keys_of (written (eq key) left (promoted (eq key) old)).pairs)
                  (take old.limiter (p.0 ∷ remove_key (eq key) keys)) (refer eq old.limiter key keys) all
                  (in_front laws old.limiter key p.0 keys first);
              limit = refl;
              keeps = λ keeps. keeps_written (eq key) left (promoted (eq key) old)
                  (keeps_on eq old (promoted (eq key) old) {hash_of = hash_of} keeps (promoted_sized old (eq key) keeps.sized)
                  (gets (eq key) refl));
            };
            stored = λ some. rw is (same_count old.counts.placed sized.placed);
          }

  pub promoted_refers : (names : K → Bool) (key : K) (w : V) (old : State K V ℕ H) → names ≡ eq key
      → length old.pairs ≤ old.limiter → IsSized old → lookup names old.pairs ≡ Some w
      → Reference (of_length eq) key old (promoted names old)
  promoted_refers names key w old same within sized found = subst (Reference (of_length eq) key old)
      (read_back names old w found) (got_refers names key w w old same within sized found)

  pub known_lengths : Known {V = V} (of_length eq) length_terms length_rules hash_of (λ s key v. Unit {0})
  known_lengths = record {
    laws = laws;
    grants = λ s bytes. (refl, refl);
    equal = λ n key other keys same. let named : eq other ≡ eq key = λ i x. laws.congr other key x same i in
        subst (λ test. AreEqual eq (take n (other ∷ remove_key test keys)) (refer eq n key keys)) (sym named)
        (in_front laws n key other keys same);
    insert = λ key v old flag new keeps ok sized h. insert_refers key v old flag new keeps sized h;
    get = λ key w old keeps found. promoted_refers (eq key) key w old refl keeps.within keeps.sized found;
    reserve = λ old ready keeps sized h. keeps_on eq old ready {hash_of = hash_of} keeps sized (reserves 1 (Ok tt) h);
  }
