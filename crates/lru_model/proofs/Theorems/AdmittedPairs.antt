-- Pairs for which `can_store` is true.
use Rattle.std.proofs.Common.{◌≡◌, ℕ, ◌+◌, ◌<◌, Bool, true, false, ◌∷◌, length, None, Result, Ok, Err, refl}
use Rattle.std.proofs.Common.{ap, ◌∙◌, subst, arith}
use Rattle.std.specs.Prelude.{not, if◌then◌else◌}
use Rattle.std.proofs.lemmas.Bool.{false≢true}
use Rattle.std.specs.declared.alloc.AllocError.{AllocError}
use Rattle.lru_limits.specs.Rules.{Rules}
use Rattle.lru_limits.specs.Admissions.{Terms, offers_of}
use Rattle.lru_model.specs.Lists.{lookup_entry}
use Rattle.lru_model.specs.State.{State, Contents, contents, growth_left, IsSized}
use Rattle.lru_model.specs.Reservations.{Reserve, unchanged, rehashed, reserved as grown, asked_only}
use Rattle.lru_model.specs.declared.results.ReserveError.{ReserveError}
use Rattle.lru_model.specs.Inserts.{Insert}
use Rattle.lru_model.specs.Runs.{Step, reserves, inserts, calls as any_call, Run, ends, goes_on}
use Rattle.lru_model.specs.Kept.{AcceptsNew}
use Rattle.lru_model.specs.TryInserts.{can_store, IsReady, has_growth, reserved, not_reserved, cannot_store_then}
use Rattle.lru_model.specs.TryInserts.{TryInsert, TryInsertEnds, there, cannot_store, unready, inserted}
use Rattle.lru_model.proofs.Theorems.Reservations.{reserved_list, makes_room}
use Rattle.lru_model.proofs.Theorems.RoomyInserts.{is_added}
use Rattle.lru_model.proofs.Theorems.Runs.{any_step_same}
use Rattle.lru_model.proofs.Theorems.StoringLimiters.{offers_of-accepts}

both : (b d : Bool) → (if b then not d else false) ≡ true → (b ≡ true) × (d ≡ false)
both true false e = (refl, refl)
both true true e = absurd (false≢true e)
both false d e = absurd (false≢true e)

module _ {K V S : Type 0} (terms : Terms K V S) (rules : Rules K V S) (eq : K → K → Bool) (key : K) (value : V) where
  pub accepts_new : (c : Contents K V S) → can_store terms rules key value c ≡ true
      → AcceptsNew rules (offers_of terms) eq key value c (key, value)
  accepts_new c place =
      let n = length c.pairs in
      let yes = both (terms.accepts c.limiter n key value)
      (rules.is_over_the_limit (terms.admit c.limiter n key value) (n + 1)) place in
      offers_of-accepts terms rules eq key value c yes.0 yes.1

  pub record Adds {H : Type 0} (old : State K V S H) (result : Result Bool AllocError) (new : State K V S H)
      : Type 0 where
    pub answer : result ≡ Ok true
    pub pairs : new.pairs ≡ (key, value) ∷ old.pairs
    pub limiter : new.limiter ≡ terms.admit old.limiter (length old.pairs) key value

  pub adds : {H : Type 0} {hash_of : H → K → ℕ} (old : State K V S H) (result : Result Bool AllocError)
      (new : State K V S H) → can_store terms rules key value (contents old) ≡ true
      → lookup_entry (eq key) old.pairs ≡ None → 0 < growth_left old
      → Insert rules (offers_of terms) eq hash_of key value old result new → Adds old result new
  adds old result new place absent some step =
      let added = is_added rules (offers_of terms) eq key value (key, value) old result new _ (accepts_new (contents old) place)
      absent some step in
      record {
        answer = added.answer;
        pairs = added.pairs;
        limiter = added.limiter.limiter;
      }

module _ {K V S H : Type 0} (rules : Rules K V S) (old : State K V S H) where
  pub ready_pairs : (ready : State K V S H) → IsReady rules old ready → ready.pairs ≡ old.pairs
  ready_pairs ready (has_growth some e) = ap (λ st. st.pairs) e
  ready_pairs ready (reserved none step sized) = (reserved_list rules 1 old (Ok tt) ready step).0

  hasher_stays : (result : Result (Unit {0}) ReserveError) (new : State K V S H) → Reserve rules 1 old result new
      → new.hasher ≡ old.hasher
  hasher_stays result new (unchanged why e) = ap (λ st. st.hasher) e
  hasher_stays result new (rehashed l t r m) = ap (λ st. st.hasher) m.state
  hasher_stays result new (grown l count bytes t g r m) = ap (λ st. st.hasher) m.state
  hasher_stays result new (asked_only l count bytes t f e) = ap (λ st. st.hasher) e

  pub ready_hasher : (ready : State K V S H) → IsReady rules old ready → ready.hasher ≡ old.hasher
  ready_hasher ready (has_growth some e) = ap (λ st. st.hasher) e
  ready_hasher ready (reserved none step sized) = hasher_stays (Ok tt) ready step

  pub ready_room : (ready : State K V S H) → IsSized old → IsReady rules old ready → 0 < growth_left ready
  ready_room ready ok (has_growth some e) = rw e some
  ready_room ready ok (reserved none step sized) = makes_room rules 1 old ready ok step

module _ {K V S H : Type 0} (terms : Terms K V S) (rules : Rules K V S) (eq : K → K → Bool) (hash_of : H → K → ℕ)
    (key : K) (value : V) (old : State K V S H) (ok : IsSized old) where
  abbrev Ends : Result (Unit {0}) (K × V) → State K V S H → Type 0
  Ends = TryInsertEnds terms rules key value old eq hash_of

  refuses : (answer : Result (Unit {0}) ReserveError) (new : State K V S H) → growth_left old ≡ 0
      → Reserve rules 1 old answer new → IsSized new → Ends (Err (key, value)) new
  refuses answer new none step sized = record {
    calls = goes_on new (reserves 1 answer step) sized ends;
    added = tt;
    within = tt;
    returned = refl;
    keeps = (reserved_list rules 1 old answer new step).0;
    unchanged = λ some. absurd (omega (arith, none, some));
    hasher = hasher_stays rules old answer new step;
  }

  stays : Ends (Err (key, value)) old
  stays = record {
    calls = ends;
    added = tt;
    within = tt;
    returned = refl;
    keeps = refl;
    unchanged = λ some. refl;
    hasher = refl;
  }

  adds_after : (ready new : State K V S H) → IsReady rules old ready
      → can_store terms rules key value (contents ready) ≡ true → lookup_entry (eq key) old.pairs ≡ None
      → Insert rules (offers_of terms) eq hash_of key value ready (Ok true) new → IsSized new → Ends (Ok tt) new
  adds_after ready new is place absent step sized =
      let same = ready_pairs rules old ready is in
      let added = adds terms rules eq key value ready (Ok true) new place
      (ap (lookup_entry (eq key)) same ∙ absent) (ready_room rules old ready ok is) step in
      let yes = both (terms.accepts ready.limiter (length ready.pairs) key value) (rules.is_over_the_limit
      (terms.admit ready.limiter (length ready.pairs) key value) (length ready.pairs + 1)) place in
      let more : length new.pairs ≡ length ready.pairs + 1 = omega (arith, ap length added.pairs) in
      record {
        calls = before ready is (goes_on new (inserts key value (Ok true) step) sized ends);
        added = added.pairs ∙ ap (λ pairs. (key, value) ∷ pairs) same;
        within = ap (λ s. rules.is_over_the_limit s (length new.pairs)) added.limiter
            ∙ ap (rules.is_over_the_limit (terms.admit ready.limiter (length ready.pairs) key value)) more ∙ yes.1;
        returned = tt;
        keeps = tt;
        unchanged = λ some. tt;
        hasher = (any_step_same ready new (any_call (inserts key value (Ok true) step))).0
            ∙ ready_hasher rules old ready is;
      }
    where
      before : (ready : State K V S H) → IsReady rules old ready → Run (Step rules (offers_of terms) eq hash_of) new ready
          → Run (Step rules (offers_of terms) eq hash_of) new old
      before ready (has_growth some e) run = subst (Run (Step rules (offers_of terms) eq hash_of) new) e run
      before ready (reserved none step sized) run = goes_on ready (reserves 1 (Ok tt) step) sized run

  pub try_ends : (result : Result (Unit {0}) (K × V)) (new : State K V S H) → IsSized new
      → TryInsert terms rules key value old eq hash_of result new → Ends result new
  try_ends result new sized (there pair found r e) = rw (r, e) stays
  try_ends result new sized (cannot_store absent full r e) = rw (r, e) stays
  try_ends result new sized (unready absent can (not_reserved none error step) r) = rw r
      (refuses (Err error) new none step sized)
  try_ends result new sized (unready absent can (cannot_store_then none step full) r) = rw r
      (refuses (Ok tt) new none step sized)
  try_ends result new sized (inserted absent can ready is place r step) =
      rw r (adds_after ready new is place absent step sized)
