use Rattle.std.proofs.Common.{◌≡◌, ◌&&◌, Bool, true, false, not, Option, Some, None, is_some, Result, Ok, Err, refl}
use Rattle.std.proofs.Common.{sym, subst}
use Rattle.std.proofs.lemmas.Bool.{true≢false}
use Rattle.std.specs.Prelude.{length, option_map}
use Rattle.std.specs.declared.alloc.AllocError.{AllocError}
use Rattle.lru_limits.specs.Admissions.{Terms}
use Rattle.lru_model.proofs.PairLists.NamedPairs.{lookup-entry}
use Rattle.lru_model.specs.Inserts.{kept_of}
use Rattle.lru_model.specs.Lists.{lookup_entry}
use Rattle.lru_model.specs.State.{State}
use Rattle.lru_model.specs.declared.results.Inserted.{Inserted}
use Rattle.lru_tenants.specs.PutFulls.{rejects}
use Rattle.lru_tenants.specs.TenantRuns.{put_answer}

module _ {K V L S : Type 0} (terms : Terms K V L) (eq : K → K → Bool) (key : K) (value : V) where
  abbrev accepts_new : State K V L S → Bool
  accepts_new map = terms.accepts map.limiter (length map.pairs) key value

  pub is-rejected : (map : State K V L S) → rejects terms eq key value map ≡ true
      → (accepts_new map ≡ false) × (lookup_entry (eq key) map.pairs ≡ None)
  is-rejected map is = go (accepts_new map) (lookup_entry (eq key) map.pairs)
      (subst (λ o. (not (accepts_new map) && not (is_some o)) ≡ true) (lookup-entry (eq key) map.pairs)
      is)
    where
      go : (a : Bool) (found : Option (K × V)) → (not a && not (is_some (option_map (λ p. p.1) found))) ≡ true
          → (a ≡ false) × (found ≡ None)
      go false None e = (refl, refl)
      go false (Some p) e = absurd (true≢false (sym e))
      go true found e = absurd (true≢false (sym e))

pub kept-answer : {V : Type 0} (result : Result (Inserted V) AllocError)
    → kept_of (put_answer result) ≡ put_answer (kept_of result)
kept-answer (Ok inserted) = refl
kept-answer (Err e) = refl
