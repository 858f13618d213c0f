-- Steps on the map of a handle. `FitsHandle` still holds after each.
use Rattle.std.proofs.Common.{◌≡◌, ◌∙◌, ◌≤◌, ℕ, Bool, false, Result, Option, Some, None, length, nat_eq, inl, inr, sym, ap, subst, arith}
use Rattle.std.proofs.lemmas.Bool.Decides.{nat_tests}
use Rattle.lru_limits.specs.Limiters.{length_rules, length_offers}
use Rattle.lru_limits.specs.Limits.{length-limits}
use Rattle.std.specs.declared.alloc.AllocError.{AllocError}
use Rattle.lru_model.specs.Calls.{Remove, PopOldest, promoted, cleared}
use Rattle.lru_model.specs.Inserts.{Insert}
use Rattle.lru_model.specs.Lists.{lookup}
use Rattle.std.specs.Prelude.{MatchOption}
use Rattle.lru_model.specs.Reservations.{Reserve}
use Rattle.lru_model.specs.Runs.{Step}
use Rattle.lru_model.specs.Runs.Step.{inserts, gets, removes, pops_oldest, clears, reserves, shrinks, trims}
use Rattle.lru_model.specs.Runs.AnyStep.{calls}
use Rattle.lru_model.specs.Shrinks.{Shrink}
use Rattle.lru_model.specs.declared.results.ReserveError.{ReserveError}
use Rattle.lru_model.specs.State.{contents, IsWithin, Trims}
use Rattle.lru_model.proofs.CallerLemmas.{any_step_same, step_keeps_number, step_stays_short}
use Rattle.lru_model.proofs.PassingLemmas.{plain_insert}
use Rattle.lru_c.specs.Answers.{OnMap, Inserts, GetsOrInserts, inserted_of}
use Rattle.lru_c.specs.declared.answers.Entry.{Entry}
use Rattle.lru_c.specs.declared.answers.Inserted.{Inserted}
use Rattle.lru_c.specs.Handle.{Map, FitsHandle, hash_of}

pub on_map : {M : Type 0} (nothing : Type 0) (step : M → M → Type 0) (old new : Option M) (before after : M)
    → old ≡ Some before → new ≡ Some after → step before after → OnMap nothing step old new
on_map nothing step old new before after was is made =
    subst (λ o. OnMap nothing step o new) (sym was) (subst (λ o. OnMap nothing step (Some before) o) (sym is) made)

pub stays_fits : (old new : Map) → Step length_rules length_offers nat_eq hash_of old new → FitsHandle old → FitsHandle new
stays_fits old new step held =
    let limit = step_keeps_number nat_eq hash_of length-limits.fixed old new step in
    let same = any_step_same old new (calls step) in record {
      within = subst (λ most. length new.pairs ≤ most) (sym limit)
          (step_stays_short nat_eq hash_of length-limits old new step held.within);
      entry = same.2 ∙ held.entry;
      links = same.1 ∙ held.links;
    }

is_within : (map : Map) → IsWithin length_rules (contents map) → length map.pairs ≤ map.limiter
is_within map (inl none) = omega (arith, ap length none)
is_within map (inr within) = grind (arith, nat_tests, within)

pub limited_fits : (most : ℕ) (old new : Map) → Trims length_rules (record old { limiter = most }) new
    → IsWithin length_rules (contents new) → FitsHandle old → FitsHandle new
limited_fits most old new step within held =
    let limited : Map = record old { limiter = most } in
    let made : Step length_rules length_offers nat_eq hash_of limited new = trims step in
    let same = any_step_same limited new (calls made) in
    record { within = is_within new within; entry = same.2 ∙ held.entry; links = same.1 ∙ held.links }

pub got_fits : (named : ℕ → Bool) (old new : Map) → new ≡ promoted named old → FitsHandle old
    → FitsHandle new
got_fits named old new step = stays_fits old new (gets named step)

pub removed_fits : (named : ℕ → Bool) (value : Option ℕ) (old new : Map) → Remove length_rules named old value new
    → FitsHandle old → FitsHandle new
removed_fits named value old new step = stays_fits old new (removes named value step)

pub popped_fits : (pair : Option (ℕ × ℕ)) (old new : Map) → PopOldest length_rules old pair new → FitsHandle old
    → FitsHandle new
popped_fits pair old new step = stays_fits old new (pops_oldest pair step)

pub shrunk_fits : (done : Result Bool AllocError) (old new : Map) → Shrink old done new → FitsHandle old
    → FitsHandle new
shrunk_fits done old new step = stays_fits old new (shrinks done step)

pub cleared_fits : (old new : Map) → new ≡ cleared length_rules old → FitsHandle old → FitsHandle new
cleared_fits old new step = stays_fits old new (clears step)

pub reserved_fits : (n : ℕ) (done : Result (Unit {0}) ReserveError) (old new : Map)
    → Reserve length_rules n old done new → FitsHandle old → FitsHandle new
reserved_fits n done old new step = stays_fits old new (reserves n done step)

pub put_fits : (key value : ℕ) (done : Result Bool AllocError) (old new : Map)
    → Insert length_rules length_offers nat_eq hash_of key value old done new → FitsHandle old
    → FitsHandle new
put_fits key value done old new step = stays_fits old new (inserts key value done step)

pub inserted_fits : (key value : ℕ) (answer : Inserted) (place left : Entry) (old new : Map)
    → Inserts key value old answer place left new → FitsHandle old → FitsHandle new
inserted_fits key value answer place left old new did =
    put_fits key value did.result old new (plain_insert did.step)

pub got_or_inserted_fits : (key value : ℕ) (answer : Inserted) (place left : Entry) (old new : Map)
    → GetsOrInserts key value old answer place left new → FitsHandle old → FitsHandle new
got_or_inserted_fits key value answer place left old new did fits = go (lookup (nat_eq key) old.pairs) did
  where
    go : (there : Option ℕ) → MatchOption there (Inserts key value old answer place left new)
        (λ value. (answer ≡ inserted_of 0 (Some value) false) × (left ≡ place) × (new ≡ promoted (nat_eq key) old))
        → FitsHandle new
    go None did = inserted_fits key value answer place left old new did fits
    go (Some there) did = got_fits (nat_eq key) old new did.2 fits
