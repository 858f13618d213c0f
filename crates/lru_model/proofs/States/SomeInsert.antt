-- For every map, `Insert` permits at least one result and one map after the insert.
use Rattle.std.proofs.Common.{◌≡◌, ℕ, Bool, true, false, length}
use Rattle.std.proofs.Common.{Option, Some, None, Result, Ok, Err, refl, arith, not}
use Rattle.std.specs.declared.alloc.AllocError.{AllocError}
use Rattle.lru_limits.specs.Rules.{Rules, Offers}
use Rattle.lru_model.specs.Lists.{is_empty, lookup_entry}
use Rattle.lru_model.specs.State.{State, Contents, contents, IsSized, Leaves, trim}
use Rattle.lru_model.specs.Place.{Place, Outcome, placed, refused, no_memory}
use Rattle.lru_model.specs.Inserts.{Insert, replaced, not_replaced, not_admitted, admitted, make_room, replacement}
use Rattle.lru_model.specs.Inserts.{with_replaced, with_removed}
use Rattle.lru_model.proofs.Theorems.Fronts.{length-front, front_trim, front_make_room}
use Rattle.lru_model.proofs.Theorems.Limits.{length-without_found}
use Rattle.lru_model.proofs.States.SomePlace.{some_leave, some_place}

module _ {K V S H I : Type 0} (rules : Rules K V S) (offers : Offers K V S I) (names : I → K → Bool)
    (hash_of : H → K → ℕ) (i : I) (v : V) (old : State K V S H) (ok : IsSized old)
    (offered : (s : S) (n : ℕ) (key : I) (value : V) → (t : S) × (given : Option (K × V))
    × offers.on_insert s n key value t given) where
  abbrev pub Inserts : Type 0
  Inserts = (result : Result Bool AllocError) × (new : State K V S H)
      × Insert rules offers names hash_of i v old result new × IsSized new

  there : (pair : K × V) → lookup_entry (names i) old.pairs ≡ Some pair → (taken : Bool)
      → (replacement rules offers names pair i v (contents old)).taken ≡ taken → Inserts
  there pair found true y =
      let c = with_replaced rules offers names pair i v (contents old) in
      let (new, left, after, freed) = some_leave old (trim rules c) ok
      (omega (
        arith,
        length-front _ c.pairs (front_trim rules c),
        length-without_found
            (names i) old.pairs pair found,
      )) in
      (Ok (not (is_empty new.pairs)), new, replaced pair found y refl left, after)
  there pair found false y =
      let (new, left, after, freed) = some_leave old (with_removed rules offers names pair i v (contents old)) ok
      (omega (arith, length-without_found (names i) old.pairs pair found)) in
      (Ok false, new, not_replaced pair found y refl left, after)

  given_pair : lookup_entry (names i) old.pairs ≡ None → (s : S) (pair : K × V)
      → offers.on_insert old.limiter (length old.pairs) i v s (Some pair) → Inserts
  given_pair absent s pair may_give =
      let notified : State K V S H = record old { limiter = s } in
      let c : Contents K V S = record { pairs = old.pairs; limiter = s } in
      let (way, left, goes_on, freed) = some_leave notified (make_room rules c) ok
      (length-front _ old.pairs (front_make_room rules c)) in
      let (outcome, landed, place, after) = some_place rules hash_of pair way goes_on in
      settle way left outcome landed place after
    where
      settle : (way : State K V S H) → Leaves (record old { limiter = s })
          (make_room rules (record { pairs = old.pairs; limiter = s })) way →
          (outcome : Outcome) (landed : State K V S H) → Place rules hash_of pair way outcome landed → IsSized landed
          → Inserts
      settle way left placed landed place after =
          let (new, leaves, end, freed) = some_leave landed (trim rules (contents landed)) after
          (length-front _ landed.pairs (front_trim rules (contents landed))) in (
            Ok (not (is_empty new.pairs)),
            new,
            admitted absent s pair may_give
                (way, left, (placed, landed, place, (refl, leaves))),
            end,
          )
      settle way left refused landed place after =
          (Ok false, landed, admitted absent s pair may_give (way, left, (refused, landed, place, (refl, refl))), after)
      settle way left no_memory landed place after = (
        Err (record {}),
        landed,
        admitted absent s pair may_give (way, left, (no_memory, landed, place, (refl, refl))),
        after,
      )

  pub some_insert : Inserts
  some_insert = go (lookup_entry (names i) old.pairs) refl
    where
      absent : lookup_entry (names i) old.pairs ≡ None → (s : S) (given : Option (K × V))
          → offers.on_insert old.limiter (length old.pairs) i v s given → Inserts
      absent e s None may_give = (
        Ok false,
        record old { limiter = s },
        not_admitted e s may_give refl refl,
        ok,
      )
      absent e s (Some pair) may_give = given_pair e s pair may_give

      go : (found : Option (K × V)) → lookup_entry (names i) old.pairs ≡ found → Inserts
      go (Some pair) e = there pair e (replacement rules offers names pair i v (contents old)).taken refl
      go None e = let (s, given, may_give) = offered old.limiter (length old.pairs) i v in absent e s given may_give
