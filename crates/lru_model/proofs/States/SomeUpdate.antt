use Rattle.std.proofs.Common.{◌≡◌, Bool, true, false, Option, Some, None, refl, arith}
use Rattle.lru_limits.specs.Rules.{Rules, Offers}
use Rattle.lru_model.specs.Lists.{lookup_entry}
use Rattle.lru_model.specs.State.{State, contents, IsSized, trim}
use Rattle.lru_model.specs.Inserts.{replacement, with_removed}
use Rattle.lru_model.specs.Updates.{Update, updated, rejected, not_there, with_updated}
use Rattle.lru_model.specs.declared.results.Updated.{Updated}
use Rattle.lru_model.proofs.PairLists.SetEntries.{length-set_entry}
use Rattle.lru_model.proofs.Theorems.Fronts.{length-front, front_trim}
use Rattle.lru_model.proofs.Theorems.Limits.{length-without}
use Rattle.lru_model.proofs.States.SomePlace.{some_leave}

module _ {K V S H I : Type 0} (rules : Rules K V S) (offers : Offers K V S I) (names : I → K → Bool) (i : I) (v : V)
    (old : State K V S H) (ok : IsSized old) where
  abbrev pub Updates : Type 0
  Updates = (result : Updated V) × (new : State K V S H)
      × Update rules offers names i v old result new × IsSized new

  there : (pair : K × V) → lookup_entry (names i) old.pairs ≡ Some pair → (taken : Bool)
      → (replacement rules offers names pair i v (contents old)).taken ≡ taken → Updates
  there pair found true y =
      let c = with_updated rules offers names pair i v (contents old) in
      let by = replacement rules offers names pair i v (contents old) in
      let (new, left, after, freed) = some_leave old (trim rules c) ok
      (omega (
        arith,
        length-front _ c.pairs (front_trim rules c),
        length-set_entry (names i) (by.key, by.new_value) old.pairs,
      )) in
      (_, new, updated pair found y refl left, after)
  there pair found false y =
      let (new, left, after, freed) = some_leave old (with_removed rules offers names pair i v (contents old)) ok
      (length-without (names i) old.pairs) in
      (_, new, rejected pair found y refl left, after)

  by_entry : (entry : Option (K × V)) → lookup_entry (names i) old.pairs ≡ entry → Updates
  by_entry None absent = (_, old, not_there absent refl refl, ok)
  by_entry (Some pair) found = there pair found _ refl

  pub some_update : Updates
  some_update = by_entry _ refl
