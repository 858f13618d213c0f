use Rattle.std.proofs.Common.{◌≡◌, ℕ, List, [], Some, None, sym, ap, ◌∙◌, subst, arith, length, nat_eq}
use Rattle.std.proofs.lemmas.Map.Text.{hash_map_updates_text}
use Rattle.std.specs.Map.{update}
use Rattle.std.specs.Str.{bytes_eq}
use Rattle.lru_theory.specs.Places.{freed}
use Rattle.lru_trace.specs.Deletes.{AreNumbers, IsDeleteOf, place_number, places_of}
use Rattle.lru_trace.proofs.DeleteSteps.{of_removed, of_warm_removed}
use Rattle.lru_trace.proofs.PlaceNumbers.{removed_numbers, removed_within, removed_apart, absent_freed, freed_long}
use Rattle.lru_trace.proofs.delete_curve.DeleteCurve.delete.Goals.{In_default, In-Some, After-remove}
use Rattle.lru_trace.proofs.delete_curve.DeleteCurve.delete.Goals as goal

none : (c : In_default) → place_number c.self.inside.numbers.entries c.args.key.now ≡ None
none c = sym c.get.ensures.value ∙ sym c.copied.ensures ∙ c.in_default.is

owned : (c : In-Some) → place_number c.self.inside.numbers.entries c.args.key.now ≡ Some c.in-Some.number
owned c = sym c.get.ensures.value ∙ sym c.copied.ensures ∙ c.in-Some.is

pub returns-in_default-clause-warm : goal.returns-in_default-clause-warm
returns-in_default-clause-warm c = λ warm of.
    let now : IsDeleteOf warm [] _ = subst (IsDeleteOf warm []) (sym c.self.view_is) of in
    subst (IsDeleteOf _ []) c.self.view_is (of_warm_removed now c.args.key.now c.self.inside.numbers.entries
    c.self.inside.places (absent_freed (place_number c.self.inside.numbers.entries) c.self.invariant.apart c.args.key.now
    (none (goal.at.returns-in_default-clause-warm c).In_default) (places_of warm []) c.self.inside.places now.placed))

pub returns-in_default-clause-ok : goal.returns-in_default-clause-ok
returns-in_default-clause-ok c = λ warm trace of.
    let now : IsDeleteOf warm trace _ = subst (IsDeleteOf warm trace) (sym c.self.view_is) of in
    subst (IsDeleteOf warm _) c.self.view_is (of_removed now c.args.key.now c.self.inside.numbers.entries
    c.self.inside.places (absent_freed (place_number c.self.inside.numbers.entries) c.self.invariant.apart c.args.key.now
    (none (goal.at.returns-in_default-clause-ok c).In_default) (places_of warm trace) c.self.inside.places now.placed))

pub free-requires : goal.free-requires
free-requires c = c.self.invariant.within c.args.key.now c.in-Some.number (owned (goal.at.free-requires c).In-Some)

updates : (c : After-remove) (x : List ℕ) → place_number c.remove.new.self.entries x
    ≡ update bytes_eq (place_number c.self.inside.numbers.entries) c.args.key.now None x
updates c x = hash_map_updates_text c.args.key.now c.self.inside.numbers c.remove.new.self None c.remove.ensures.updates x

pub invariant_of-self-2 : goal.invariant_of-self-2
invariant_of-self-2 c =
    let at = goal.at.invariant_of-self-2 c in
    let old = place_number c.self.inside.numbers.entries in
    let new = place_number c.remove.new.self.entries in
    let is = c.self.invariant in
    record {
      within = removed_within old new is.apart c.args.key.now c.in-Some.number (owned at.In-Some) c.self.inside.places
          c.free.new.self c.in_ok-free.ensures.ok (updates at.After-remove) is.within;
      apart = removed_apart old new is.apart c.args.key.now c.in-Some.number (owned at.In-Some) c.self.inside.places
          c.free.new.self c.in_ok-free.ensures.ok (updates at.After-remove) is.within;
      few = omega (arith, is.few, ap length c.in_ok-free.ensures.ok.places, freed_long (nat_eq c.in-Some.number) c.self.inside.places);
      total = is.total;
    }

numbers : (c : After-remove) (ps : _) → AreNumbers (place_number c.self.inside.numbers.entries) ps c.self.inside.places
    → AreNumbers (place_number c.remove.new.self.entries) (freed (bytes_eq c.args.key.now) ps) c.free.new.self
numbers c = removed_numbers (place_number c.self.inside.numbers.entries) (place_number c.remove.new.self.entries)
    c.self.invariant.apart c.args.key.now c.in-Some.number (owned (goal.at.After-remove c).In-Some) c.self.inside.places
    c.free.new.self c.in_ok-free.ensures.ok (updates c) c.self.invariant.within

pub returns-clause-warm : goal.returns-clause-warm
returns-clause-warm c = λ warm of.
    let at = (goal.at.returns-clause-warm c).After-remove in
    let now : IsDeleteOf warm [] _ = subst (IsDeleteOf warm []) (sym c.self.view_is) of in
    of_warm_removed now c.args.key.now c.remove.new.self.entries c.free.new.self
    (numbers at (places_of warm []) now.placed)

pub returns-clause-ok : goal.returns-clause-ok
returns-clause-ok c = λ warm trace of.
    let at = (goal.at.returns-clause-ok c).After-remove in
    let now : IsDeleteOf warm trace _ = subst (IsDeleteOf warm trace) (sym c.self.view_is) of in
    of_removed now c.args.key.now c.remove.new.self.entries c.free.new.self
    (numbers at (places_of warm trace) now.placed)
