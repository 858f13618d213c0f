use Rattle.std.proofs.Common.{cond, ◌≡◌, ◌<◌, ℕ, List, Some, Option, sym, ap, ◌∙◌, subst, arith, length, nat_eq, true}
use Rattle.std.proofs.lemmas.Map.Text.{hash_map_updates_text}
use Rattle.std.specs.Map.{update}
use Rattle.std.specs.Option.{option_map}
use Rattle.std.specs.Prelude.{IfSome}
use Rattle.std.specs.Str.{bytes_eq}
use Rattle.std.specs.String.{string_bytes}
use Rattle.lru_theory.specs.Places.{keys_in, place_of}
use Rattle.lru_theory.specs.Traces.{is_in}
use Rattle.lru_trace.specs.Deletes.{AreNumbers, place_number}
use Rattle.lru_trace.proofs.CurveSteps.{always_err}
use Rattle.lru_trace.proofs.PlaceNumbers.{reordered, referred_numbers, referred_within, referred_apart, referred_long}
use Rattle.lru_trace.proofs.PlaceNumbers.{found_at, within_at}
use Rattle.lru_trace.proofs.delete_curve.DeleteCurve.place.Goals.{In_ok-reserve, In-Ok}
use Rattle.lru_trace.proofs.delete_curve.DeleteCurve.place.Goals as goal

same : (c : In_ok-reserve) (x : List ℕ) → place_number c.reserve.new.self.entries x ≡ place_number c.self.inside.numbers.entries x
same c x = reordered c.self.inside.numbers c.reserve.new.self c.in_ok-reserve.ensures.entries.2 x

pub refer-requires : goal.refer-requires
refer-requires c = subst (λ ps. IfSome c.number_of-own.result (λ i. is_in nat_eq i (keys_in ps) ≡ true))
    (ap (λ v. v.places) (sym c.self.view_is)) c.number_of-own.ensures.there

pub invariant_of-self-in_err-number : goal.invariant_of-self-in_err-number
invariant_of-self-in_err-number c =
    let at = (goal.at.invariant_of-self-in_err-number c).In_ok-reserve in
    let is = c.self.invariant in
    let old = c.in_err-number.ensures.err in
    record {
      within = λ key n e. ap (λ ps. is_in nat_eq n (keys_in ps)) old ∙ is.within key n (sym (same at key) ∙ e);
      apart = λ a b n d e. is.apart a b n (sym (same at a) ∙ d) (sym (same at b) ∙ e);
      few = omega (arith, is.few, ap length old);
      total = is.total;
    }

pub returns-in_err-number-clause-err : goal.returns-in_err-number-clause-err
returns-in_err-number-clause-err c =
    let at = (goal.at.returns-in_err-number-clause-err c).In_ok-reserve in
    let view = c.self.view_is in
    always_err c.from_residual-in_err-number.result (record {
      names = λ x. same at x ∙ ap (λ v. place_number v.names x) view;
      rest = λ i. record {
        names = c.reserve.new.self.entries;
        places = (c.in_err-number.ensures.err ∙ ap (λ v. v.places) view) i;
        counts = ap (λ v. v.counts) view i;
        references = ap (λ v. v.references) view i;
      };
    })

module _ (c : In-Ok) where
  abbrev old : List ℕ → Option ℕ
  old = place_number c.self.inside.numbers.entries

  abbrev new : List ℕ → Option ℕ
  new = place_number c.insert.new.self.entries

  abbrev own : Option ℕ
  own = c.number_of-own.result

  abbrev key : List ℕ
  key = c.args.key.now

  owned : old key ≡ own
  owned = ap (λ v. place_number v.names key) c.self.view_is ∙ sym c.number_of-own.ensures.number

  updates : (x : List ℕ) → new x ≡ update bytes_eq old key (Some c.in_ok-number.number) x
  updates x =
      hash_map_updates_text (string_bytes c.in_ok-name.name) c.reserve.new.self c.insert.new.self
      (Some c.in_ok-number.number) c.in-Ok.ensures.updates x
      ∙ (λ i. update bytes_eq (place_number c.reserve.new.self.entries) (c.in_ok-name.ensures.ok i) (Some c.in_ok-number.number) x)
      ∙ ap (λ o. cond (bytes_eq key x) (Some c.in_ok-number.number) o) (same (goal.at.In-Ok c).In_ok-reserve x)

pub invariant_of-self-2 : goal.invariant_of-self-2
invariant_of-self-2 c =
    let is = c.self.invariant in
    let number = c.in_ok-number.number in
    let places = c.self.inside.places in
    let next = c.refer.new.self in
    let moved = c.in_ok-number.ensures.ok in
    record {
      within = referred_within (old c) (new c) is.apart (key c) (own c) (owned c) number places next moved (updates c)
          is.within;
      apart = referred_apart (old c) (new c) is.apart (key c) (own c) (owned c) number places next moved (updates c)
          is.within;
      few = omega (
        arith,
        referred_long (old c) (new c) is.apart (key c) (own c) (owned c) number places next moved (updates c) is.within,
        c.requires,
        ap (λ v. length v.places) c.self.view_is,
        ap (λ v. length v.counts) c.self.view_is,
      );
      total = is.total;
    }

pub returns-clause-ok : goal.returns-clause-ok
returns-clause-ok c =
    let at = (goal.at.returns-clause-ok c).In-Ok in
    let is = c.self.invariant in
    let view = c.self.view_is in
    let places = c.self.inside.places in
    let inside : (ps : List (Option (List ℕ))) → AreNumbers (place_number c.args.self.now.names) ps c.args.self.now.places
    → AreNumbers (old at) ps places = λ ps h. subst (λ v. AreNumbers (place_number v.names) ps v.places) (sym view) h in
    record {
      numbers = λ ps h. referred_numbers (old at) (new at) is.apart (key at) (own at) (owned at) c.in_ok-number.number places
          c.refer.new.self c.in_ok-number.ensures.ok (updates at) is.within ps (inside ps h);
      found = λ ps h. c.newer-place.ensures
          ∙ ap (λ v. option_map (λ id. place_of (nat_eq id) v.places) (own at)) (sym view)
          ∙ found_at (old at) is.apart (key at) ps places (inside ps h) is.within (own at) (owned at);
      within = subst (λ o. IfSome o (λ n. n < length c.args.self.now.places)) (sym c.newer-place.ensures)
          (within_at (own at) c.args.self.now.places c.number_of-own.ensures.there);
      rest = λ i. record {
        names = c.insert.new.self.entries;
        places = c.refer.new.self;
        counts = ap (λ v. v.counts) view i;
        references = ap (λ v. v.references) view i;
      };
    }
