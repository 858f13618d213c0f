use Rattle.std.proofs.Common.{◌≡◌, ◌+◌, ◌++◌, ℕ, sym, ap, ◌∙◌, arith, subst, true, false, Some, nat_eq, length, map, [], ◌∷◌}
use Rattle.std.proofs.lemmas.Cmp.{nat_eq_equiv}
use Rattle.std.proofs.lemmas.List.{get_or_append_left, get_or_push, length_push}
use Rattle.std.specs.Set.{remove_key}
use Rattle.lru_theory.specs.Places.{keys_in}
use Rattle.lru_theory.specs.Traces.{is_in}
use Rattle.lru_theory.proofs.Nexts.{without_absent}
use Rattle.lru_trace.specs.Places.{is_free, free_at, mark, time_in, ArePlaces}
use Rattle.std.proofs.Common.{List}
use Rattle.std.proofs.lemmas.Bool.{both_ways}
use Rattle.std.specs.Prelude.{is_some}
use Rattle.lru_theory.proofs.Windows.{in_less}
use Rattle.lru_trace.proofs.CurveSteps.{always_err, plain_fits}
use Rattle.lru_trace.proofs.Marks.{in_marks, never, marks_same, falls_on}
use Rattle.lru_trace.proofs.PlaceSteps.{few_ids, moved, moved_marks}
use Rattle.lru_trace.proofs.places.Places.add.Goals.{After-self-1, After-push_reserved}
use Rattle.lru_trace.proofs.places.Places.add.Goals as goal

same_before : (c : After-push_reserved) (x : ℕ) → is_in nat_eq x c.self.inside.distances.recency ≡ true
    → time_in c.push_reserved.new.self.items x ≡ time_in c.self.inside.times.items x
same_before c x e =
    let is = c.self.invariant in
    ap (λ ts. time_in ts x) (c.push_reserved.ensures.items ∙ ap (λ ts. ts ++ c.self.inside.clock ∷ []) c.in_ok-reserve.ensures.items)
    ∙ get_or_append_left c.self.inside.times.items (c.self.inside.clock ∷ []) 0 x (omega (arith, is.known x e, is.aligned))

absent : (c : After-push_reserved) → is_in nat_eq c.in_ok-id.id c.self.inside.distances.recency ≡ false
absent c = never (λ e. omega (arith, c.self.invariant.known c.in_ok-id.id e, c.in_ok-id.ensures.key))

long : (c : After-push_reserved) → length c.push_reserved.new.self.items ≡ c.self.inside.distances.keys + 1
long c = omega (
  arith,
  ap length (c.push_reserved.ensures.items ∙ ap (λ ts. ts ++ c.self.inside.clock ∷ []) c.in_ok-reserve.ensures.items),
  length_push c.self.inside.times.items c.self.inside.clock,
  c.self.invariant.aligned,
)

pub refer-requires-clause-fits : goal.refer-requires-clause-fits
refer-requires-clause-fits c =
    plain_fits c.add_key.new.self.weights c.in_ok-id.id c.add_key.new.self.recency
    (c.in_ok-id.ensures.weights ∙ c.self.invariant.plain) (omega (
      arith,
      few_ids c.self.invariant,
      ap length c.in_ok-id.ensures.recency,
      c.in-Some.ensures,
    ))

pub invariant_of-self-in_err-refer : goal.invariant_of-self-in_err-refer
invariant_of-self-in_err-refer c =
    let at = (goal.at.invariant_of-self-in_err-refer c).After-push_reserved in
    let is = c.self.invariant in
    let order = c.in_err-refer.ensures.err ∙ c.in_ok-id.ensures.recency in
    let keys : c.refer.new.self.keys ≡ c.self.inside.distances.keys + 1 =
    c.in_err-refer.ensures.keys ∙ c.in_ok-id.ensures.keys in
    record {
      aligned = long at ∙ sym keys;
      plain = c.in_err-refer.ensures.weights ∙ c.in_ok-id.ensures.weights ∙ is.plain;
      falls = rw order (falls_on (time_in c.self.inside.times.items) (time_in c.push_reserved.new.self.items)
          c.self.inside.clock c.self.inside.distances.recency (same_before at) is.falls);
      known = λ id e. omega (arith, is.known id (ap (is_in nat_eq id) (sym order) ∙ e), keys);
      found = λ t id e. (
        ap (is_in nat_eq id) order ∙ (is.found t id e).0,
        same_before at id (is.found t id e).0 ∙ (is.found t id e).1,
      );
    }

pub returns-in_err-refer-clause-err : goal.returns-in_err-refer-clause-err
returns-in_err-refer-clause-err c =
    let at = (goal.at.returns-in_err-refer-clause-err c).After-push_reserved in
    let free = c.self.inside.free.entries in
    let new = is_free free c.push_reserved.new.self.items in
    always_err c.from_residual-in_err-refer.result
    (ap (map (mark new)) (c.in_err-refer.ensures.err ∙ c.in_ok-id.ensures.recency)
    ∙ marks_same (is_free free c.self.inside.times.items) new c.self.inside.distances.recency
    (λ x e. ap (λ t. is_some (free_at free t)) (same_before at x e)) ∙ c.self.view_is)

module _ (c : After-self-1) where
  abbrev at : After-push_reserved
  at = (goal.at.After-self-1 c).After-push_reserved

  abbrev id : ℕ
  id = c.in_ok-id.id

  abbrev ids : List ℕ
  ids = c.self.inside.distances.recency

  back : (t j : ℕ) → free_at c.self.inside.free.entries t ≡ Some j → id ≡ j → ⊥
  back t j e same = both_ways _ (absent at) (ap (λ k. is_in nat_eq k ids) same ∙ (c.self.invariant.found t j e).0)

  order : c.refer.new.self.recency ≡ id ∷ remove_key (nat_eq id) ids
  order = c.in_ok-refer.ensures.recency ∙ ap (λ xs. id ∷ remove_key (nat_eq id) xs) c.in_ok-id.ensures.recency

  weights : c.refer.new.self.weights ≡ c.self.inside.distances.weights
  weights = c.in_ok-refer.ensures.weights ∙ c.in_ok-id.ensures.weights

  keys : c.refer.new.self.keys ≡ c.self.inside.distances.keys + 1
  keys = c.in_ok-refer.ensures.keys ∙ c.in_ok-id.ensures.keys

  now : time_in c.push_reserved.new.self.items id ≡ c.self.inside.clock
  now = ap (λ ts. time_in ts id)
      (c.push_reserved.ensures.items ∙ ap (λ ts. ts ++ c.self.inside.clock ∷ []) c.in_ok-reserve.ensures.items)
      ∙ get_or_push c.self.inside.times.items c.self.inside.clock 0 id
      (omega (arith, c.self.invariant.aligned, c.in_ok-id.ensures.key))

  others : (x : ℕ) → is_in nat_eq x (remove_key (nat_eq id) ids) ≡ true
      → time_in c.push_reserved.new.self.items x ≡ time_in c.self.inside.times.items x
  others x e = same_before at x (in_less nat_eq (nat_eq id) x ids e)

pub invariant_of-self-2 : goal.invariant_of-self-2
invariant_of-self-2 c =
    let later : c.in-Some.later ≡ c.self.inside.clock + 1 = omega (arith, c.in-Some.ensures) in
    subst (ArePlaces c.refer.new.self c.push_reserved.new.self.items c.self.inside.free.entries) (sym later)
    (moved c.self.invariant (id c) c.self.inside.free.entries c.refer.new.self c.push_reserved.new.self.items
    c.self.invariant.found (back c) (order c) (weights c) (long (at c) ∙ sym (keys c))
    (omega (arith, keys c, c.in_ok-id.ensures.key)) (omega (arith, keys c)) (now c) (others c))

pub returns-clause-ok : goal.returns-clause-ok
returns-clause-ok c =
    let free = is_free c.self.inside.free.entries c.self.inside.times.items in (
      moved_marks c.self.invariant (id c) c.self.inside.free.entries c.refer.new.self c.push_reserved.new.self.items
          c.self.invariant.found (back c) (order c) (weights c) (long (at c) ∙ sym (keys c))
          (omega (arith, keys c, c.in_ok-id.ensures.key)) (omega (arith, keys c)) (now c) (others c)
          ∙ ap (λ ps. Some (id c) ∷ ps) (ap (map (mark free)) (without_absent nat_eq_equiv (id c) (ids c) (absent (at c)))
          ∙ c.self.view_is),
      ap (λ ps. is_in nat_eq (id c) (keys_in ps)) (sym c.self.view_is)
          ∙ never (λ e. both_ways _ (absent (at c)) (in_marks free (id c) (ids c) e).0),
    )
