use Rattle.std.proofs.Common.{◌≡◌, ◌<◌, ◌+◌, ℕ, refl, sym, ap, ◌∙◌, arith, subst, true, false, Some, None, nat_eq, length, map, set, List, ◌∷◌}
use Rattle.std.proofs.lemmas.Grind.{get_or-set_at}
use Rattle.std.proofs.lemmas.List.{get_or-set_other, length-set}
use Rattle.std.proofs.lemmas.Result.{IfOk-weaker}
use Rattle.std.specs.Prelude.{IfSome}
use Rattle.std.specs.Set.{remove_key}
use Rattle.lru_theory.specs.Places.{keys_in, vacated}
use Rattle.lru_theory.specs.Traces.{is_in}
use Rattle.lru_trace.specs.Places.{is_free, mark, owns, time_in, ArePlaces, Chosen}
use Rattle.lru_trace.proofs.CurveSteps.{plain_fits}
use Rattle.lru_trace.proofs.Marks.{marks_stay, removed_out}
use Rattle.std.proofs.lemmas.Bool.{both_ways}
use Rattle.lru_trace.proofs.PlaceSteps.{Moves, same_places, stored_within, chosen_moves, no_move, few_ids, moved, moved_marks}
use Rattle.lru_trace.proofs.PlaceSteps.{moved_fresh, moved_gone, moved_apart}
use Rattle.lru_trace.proofs.places.Places.refer.Goals.{After-self, In_ok-id, In-Some-2, In_ok-refer}
use Rattle.lru_trace.proofs.places.Places.refer.Goals as goal

stored : (c : After-self) → IfSome c.args.key (λ i. is_in nat_eq i (keys_in (map (mark (is_free c.self.inside.free.entries
    c.self.inside.times.items)) c.self.inside.distances.recency)) ≡ true)
stored c = subst (λ ps. IfSome c.args.key (λ i. is_in nat_eq i (keys_in ps) ≡ true)) (sym c.self.view_is) c.requires

chosen : (c : In_ok-id) → Chosen c.args.key c.self.inside.times.items c.self.inside.free.entries c.choose.new.free.entries
    c.in_ok-id.field-0
chosen c = subst (λ ts. Chosen c.args.key ts c.self.inside.free.entries c.choose.new.free.entries c.in_ok-id.field-0)
    c.deref.ensures.value c.in_ok-id.ensures.ok

moves : (c : In-Some-2) → Moves c.args.key c.self.inside.distances c.self.inside.times.items c.self.inside.free.entries
    c.choose.new.free.entries c.in-Some-2.id
moves c =
    let at = goal.at.In-Some-2 c in
    chosen_moves c.self.invariant c.args.key (stored at.After-self) c.choose.new.free.entries c.in_ok-id.field-0
    c.in-Some-2.id c.in-Some-2.is (chosen at.In_ok-id)

pub invariant_of-self : goal.invariant_of-self
invariant_of-self c =
    let e = c.in_err-reserve.ensures in
    same_places c.self.invariant c.reserve.new.self e.recency e.keys e.weights

pub choose-requires : goal.choose-requires
choose-requires c =
    subst (λ ts. IfSome c.args.key (λ i. i < length ts)) (sym c.deref.ensures.value)
    (stored_within c.self.invariant c.args.key (stored (goal.at.choose-requires c).After-self))

pub invariant_of-self-in_err-id : goal.invariant_of-self-in_err-id
invariant_of-self-in_err-id c =
    let e = c.in_ok-reserve.ensures in
    subst (λ es. ArePlaces c.reserve.new.self c.self.inside.times.items es c.self.inside.clock)
    (sym c.in_err-id.ensures.err) (same_places c.self.invariant c.reserve.new.self e.recency e.keys e.weights)

pub returns-in_default-2-clause-ok : goal.returns-in_default-2-clause-ok
returns-in_default-2-clause-ok c =
    let at = goal.at.returns-in_default-2-clause-ok c in
    let none = no_move c.self.invariant c.args.key c.choose.new.free.entries c.in_ok-id.field-0 c.in_default-2.is
    (chosen at.In_ok-id) in
    let free = is_free c.self.inside.free.entries c.self.inside.times.items in
    let mid : map (mark (is_free c.choose.new.free.entries c.self.inside.times.items)) c.reserve.new.self.recency
    ≡ map (mark free) c.self.inside.distances.recency =
    (λ i. map (mark (is_free (none.1 i) c.self.inside.times.items)) (c.in_ok-reserve.ensures.recency i)) in
    let same : vacated (owns c.args.key) c.args.self.now ≡ c.args.self.now =
    ap (λ o. vacated (owns o) c.args.self.now) none.0 ∙ ap (vacated (owns None)) (sym c.self.view_is)
    ∙ marks_stay free none.2 c.self.inside.distances.recency ∙ c.self.view_is in
    IfOk-weaker c.add.result _ _ (λ id new. record {
      places = new.0 ∙ ap (λ ps. Some id ∷ ps) (mid ∙ c.self.view_is ∙ sym same);
      fresh = ap (λ ps. is_in nat_eq id (keys_in ps)) (same ∙ sym (mid ∙ c.self.view_is)) ∙ new.1;
      gone = subst (λ o. IfSome o (λ i. is_in nat_eq i (keys_in (vacated (owns o) c.args.self.now)) ≡ false)) (sym none.0) tt;
    }) c.add.ensures.ok

pub refer-requires-clause-key : goal.refer-requires-clause-key
refer-requires-clause-key c =
    let at = (goal.at.refer-requires-clause-key c).In-Some-2 in
    omega (arith, c.self.invariant.known c.in-Some-2.id (moves at).inside, c.in_ok-reserve.ensures.keys)

pub refer-requires-clause-fits : goal.refer-requires-clause-fits
refer-requires-clause-fits c =
    plain_fits c.reserve.new.self.weights c.in-Some-2.id c.reserve.new.self.recency
    (c.in_ok-reserve.ensures.weights ∙ c.self.invariant.plain)
    (omega (arith, few_ids c.self.invariant, ap length c.in_ok-reserve.ensures.recency, c.in-Some.ensures))

pub index_mut-requires : goal.index_mut-requires
index_mut-requires c =
    let at = (goal.at.index_mut-requires c).In-Some-2 in
    omega (
      arith,
      c.self.invariant.known c.in-Some-2.id (moves at).inside,
      c.self.invariant.aligned,
      c.self.inside.times.ok.0,
    )

module _ (c : In_ok-refer) where
  abbrev move : Moves c.args.key c.self.inside.distances c.self.inside.times.items c.self.inside.free.entries
      c.choose.new.free.entries c.in-Some-2.id
  move = moves (goal.at.In_ok-refer c).In-Some-2

  abbrev id : ℕ
  id = c.in-Some-2.id

  abbrev ids : List ℕ
  ids = c.self.inside.distances.recency

  abbrev times : List ℕ
  times = c.self.inside.times.items

  abbrev later : List ℕ
  later = set times id c.self.inside.clock

  within : id < length times
  within = omega (arith, c.self.invariant.known id move.inside, c.self.invariant.aligned)

  order : c.refer.new.self.recency ≡ id ∷ remove_key (nat_eq id) ids
  order = c.in_ok-refer.ensures.recency ∙ ap (λ xs. id ∷ remove_key (nat_eq id) xs) c.in_ok-reserve.ensures.recency

  weights : c.refer.new.self.weights ≡ c.self.inside.distances.weights
  weights = c.in_ok-refer.ensures.weights ∙ c.in_ok-reserve.ensures.weights

  keys : c.refer.new.self.keys ≡ c.self.inside.distances.keys
  keys = c.in_ok-refer.ensures.keys ∙ c.in_ok-reserve.ensures.keys

  long : length later ≡ c.refer.new.self.keys
  long = omega (arith, length-set times id c.self.inside.clock, c.self.invariant.aligned, keys)

  small : id < c.refer.new.self.keys
  small = omega (arith, c.self.invariant.known id move.inside, keys)

  now : time_in later id ≡ c.self.inside.clock
  now = get_or-set_at times id id c.self.inside.clock 0 refl within

  others : (x : ℕ) → is_in nat_eq x (remove_key (nat_eq id) ids) ≡ true → time_in later x ≡ time_in times x
  others x e = get_or-set_other times id x c.self.inside.clock 0 (λ same. both_ways _
      (removed_out (time_in times) id c.self.inside.clock ids c.self.invariant.falls)
      (ap (λ y. is_in nat_eq y (remove_key (nat_eq id) ids)) (sym same) ∙ e))

pub invariant_of-self-2 : goal.invariant_of-self-2
invariant_of-self-2 c =
    let at = (goal.at.invariant_of-self-2 c).In_ok-refer in
    let next : c.in-Some.later ≡ c.self.inside.clock + 1 = omega (arith, c.in-Some.ensures) in
    subst (ArePlaces c.refer.new.self (later at) c.choose.new.free.entries) (sym next)
    (moved c.self.invariant (id at) c.choose.new.free.entries c.refer.new.self (later at) (move at).back
    (moved_apart c.self.invariant c.args.key c.choose.new.free.entries (id at) (move at)) (order at) (weights at) (long at)
    (small at) (omega (arith, keys at)) (now at) (others at))

pub returns-clause-ok : goal.returns-clause-ok
returns-clause-ok c =
    let at = (goal.at.returns-clause-ok c).In_ok-refer in
    let free = c.choose.new.free.entries in
    let view = c.self.view_is in
    record {
      places = moved_marks c.self.invariant (id at) free c.refer.new.self (later at) (move at).back
          (moved_apart c.self.invariant c.args.key free (id at) (move at)) (order at) (weights at) (long at) (small at)
          (omega (arith, keys at)) (now at) (others at)
          ∙ ap (λ ps. Some (id at) ∷ ps) ((move at).marks ∙ ap (vacated (owns c.args.key)) view);
      fresh = ap (λ ps. is_in nat_eq (id at) (keys_in (vacated (owns c.args.key) ps))) (sym view)
          ∙ moved_fresh c.self.invariant c.args.key free (id at) (move at);
      gone = subst (λ ps. IfSome c.args.key (λ i. is_in nat_eq i (keys_in (vacated (owns c.args.key) ps)) ≡ false)) view
          (moved_gone c.self.invariant c.args.key free (id at) (move at));
    }
