use Rattle.std.proofs.Common.{◌≡◌, ℕ, ◌+◌, ◌/◌, ◌^◌, ◌<◌, ◌≤◌, Some, None, ◌∷◌, length, take, get_or}
use Rattle.std.proofs.Common.{sym, ap, subst, ◌∙◌, arith}
use Rattle.std.specs.Prelude.{nat_eq, sum_by, vec_len, vec_capacity}
use Rattle.std.proofs.lemmas.List.{take_all, length-map, length-replicate, get_or-map}
use Rattle.lru_theory.specs.Traces.{is_in}
use Rattle.lru_trace.specs.Slots.{newest, live, held, weight_in}
use Rattle.lru_trace.proofs.Newest.{held_key, held_free, newest_more, newest_taken, newest_few}
use Rattle.lru_trace.proofs.Logs.{absent_before, empty_log, first_fit}
use Rattle.lru_trace.proofs.distances.Distances.make_room.Goals.{After-self, After-deref-key-items}
use Rattle.lru_trace.proofs.distances.Distances.make_room.Goals.{Then-key, then-key, else-key}
use Rattle.lru_trace.proofs.distances.Distances.make_room.Goals as goal

used_few : (c : After-self) → c.self.inside.used ≤ vec_len c.self.inside.log
used_few c =
    let log = c.self.inside.log in
    omega (arith, c.self.invariant.counted, newest_few (live log.items), length-map log.items held, log.ok.0)

pub overflow_add-blocks : goal.overflow_add-blocks
overflow_add-blocks c =
    omega (arith, used_few (goal.at.overflow_add-blocks c).After-self, c.self.inside.log.small)

old : (c : After-deref-key-items) → c.deref-key-items.result.now ≡ c.self.inside.log.items
old c = c.deref-key-items.ensures.value ∙ ap (λ v. v.items) c.replace-log.ensures.value

pub invariant_of-self : goal.invariant_of-self
invariant_of-self c = empty_log (vec_len c.self.inside.slots) ((c.self.inside.used + c.self.inside.used / 2) / 16 + 1)
    (ap (λ v. v.items) c.replace-log.ensures.after ∙ c.in_ok-free.ensures.items)
    (omega (arith, ap vec_capacity c.replace-log.ensures.after, c.in_ok-free.ensures.capacity))
    (c.fill.ensures.items (λ y e. e))
    (omega (arith, c.self.invariant.few, c.self.inside.slots.ok.0))
    c.in_ok-sums.ensures

pub loop-key-init : goal.loop-key-init
loop-key-init c = (
  ap (λ v. newest (live v.items)) c.replace-log.ensures.after ∙ ap (λ items. newest (live items)) c.in_ok-free.ensures.items,
  omega (arith, c.fill.ensures.len, ap (λ r. r.keys) c.self.view_is),
  ap (λ r. r.weights) c.self.view_is,
  omega (
    arith,
    ap length c.in_ok-sums.ensures,
    length-replicate {A = ℕ} ((c.self.inside.used + c.self.inside.used / 2) / 16 + 1) 0,
    ap vec_len c.replace-log.ensures.after,
    c.in_ok-free.ensures.len,
  ),
)

abbrev number : (c : Then-key) → ℕ
number c = get_or c.deref-key-items.result.now c.loop-key.key-index 0

here : (c : Then-key) → get_or (live c.self.inside.log.items) c.loop-key.key-index None ≡ Some (number c)
here c =
    let same = ap (λ items. get_or items c.loop-key.key-index 0) (old (goal.at.Then-key c).After-deref-key-items) in
    get_or-map held c.self.inside.log.items c.loop-key.key-index 0 None
    (omega (arith, c.loop-key-test.true, ap length (old (goal.at.Then-key c).After-deref-key-items)))
    ∙ ap held (sym same) ∙ held_key (number c) c.if-key.true

before : (c : Then-key) → c.loop-key.self.recency ≡ newest (take c.loop-key.key-index (live c.self.inside.log.items))
before c = c.loop-key.invariant.0
    ∙ ap (λ items. newest (take c.loop-key.key-index (live items))) (old (goal.at.Then-key c).After-deref-key-items)

pub append-requires-clause-key : goal.append-requires-clause-key
append-requires-clause-key c =
    let at = (goal.at.append-requires-clause-key c).Then-key in
    omega (
      arith,
      (c.self.invariant.keys (number at) c.loop-key.key-index (here at)).within,
      c.loop-key.invariant.1,
      ap (λ r. r.keys) c.self.view_is,
      c.self.inside.slots.ok.0,
    )

pub append-requires-clause-absent : goal.append-requires-clause-absent
append-requires-clause-absent c =
    let at = (goal.at.append-requires-clause-absent c).Then-key in
    ap (is_in nat_eq (number at)) (before at)
    ∙ absent_before c.self.invariant (number at) c.loop-key.key-index (here at)

on : (c : Then-key) → number c ∷ c.loop-key.self.recency
    ≡ newest (take (c.loop-key.key-index + 1) (live c.self.inside.log.items))
on c =
    let items = c.self.inside.log.items in
    ap (λ ks. number c ∷ ks) (before c)
    ∙ sym (newest_more (live items) c.loop-key.key-index (Some (number c)) (omega (
      arith,
      c.loop-key-test.true,
      ap length (old (goal.at.Then-key c).After-deref-key-items),
      length-map items held,
    )) (here c))

pub append-requires-clause-fits : goal.append-requires-clause-fits
append-requires-clause-fits c =
    let at = (goal.at.append-requires-clause-fits c).Then-key in
    let same : c.loop-key.self.weights ≡ c.self.inside.weights.items =
    c.loop-key.invariant.2 ∙ ap (λ r. r.weights) (sym c.self.view_is) in
    let all : sum_by (weight_in c.loop-key.self.weights) (number at ∷ c.loop-key.self.recency)
    ≡ sum_by (weight_in c.self.inside.weights.items)
    (newest (take (c.loop-key.key-index + 1) (live c.self.inside.log.items))) =
    λ j. sum_by (weight_in (same j)) (on at j) in
    subst (λ n. n < 2 ^ 64) (sym all) (first_fit c.self.invariant (c.loop-key.key-index + 1))

few : (c : After-deref-key-items) (n : ℕ)
    → length (newest (take n (live c.deref-key-items.result.now))) ≤ c.self.inside.used
few c n = omega (
  arith,
  newest_taken (live c.deref-key-items.result.now) n,
  ap (λ items. length (newest (live items))) (old c),
  c.self.invariant.counted,
)

pub append-requires-clause-room : goal.append-requires-clause-room
append-requires-clause-room c =
    let at = (goal.at.append-requires-clause-room c).After-deref-key-items in
    omega (arith, few at c.loop-key.key-index, c.loop-key.invariant.3)

pub loop-key-preserved : goal.loop-key-preserved
loop-key-preserved c =
    let items = c.deref-key-items.result.now in
    let i = c.loop-key.key-index in
    let inv = c.loop-key.invariant in
    let within : i < length (live items) = omega (arith, c.loop-key-test.true, length-map items held) in
    let read = get_or-map held items i 0 None c.loop-key-test.true in
    elim c.if-key.branch [
      | then-key w ↦
          let more = newest_more (live items) i (Some (get_or items i 0)) within
          (read ∙ held_key (get_or items i 0) w.if-key.true) in
          rw (w.self-is, more) (
            w.append.ensures.recency ∙ ap (λ xs. get_or items i 0 ∷ xs) inv.0,
            w.append.ensures.keys ∙ inv.1,
            w.append.ensures.weights ∙ inv.2,
            omega (arith, w.append.ensures.room, inv.3),
          )
      | else-key w ↦
          let more = newest_more (live items) i None within (read ∙ held_free (get_or items i 0) w.if-key.false) in
          rw (w.self-is, more) inv
    ]

pub returns-clause-recency : goal.returns-clause-recency
returns-clause-recency c =
    let items = c.deref-key-items.result.now in
    c.loop-key.invariant.0
    ∙ ap newest (take_all c.loop-key.key-index (live items) (omega (arith, length-map items held)))
    ∙ ap (λ items. newest (live items)) (old (goal.at.returns-clause-recency c).After-deref-key-items)
    ∙ ap (λ r. r.recency) c.self.view_is

pub returns-clause-keys : goal.returns-clause-keys
returns-clause-keys c = c.loop-key.invariant.1

pub returns-clause-weights : goal.returns-clause-weights
returns-clause-weights c = c.loop-key.invariant.2

pub returns-clause-room : goal.returns-clause-room
returns-clause-room c =
    let at = (goal.at.returns-clause-room c).After-deref-key-items in
    omega (arith, few at c.loop-key.key-index, c.loop-key.invariant.3)
