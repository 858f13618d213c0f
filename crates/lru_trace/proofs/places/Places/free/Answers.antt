use Rattle.std.proofs.Common.{◌≡◌, ℕ, ap, ◌∙◌, arith, true, cond, Some, nat_eq, map}
use Rattle.std.proofs.lemmas.List.{get_or_read}
use Rattle.std.specs.BTreeMap.{is_at}
use Rattle.std.specs.Ordering.{nat_cmp}
use Rattle.lru_theory.specs.Places.{keys_in, freed}
use Rattle.lru_theory.specs.Traces.{is_in}
use Rattle.lru_trace.specs.Places.{is_free, free_at, mark, time_in}
use Rattle.lru_trace.proofs.PlaceSteps.{stored_within, freed_are, freed_marks, freed_gone}
use Rattle.lru_trace.proofs.places.Places.free.Goals.{After-self, In-Ok}
use Rattle.lru_trace.proofs.places.Places.free.Goals as goal

has : (c : After-self) → is_in nat_eq c.args.key (keys_in (map (mark (is_free c.self.inside.free.entries
    c.self.inside.times.items)) c.self.inside.distances.recency)) ≡ true
has c = ap (λ ps. is_in nat_eq c.args.key (keys_in ps)) c.self.view_is ∙ c.requires

pub index-time-requires : goal.index-time-requires
index-time-requires c =
    let at = (goal.at.index-time-requires c).After-self in
    omega (arith, stored_within c.self.invariant (Some c.args.key) (has at), c.self.inside.times.ok.0)

after : (c : In-Ok) → (t : ℕ) → free_at c.insert.new.self.entries t ≡ cond (is_at (nat_cmp (time_in
    c.self.inside.times.items c.args.key)) t) (Some c.args.key) (free_at c.self.inside.free.entries t)
after c t =
    let few = stored_within c.self.invariant (Some c.args.key) (has (goal.at.In-Ok c).After-self) in
    let read = get_or_read c.self.inside.times.items c.args.key c.index-time.result.now few c.index-time.ensures 0 in
    c.in-Ok.ensures.updates.0 t
    ∙ ap (λ s. cond (is_at (nat_cmp s) t) (Some c.args.key) (free_at c.self.inside.free.entries t)) read

pub invariant_of-self-2 : goal.invariant_of-self-2
invariant_of-self-2 c =
    let at = goal.at.invariant_of-self-2 c in
    freed_are c.self.invariant c.args.key (has at.After-self) c.insert.new.self.entries (after at.In-Ok)

pub returns-clause-ok : goal.returns-clause-ok
returns-clause-ok c =
    let at = goal.at.returns-clause-ok c in
    let free = c.insert.new.self.entries in
    record {
      places = freed_marks c.self.invariant c.args.key (has at.After-self) free (after at.In-Ok)
          ∙ ap (freed (nat_eq c.args.key)) c.self.view_is;
      gone = freed_gone c.self.invariant c.args.key (has at.After-self) free (after at.In-Ok);
    }
