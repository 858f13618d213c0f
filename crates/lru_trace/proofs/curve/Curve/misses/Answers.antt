use Rattle.std.proofs.Common.{◌≡◌, take, sum, length, min, sym, ap, ◌∙◌, subst, arith}
use Rattle.std.proofs.lemmas.List.{take_all, take_min}
use Rattle.lru_trace.specs.Counted.{IsOf}
use Rattle.lru_trace.proofs.Numbered.{warm_misses_named}
use Rattle.lru_trace.proofs.curve.Curve.misses.Goals as goal

pub returns-clause-all : goal.returns-clause-all
returns-clause-all c = λ warm trace of.
    let now : IsOf warm trace _ = subst (IsOf warm trace) (sym c.self.view_is) of in
    let same = warm_misses_named c.self.inside.names warm trace now.before now.numbers now.warmed now.named
    c.args.places in
    let hits = now.hits c.args.places in
    let xs = c.deref.result.now in
    let m : c.min-places.result ≡ min c.args.places (length xs) =
    omega (arith, c.min-places.ensures, c.len.ensures, c.deref.ensures.len) in
    let all : sum (take c.loop-count.count-index (take c.min-places.result xs)) ≡ sum
    (take c.args.places c.self.inside.counts.items) =
    ap sum (take_all c.loop-count.count-index (take c.min-places.result xs) c.loop-count-test.false
    ∙ ap (λ n. take n xs) m ∙ take_min c.args.places xs ∙ ap (take c.args.places) c.deref.ensures.value) in
    let total : c.args.self.now.references ≡ c.self.inside.references = ap (λ v. v.references) (sym c.self.view_is) in
    omega (arith, hits, same, all, total, c.loop-count.invariant)
