use Rattle.std.proofs.Common.{◌∷◌, [], ◌++◌, length, reverse, refl, sym, ap, ◌∙◌, subst, arith, append-nil}
use Rattle.std.proofs.lemmas.List.{append_assoc, length-append}
use Rattle.std.proofs.lemmas.Fn.{FoldsTo-push}
use Rattle.std.specs.Fn.{Called}
use denote.Param.Always.{mut_next}
use Rattle.lru_model.specs.Callbacks.{CalledWith}
use Rattle.lru_tenants.proofs.Pops.{popped-last, popped-reverse, popped-none}
use Rattle.lru_tenants.proofs.tenant.empty.Goals as goal

pub pops-init : goal.pops-init
pops-init g c = record { callable = c.requires.callable; passed = ([], refl, refl) }

pub pops-smaller : goal.pops-smaller
pops-smaller g c =
    let st = c.pops.map in let new = c.pop_oldest.new.self in
    let pair : g.row.K.Denot × g.row.V.Denot = (c.in-Some.key, c.in-Some.value) in
    omega (
      arith,
      ap length (popped-last g.L.Limiter.rules g.met.L.Budgeted.laws.leaves st new pair c.in-Some.ensures.step),
      length-append new.pairs (pair ∷ []),
    )

pub pops-preserved : goal.pops-preserved
pops-preserved g c =
    let st = c.pops.map in let new = c.pop_oldest.new.self in let key = c.in-Some.key in let value = c.in-Some.value in
    let (passed, takes, all) = c.pops.invariant.passed in record {
      callable = mut_next g.F.FnMut c.pops.sink (key, (value, tt)) tt c.sink.new.self c.sink.new.self c.sink.ensures
          refl c.pops.invariant.callable;
      passed = (
        passed ++ (key, value) ∷ [],
        FoldsTo-push (λ p x q. Called g.F.FnMut p (x.0, (x.1, tt)) tt q) c.args.sink.now passed c.pops.sink
            (key, value) c.sink.new.self takes c.sink.ensures,
        append_assoc passed ((key, value) ∷ []) (reverse new.pairs)
            ∙ ap (λ l. passed ++ l)
            (sym (popped-reverse g.L.Limiter.rules g.met.L.Budgeted.laws.leaves st new (key, value)
            c.in-Some.ensures.step)) ∙ all,
      );
    }

pub returns-clause-passed : goal.returns-clause-passed
returns-clause-passed g c =
    let (passed, takes, all) = c.pops.invariant.passed in
    subst (λ l. CalledWith g.F.FnMut c.args.sink.now l c.pops.sink) (sym (append-nil passed)
    ∙ ap (λ l. passed ++ reverse l)
    (sym (popped-none g.L.Limiter.rules g.met.L.Budgeted.laws.leaves c.pops.map c.pop_oldest.new.self
    c.in_default.ensures.step)) ∙ all) takes
