use Rattle.std.proofs.Common.{rules, ◌+◌, length, arith, subst}
use Rattle.lru_model.specs.Callbacks.{InsertPasses}
use Rattle.schnellru.proofs.Maps.KeptPairs.{all_kept}
use Rattle.schnellru.proofs.map.LruMap.insert_and_keep.Goals as goal

pub returns-clause-passed : goal.returns-clause-passed
returns-clause-passed g c =
    let (passed, took, step) = c.insert_with-done.ensures.passed in
    let before = c.args.self.now in
    let few = c.inserts_pass_few.ensures.few c.args.key c.args.value before c.insert_with-done.result passed
    c.insert_with-done.new.self step in
    let all = all_kept _ (λ f. f.0) (λ f pair q called. record {
      same = search rules;
      capacity = search rules;
      items = search rules;
      len = search rules;
    }) _ (length before.pairs + 1) passed _ (search rules) c.in_ok-left.ensures.items c.in_ok-left.ensures.len took in
    let items = all.items (omega (arith, few)) in
    subst (λ out. InsertPasses g.L.Limiter.rules g.L.Insertion.offers g.I.LookupKey.names
    g.S.KeyHasher.hash_of c.args.key c.args.value before
    c.insert_with-done.result out c.insert_with-done.new.self) (search (rules, all.same, items)) step
