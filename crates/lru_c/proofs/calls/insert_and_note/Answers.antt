use Rattle.std.proofs.Common.{◌≡◌, ◌≤◌, arith, false, rules, sym, ap, ◌∙◌, nat_eq, Result, Ok, Err, OnErr}
use Rattle.std.proofs.lemmas.Result.{IfOk-weaker}
use Rattle.std.specs.Prelude.{option_map}
use Rattle.lru_model.proofs.CallerLemmas.{lookup-entry, plain-changes_none}
use Rattle.lru_model.specs.Inserts.{kept_of}
use Rattle.lru_model.specs.Kept.{KeepsToLength, most_exact_length}
use Rattle.lru_model.specs.declared.results.Inserted.{Inserted}
use Rattle.lru_c.proofs.OneEvicted.{one_evicted}
use Rattle.lru_c.proofs.NotedPairs.{noted_first}
use Rattle.lru_c.proofs.calls.insert_and_note.Goals as goal

pub returns-clause-passed : goal.returns-clause-passed
returns-clause-passed c =
    let (passed, takes, step) = c.insert_full.ensures.passed in
    let notes = noted_first (λ f. record { key = f.2.now; noted = f.0; place = f.1 }) _ (λ f pair g called. record {
      key = search rules;
      noted = search rules;
      place = search rules;
      pair = search rules;
      untouched = search rules;
    }) passed _ _ takes (search rules) in
    let old = c.args.map.now in
    let new = c.insert_full.new.self in
    let keeps : old.limiter ≤ most_exact_length → KeepsToLength old = λ most. record {
      within = c.requires.fits.within;
      half = most;
      links = c.requires.fits.links;
      entry = omega (arith, c.requires.fits.entry);
      sized = c.len-len.ensures.map.sized;
    } in
    let lost = c.nothing_is_lost.ensures.all c.args.key c.args.value old (kept_of c.insert_full.result) passed new
    (plain-changes_none _ _) step in (
      passed,
      search (rules, notes.pair, notes.noted, notes.place),
      step,
      λ most. one_evicted c.args.key c.args.value old new _ passed c.requires.fits.within
          (c.inserts_leave_the_newest.ensures.newest c.args.key c.args.value old (kept_of c.insert_full.result) new
          (keeps most) c.insert_full.ensures.step) lost,
    )

pub returns-clause-untouched : goal.returns-clause-untouched
returns-clause-untouched c none =
    let (passed, takes, step) = c.insert_full.ensures.passed in
    let notes = noted_first (λ f. record { key = f.2.now; noted = f.0; place = f.1 }) _ (λ f pair g called. record {
      key = search rules;
      noted = search rules;
      place = search rules;
      pair = search rules;
      untouched = search rules;
    }) passed _ _ takes (search rules) in
    let no_pair : c.insert_full.new.sink.0.now ≡ false = search (rules, none, notes.noted) in
    search (rules, (notes.untouched no_pair).1, notes.place)

on_err_kept : {V E P Q : Type 0} (result : Result (Inserted V) E) → (P → Q) → OnErr (kept_of result) P → OnErr result Q
on_err_kept (Ok inserted) f holds = tt
on_err_kept (Err error) f holds = f holds

pub returns-clause-replaced : goal.returns-clause-replaced
returns-clause-replaced c = IfOk-weaker c.insert_full.result _ _ (λ inserted unkept.
    unkept ∙ sym (lookup-entry (nat_eq c.args.key) c.args.map.now.pairs)) c.insert_full.ensures.unkept

pub returns-clause-out_of_memory : goal.returns-clause-out_of_memory
returns-clause-out_of_memory c = on_err_kept c.insert_full.result (λ out_of_memory.
    lookup-entry (nat_eq c.args.key) c.args.map.now.pairs ∙ ap (option_map
    (λ p. p.1)) out_of_memory.0) c.insert_full.ensures.ends.out_of_memory
