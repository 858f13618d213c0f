use Rattle.std.proofs.Common.{sym}
use Rattle.std.specs.String.{string_eq}
use Rattle.lru_model.specs.Runs.{calls, inserts, gets}
use Rattle.lru_model.proofs.CallerLemmas.{read_back}
use Rattle.schnellru_tests.proofs.callers.fetch.Goals as goal

pub returns-in-Some : goal.returns-in-Some
returns-in-Some g c =
    let old = c.args.map.now in let names = string_eq c.args.key in
    let back = read_back names old c.in-Some.text.now (sym c.in-Some.ensures.value) in
    c.calls_evict_the_oldest.ensures.others names old _ (calls (gets names back), λ k named. named)

pub returns-in_err-insert : goal.returns-in_err-insert
returns-in_err-insert g c =
    let old = c.args.map.now in let new = c.insert.new.self in
    c.calls_evict_the_oldest.ensures.others (string_eq c.args.key) old new
    (calls (inserts c.args.key c.in_ok-clone.field-0 c.insert.result c.insert.ensures.step), λ k named. named)

pub returns : goal.returns
returns g c =
    let old = c.args.map.now in let new = c.insert.new.self in
    c.calls_evict_the_oldest.ensures.others (string_eq c.args.key) old new
    (calls (inserts c.args.key c.in_ok-clone.field-0 c.insert.result c.insert.ensures.step), λ k named. named)
