use Rattle.std.proofs.Common.{◌≡◌, ℕ, List, ◌++◌, IfOk, decimal, codes, subst}
use Rattle.std.specs.String.{string_bytes}
use Rattle.lru_trace.specs.declared.rows.Counts.{Counts}
use Rattle.lru_trace.proofs.svg.title_text.Goals as goal

abbrev titled : Counts → List ℕ → List ℕ
titled counts rest = codes "<text x='900' y='290'>" ++ (decimal counts.references ++ (codes " references to "
    ++ (decimal counts.keys ++ (codes " keys, " ++ (decimal counts.malformed ++ (codes " malformed lines"
    ++ (rest ++ codes "</text>\n")))))))

pub returns : goal.returns
returns c = subst (λ rest. IfOk c.format.result (λ text. string_bytes text ≡ titled c.args.counts rest))
    c.in_ok-skipped.ensures c.format.ensures.ok
