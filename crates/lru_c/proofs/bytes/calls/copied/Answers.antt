use Rattle.std.proofs.Common.{rules, sym, ◌∙◌}
use Rattle.std.specs.Cmp.Lexicographic.{bytes_decides}
use Rattle.std.specs.List.{each_same}
use Rattle.lru_c.specs.Bytes.{Copies}
use Rattle.lru_c.proofs.ByteCopies.{same_texts}
use Rattle.lru_c.proofs.bytes.calls.copied.Goals as goal

pub clone-requires-clause-keys : goal.clone-requires-clause-keys
clone-requires-clause-keys c key copy clone =
    (bytes_decides key.items copy.items).1 (sym (each_same key.items copy.items clone.0))

pub returns-in-Ok : goal.returns-in-Ok
returns-in-Ok c =
    let old = c.args.map.now in let copy = c.in-Ok.copy in let clone = c.in-Ok.ensures.clone in
    let copies : Copies old copy = record {
      entries = same_texts _ (λ x y same. each_same x.items y.items same.0) old.pairs copy.pairs clone.pairs;
      rest = clone.rest ∙ (λ i. record old { pairs = copy.pairs; limiter = clone.limiter i; hasher = clone.hasher i });
    } in
    search (rules, copies)
