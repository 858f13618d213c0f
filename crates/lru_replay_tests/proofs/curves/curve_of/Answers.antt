use Rattle.std.proofs.Common.{◌≡◌, ◌+◌, ◌++◌, [], ◌∷◌, map, take, sym, ap, ◌∙◌, subst}
use Rattle.std.proofs.lemmas.List.{map-append, take_more}
use Rattle.std.specs.String.{string_bytes}
use Rattle.lru_trace.specs.Counted.{IsOf}
use Rattle.lru_replay_tests.proofs.curves.curve_of.Goals as goal

pub loop-text-preserved : goal.loop-text-preserved
loop-text-preserved c =
    let texts = c.args.texts.now in let i = c.loop-text.text-index in let text = c.text-item.result in
    let before = map string_bytes (take i texts) in
    let longer : take (i + 1) texts ≡ take i texts ++ text ∷ [] =
    take_more texts i text c.loop-text-test.true ∙ ap (λ one. take i texts ++ one ∷ []) (sym c.text-item.is) in
    subst (λ trace. IsOf [] trace c.refer.new.self) (ap (λ key. before ++ key ∷ []) c.deref.ensures
    ∙ sym (ap (map string_bytes) longer ∙ map-append string_bytes (take i texts) (text ∷ [])))
    (c.in_ok-refer.ensures.ok [] before c.loop-text.invariant)
