use Rattle.std.proofs.Common.{◌++◌, ◌∷◌, [], ap, sym, ◌∙◌, subst, append_assoc}
use Rattle.std.proofs.lemmas.Result.{err_from_is_err_and}
use Rattle.std.specs.Io.KnownBytes.{Appends}
use Rattle.std.proofs.KnownBytes.{Appends-trans}
use Rattle.lru_replay.specs.Output.{rest_text}
use Rattle.lru_replay.proofs.WrittenTexts.{failed}
use Rattle.lru_replay.proofs.lines.pairs.write_rest.Goals as goal

pub returns-in_err-write_bytes : goal.returns-in_err-write_bytes
returns-in_err-write_bytes g c =
    let (done, split, wrote) = c.loop-key.invariant in
    let p = err_from_is_err_and c.from_residual.result c.from_residual.ensures.1 in
    rw (p.1, p.2) (failed _ _ _ _ _ _ _ _ wrote c.in_err-write_bytes.ensures
    (split ∙ ap (λ l. done ++ rest_text l) c.in-Some.ensures.steps))

pub returns-in_err-write_pair : goal.returns-in_err-write_pair
returns-in_err-write_pair g c =
    let (done, split, wrote) = c.loop-key.invariant in
    let p = err_from_is_err_and c.from_residual-in_err-write_pair.result c.from_residual-in_err-write_pair.ensures.1 in
    let begun = Appends-trans _ _ _ done (32 ∷ []) wrote c.in_ok-write_bytes.ensures in
    rw (p.1, p.2) (failed _ _ _ _ _ _ _ _ begun c.in_err-write_pair.ensures
    (split ∙ ap (λ l. done ++ rest_text l) c.in-Some.ensures.steps ∙ sym (append_assoc done (32 ∷ []) _)))

pub loop-key-preserved : goal.loop-key-preserved
loop-key-preserved g c =
    let (done, split, wrote) = c.loop-key.invariant in
    let begun = Appends-trans _ _ _ done (32 ∷ []) wrote c.in_ok-write_bytes.ensures in (
      _,
      split ∙ ap (λ l. done ++ rest_text l) c.in-Some.ensures.steps ∙ sym (append_assoc done _ _),
      subst (Appends _ _) (append_assoc done (32 ∷ []) _) (Appends-trans _ _ _ _ _ begun c.in_ok-write_pair.ensures),
    )
