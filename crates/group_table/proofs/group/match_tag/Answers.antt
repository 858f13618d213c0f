use Rattle.std.proofs.Common.{◌≡◌, ◌<◌, eqb, subst, sym}
use Rattle.std.proofs.lemmas.Bool.{eqb-true, eq-eqb}
use Rattle.group_table.specs.Lanes.{IsMaskOf}
use Rattle.group_table.proofs.Masks.{mask_is, right_mask, mask_fits}
use Rattle.group_table.proofs.group.match_tag.Goals as goal

pub overflow_cast-result : goal.overflow_cast-result
overflow_cast-result c =
    let bytes = c.args.bytes.now in
    record {
      fits = subst (λ n. n < 65536) (sym (right_mask eqb bytes c.args.tag c.told-bytes))
          (mask_fits _ bytes c.told-bytes);
    }

pub returns : goal.returns
returns c =
    let bytes = c.args.bytes.now in
    let tag = c.args.tag in
    subst (IsMaskOf (λ byte. byte ≡ tag) bytes) (sym (right_mask eqb bytes tag c.told-bytes))
    (mask_is _ _ bytes c.told-bytes (λ x. eqb-true x tag) (λ x. eq-eqb x tag))
