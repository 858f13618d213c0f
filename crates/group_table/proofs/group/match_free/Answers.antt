use Rattle.std.proofs.Common.{◌≤◌, ◌<◌, leb, subst, sym}
use Rattle.std.proofs.lemmas.Bool.{leb-true, le-leb}
use Rattle.group_table.specs.Lanes.{IsMaskOf}
use Rattle.group_table.proofs.Masks.{mask_is, left_mask, mask_fits}
use Rattle.group_table.proofs.group.match_free.Goals as goal

pub overflow_cast-result : goal.overflow_cast-result
overflow_cast-result c =
    let bytes = c.args.bytes.now in
    record {
      fits = subst (λ n. n < 65536) (sym (left_mask leb bytes 128 c.told-bytes))
          (mask_fits _ bytes c.told-bytes);
    }

pub returns : goal.returns
returns c =
    let bytes = c.args.bytes.now in
    subst (IsMaskOf (λ byte. 128 ≤ byte) bytes) (sym (left_mask leb bytes 128 c.told-bytes))
    (mask_is _ _ bytes c.told-bytes (λ x. leb-true 128 x) (λ x. le-leb 128 x))
