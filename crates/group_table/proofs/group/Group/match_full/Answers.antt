use Rattle.std.proofs.Common.{◌<◌, ltb, subst, sym}
use Rattle.std.proofs.lemmas.Bool.{ltb-true, lt-ltb}
use Rattle.group_table.specs.Lanes.{IsMaskOf}
use Rattle.group_table.specs.Bytes.{IsTag}
use Rattle.group_table.proofs.Masks.{mask_is, right_mask, mask_fits}
use Rattle.group_table.proofs.group.Group.match_full.Goals as goal

pub overflow_cast-result : goal.overflow_cast-result
overflow_cast-result c =
    let bytes = c.args.self.now.lanes in
    record {
      fits = subst (λ n. n < 65536) (sym (right_mask ltb bytes 128 c.told-self))
          (mask_fits _ bytes c.told-self);
    }

pub returns : goal.returns
returns c =
    let bytes = c.args.self.now.lanes in
    subst (IsMaskOf IsTag bytes) (sym (right_mask ltb bytes 128 c.told-self))
    (mask_is _ _ bytes c.told-self (λ x. ltb-true x 128) (λ x. lt-ltb x 128))
