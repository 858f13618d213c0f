use Rattle.std.proofs.Common.{refl}
use Rattle.schnellru.proofs.LentValues.{on_err_then}
use Rattle.schnellru.proofs.map.LruMap.lend_or_insert_fallible.Goals as goal

pub returns : goal.returns
returns g c =
    let e = c.ensure_newest_fallible-kept.ensures in let lent = c.lend_if_kept.follows in (
      (
        refl,
        λ w ok.
            let (made, (says, same), value, is, map) = lent.holds w ok in (
              made,
              rw (says, same) (record { step = e.step; says = e.says; out_of_memory = e.out_of_memory }),
              value,
              is,
              map,
            ),
        on_err_then c.lend_if_kept.result
            (λ ((says, same), map).
            (rw (says, same) (record { step = e.step; says = e.says; out_of_memory = e.out_of_memory }), map))
            lent.holds-at-none,
      ),
      record { writes_back = tt },
    )
