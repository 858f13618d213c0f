use Rattle.std.proofs.Common.{◌∙◌, Ok}
use Rattle.schnellru_tests.proofs.callers.resize.Goals as goal

pub returns-in-Ok : goal.returns-in-Ok
returns-in-Ok c =
    let old = c.args.map.now in let mid = c.shrink_to_fit.new.self in let new = c.try_reserve.new.self in
    let shrunk = c.shrinks_keep_the_list.ensures old c.shrink_to_fit.result mid c.shrink_to_fit.ensures.step in
    let kept = c.reservations_keep_the_list.ensures c.args.n mid (Ok tt) new c.in-Ok.ensures.step in
    record {
      pairs = kept.0 ∙ shrunk.0;
      placed = kept.2 ∙ shrunk.3;
      growth_left = λ yes. c.reservations_make_room.ensures c.args.n mid new c.shrink_to_fit.ensures.map.sized
          c.in-Ok.ensures.step;
    }

pub returns-in-Err : goal.returns-in-Err
returns-in-Err c =
    let old = c.args.map.now in let mid = c.shrink_to_fit.new.self in let new = c.try_reserve.new.self in
    let shrunk = c.shrinks_keep_the_list.ensures old c.shrink_to_fit.result mid c.shrink_to_fit.ensures.step in
    let kept = c.reservations_keep_the_list.ensures c.args.n mid _ new c.in-Err.ensures.step in
    record { pairs = kept.0 ∙ shrunk.0; placed = kept.2 ∙ shrunk.3; growth_left = λ yes. absurd cc }
