use Rattle.std.proofs.Common.{◌≡◌, ◌<◌, refl, sym, ◌∙◌, arith}
use Rattle.lru_model.specs.State.{growth_left}
use Rattle.lru_model.specs.TryInserts.{has_growth, reserved, not_reserved, cannot_store_then}
use Rattle.lru_model.proofs.Theorems.Reservations.{makes_room}
use Rattle.schnellru.proofs.map.LruMap.get_ready_for.Goals as goal

pub returns-then-growth_left-gt0 : goal.returns-then-growth_left-gt0
returns-then-growth_left-gt0 g c =
    let some : 0 < growth_left c.args.self.now = omega (arith, c.if-growth_left-gt0.true, c.growth_left.ensures.growth_left)
    in record {
      ready = λ yes. has_growth some refl;
      growth = λ yes. some;
      storable = λ yes. c.requires.storable;
      unready = λ no. let e = no in cc;
    }

pub returns-in-Ok : goal.returns-in-Ok
returns-in-Ok g c =
    let none : growth_left c.args.self.now ≡ 0 = omega (arith, c.if-growth_left-gt0.false, c.growth_left.ensures.growth_left)
    in record {
      ready = λ yes. reserved none c.in-Ok.ensures.step c.can_store.ensures.map.sized;
      growth = λ yes. makes_room g.L.Limiter.rules 1 c.args.self.now c.try_reserve.new.self
          c.growth_left.ensures.map.sized
          c.in-Ok.ensures.step;
      storable = λ yes. sym c.can_store.ensures.storable ∙ yes;
      unready = λ no. cannot_store_then none c.in-Ok.ensures.step (sym c.can_store.ensures.storable ∙ no);
    }

pub returns-in-Err : goal.returns-in-Err
returns-in-Err g c =
    let none : growth_left c.args.self.now ≡ 0 = omega (arith, c.if-growth_left-gt0.false, c.growth_left.ensures.growth_left)
    in record {
      ready = λ yes. let e = yes in cc;
      growth = λ yes. let e = yes in cc;
      storable = λ yes. let e = yes in cc;
      unready = λ no. not_reserved none _ c.in-Err.ensures.step;
    }
