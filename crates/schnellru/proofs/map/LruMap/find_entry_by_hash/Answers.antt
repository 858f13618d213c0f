use Rattle.std.proofs.Common.{refl}
use Rattle.schnellru.proofs.map.LruMap.find_entry_by_hash.Goals as goal

pub returns : goal.returns
returns g c = let (pair, gives, there, place) = c.in_ok-bucket.ensures.found in (
  (refl, λ w. refl, tt),
  record {
    unchanged = tt;
    same_map = refl;
    same_reference = refl;
    found = (
      pair,
      gives,
      there,
      record { one = λ x y named. g.met.K.Eq.laws.congr pair.0 x y named; place = place },
    );
    none = tt;
    map = c.find_by.ensures.map;
  },
)
