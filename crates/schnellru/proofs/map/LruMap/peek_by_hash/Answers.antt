use Rattle.std.proofs.Common.{◌≡◌, sym, ◌∙◌, subst}
use Rattle.std.proofs.lemmas.Option.{same_Some}
use Rattle.std.specs.Map.Iter.{deref_pair}
use Rattle.lru_model.specs.ByHash.{GivesByHash}
use Rattle.schnellru.proofs.map.LruMap.peek_by_hash.Goals as goal

pub returns-clause-found : goal.returns-clause-found
returns-clause-found g c =
    let now = deref_pair c.pair_in.result in let st = c.args.self.now in let eq = g.K.PartialEq.eq in
    let (p, gives, there, at) = c.in_ok-b.ensures.found in
    let same : p ≡ now = same_Some p now
    (sym there ∙ c.pair_in.ensures (eq p.0) (λ x y h. g.met.K.Eq.laws.congr p.0 x y h) at) in (
      now.0,
      subst (GivesByHash eq (g.S.KeyHasher.hash_of st.hasher) st.pairs c.args.hash g.F.FnMut c.args.is_eq) same gives,
    )
