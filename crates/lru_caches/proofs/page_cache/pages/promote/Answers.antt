use Rattle.std.proofs.Common.{nat_eq, length, sym, ap, ◌∙◌}
use Rattle.std.specs.Map.{lookup}
use Rattle.lru_model.proofs.CallerLemmas.{length-front_pairs}
use Rattle.lru_caches.proofs.PageOrder.{front-found, front-absent, front-same}
use Rattle.lru_caches.proofs.Outcomes.{none_there}
use Rattle.lru_caches.proofs.page_cache.pages.promote.Goals as goal

pub returns-clause-same : goal.returns-clause-same
returns-clause-same g c = λ m.
    ap (λ st. lookup (nat_eq m) st.pairs) c.promote_hashed-there.ensures.promoted ∙ front-same c.args.n m c.args.map.now.pairs

pub returns-clause-len : goal.returns-clause-len
returns-clause-len g c = ap (λ st. length st.pairs) c.promote_hashed-there.ensures.promoted
    ∙ length-front_pairs (nat_eq c.args.n) c.args.map.now.pairs

pub returns-clause-used : goal.returns-clause-used
returns-clause-used g c = λ page found.
    ap (λ st. st.pairs) c.promote_hashed-there.ensures.promoted ∙ front-found c.args.n c.args.map.now.pairs page found

pub returns-clause-stays : goal.returns-clause-stays
returns-clause-stays g c = λ no. ap (λ st. st.pairs) c.promote_hashed-there.ensures.promoted
    ∙ front-absent c.args.n c.args.map.now.pairs
    (none_there (lookup (nat_eq c.args.n) c.args.map.now.pairs) (sym c.promote_hashed-there.ensures.there ∙ no))
