use Rattle.std.proofs.Common.{[], ◌∷◌, nat_eq, sym, subst}
use Rattle.lru_model.specs.Lists.{keys_of}
use Rattle.lru_theory.specs.Inclusion.{IsIncluded, refers}
use Rattle.lru_theory.specs.Traces.{refer}
use Rattle.lru_replay_tests.proofs.caches.read_both.Goals as goal

pub returns : goal.returns
returns g c =
    let n = c.args.small.now.capacity in let m = c.args.large.now.capacity in
    let keys = keys_of c.args.small.now.pages in let more = keys_of c.args.large.now.pages in
    let left = keys_of c.read.new.cache.pages in
    let law = c.a_smaller_cache_is_included.ensures.included n m (refers c.args.n ∷ []) keys more c.requires.ordered
    c.requires.included in
    subst (λ ks. IsIncluded nat_eq n m left ks) (sym c.in_ok-block.ensures.refers)
    (subst (λ ks. IsIncluded nat_eq n m ks (refer nat_eq m c.args.n more)) (sym c.in_ok-read.ensures.refers) law)
