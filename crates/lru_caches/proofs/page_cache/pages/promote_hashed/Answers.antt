use Rattle.std.proofs.Common.{◌≡◌, rules, nat_eq, is_some, option_map, ap, sym, ◌∙◌}
use Rattle.std.proofs.lemmas.Cmp.{nat_eq_equiv}
use Rattle.std.specs.Prelude.{unwrap_or}
use Rattle.std.specs.Option.{option_copied_mut}
use Rattle.lru_model.specs.Calls.{promoted, written}
use Rattle.lru_model.proofs.CallerLemmas.{given-found, given-promoted, none-found, lookup-entry, promoted-absent}
use Rattle.lru_caches.proofs.Outcomes.{on_some}
use Rattle.lru_caches.proofs.PageOrder.{absent-by-hash}
use Rattle.lru_caches.proofs.page_cache.pages.promote_hashed.Goals as goal

pub returns-in-Some-clause-there : goal.returns-in-Some-clause-there
returns-in-Some-clause-there g c =
    let (pair, given, is, left) = on_some _ _ c.in-Some.is (c.get_by_hash.follows.holds c.in-Some.field-0.now) in
    let found = given-found nat_eq_equiv c.args.n (λ k v r h called. search rules) c.len-len.ensures.map.distinct pair given in
    sym (ap is_some (lookup-entry (nat_eq c.args.n) c.args.map.now.pairs ∙ ap (option_map (λ p. p.1)) found))

pub returns-in-Some-clause-promoted : goal.returns-in-Some-clause-promoted
returns-in-Some-clause-promoted g c =
    let (pair, given, is, left) = on_some _ _ c.in-Some.is (c.get_by_hash.follows.holds c.in-Some.field-0.now) in
    let same : c.in-Some.field-0.now ≡ pair.1 = ap (λ o. unwrap_or o c.in-Some.field-0.now)
    (sym (ap option_copied_mut c.in-Some.is) ∙ is) in
    left ∙ ap (λ v. written (nat_eq pair.0) v (promoted (nat_eq pair.0) c.args.map.now)) same
    ∙ given-promoted nat_eq_equiv c.args.n c.args.map.now pair
    (given-found nat_eq_equiv c.args.n (λ k v r h called. search rules) c.len-len.ensures.map.distinct pair given)

pub returns-in-None-clause-there : goal.returns-in-None-clause-there
returns-in-None-clause-there g c = sym (ap is_some (absent-by-hash (g.S.KeyHasher.hash_of c.args.map.now.hasher) c.args.hash c.args.n
    c.args.map.now.pairs c.requires (none-found nat_eq_equiv c.args.n (λ k v r h called. search rules) c.in-None.ensures.none)))

pub returns-in-None-clause-promoted : goal.returns-in-None-clause-promoted
returns-in-None-clause-promoted g c =
    let same : c.get_by_hash.follows.lender-at-none ≡ c.args.map.now = search rules in
    same ∙ sym (promoted-absent (nat_eq c.args.n) c.args.map.now (absent-by-hash (g.S.KeyHasher.hash_of c.args.map.now.hasher) c.args.hash c.args.n
    c.args.map.now.pairs c.requires (none-found nat_eq_equiv c.args.n (λ k v r h called. search rules) c.in-None.ensures.none)))
