use Rattle.std.proofs.Common.{◌≡◌, rules, refl, ap, sym, ◌∙◌}
use Rattle.std.specs.Prelude.{unwrap_or}
use Rattle.std.specs.Option.{option_copied_mut}
use Rattle.lru_model.specs.Calls.{promoted, written}
use Rattle.lru_model.proofs.CallerLemmas.{given-found, given-tag, given-promoted, none-found}
use Rattle.lru_replay.specs.Steps.{found, not_found}
use Rattle.lru_replay.proofs.Options.{OnSome-some}
use Rattle.lru_replay.proofs.calls.steps.get_by_hash.Goals as goal

pub returns-in-Some-clause-found : goal.returns-in-Some-clause-found
returns-in-Some-clause-found g c =
    let (pair, given, is, left) = OnSome-some _ _ c.in-Some.is (c.get_by_hash.follows.holds c.in-Some.value.now) in
    found pair (given-found g.met.K.Eq.laws c.args.key.now (λ k v r h called. search rules)
    c.len-len.ensures.map.distinct pair given) (given-tag pair given) (sym (ap option_copied_mut c.in-Some.is) ∙ is)

pub returns-in-Some-clause-promoted : goal.returns-in-Some-clause-promoted
returns-in-Some-clause-promoted g c =
    let (pair, given, is, left) = OnSome-some _ _ c.in-Some.is (c.get_by_hash.follows.holds c.in-Some.value.now) in
    let same : c.in-Some.value.now ≡ pair.1 = ap (λ o. unwrap_or o c.in-Some.value.now)
    (sym (ap option_copied_mut c.in-Some.is) ∙ is) in
    left ∙ ap (λ v. written (g.K.PartialEq.eq pair.0) v (promoted (g.K.PartialEq.eq pair.0) c.args.map.now)) same
    ∙ given-promoted g.met.K.Eq.laws c.args.key.now c.args.map.now pair
    (given-found g.met.K.Eq.laws c.args.key.now (λ k v r h called. search rules)
    c.len-len.ensures.map.distinct pair given)

pub returns-in-None-clause-found : goal.returns-in-None-clause-found
returns-in-None-clause-found g c =
    not_found (none-found g.met.K.Eq.laws c.args.key.now (λ k v r h called. search rules) c.in-None.ensures.none) refl
