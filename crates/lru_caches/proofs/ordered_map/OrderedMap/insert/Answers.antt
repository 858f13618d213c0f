use Rattle.std.proofs.Common.{◌≡◌, Some, None, reverse, is_some, sym, ap, ◌∙◌, subst}
use Rattle.std.proofs.lemmas.Bool.{true≢false}
use Rattle.std.proofs.lemmas.Map.Keys.{IsDistinct-head}
use Rattle.std.specs.List.{IsDistinct}
use Rattle.std.specs.Map.{keys_of, lookup, set_value}
use Rattle.lru_caches.proofs.TurnedEntries.{none_more, lookup-reverse, put-there, put-new}
use Rattle.lru_caches.proofs.ordered_map.OrderedMap.insert.Goals.{In_default, In-Err}
use Rattle.lru_caches.proofs.ordered_map.OrderedMap.insert.Goals as goal

none : (g : _) (c : In_default g) → lookup (g.K.PartialEq.eq c.args.key) c.self.inside.map.pairs ≡ None
none g c =
    let key = c.args.key in
    let eq = g.K.PartialEq.eq in
    let pairs = c.self.inside.map.pairs in
    let distinct = subst (λ l. IsDistinct eq (keys_of l)) c.in_default.ensures.ends.added c.try_insert.ensures.map.distinct
    in
    none_more (eq key) (g.met.K.Eq.laws.congr key) key pairs (g.met.K.Eq.laws.refl key)
    (IsDistinct-head eq key (keys_of pairs) distinct)

same : (g : _) (c : In-Err g) → lookup (g.K.PartialEq.eq c.in-Err.key) c.try_insert.new.self.pairs
    ≡ lookup (g.K.PartialEq.eq c.args.key) c.self.inside.map.pairs
same g c =
    ap (λ k. lookup (g.K.PartialEq.eq k) c.try_insert.new.self.pairs)
    (ap (λ back. back.0) c.in-Err.ensures.ends.returned)
    ∙ ap (lookup (g.K.PartialEq.eq c.args.key)) c.in-Err.ensures.ends.keeps

pub returns-in_default-clause-old : goal.returns-in_default-clause-old
returns-in_default-clause-old g c =
    rw (← c.self.view_is) (sym (lookup-reverse (g.K.PartialEq.eq c.args.key) (g.met.K.Eq.laws.congr c.args.key)
    c.self.inside.map.pairs c.distinct.ensures ∙ none g (goal.at.returns-in_default-clause-old g c).In_default))

pub returns-in_default-clause-entries : goal.returns-in_default-clause-entries
returns-in_default-clause-entries g c =
    let key = c.args.key in
    rw (← c.self.view_is)
    (ap reverse c.in_default.ensures.ends.added
    ∙ put-new (g.K.PartialEq.eq key) (g.met.K.Eq.laws.congr key) c.self.inside.map.pairs c.distinct.ensures key
    c.args.value
    (none g (goal.at.returns-in_default-clause-entries g c).In_default))

pub returns-in-Some-clause-old : goal.returns-in-Some-clause-old
returns-in-Some-clause-old g c =
    rw (← c.self.view_is)
    (ap Some c.replace.ensures.value ∙ c.in-Some.ensures.value ∙ same g (goal.at.returns-in-Some-clause-old g c).In-Err
    ∙ sym (lookup-reverse (g.K.PartialEq.eq c.args.key) (g.met.K.Eq.laws.congr c.args.key) c.self.inside.map.pairs
    c.distinct.ensures))

pub returns-in-Some-clause-entries : goal.returns-in-Some-clause-entries
returns-in-Some-clause-entries g c =
    let key = c.args.key in
    let value = c.args.value in
    let eq = g.K.PartialEq.eq in
    let left = c.try_insert.new.self.pairs in
    let key_is = ap (λ back. back.0) c.in-Err.ensures.ends.returned in
    let value_is = ap (λ back. back.1) c.in-Err.ensures.ends.returned in
    rw (← c.self.view_is)
    (ap (λ w. reverse (set_value (eq c.in-Err.key) left w)) (c.replace.ensures.after ∙ value_is)
    ∙ ap (λ k. reverse (set_value (eq k) left value)) key_is
    ∙ ap (λ l. reverse (set_value (eq key) l value)) c.in-Err.ensures.ends.keeps
    ∙ put-there (eq key) (g.met.K.Eq.laws.congr key) c.self.inside.map.pairs c.distinct.ensures key value
    c.in-Some.place.now (sym (same g (goal.at.returns-in-Some-clause-entries g c).In-Err)
    ∙ sym c.in-Some.ensures.value))

pub returns-clause-there : goal.returns-clause-there
returns-clause-there g c = rw (← c.self.view_is) (λ some.
    let none = lookup-reverse (g.K.PartialEq.eq c.args.key) (g.met.K.Eq.laws.congr c.args.key) c.self.inside.map.pairs
    c.distinct.ensures ∙ sym (same g (goal.at.returns-clause-there g c).In-Err)
    ∙ sym c.in_default-peek_mut.ensures.value in
    absurd (true≢false (sym some ∙ ap is_some none)))
