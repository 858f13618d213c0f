use Rattle.std.proofs.Common.{◌+◌, ◌∷◌, sym, refl, ap, ◌∙◌}
use Rattle.std.proofs.lemmas.List.Elements.{All-cons}
use Rattle.std.specs.Map.{lookup, values_of}
use Rattle.lru_limits.specs.Bytes.{both_own, in_word}
use Rattle.lru_model.specs.Theorems.{KeepsBytes}
use Rattle.lru_tenants.specs.Bytes.{fresh, reserved}
use Rattle.lru_caches.proofs.Outcomes.{none_there}
use Rattle.lru_tenants.proofs.ByteChanges.{not-over}
use Rattle.lru_tenants.proofs.Changes.{opens-made, opens-unmade}
use Rattle.lru_tenants.proofs.ByteSums.{is_within, holds-at, run-kept}
use Rattle.lru_tenants.proofs.bytes.ByteTenants.open.Goals as goal

pub returns-then-contains-clause-within : goal.returns-then-contains-clause-within
returns-then-contains-clause-within g c = rw (← c.self.view_is) (is_within g.N.OwnedBytes.owned
    (both_own g.K.OwnedBytes.owned g.V.OwnedBytes.owned) c.self.inside.tenants c.self.invariant
    c.len-len.ensures.map.sized)

pub returns-then-bytes-left-clause-within : goal.returns-then-bytes-left-clause-within
returns-then-bytes-left-clause-within g c = rw (← c.self.view_is) (is_within g.N.OwnedBytes.owned
    (both_own g.K.OwnedBytes.owned g.V.OwnedBytes.owned) c.self.inside.tenants c.self.invariant
    c.len-len.ensures.map.sized)

pub invariant_of-self : goal.invariant_of-self
invariant_of-self g c =
    let law = c.runs_keep_the_bytes.ensures in let old = c.self.inside.tenants in
    let new = c.try_insert.new.self in let run = run-kept new old c.in_default.ensures.ends.calls in
    let sized = c.len-len.ensures.map.sized in
    holds-at g.N.OwnedBytes.owned (both_own g.K.OwnedBytes.owned g.V.OwnedBytes.owned) old c.self.invariant old.pairs
    new c.in_default.ensures.ends.keeps c.self.invariant.each (law.limit old new sized run c.self.invariant.all)
    (law.kept old new sized run c.self.invariant.all)

pub invariant_of-self-2 : goal.invariant_of-self-2
invariant_of-self-2 g c =
    let of_pair = both_own g.K.OwnedBytes.owned g.V.OwnedBytes.owned in
    let law = c.runs_keep_the_bytes.ensures in let old = c.self.inside.tenants in
    let new = c.try_insert.new.self in let run = run-kept new old c.in-Ok.ensures.ends.calls in
    let sized = c.len-len.ensures.map.sized in
    holds-at g.N.OwnedBytes.owned of_pair old c.self.invariant ((c.args.name, c.new-own.result) ∷ old.pairs) new
    c.in-Ok.ensures.ends.added
    (All-cons (KeepsBytes of_pair) c.new-own.result (values_of old.pairs) c.new-own.ensures.keeps c.self.invariant.each)
    (law.limit old new sized run c.self.invariant.all) (law.kept old new sized run c.self.invariant.all)

pub returns-in_default-clause-within : goal.returns-in_default-clause-within
returns-in_default-clause-within g c = is_within g.N.OwnedBytes.owned
    (both_own g.K.OwnedBytes.owned g.V.OwnedBytes.owned) _ (invariant_of-self g c) c.in_default.ensures.map.sized

pub returns-clause-within : goal.returns-clause-within
returns-clause-within g c = is_within g.N.OwnedBytes.owned (both_own g.K.OwnedBytes.owned g.V.OwnedBytes.owned) _
    (invariant_of-self-2 g c) c.in-Ok.ensures.map.sized

pub returns-in_default-clause-opens : goal.returns-in_default-clause-opens
returns-in_default-clause-opens g c =
    let old = c.self.inside.tenants in let new = c.try_insert.new.self in
    let limit = c.runs_keep_the_bytes.ensures.limit old new c.len-len.ensures.map.sized
    (run-kept new old c.in_default.ensures.ends.calls) c.self.invariant.all in
    let over = not-over _ (reserved g.N.OwnedBytes.owned c.args.self.now) c.left.result c.saturating_add-bytes.result _
    c.left.ensures c.if-bytes-left.false
    (c.saturating_add-bytes.ensures ∙ ap (λ n. in_word (n + c.args.limit)) c.owned_bytes.ensures) in
    rw (c.in_default.ensures.ends.keeps, limit, c.in_default.ensures.ends.hasher, over, ← c.self.view_is) (
      refl,
      opens-unmade g.met.N.Eq.laws c.args.name _ old.pairs
          (none_there (lookup (g.N.PartialEq.eq c.args.name) old.pairs) (sym c.contains.ensures ∙ c.if-contains.false)) refl,
    )

pub returns-clause-opens : goal.returns-clause-opens
returns-clause-opens g c =
    let old = c.self.inside.tenants in let new = c.try_insert.new.self in
    let limit = c.runs_keep_the_bytes.ensures.limit old new c.len-len.ensures.map.sized
    (run-kept new old c.in-Ok.ensures.ends.calls) c.self.invariant.all in
    let over = not-over _ (reserved g.N.OwnedBytes.owned c.args.self.now) c.left.result c.saturating_add-bytes.result _
    c.left.ensures c.if-bytes-left.false
    (c.saturating_add-bytes.ensures ∙ ap (λ n. in_word (n + c.args.limit)) c.owned_bytes.ensures) in
    rw (c.in-Ok.ensures.ends.added, limit, c.in-Ok.ensures.ends.hasher, over, ← c.self.view_is) (
      refl,
      opens-made g.met.N.Eq.laws c.args.name _ old.pairs
          (none_there (lookup (g.N.PartialEq.eq c.args.name) old.pairs) (sym c.contains.ensures ∙ c.if-contains.false)) refl
          c.new-own.result (c.new-own.ensures.map ∙ ap (λ h. fresh _ h c.args.limit) c.hasher.ensures),
    )
