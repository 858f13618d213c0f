use Rattle.std.proofs.Common.{refl, ap, sym, ◌∙◌}
use Rattle.lru_model.specs.TryInserts.{cannot_store, unready, inserted}
use Rattle.lru_model.proofs.Theorems.AdmittedPairs.{ready_pairs, ready_hasher}
use Rattle.schnellru.proofs.map.LruMap.try_insert_new.Goals as goal

pub returns-then-not-can_store : goal.returns-then-not-can_store
returns-then-not-can_store g c =
    cannot_store c.requires.absent (sym c.can_store.ensures.storable ∙ c.if-not-can_store.true) refl refl

pub returns-then-not-get_ready_for : goal.returns-then-not-get_ready_for
returns-then-not-get_ready_for g c =
    unready c.requires.absent (sym c.can_store.ensures.storable ∙ c.if-not-can_store.false)
    (c.get_ready_for.ensures.unready c.if-not-get_ready_for.true) refl

pub add-requires-clause-hash : goal.add-requires-clause-hash
add-requires-clause-hash g c = λ k named. c.requires.hash k named
    ∙ ap (λ hasher. g.S.KeyHasher.hash_of hasher k)
    (sym (ready_hasher _ _ _ (c.get_ready_for.ensures.ready c.if-not-get_ready_for.false)))

pub add-requires-clause-absent : goal.add-requires-clause-absent
add-requires-clause-absent g c =
    rw (ready_pairs _ _ _ (c.get_ready_for.ensures.ready c.if-not-get_ready_for.false)) c.requires.absent

pub returns : goal.returns
returns g c =
    let yes = c.if-not-get_ready_for.false in
    inserted c.requires.absent (sym c.can_store.ensures.storable ∙ c.if-not-can_store.false) _ (c.get_ready_for.ensures.ready yes) (c.get_ready_for.ensures.storable yes) refl
    c.add.ensures
