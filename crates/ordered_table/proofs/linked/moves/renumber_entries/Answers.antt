use Rattle.std.proofs.Common.{◌≡◌, rules, sym, ◌∙◌}
use Rattle.lru_limits.specs.Hashing.{hash_by}
use Rattle.std.proofs.lemmas.Result.{IfOk-weaker}
use Rattle.ordered_table.proofs.Tables.Relocations.{hash_in-pair_slots}
use Rattle.ordered_table.proofs.linked.moves.renumber_entries.Goals as goal

pub returns-then-buckets-clause-hashes : goal.returns-then-buckets-clause-hashes
returns-then-buckets-clause-hashes g c =
    let hash_of = hash_by g.K.Hash.hash_input g.S.BuildHasher g.S.Hasher.Hasher c.args.hasher.now in
    IfOk-weaker c.rehash.result _ _ (λ links hashes. hashes _ (λ b hash entry is called.
    let is_hash : hash ≡ hash_of entry.key = search rules in
    is_hash ∙ sym (hash_in-pair_slots hash_of c.args.table.now.slots b entry is))) c.rehash.ensures.hashes

pub returns-else-buckets-clause-hashes : goal.returns-else-buckets-clause-hashes
returns-else-buckets-clause-hashes g c =
    let hash_of = hash_by g.K.Hash.hash_input g.S.BuildHasher g.S.Hasher.Hasher c.args.hasher.now in
    IfOk-weaker c.relocate.result _ _ (λ links hashes. hashes _ (λ b hash entry is called.
    let is_hash : hash ≡ hash_of entry.key = search rules in
    is_hash ∙ sym (hash_in-pair_slots hash_of c.args.table.now.slots b entry is))) c.relocate.ensures.hashes
