use Rattle.std.proofs.Common.{◌≡◌, rules, ℕ, nat_eq, IsTrue, sym, ap, ◌∙◌}
use Rattle.schnellru_tests.proofs.examples_on_values.map_18.Goals as goal

pub try_insert_hashed-requires-2 : goal.try_insert_hashed-requires-2
try_insert_hashed-requires-2 g c =
    let first : (k : ℕ) → IsTrue (nat_eq 4 k) → c.hash_named-hash.result
    ≡ g.S.KeyHasher.hash_of c.args.map.now.hasher k = search rules in
    let same = ap (λ st. st.hasher) c.pop_oldest.ensures.step.state.is ∙ c.try_insert_hashed.ensures.ends.hasher in
    record { hash = λ k named. first k named ∙ ap (λ hasher. g.S.KeyHasher.hash_of hasher k) (sym same) }
