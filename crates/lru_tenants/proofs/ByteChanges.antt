use Rattle.std.proofs.Common.{◌≡◌, ◌+◌, ◌≤◌, arith, ℕ, false, List, ap}
use Rattle.std.proofs.lemmas.Bool.Decides.{nat_tests}
use Rattle.std.specs.Option.{unwrap_or}
use Rattle.std.specs.Prelude.{nat_lt}
use Rattle.lru_limits.specs.Bytes.{Bytes}
use Rattle.lru_model.specs.Sizes.{usage}
use Rattle.lru_model.specs.State.{State, Contents, Leaves as Stays}
use Rattle.lru_tenants.specs.Bytes.{ByteCache, limit_of, table_bytes}

abbrev pub cache_of : {N K V S : Type 0} → List (N × State K V Bytes S) → ℕ → ℕ → S → ByteCache N K V S
cache_of tenants table limit hasher =
    record { tenants = tenants; table = table; limit = limit; hasher = hasher }

pub left-rest : {N K V S : Type 0} (old new : State N (State K V Bytes S) Bytes S)
    (left : Contents N (State K V Bytes S) Bytes) → Stays old left new → limit_of new ≡ limit_of old
    → cache_of new.pairs (table_bytes new) (limit_of new) new.hasher
    ≡ cache_of new.pairs (table_bytes old) (limit_of old) old.hasher
left-rest old new left l same = λ i. cache_of new.pairs
    (unwrap_or (usage (ap (λ st. st.entry_bytes) l.is i) (l.growth_left.table i)) 0) (same i)
    (ap (λ st. st.hasher) l.is i)

pub not-over : (limit reserved left bytes more : ℕ) → left + reserved ≡ limit → bytes ≤ left → bytes ≡ more
    → nat_lt limit (reserved + more) ≡ false
not-over limit reserved left bytes more sum fits is = grind (arith, nat_tests)
