-- The limiter by bytes.
--     `in_word n`: n, but at most `u64::MAX`.
--     `block_bytes n`: the number of bytes that a block of n bytes takes from the allocator.
--     `both_own of_k of_v`: the bytes that the key of an entry owns, plus the bytes that the value owns.
--     `Bytes`: the state of the limiter.
--     `left_for_entries b`: the limit minus the bytes of the table, but at least 0.
--     `by_bytes`, `bytes_offers`, `bytes_terms`: the rules, offers and terms. Their argument `bytes_of` gives the bytes
--         that an entry owns.
--     `bytes-sums`: the limiter satisfies the laws of `Summing`.
use Rattle.std.specs.Prelude.{◌≡◌, ◌+◌, ◌-◌, ◌*◌, ◌/◌, ◌^◌, ◌==◌, ℕ, min, Bool, true, false, nat_lt, nat_le, if◌then◌else◌, refl}
use Rattle.lru_limits.specs.Rules.{Rules, Offers}
use Rattle.lru_limits.specs.Laws.{IsAccount}
use Rattle.lru_limits.specs.Admissions.{Terms, offers_of}
use Rattle.lru_limits.specs.Budget.{can_add}
use Rattle.lru_limits.specs.Stores.{answers, given-adds, refused-keeps, replaced-exchanges}

abbrev pub in_word : ℕ → ℕ
in_word n = min n (2 ^ 64 - 1)

-- The size n is rounded up to a multiple of 16, and 16 is added. The result is at most 2 ^ 64 - 16. If n is 0, no block
-- is allocated, and the result is 0.
abbrev pub block_bytes : ℕ → ℕ
block_bytes n = if n == 0 then 0 else in_word (n + 31) / 16 * 16

abbrev pub both_own : {K V : Type 0} → (K → ℕ) → (V → ℕ) → K → V → ℕ
both_own of_k of_v k v = in_word (of_k k + of_v v)

pub record Bytes : Type 0 where
  -- the limit of `owned + table`
  pub limit : ℕ
  -- the sum of the bytes that the entries own
  pub owned : ℕ
  -- the bytes of the last table that the limiter permitted
  pub table : ℕ

abbrev pub left_for_entries : Bytes → ℕ
left_for_entries b = b.limit - b.table

grown_owns : (fits : Bool) (b : Bytes) (n : ℕ) → (let c : Bytes = if fits then record b { table = n } else b in c.owned)
    ≡ b.owned
grown_owns true b n = refl
grown_owns false b n = refl

module _ {K V : Type 0} (bytes_of : K → V → ℕ) where
  abbrev pub by_bytes : Rules K V Bytes
  by_bytes = record {
    is_over_the_limit = λ b n. nat_lt (left_for_entries b) b.owned;
    on_removed = λ b k v. record { limiter = record b { owned = b.owned - bytes_of k v }; key = k; value = v };
    on_cleared = λ b. record b { owned = 0 };
    on_grow = λ b bytes. let fits = nat_le (b.owned + bytes) b.limit in
        answers (if fits then record b { table = bytes } else b) fits;
  }

  -- An entry that owns n bytes is accepted if n is at most `left_for_entries`, and `owned` plus n fits 64 bits. A new
  -- value is accepted if the entry with this value would be accepted after the removal of the old entry.
  abbrev pub bytes_terms : Terms K V Bytes
  bytes_terms = record {
    accepts = λ b n k v. can_add (left_for_entries b) b.owned (bytes_of k v);
    admit = λ b n k v.
        if can_add (left_for_entries b) b.owned (bytes_of k v) then record b { owned = b.owned + bytes_of k v } else b;
    accepts_in_place = λ b n k v w. can_add (left_for_entries b) (b.owned - bytes_of k v) (bytes_of k w);
    admit_in_place = λ b n k v w. if can_add (left_for_entries b) (b.owned - bytes_of k v) (bytes_of k w)
        then record b { owned = b.owned - bytes_of k v + bytes_of k w } else b;
  }

  abbrev pub bytes_offers : Offers K V Bytes K
  bytes_offers = offers_of bytes_terms

  pub bytes-sums : IsAccount by_bytes bytes_offers bytes_of (λ b. b.owned)
  bytes-sums = record {
    adds = λ b n i v t k w. given-adds bytes_of (λ b. b.owned) (bytes_terms.accepts b n i v) b
        (record b { owned = b.owned + bytes_of i v }) i v t k w refl;
    refuses = λ b n i v t. refused-keeps (λ b. b.owned) (bytes_terms.accepts b n i v) b
        (record b { owned = b.owned + bytes_of i v }) i v t;
    exchanges = λ b n k i v w. replaced-exchanges bytes_of (λ b. b.owned) (bytes_terms.accepts_in_place b n k v w) b
        (record b { owned = b.owned - bytes_of k v + bytes_of k w }) k v w refl;
    takes_off = λ b k v enough. refl;
    empties = λ b. refl;
    keeps = λ b n. grown_owns (nat_le (b.owned + n) b.limit) b n;
  }
