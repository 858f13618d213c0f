-- How many control bytes belong to free buckets. Each turn of a rehash in place leaves fewer.
use Rattle.std.proofs.Common.{◌≡◌, ℕ, ◌+◌, ◌<◌, ◌≤◌, max, cond, List, length, get_or, set}
use Rattle.std.proofs.Common.{Option, ap, arith, count_by, nat_le}
use Rattle.std.proofs.lemmas.Bool.{le-leb, lt-leb}
use Rattle.std.proofs.lemmas.List.{set_past}
use Rattle.std.proofs.lemmas.List.Sums.{sum_by-set}
use native.Mathlib.Decide.{dec_lt}
use Rattle.group_table.specs.Layout.{written}

abbrev pub free_bytes : List ℕ → ℕ
free_bytes control = count_by (λ byte. nat_le 128 byte) control

abbrev frees : ℕ → ℕ
frees byte = cond (nat_le 128 byte) 1 0

module _ (tag : ℕ) (tag_fits : tag < 128) where
  not_free : frees tag ≡ 0
  not_free = ap (λ t. cond {A = ℕ} t 1 0) (lt-leb 128 tag tag_fits)

  free_bytes-no_more : (control : List ℕ) (b : ℕ) → free_bytes (set control b tag) ≤ free_bytes control
  free_bytes-no_more control b = elim (dec_lt b (length control)) [
    | yes p ↦ omega (arith, not_free, sum_by-set frees control b tag 0 p)
    | no p ↦ let same : free_bytes (set control b tag) ≡ free_bytes control =
        ap free_bytes (set_past control b tag (omega arith)) in omega (arith, same)
  ]

  pub free_bytes-fewer : {T : Type 0} (control : List ℕ) (entries : List (Option T)) (b : ℕ) → b < length control
      → 128 ≤ get_or control b 0
      → free_bytes (written control entries b tag) < free_bytes control
  free_bytes-fewer control entries b within free =
      let there : frees (get_or control b 0) ≡ 1 =
      ap (λ t. cond {A = ℕ} t 1 0) (le-leb 128 (get_or control b 0) free) in
      let again = free_bytes-no_more (set control b tag) (b + max 16 (length entries)) in
      omega (arith, there, not_free, again, sum_by-set frees control b tag 0 within)
