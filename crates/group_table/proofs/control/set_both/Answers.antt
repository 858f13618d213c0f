use Rattle.std.proofs.Common.{◌≡◌, ℕ, ◌+◌, ◌-◌, ◌*◌, ◌%◌, ◌<◌, max, List, length, set, ap, sym, ◌∙◌, arith}
use Rattle.std.proofs.Common.{length-set}
use Rattle.std.proofs.Math.Nat.{add-mul-mod_self_left, mod-eq_of_lt}
use Rattle.std.proofs.lemmas.List.{set-set, set_past}
use native.Mathlib.Decide.{dec_lt}
use Rattle.group_table.specs.Control.{buckets_of}
use Rattle.group_table.proofs.control.set_both.Goals as goal

written_again : (control : List ℕ) (n b byte : ℕ) → length control ≡ n + 16 → b < n
    → set (set control b byte) ((b + (n - 16)) % n + 16) byte ≡ set (set control b byte) (b + max 16 n) byte
written_again control n b byte long bound = elim (dec_lt (b + (n - 16)) n) [
  | yes p ↦ let e : b + (n - 16) + 16 ≡ b + max 16 n = omega arith in
      ap (λ k. set (set control b byte) (k + 16) byte) (mod-eq_of_lt p) ∙ ap (λ k. set (set control b byte) k byte) e
  | no p ↦
      let round : b + (n - 16) ≡ b - 16 + n * 1 = omega arith in
      let same : (b + (n - 16)) % n + 16 ≡ b =
      ap (λ k. k % n + 16) round ∙ ap (λ k. k + 16)
      (add-mul-mod_self_left (b - 16) n 1 ∙ mod-eq_of_lt (omega arith)) ∙ omega arith in
      let past : length (set control b byte) ≡ n + 16 = length-set control b byte ∙ long in
      ap (λ k. set (set control b byte) k byte) same ∙ set-set control b byte byte
      ∙ sym (set_past (set control b byte) (b + max 16 n) byte (omega (arith, past)))
]

written_at : (control : List ℕ) (m b place byte : ℕ) → m ≡ buckets_of control
    → length control ≡ buckets_of control + 16 → b < buckets_of control → place ≡ (b + (m - 16)) % m
    → set (set control b byte) (place + 16) byte ≡ set (set control b byte) (b + max 16 (buckets_of control)) byte
written_at control m b place byte is long within there =
    let at : place ≡ (b + (buckets_of control - 16)) % buckets_of control = there ∙ ap (λ k. (b + (k - 16)) % k) is in
    ap (λ k. set (set control b byte) (k + 16) byte) at ∙ written_again control (buckets_of control) b byte long within

pub returns : goal.returns
returns c =
    written_at c.args.bytes.now (c.args.last + 1) c.args.b c.sixteen_before.result c.args.byte c.requires.last
    c.requires.circle.long c.requires.within c.sixteen_before.ensures.value

pub sixteen_before-requires-clause-power : goal.sixteen_before-requires-clause-power
sixteen_before-requires-clause-power c = rw c.requires.last c.requires.circle.power
