-- Which places hold an entry that waits while a table is rehashed in place.
use Rattle.std.proofs.Common.{◌≡◌, ◌≢◌, ℕ, ◌+◌, ◌<◌, ◌≤◌, List, length, get_or, set, Option, None}
use Rattle.std.proofs.Common.{◌∙◌, arith, inl, inr, get_or-set_same, get_or-set_other}
use Rattle.std.proofs.lemmas.Bool.{cases_eq}
use Rattle.group_table.specs.Layout.{Agrees, IsLaidOut, written}
use Rattle.group_table.specs.Moves.{place_at}
use Rattle.group_table.proofs.InPlace.{IsHalfway, StaysWhereFree}
use Rattle.group_table.proofs.LayoutLemmas.{none_by}

module _ {T : Type 0} (whole now : List (Option T)) (control : List ℕ) (passed : ℕ)
    (stays : StaysWhereFree whole now control passed) where
  pub agrees_before : (before : List ℕ) → IsLaidOut before whole → (b : ℕ) → passed ≤ b → b < length whole
      → 128 ≤ get_or control b 0 → Agrees (get_or before b 0) (place_at now b)
  agrees_before before laid_out b from within free = rw (stays b from within free) (laid_out.agrees b within)

  pub stays_past : StaysWhereFree whole now control (passed + 1)
  stays_past b from = stays b (omega arith)

  pub stays_taken : (b : ℕ) (place : Option T) → b < passed → StaysWhereFree whole (set now b place) control passed
  stays_taken b place gone k from within free =
      get_or-set_other now b k place None (omega arith) ∙ stays k from within free

  module _ (b tag : ℕ) (same : length now ≡ length whole) where
    other_byte : (k : ℕ) → k < length whole → k ≢ b
        → get_or (written control now b tag) k 0 ≡ get_or control k 0
    other_byte k within other =
        get_or-set_other (set control b tag) _ k tag 0 (omega arith) ∙ get_or-set_other control b k tag 0 other

    pub stays_tagged : b < passed → StaysWhereFree whole now (written control now b tag) passed
    stays_tagged gone k from within free =
        stays k from within (rw (other_byte k within (omega arith)) at free)

    pub stays_put : (place : Option T) → b < length control → b < length now → tag < 128
        → StaysWhereFree whole (set now b place) (written control now b tag) passed
    stays_put place in_control in_now tag_fits k from within free = elim (cases_eq k b) [
      | inl e ↦
          let here : get_or (written control now b tag) k 0 ≡ tag = rw e
          (get_or-set_other (set control b tag) _ b tag 0 (omega arith)
          ∙ get_or-set_same control b tag 0 in_control) in
          absurd (omega (arith, here, free))
      | inr other ↦
          get_or-set_other now b k place None other ∙ stays k from within (rw (other_byte k within other) at free)
    ]

module _ {T N : Type 0} {number : N → ℕ} {none : N} {IsGiven : (ℕ → ℕ) → Type 0} {whole now : List (Option T)}
    {control : List ℕ} {links : List N} {passed : ℕ}
    (half : IsHalfway number none IsGiven whole now control links passed) where
  pub none_waits : (b : ℕ) → b < passed → b < length whole → 128 ≤ get_or control b 0 → place_at now b ≡ None
  none_waits b gone within free =
      (half.settled b gone).stands
      ∙ none_by _ _ (half.valid.laid_out.agrees b (omega (arith, within, half.placed_length))) free
