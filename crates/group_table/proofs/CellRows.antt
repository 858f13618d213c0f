-- A place is taken out of a row and put back. A `&` to a row gives a `&` to a place. Bare memory is a row of places.
use Rattle.std.proofs.Common.{◌≡◌, ℕ, zero, suc, ◌+◌, ◌*◌, ◌^◌, ◌<◌, List, [], ◌∷◌, length, replicate, length-set, refl}
use Rattle.std.proofs.Common.{sym, subst, arith, suc-mul, zero-mul}
use Rattle.std.specs.Prelude.{Option, Some, None, get_or, slice_set}
use Rattle.std.specs.Mem.{type_size}
use seplogic.Ra.Ura.{Ura}
use mir.Syntax.{Ty, ty_array}
use base.Logic.{SProp, ent, ex, sep, wand, all, guard, never, id⊢, apply∗, all_e}
use base.Fml.{Lft, froom}
use types.Logic.{Logic, sem}
use types.Kit.{Item, Goal, Seq, some, given, pick, learn, ‵, raw, ◌⊛◌, ◌$◌, ◌∵◌, !, qed, by, move, keep, use1, use2}
use types.Kit.{split, fsplit, fjoin, flt_i, flt_l, check, show, frame, each, assume, rewrite, done}
use denote.RattleType.{RattleType}
use denote.Memory.{lone}
use denote.RawPtr.{Ptr, block_ptr, in_a_block}
use Rattle.std.proofs.ptr.Rows.{times_below, one_below}
use Rattle.group_table.specs.CellOwners.{place, places, place_lent, places_lent, owns_cells, lends_cells}

pub held_below : {X : Type 0} (held : List (Option X)) (b : ℕ) (x : X) → get_or held b None ≡ Some x → b < length held
held_below [] b x e = cc
held_below (first ∷ more) zero x e = omega arith
held_below (first ∷ more) (suc b) x e = omega (arith, held_below more b x e)

module _ (R : RattleType) where
  abbrev Held : Type 0
  Held = Option R.Denot

  abbrev pub size : ℕ
  size = type_size R

  abbrev τ : Ty
  τ = lone R.mir

  -- the row begins at.1 bytes into the block at.0, and the offset of its place b fits a word
  abbrev pub Lies : Ptr → ℕ → ℕ × ℕ → Type 0
  Lies start b at = (start ≡ block_ptr at.0 at.1) × (size < 2 ^ 64) × (b * size < 2 ^ 64)

  lies : (start : Ptr) (b n : ℕ) (at : ℕ × ℕ) → start ≡ block_ptr at.0 at.1 → b < n → n * size < 2 ^ 63
      → Lies start b at
  lies start b n at e near few = (
    e,
    omega (arith, one_below n size (2 ^ 63) (omega arith) few),
    omega (arith, times_below b n size (2 ^ 63) (omega arith) few),
  )

  module _ {M : Type 1} {𝓤 : Ura M} (𝓛 : Logic 𝓤) where
    open 𝓛 use {H}

    abbrev Row : ℕ → ℕ → List Held → ℕ → ℕ → Held → SProp 𝓤
    Row block o held b far p = wand 𝓤 (sem 𝓛 (place R block far p)) (sem 𝓛 (places R block o (slice_set held b p)))

    place_out : (block o : ℕ) (held : List Held) (b far : ℕ) → far ≡ b * size + o → b < length held
        → ent 𝓤 (sem 𝓛 (places R block o held))
        (sep 𝓤 (sem 𝓛 (place R block far (get_or held b None))) (all 𝓤 (Row block o held b far)))
    place_out block o [] b far is near = absurd (omega arith)
    place_out block o (first ∷ more) zero far is near =
        let same : o ≡ far = omega (arith, is, zero-mul size) in
        qed 𝓛 (‵ (place R block o first) ∷ ‵ (places R block (o + size) more) ∷ []) ∵
        rewrite ! 0 (λ (k : ℕ). ‵ (place R block k first)) same refl $ frame ! $
        each ! (Row block o (first ∷ more) 0 far) (λ p. assume ! (‵ (place R block far p)) $
        rewrite ! 0 (λ (k : ℕ). ‵ (place R block k p)) (sym same) refl $ done !)
    place_out block o (first ∷ more) (suc b) far is near =
        qed 𝓛 (‵ (place R block o first) ∷ ‵ (places R block (o + size) more) ∷ []) ∵ move ! (1 ∷ []) $
        use1 𝓛 (‵ (place R block far (get_or more b None)) ⊛ raw (all 𝓤 (Row block (o + size) more b far)))
        (place_out block (o + size) more b far (omega (arith, is, suc-mul b size)) (omega (arith, near))) $
        split ! $ frame ! $ each ! (Row block o (first ∷ more) (suc b) far) (λ p.
        use1 𝓛 (raw (Row block (o + size) more b far p)) (all_e 𝓤 (Row block (o + size) more b far) p) $
        assume ! (‵ (place R block far p)) $
        use2 𝓛 (‵ (places R block (o + size) (slice_set more b p)))
        (apply∗ 𝓤 (sem 𝓛 (place R block far p)) (sem 𝓛 (places R block (o + size) (slice_set more b p)))) $
        move ! (1 ∷ 0 ∷ []) $ done !)

    abbrev pub Back : Ptr → List Held → ℕ → ℕ × ℕ → Held → SProp 𝓤
    Back start held b at p =
        wand 𝓤 (sem 𝓛 (place R at.0 (b * size + at.1) p)) (sem 𝓛 (owns_cells R start (slice_set held b p)))

    abbrev Taken : Ptr → List Held → ℕ → ℕ × ℕ → SProp 𝓤
    Taken start held b at = guard 𝓤 (Lies start b at)
        (sep 𝓤 (sem 𝓛 (place R at.0 (b * size + at.1) (get_or held b None))) (all 𝓤 (Back start held b at)))

    cell_out : (start : Ptr) (held : List Held) (b : ℕ) → b < length held
        → ent 𝓤 (sem 𝓛 (owns_cells R start held)) (ex 𝓤 (Taken start held b))
    cell_out start held b near = qed 𝓛 (‵ (owns_cells R start held) ∷ []) ∵
        in_a_block ! start (λ p. owns_cells R p held) (id⊢ 𝓤 (never 𝓤)) (λ block o e. fsplit ! $ flt_l ! (λ few.
        let far = b * size + o in
        use1 𝓛 (‵ (place R block far (get_or held b None)) ⊛ raw (all 𝓤 (Row block o held b far)))
        (place_out block o held b far refl near) $
        split ! $ show ! (Taken start held b) (block, o) $ check ! (lies start b (length held) (block, o) e near few) $
        frame ! $
        each ! (Back start held b (block, o)) (λ p.
        use1 𝓛 (raw (Row block o held b far p)) (all_e 𝓤 (Row block o held b far) p) $
        assume ! (‵ (place R block far p)) $ let after = slice_set held b p in
        use2 𝓛 (‵ (places R block o after)) (apply∗ 𝓤 (sem 𝓛 (place R block far p)) (sem 𝓛 (places R block o after))) $
        flt_i ! (length after * size) (2 ^ 63) (subst (λ k. k * size < 2 ^ 63) (sym (length-set held b p)) few) $
        fjoin ! $
        rewrite ! 0 (λ (q : Ptr). ‵ (owns_cells R q after)) (sym e) refl $ done !)))

    pub cell_in : (start : Ptr) (held : List Held) (b : ℕ) (at : ℕ × ℕ) (p : Held)
        → ent 𝓤 (sep 𝓤 (sem 𝓛 (place R at.0 (b * size + at.1) p)) (all 𝓤 (Back start held b at)))
        (sem 𝓛 (owns_cells R start (slice_set held b p)))
    cell_in start held b at p =
        qed 𝓛 (‵ (place R at.0 (b * size + at.1) p) ∷ raw (all 𝓤 (Back start held b at)) ∷ []) ∵ move ! (1 ∷ []) $
        use1 𝓛 (raw (Back start held b at p)) (all_e 𝓤 (Back start held b at) p) $ move ! (1 ∷ 0 ∷ []) $
        by ! (apply∗ 𝓤 (sem 𝓛 (place R at.0 (b * size + at.1) p)) (sem 𝓛 (owns_cells R start (slice_set held b p))))

    module _ (κ : Lft) where
      place_seen : (block o : ℕ) (held : List Held) (b far : ℕ) → far ≡ b * size + o → b < length held
          → ent 𝓤 (sem 𝓛 (places_lent R block o held κ)) (sem 𝓛 (place_lent R block far (get_or held b None) κ))
      place_seen block o [] b far is near = absurd (omega arith)
      place_seen block o (first ∷ more) zero far is near =
          let same : o ≡ far = omega (arith, is, zero-mul size) in
          qed 𝓛 (‵ (places_lent R block o (first ∷ more) κ) ∷ []) ∵ fsplit ! $ keep ! (0 ∷ []) $
          rewrite ! 0 (λ (k : ℕ). ‵ (place_lent R block k first κ)) same refl $ done !
      place_seen block o (first ∷ more) (suc b) far is near =
          qed 𝓛 (‵ (places_lent R block o (first ∷ more) κ) ∷ []) ∵ fsplit ! $ keep ! (1 ∷ []) $
          by ! (place_seen block (o + size) more b far (omega (arith, is, suc-mul b size)) (omega (arith, near)))

      abbrev Seen : Ptr → List Held → ℕ → ℕ × ℕ → SProp 𝓤
      Seen start held b at =
          guard 𝓤 (Lies start b at) (sem 𝓛 (place_lent R at.0 (b * size + at.1) (get_or held b None) κ))

      cell_seen : (start : Ptr) (held : List Held) (b : ℕ) → b < length held
          → ent 𝓤 (sem 𝓛 (lends_cells R start held κ)) (ex 𝓤 (Seen start held b))
      cell_seen start held b near = qed 𝓛 (‵ (lends_cells R start held κ) ∷ []) ∵
          in_a_block ! start (λ p. lends_cells R p held κ) (id⊢ 𝓤 (never 𝓤)) (λ block o e. fsplit ! $ flt_l ! (λ few.
          use1 𝓛 (‵ (place_lent R block (b * size + o) (get_or held b None) κ))
          (place_seen block o held b (b * size + o) refl near) $
          show ! (Seen start held b) (block, o) $ check ! (lies start b (length held) (block, o) e near few) $ done !))

    pub of_room : (block n o : ℕ)
        → ent 𝓤 (H.room (ty_array τ n) block o) (sem 𝓛 (places R block o (replicate n None)))
    of_room block zero o = qed 𝓛 (‵ (froom (ty_array τ 0) block o) ∷ []) ∵ keep ! [] $ done !
    of_room block (suc n) o = qed 𝓛 (‵ (froom (ty_array τ (suc n)) block o) ∷ []) ∵
        use1 𝓛 (‵ (froom τ block o) ⊛ ‵ (froom (ty_array τ n) block (o + size)))
        (𝓛.laws.room_uncons τ n block o) $
        split ! $
        use1 𝓛 (‵ (place R block o None)) (𝓛.laws.room-raw τ block o) $ frame ! $
        by ! (of_room block n (o + size))

    pub to_room : (block n o : ℕ)
        → ent 𝓤 (sem 𝓛 (places R block o (replicate n None))) (H.room (ty_array τ n) block o)
    to_room block zero o = 𝓛.laws.room_nil τ block o
    to_room block (suc n) o = qed 𝓛 (‵ (place R block o None) ∷ ‵ (places R block (o + size) (replicate n None)) ∷ []) ∵
        use1 𝓛 (‵ (froom τ block o)) (𝓛.laws.raw-room τ block o) $ move ! (1 ∷ []) $
        use1 𝓛 (‵ (froom (ty_array τ n) block (o + size))) (to_room block n (o + size)) $ move ! (1 ∷ []) $
        by ! (𝓛.laws.room_cons τ n block o)

  module _ {M : Type 1} {𝓤 : Ura M} {𝓛 : Logic 𝓤} {K : Type 0} {Γ : List (Item 𝓤)} {G : Goal 𝓤 𝓛.H} where
    pub takes_out : K → (start : Ptr) (held : List Held) (b : ℕ) → b < length held
        → ((at : ℕ × ℕ) → Lies start b at → Seq K 𝓛 (‵ (place R at.0 (b * size + at.1) (get_or held b None))
        ∷ raw (all 𝓤 (Back 𝓛 start held b at)) ∷ Γ) G)
        → Seq K 𝓛 (‵ (owns_cells R start held) ∷ Γ) G
    takes_out t start held b near then =
        use1 𝓛 (some (λ (at : ℕ × ℕ). given (Lies start b at) (‵ (place R at.0 (b * size + at.1) (get_or held b None))
        ⊛ raw (all 𝓤 (Back 𝓛 start held b at))))) (cell_out 𝓛 start held b near) $
        pick t (λ at. learn t (λ lies. split t $ then at lies))

    pub looks_at : K → (κ : Lft) (start : Ptr) (held : List Held) (b : ℕ) → b < length held
        → ((at : ℕ × ℕ) → Lies start b at
        → Seq K 𝓛 (‵ (place_lent R at.0 (b * size + at.1) (get_or held b None) κ) ∷ Γ) G)
        → Seq K 𝓛 (‵ (lends_cells R start held κ) ∷ Γ) G
    looks_at t κ start held b near then =
        use1 𝓛 (some (λ (at : ℕ × ℕ). given (Lies start b at)
        (‵ (place_lent R at.0 (b * size + at.1) (get_or held b None) κ)))) (cell_seen 𝓛 κ start held b near) $
        pick t (λ at. learn t (λ lies. then at lies))
