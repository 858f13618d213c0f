-- The machine values of the parts of a block, and what the allocator requires of a block's size.
use Rattle.std.proofs.Common.{◌≡◌, ℕ, zero, suc, ◌*◌, ◌^◌, ◌<◌, T, List, [], ◌∷◌, ◌++◌, refl, sym, ap, ◌∙◌, arith, lit<}
use Rattle.std.proofs.Common.{suc-mul, zero-mul}
use Rattle.std.specs.Mem.{type_size}
use seplogic.Ra.Ura.{Ura}
use base.Logic.{ent, sep, emp}
use types.Logic.{Logic, sem}
use types.Kit.{‵, ◌$◌, ◌∵◌, !, qed, move, fjoin, feq_i, fpack, done}
use mir.Raw.{raw as bare}
use mir.Syntax.{Ty, ty_array}
use mir.Val.{Val, vstruct, vcons, vnil, of_list, has_ty, WT}
use denote.RattleType.{RattleType, Valss}
use denote.Laws.{Is}
use denote.Memory.{lone}
use denote.Param.{layout}
use denote.RawPtr.{Ptr, block_ptr, null_ptr, ptr_val}
use denote.Struct.Owning.{shape}
use denote.Shadow.{makes_shadow}
use denote.Steps.{nothing}
use denote.Struct.Declared as declared
use denote.Struct.Struct.{Struct, within}
use denote.Struct.Tuple.{Tuple, tuple_type}
use prog.Capped.{capped_is}
use prog.Memory.{capped, size, align}
use prog.RawLaws.{size-raw, align-raw}
use Rattle.group_table.specs.contracts.cells.Block as block
use Rattle.group_table.specs.contracts.cells.Cells as cells

abbrev pub block_val : Ptr → Val
block_val p = vstruct (vcons (ptr_val p) vnil)

module _ (R : RattleType) where
  pub block_good : (p : Ptr) → T (has_ty (layout (block.the_row R)) (block_val p)) × WT (block_val p)
  block_good (block_ptr b o) = (tt, (tt, tt))
  block_good null_ptr = (tt, (record { fits = lit< tt }, tt))

  pub block_told : (x : (block.the_row R).Denot) (vs : List Val) → Is (block.the_row R) x vs
      → vs ≡ block_val x.start ∷ []
  block_told x vs is = is.1.0 ∙ ap (λ (ws : List Val). vstruct (of_list (ws ++ [])) ∷ []) is.1.1.0

abbrev pub none_val : Val
none_val = vstruct (vcons (vstruct vnil) vnil)

module _ (R : RattleType) where
  -- the memory of the owner of places and of the right to give a block back
  abbrev pub BucketState : RattleType
  BucketState = Struct (shape (cells.the_type R))

  pub none_told : (vs : List Val) → Is BucketState (tt, tt) vs → vs ≡ none_val ∷ []
  none_told vs is = is.1.0 ∙ ap (λ (ws : List Val). vstruct (of_list (ws ++ [])) ∷ []) is.1.1.0.1.0

  module _ {M : Type 1} {𝓤 : Ura M} (𝓛 : Logic 𝓤) where
    pub none_made : ent 𝓤 (emp 𝓤) (sem 𝓛 (BucketState.own_val (tt, tt) (none_val ∷ [])))
    none_made = makes_shadow 𝓛 (BucketState.own_val (tt, tt) (none_val ∷ [])) (λ vss. (tt, ((λ uss. (tt, tt)), tt)))
        ((vstruct vnil ∷ [], tt), (refl, ((tt, (refl, tt)), tt)))

    pub block_made : (p : Ptr)
        → ent 𝓤 (emp 𝓤) (sem 𝓛 ((block.the_row R).own_val (record { start = p }) (block_val p ∷ [])))
    block_made p = makes_shadow 𝓛 ((block.the_row R).own_val (record { start = p }) (block_val p ∷ []))
        (λ vss. (tt, (tt, tt))) ((ptr_val p ∷ [], tt), (refl, (refl, tt)))

  abbrev pub size_of : ℕ
  size_of = type_size R

  abbrev pub block_ty : ℕ → Ty
  block_ty n = bare (ty_array (lone R.mir) n)

  pub block_size : (n : ℕ) → n * size_of < 2 ^ 64 → capped (size (block_ty n)) ≡ n * size_of
  block_size n small = ap capped (size-raw (ty_array (lone R.mir) n)) ∙ capped_is (n * size_of) small

  pub block_align : (n : ℕ) → capped (align (block_ty n)) ≡ capped (align (lone R.mir))
  block_align n = ap capped (align-raw (ty_array (lone R.mir) n))

pub uncapped : (n k : ℕ) → n * k < 2 ^ 64 → n * capped k ≡ n * k
uncapped zero k small = zero-mul (capped k) ∙ sym (zero-mul k)
uncapped (suc n) k small = ap (λ j. suc n * j) (capped_is k (omega (arith, small, suc-mul n k)))

abbrev pub three_val : Val → Val → Val → Val
three_val u v w = vstruct (vcons u (vcons v (vcons w vnil)))

pub three_made : {M : Type 1} {𝓤 : Ura M} (𝓛 : Logic 𝓤) (A B C : RattleType)
    (a : A.Denot) (b : B.Denot) (c : C.Denot) (u v w : Val)
    → ent 𝓤 (sep 𝓤 (sem 𝓛 (A.own_val a (u ∷ []))) (sep 𝓤 (sem 𝓛 (B.own_val b (v ∷ []))) (sem 𝓛 (C.own_val c (w ∷ [])))))
    (sem 𝓛 ((Tuple (A ∷ B ∷ C ∷ [])).own_val (a, b, c) (three_val u v w ∷ [])))
three_made 𝓛 A B C a b c u v w = let all : List Val = three_val u v w ∷ [] in
    qed 𝓛 (‵ (A.own_val a (u ∷ [])) ∷ ‵ (B.own_val b (v ∷ [])) ∷ ‵ (C.own_val c (w ∷ [])) ∷ []) ∵
    nothing ! $ move ! (3 ∷ 0 ∷ []) $ fjoin ! $ move ! (2 ∷ 0 ∷ []) $ fjoin ! $ move ! (1 ∷ 0 ∷ []) $ fjoin ! $
    feq_i ! (List Val) all all refl $ fjoin ! $
    fpack ! (Valss (A ∷ B ∷ C ∷ [])) (within (declared.shape (tuple_type (A ∷ B ∷ C ∷ []))) (a, (b, (c, tt))) all)
    (u ∷ [], (v ∷ [], (w ∷ [], tt))) $ done !
