-- A `RawBox` and a handle are an address in memory. The mark of a `RawBox` has no bytes.
use Rattle.std.proofs.Common.{ℕ, ◌≡◌, List, [], ◌∷◌, ◌++◌, T, refl, ◌∙◌, lit<}
use Rattle.std.specs.declared.alloc.Allocator.{Ghosts}
use seplogic.Ra.Ura.{Ura}
use base.Logic.{ent, emp, never, fst∗, guard_i}
use base.Fml.{Fml}
use contract.Monad.{fact_use}
use mir.Raw.{raw as bare}
use mir.Syntax.{Sym}
use mir.Val.{Val, vstruct, vcons, vnil, of_list, has_ty, WT}
use types.Logic.{Logic, sem}
use types.Kit.{Item, Goal, Seq, ‵, given, ◌$◌, move, fsplit, fjoin, feq_l, use1, learn}
use denote.Laws.{Is}
use denote.Builtin.{RawPtr}
use denote.Memory.{lone}
use denote.Param.{layout}
use denote.RattleType.{RattleType}
use denote.RawPtr.{Ptr, block_ptr, null_ptr, ptr_val, in_a_block, Testable}
use denote.Shadow.{makes_shadow}
use denote.Struct.Owning.{shape}
use denote.Struct.Struct.{Struct}
use Rattle.std.specs.Prelude.{Option, None, Some}
use Rattle.std.proofs.GlobalToken.{dealloc_token-Testable}
use Rattle.std.specs.contracts.impls.GlobalAllocator.TheImpl.{ghosts}
use Rattle.lru_c.specs.Handle.{owns_boxed, c_heap}
use Rattle.lru_c.specs.contracts.raw_box.RawBox as raw_box

abbrev pub address_val : Ptr → Val
address_val p = vstruct (vcons (ptr_val p) vnil)

abbrev pub marked_val : Ptr → Val
marked_val p = vstruct (vcons (ptr_val p) (vcons (vstruct vnil) vnil))

pub ptr_good : (p : Ptr) → T (has_ty mir.Syntax.ty_ptr (ptr_val p)) × WT (ptr_val p)
ptr_good (block_ptr b o) = (tt, tt)
ptr_good null_ptr = (tt, record { fits = lit< tt })

module _ (name : Sym) where
  abbrev pub Address : RattleType
  Address = Struct (record { name = name; args = []; types = []; fields = RawPtr ∷ [] })

  pub address_good : (p : Ptr) → T (has_ty (layout Address) (address_val p)) × WT (address_val p)
  address_good (block_ptr b o) = (tt, (tt, tt))
  address_good null_ptr = (tt, (record { fits = lit< tt }, tt))

  pub address_made : {M : Type 1} {𝓤 : Ura M} (𝓛 : Logic 𝓤) (p : Ptr)
      → ent 𝓤 (emp 𝓤) (sem 𝓛 (Address.own_val (p, tt) (address_val p ∷ [])))
  address_made 𝓛 p =
      makes_shadow 𝓛 (Address.own_val (p, tt) (address_val p ∷ [])) (λ vss. (tt, (tt, tt))) (
        (ptr_val p ∷ [], tt),
        (refl, (refl, tt)),
      )

module _ (R Z : RattleType) (g : Ghosts Z.Denot) where
  abbrev pub Marked : RattleType
  Marked = Struct (shape (raw_box.the_type R Z g))

  pub marked_good : (p : Ptr) → T (has_ty (layout (raw_box.the_row R Z g)) (marked_val p)) × WT (marked_val p)
  marked_good (block_ptr b o) = (tt, (tt, (tt, tt)))
  marked_good null_ptr = (tt, (record { fits = lit< tt }, (tt, tt)))

  pub marked_told : (x : (raw_box.the_row R Z g).Denot) (vs : List Val) → Is (raw_box.the_row R Z g) x vs
      → vs ≡ marked_val x.start ∷ []
  marked_told x vs is =
      is.0.1.0 ∙ (λ i. vstruct (of_list (is.0.1.1.0 i ++ (is.0.1.1.1.0.1.0 i ++ []))) ∷ [])

  pub marked_made : {M : Type 1} {𝓤 : Ura M} (𝓛 : Logic 𝓤) (p : Ptr)
      → ent 𝓤 (emp 𝓤) (sem 𝓛 (Marked.own_val (p, (record {}, tt)) (marked_val p ∷ [])))
  marked_made 𝓛 p =
      makes_shadow 𝓛 (Marked.own_val (p, (record {}, tt)) (marked_val p ∷ []))
      (λ vss. (tt, (tt, ((λ uss. (tt, tt)), tt)))) (
        (ptr_val p ∷ [], (vstruct vnil ∷ [], tt)),
        (
          refl,
          (
            refl,
            (
              (
                tt,
                (refl, tt),
              ),
              tt,
            ),
          ),
        ),
      )

module _ {M : Type 1} {𝓤 : Ura M} {𝓛 : Logic 𝓤} {K : Type 0} {Γ : List (Item 𝓤)} {G : Goal 𝓤 𝓛.H}
    (row : RattleType) where
  pub null_or_box : K → (start : Ptr) (map : Option row.Denot)
      → (map ≡ None → start ≡ null_ptr → Seq K 𝓛 Γ G)
      → ((m : row.Denot) (block o : ℕ) → map ≡ Some m → start ≡ block_ptr block o → Testable (block_ptr block o)
      → Seq K 𝓛 (‵ (owns_boxed row (block_ptr block o) (Some m)) ∷ Γ) G)
      → Seq K 𝓛 (‵ (owns_boxed row start map) ∷ Γ) G
  null_or_box t start None none some = feq_l t (λ null. none refl null)
  null_or_box t start (Some m) none some =
      let token : Ptr → Fml = ghosts.dealloc_token c_heap (bare (lone row.mir)) in
      in_a_block t start (λ p. owns_boxed row p (Some m)) (fst∗ 𝓤 (never 𝓤) (sem 𝓛 (token null_ptr))) (λ block o starts.
      let p = block_ptr block o in
      fsplit t $ move t (1 ∷ []) $
      use1 𝓛 (given (Testable p) (‵ (token p))) (fact_use 𝓤 (Testable p)
      (dealloc_token-Testable 𝓛 c_heap (bare (lone row.mir)) p) (guard_i 𝓤 (Testable p) (sem 𝓛 (token p)))) $
      learn t (λ testable. move t (1 ∷ 0 ∷ []) $ fjoin t $ some m block o refl starts testable))
