-- One proof for `get_or_insert` and `get_or_insert_fallible`: each passes its arguments to a function that lends, and
-- makes an `Option` of the result.
use mathlib.Core.Path.{◌≡◌, refl, sym, subst}
use mathlib.Core.List.{List, [], ◌∷◌}
use Prim.Native.Nat.{ℕ}
use lib.Dec.{T}
use seplogic.Ra.Ura.{Ura}
use base.Fml.{Fml, Lft, ftrue, fsep}
use base.Logic.{SProp, ent, sep, ex, emp, id⊢}
use mir.Syntax.{Fn, Callee, Ty, ty_ref, mut, named, erased, seq, assign, call, return, place, deref, rv_opd, copy}
use mir.Syntax.{addr_of, local, value_local}
use mir.Val.{Val, vptr, has_ty, WT}
use prog.Model.{Model}
use prog.Wp.{WpFn}
use contract.Monad.{fact}
use contract.Running.{Running, MachineTables, tables}
use types.Logic.{Logic, sem}
use types.Kit.{‵, raw, ◌⊛◌, some, later, ◌$◌, ◌∵◌, !, qed, by, move, drop, use0, use1, use2, split, join, fjoin, pick}
use types.Kit.{await, rewrite}
use types.Run.{enter, of_opd, addr, stop, no_more, and_then, returns}
use types.ByLocal.{alloc_all, pass_all, free_all, look_at, get, through, sets, lands_as}
use denote.Laws.{shows}
use denote.Param.{param, layout}
use denote.Param.Laws.{Laws}
use denote.RattleType.{RattleType}
use denote.Ref.{MutBor, MutRef}
use denote.Steps.{nothing, peeks, heard}
use denote.Triple.Call.{calls_from}
use denote.Triple.Table.{framed}
use Rattle.std.specs.Prelude.{Bool, Result}
use Rattle.std.specs.HashMap.Lent.{HashMembers}
use Rattle.std.specs.declared.hash.Hasher as hasher
use Rattle.std.specs.contracts.option.Option as option
use Rattle.std.specs.contracts.result.Result as result
use Rattle.group_table.specs.declared.link.LinkType as link_type
use Rattle.lru_limits.specs.declared.limiter.Limiter as limiter
use Rattle.lru_limits.specs.Hashing.{HasherMembers}
use Rattle.lru_model.specs.State.{State}
use Rattle.schnellru.specs.Lending.Answers.{lent_or_none}
use Rattle.schnellru.specs.Lending.Made.{lends_or, lends_made}
use Rattle.schnellru.specs.contracts.map.get_or_insert.NotLent as NL
use Rattle.schnellru.proofs.OutlivedLifetimes.{AllWithin, Outlive, outlive_holds}
use Rattle.schnellru.proofs.LentValues.{ends, Lent, Res, lent_laws, res_laws}

abbrev Typed : Ty → Val → Type 0
Typed τ v = T (has_ty τ v) × WT v

module _ {M : Type 1} {𝓤 : Ura M} (𝓛 : Logic 𝓤) (𝓜 : Model 𝓤 𝓛.H) (𝓡 : Running 𝓤 𝓛.H 𝓜) (K V L S N H E : RattleType)
    (LV : Laws V) (LE : Laws E) (key : HashMembers K.Denot) (limits : limiter.Ghosts L.Denot K.Denot V.Denot N.Denot)
    (links : link_type.Ghosts N.Denot)
    (hashed : HasherMembers S.Denot K.Denot H.Denot) (hash : hasher.Ghosts H.Denot)
    (m : MutBor (State K.Denot V.Denot L.Denot S.Denot))
    (Step : Result Bool E.Denot → State K.Denot V.Denot L.Denot S.Denot → Type 0) (κ : Lft) where
  abbrev Got : RattleType
  Got = Lent κ V E

  abbrev Gives : RattleType
  Gives = Res κ V E

  abbrev Or : Got.Denot → Fml
  Or = lends_or K (param 1 V) L S N H key limits links hashed hash m Step

  abbrev Made : Gives.Denot → Fml
  Made = lends_made K (param 1 V) L S N H key limits links hashed hash m Step

  abbrev 𝓣 : MachineTables 𝓤 𝓛.H 𝓜
  𝓣 = tables 𝓤 𝓛.H 𝓜 𝓡 𝓡.env

  abbrev fn : (base : Fn) (σ σ₁ σ₅ τ₂ τ₃ : Ty) (first second : Callee) → Fn
  fn base σ σ₁ σ₅ τ₂ τ₃ first second =
      let got : Ty = layout (result.the_row (MutRef erased [] (param 1 V)) (NL.the_row E)) in
      record base {
        locals = local (layout (result.the_row (option.the_row (MutRef (named 0) [] (param 1 V))) E)) value_local
            ∷ local (ty_ref (named 0) mut σ₁) value_local ∷ local τ₂ value_local ∷ local τ₃ value_local
            ∷ local got value_local ∷ local (ty_ref erased mut σ₅) value_local ∷ local τ₂ value_local
            ∷ local τ₃ value_local ∷ local got value_local ∷ [];
        body = seq (assign (place 5 []) (addr_of (place 1 (deref σ ∷ []))))
            (seq (assign (place 6 []) (rv_opd (copy (place 2 []))))
            (seq (assign (place 7 []) (rv_opd (copy (place 3 []))))
            (seq (call first (copy (place 5 []) ∷ copy (place 6 []) ∷ copy (place 7 []) ∷ []) (place 4 []))
            (seq (assign (place 8 []) (rv_opd (copy (place 4 []))))
            (seq (call second (copy (place 8 []) ∷ []) (place 0 [])) return)))));
      }

  module _ (tokens taken left : SProp 𝓤) (takes : ent 𝓤 tokens (sep 𝓤 taken left))
      (gives : ent 𝓤 (sep 𝓤 taken left) tokens) (ls : List (Lft × Lft)) (within : AllWithin ls) where
    abbrev Lends : {W : Type 0} → (W → Fml) → Val → SProp 𝓤
    Lends {W} last v = 𝓛.H.⇛ (ex 𝓤 (λ (x : Got.Denot). sep 𝓤 (sep 𝓤 tokens (sem 𝓛 (Got.own_val x (v ∷ []))))
        (ex 𝓤 (λ (w : W). sep 𝓤 (sem 𝓛 (last w)) (sem 𝓛 (Or x))))))

    abbrev Turns : {W : Type 0} → (W → Fml) → Got.Denot → Val → SProp 𝓤
    Turns {W} last x u = 𝓛.H.⇛ (ex 𝓤 (λ (e : Gives.Denot). sep 𝓤 (sep 𝓤 taken (sem 𝓛 (Gives.own_val e (u ∷ []))))
        (ex 𝓤 (λ (w : W). sep 𝓤 (sem 𝓛 (last w)) (fact 𝓤 (e ≡ lent_or_none x))))))

    pub lends_on : (base : Fn) (σ σ₁ σ₅ τ₂ τ₃ : Ty) (first second : Callee) (pre : SProp 𝓤) (Post : Val → SProp 𝓤)
        (args : List Val) (b o : ℕ) (i f : Val) → args ≡ vptr b o ∷ i ∷ f ∷ [] → Typed τ₂ i → Typed τ₃ f
        → {W₁ : Type 0} {W₂ : Got.Denot → Type 0} (last₁ : W₁ → Fml) (last₂ : (x : Got.Denot) → W₂ x → Fml)
        → ent 𝓤 pre (𝓣.C first args (Lends last₁))
        → ((x : Got.Denot) (v : Val) → ent 𝓤 (sep 𝓤 (sep 𝓤 taken (sem 𝓛 (fsep (Got.own_val x (v ∷ [])) ftrue)))
        (Outlive 𝓤 ls (emp 𝓤))) (𝓣.C second (v ∷ []) (Turns (last₂ x) x)))
        → ((u : Val) (e : Gives.Denot) → ent 𝓤 (sep 𝓤 tokens (sep 𝓤
        (sem 𝓛 (fsep ftrue (fsep ftrue (fsep ftrue ftrue))))
        (sep 𝓤 (sem 𝓛 (Gives.own_val e (u ∷ []))) (sem 𝓛 (Made e))))) (Post u))
        → ent 𝓤 pre (WpFn 𝓤 𝓛.H 𝓣.C 𝓣.Λ (fn base σ σ₁ σ₅ τ₂ τ₃ first second) args Post)
    lends_on base σ σ₁ σ₅ τ₂ τ₃ first second pre Post args b o i f is t₂ t₃ {W₁} {W₂} last₁ last₂ call₁ call₂ leave =
        let code = fn base σ σ₁ σ₅ τ₂ τ₃ first second in
        let got = (lent_laws κ V E LV LE).lawful 𝓛 in let given = (res_laws κ V E LV LE).lawful 𝓛 in
        subst (λ vs. ent 𝓤 pre (WpFn 𝓤 𝓛.H 𝓣.C 𝓣.Λ code vs Post)) (sym is) (
        qed 𝓛 (raw pre ∷ []) ∵ enter ! 𝓣.C 𝓣.Λ code _ Post $
        alloc_all ! (λ l. pass_all ! refl ((tt, tt), (t₂, (t₃, tt))) $
        sets ! (addr ! (through ! refl (stop !))) refl (tt, tt) $ sets ! (of_opd ! (get ! refl)) refl t₂ $
        sets ! (of_opd ! (get ! refl)) refl t₃ $
        calls_from ! (framed 𝓤 𝓛.H 𝓜 𝓣) (raw pre) (vptr b o ∷ i ∷ f ∷ []) (Lends last₁)
        (subst (λ vs. ent 𝓤 pre (𝓣.C first vs (Lends last₁))) is call₁)
        (and_then ! (get ! refl) (and_then ! (get ! refl) (and_then ! (get ! refl) (no_more !)))) (λ v.
        use1 𝓛 (later (some (λ (x : Got.Denot). (raw tokens ⊛ ‵ (Got.own_val x (v ∷ []))) ⊛
        some (λ (w : W₁). ‵ (last₁ w) ⊛ ‵ (Or x))))) (id⊢ 𝓤 _) $ await ! tt $ pick ! (λ x.
        split ! $ split ! $ move ! (2 ∷ []) $ pick ! (λ _. split ! $ drop ! $ move ! (2 ∷ []) $
        peeks ! Got _ (shows 𝓛 Got) x (v ∷ []) (λ is₁.
        let typed = got.typed x (v ∷ []) is₁ in lands_as ! refl refl typed.0 $
        sets ! (of_opd ! (get ! refl)) refl typed.0 $
        nothing ! $ move ! (1 ∷ 0 ∷ []) $ fjoin ! $
        move ! (2 ∷ []) $ use1 𝓛 (raw taken ⊛ raw left) takes $ split ! $ move ! (0 ∷ 2 ∷ []) $ join ! $
        use0 𝓛 (raw (Outlive 𝓤 ls (emp 𝓤))) (outlive_holds 𝓤 ls within) $ move ! (1 ∷ 0 ∷ []) $ join ! $
        calls_from ! (framed 𝓤 𝓛.H 𝓜 𝓣) _ (v ∷ []) (Turns (last₂ x) x) (call₂ x v)
        (and_then ! (get ! refl) (no_more !)) (λ u.
        use1 𝓛 (later (some (λ (e : Gives.Denot). (raw taken ⊛ ‵ (Gives.own_val e (u ∷ []))) ⊛
        some (λ (w : W₂ x). ‵ (last₂ x w) ⊛ raw (fact 𝓤 (e ≡ lent_or_none x)))))) (id⊢ 𝓤 _) $ await ! tt $ pick ! (λ e.
        split ! $ split ! $ move ! (2 ∷ []) $ pick ! (λ _. split ! $ drop ! $ heard ! _ (λ is_kept. move ! (1 ∷ []) $
        peeks ! Gives _ (shows 𝓛 Gives) e (u ∷ []) (λ is₂.
        lands_as ! refl refl (given.typed e (u ∷ []) is₂).0 $
        rewrite ! 0 (λ (d : Gives.Denot). ‵ (Gives.own_val d (u ∷ []))) is_kept refl $
        returns ! (look_at ! 0 refl) $ free_all ! refl $
        move ! (1 ∷ 2 ∷ []) $ use2 𝓛 (raw tokens) gives $
        move ! (2 ∷ []) $ use1 𝓛 (‵ (Made (lent_or_none x)))
        (ends 𝓛 K (param 1 V) L S N H key limits links hashed hash m Step x) $
        move ! (2 ∷ 0 ∷ []) $ join ! $ nothing ! $ nothing ! $ fjoin ! $ nothing ! $ fjoin ! $ nothing ! $ fjoin ! $
        join ! $ move ! (1 ∷ 0 ∷ []) $ join ! $ by ! (leave u (lent_or_none x)))))))))))))
