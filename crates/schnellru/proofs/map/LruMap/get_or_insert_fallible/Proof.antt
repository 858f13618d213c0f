use mathlib.Core.Path.{refl}
use mathlib.Core.List.{[], ◌∷◌, ◌++◌}
use base.Fml.{ftrue, flft}
use base.Logic.{via, snd∗}
use mir.MapTy.{inst_fn}
use mir.Syntax.{Args, a_type, dcons, dnil}
use contract.Lifetimes.{Lfts, Shares, toks}
use contract.Monad.{fact_use}
use types.Kit.{‵, raw, ◌⊛◌, ◌$◌, ◌∵◌, !, qed, move, keep, group, split, split3, done}
use denote.Exit.{no}
use denote.Param.{Types, param, copied, bounded}
use denote.Param.Laws.{param_laws}
use denote.Signature.{plain}
use denote.Steps.{nothing}
use denote.Triple.Clauses.{Ended, lasts}
use denote.Triple.Entry.{on_entry, alive}
use denote.Triple.Walked.{Stays, walk_of, stay_dropped, Goes-spent_ref, Goes-dropped}
use Rattle.std.proofs.raw_atomic.Walks.{proved_at, leaves}
use Rattle.lru_model.specs.contracts.results.GetOrInsertError as GE
use Rattle.lru_model.proofs.results.GetOrInsertError.TheLaws as GE_laws
use Rattle.lru_model.specs.GetOrInserts.{GetsOrInsertsIfMade}
use Rattle.schnellru.specs.contracts.map.LruMap as M'
use Rattle.schnellru.specs.contracts.map.LruMap.get_or_insert_fallible as f
use Rattle.schnellru.specs.contracts.map.LruMap.get_or_insert_fallible.F-FnOnce as closure
use Rattle.schnellru.specs.contracts.map.get_or_insert.kept_or_error as g
use Rattle.schnellru.proofs.map.LruMap.lend_or_insert_fallible.Met as lend-thm
use Rattle.schnellru.proofs.map.get_or_insert.kept_or_error.Met as kept-thm
use Rattle.schnellru.proofs.map.LruMap.get_or_insert_fallible.Statement.{statement}
use Rattle.schnellru.proofs.map.LruMap.get_or_insert_fallible.Code as code
use Rattle.schnellru.proofs.OutlivedLifetimes.{AllWithin, Outlive, outlive_shows}
use Rattle.schnellru.proofs.LentValues.{lone}
use Rattle.schnellru.proofs.LentAnswers.{lends_on}

pub get_or_insert_fallible_spec : {M : Type 1} → statement M
get_or_insert_fallible_spec 𝓤 𝓛 𝓜 𝓡 wired K V L S N H I E F LK LV LL LS LN LH LI LE LF cN kE kEd kP kPd kH kHd lL
    lLd nL nLd nC nCd sK sKd sB sBd hH hHd kDd vDd hDd iL iLd iH iHd iE iEd iP iPd fF fFd lI lId
    iDd fDd m1 m2 m3 m4 m5 m6 m7 m8 m9 m10 m11 m12 m13 m14 m15 m16 m17 m18 m19 m20 =
    let W : Ended = f.ended K V L S N H I E F kE kEd kP kPd kH kHd lL lLd nL nLd nC nCd sK sKd sB
    sBd hH hHd kDd vDd hDd iL iLd iH iHd iE iEd iP iPd fF fFd lI lId iDd fDd in
    let c = f.clauses K V L S N H I E F kE kEd kP kPd kH kHd lL lLd nL nLd nC nCd sK sKd sB sBd hH
    hHd kDd vDd hDd iL iLd iH iHd iE iEd iP iPd fF fFd lI lId iDd fDd 𝓛 𝓜.mem 𝓡.returns in
    let stayed : Stays W.signature.params W.kept =
    (stay_dropped _ no, (stay_dropped _ no, (stay_dropped _ no, tt))) in let End = walk_of 𝓛 W stayed c in
    let Ts : Types (a_type ∷ a_type ∷ a_type ∷ a_type ∷ a_type ∷ a_type ∷ a_type ∷ a_type ∷ a_type ∷ []) =
    (K, (V, (L, (S, (N, (H, (I, (E, (F, tt))))))))) in
    let at : Args = bounded (a_type ∷ a_type ∷ a_type ∷ a_type ∷ a_type ∷ a_type ∷ a_type ∷ a_type ∷ a_type ∷ []) Ts
    (dcons kEd (dcons kPd (dcons kHd (dcons lLd (dcons nLd (dcons nCd (dcons sKd
    (dcons sBd (dcons hHd (dcons kDd (dcons vDd (dcons hDd (dcons iLd (dcons iHd (dcons iEd (dcons iPd (dcons fFd
    (dcons lId (dcons iDd (dcons fDd dnil)))))))))))))))))))) in
    let R = M'.the_row (param 0 K) (param 1 V) (param 2 L) (param 3 S) (copied 4 N) (param 5 H) kP kH lL nL sK sB
    hH in
    let spent = Goes-spent_ref 𝓛 10 (0 ∷ []) tt (plain (λ _. R)) in
    let key = Goes-dropped 𝓛 10 (plain (λ _. param 6 I)) no (λ κs x w. refl) in
    let closed = Goes-dropped 𝓛 10 (plain (λ _. param 8 F)) no (λ κs x w. refl) in
    proved_at 𝓛 W stayed c 𝓜 𝓡 (spent, (key, (closed, tt))) (f.Key.name at) (inst_fn at code.function)
    (code.unfolded 𝓤 𝓛.H 𝓜 𝓡 wired Ts kEd kPd kHd lLd nLd nCd sKd sBd hHd kDd vDd hDd iLd iHd iEd iPd fFd
    lId iDd fDd) (λ y are.
    let κs = y.0.0 in let qs = y.0.1 in let a = y.0.3 in let r = a.0 in let i = a.1.0 in let make = a.1.1.0 in
    let one₁ = lone _ y.0.4.1.0 (((param_laws 6 I LI).lawful 𝓛).typed i y.0.4.1.0 are.1.0) in
    let one₂ = lone _ y.0.4.1.1.0 (((param_laws 8 F LF).lawful 𝓛).typed make y.0.4.1.1.0 are.1.1.0) in
    let ls = (κs.1.0, K.lives) ∷ (κs.1.1.0, V.lives) ∷ (κs.1.1.1.0, L.lives) ∷ (κs.1.1.1.1.0, S.lives)
    ∷ (κs.1.1.1.1.1.0, N.lives) ∷ (κs.1.1.1.1.1.1.0, H.lives) ∷ (κs.1.1.1.1.1.1.1.0, I.lives)
    ∷ (κs.1.1.1.1.1.1.1.1.0, E.lives) ∷ (κs.1.1.1.1.1.1.1.1.1.0, F.lives) ∷ [] in
    let more = f.requires-callable K V L S N H I E F kE kEd kP kPd kH kHd lL lLd nL nLd nC nCd sK sKd sB
    sBd hH hHd kDd vDd hDd iL iLd iH iHd iE iEd iP iPd fF fFd lI lId iDd fDd 𝓛 κs 𝓜.mem 𝓡.returns r i make in
    let required = Outlive 𝓤 ls more in
    let one = ‵ (flft κs.0 qs.0) in let ofK = ‵ (flft κs.1.0 qs.1.0) in let ofV = ‵ (flft κs.1.1.0 qs.1.1.0) in
    let ofL = ‵ (flft κs.1.1.1.0 qs.1.1.1.0) in let ofS = ‵ (flft κs.1.1.1.1.0 qs.1.1.1.1.0) in
    let ofN = ‵ (flft κs.1.1.1.1.1.0 qs.1.1.1.1.1.0) in let ofH = ‵ (flft κs.1.1.1.1.1.1.0 qs.1.1.1.1.1.1.0) in
    let ofI = ‵ (flft κs.1.1.1.1.1.1.1.0 qs.1.1.1.1.1.1.1.0) in let κE = κs.1.1.1.1.1.1.1.1.0 in
    let ofE = ‵ (flft κE qs.1.1.1.1.1.1.1.1.0) in
    let others = raw (toks 𝓛 1 κs.1.1.1.1.1.1.1.1.1 qs.1.1.1.1.1.1.1.1.1) in
    let κs₂ : Lfts 3 = (κs.0, (κs.1.1.0, (κE, tt))) in
    let qs₂ : Shares 3 = (qs.0, (qs.1.1.0, (qs.1.1.1.1.1.1.1.1.0, tt))) in
    let κt = κs.1.1.1 in let qt = qs.1.1.1 in
    let κs₃ : Lfts 7 = (κs.1.0, (κt.0, (κt.1.0, (κt.1.1.0, (κt.1.1.1.0, (κt.1.1.1.1.0, κt.1.1.1.1.1.1)))))) in
    let qs₃ : Shares 7 = (qs.1.0, (qt.0, (qt.1.0, (qt.1.1.0, (qt.1.1.1.0, (qt.1.1.1.1.0, qt.1.1.1.1.1.1)))))) in
    fact_use 𝓤 (AllWithin ls) (via 𝓤 required (snd∗ 𝓤 (on_entry 𝓛 W.signature κs qs a y.0.4) required)
    (outlive_shows 𝓤 ls more)) (λ lives.
    lends_on 𝓛 𝓜 𝓡 (param 0 K) V (param 2 L) (param 3 S) (copied 4 N) (param 5 H) (GE.the_row (param 7 E)) LV
    (GE_laws.the_row_laws (param 7 E) (param_laws 7 E LE))
    (record { eq = kP.eq; hash_input = kH.hash_input }) lL nL
    (record { build_hasher = sB.build_hasher; hash_of = sK.hash_of }) hH r
    (GetsOrInsertsIfMade lL.rules lI.offers iL.names sK.hash_of ((closure.words K V L S N H I E F fF).post make) i
    r.now) κs.0
    (alive 𝓛 W.signature κs qs) (toks 𝓛 3 κs₂ qs₂) (toks 𝓛 7 κs₃ qs₃)
    (qed 𝓛 (one ∷ ofK ∷ ofV ∷ ofL ∷ ofS ∷ ofN ∷ ofH ∷ ofI ∷ ofE ∷ others ∷ []) ∵ nothing ! $
    move ! (1 ∷ 3 ∷ 9 ∷ 0 ∷ []) $ group ! 4 $ done !)
    (qed 𝓛 ((one ⊛ ofV ⊛ ofE ⊛ ‵ ftrue) ∷ ofK ∷ ofL ∷ ofS ∷ ofN ∷ ofH ∷ ofI ∷ others ∷ []) ∵ split3 ! $
    move ! (2 ∷ []) $ split ! $ keep ! (2 ∷ 4 ∷ 3 ∷ 5 ∷ 6 ∷ 7 ∷ 8 ∷ 9 ∷ 0 ∷ 10 ∷ []) $ done !)
    ((κs.1.1.0, V.lives) ∷ (κE, E.lives) ∷ []) (lives.1.0, (lives.1.1.1.1.1.1.1.0, tt))
    (inst_fn at code.function) _ _ _ _ _ _ _ (End.pre y) (End.post y) (End.args y) r.ref_ptr.0 r.ref_ptr.1 one₁.0
    one₂.0
    (λ j. are.0.0 j ++ (one₁.1 j ++ (one₂.1 j ++ []))) one₁.2 one₂.2 (λ ws. lasts W κs a ws)
    (λ x ws. lasts (g.ended V E) κs₂ (x, tt) ws)
    (lend-thm.met 𝓤 𝓛 𝓜 𝓡 (code.calls-schnellru::map::LruMap::lend_or_insert_fallible 𝓡.env wired) K V L S N H I E
    F LK
    LV LL LS LN LH LI LE LF cN kE kEd kP kPd kH kHd lL lLd nL nLd nC nCd sK sKd sB sBd hH hHd kDd
    vDd hDd iL iLd iH iHd iE iEd iP iPd fF fFd lI lId iDd fDd m1 m2 m3 m4 m5 m6 m7 m8 m9 m10 m11 m12 m13 m14 m15
    m16 m17 m18 m19 m20 y)
    (λ x v. kept-thm.met 𝓤 𝓛 𝓜 𝓡 (code.calls-schnellru::map::get_or_insert::kept_or_error 𝓡.env wired) V E LV LE
    ((κs₂, qs₂, (y.0.2.1.0, tt), (x, tt), (v ∷ [], tt)), tt))
    (λ u e. leaves 𝓛 W stayed c y u e (tt, (tt, (tt, tt))) (tt, (tt, (tt, tt))))))
