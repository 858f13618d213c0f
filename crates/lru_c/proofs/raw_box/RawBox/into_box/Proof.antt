use Rattle.std.proofs.Common.{◌≡◌, T as True, List, [], ◌∷◌, ◌++◌, refl, sym, ap, subst}
use mir.Syntax.{a_type, dcons, dnil}
use mir.MapTy.{inst_fn}
use mir.Val.{Val, has_ty, WT}
use base.Logic.{SProp, ent, id⊢}
use base.Fml.{ftrue, flft}
use contract.Monad.{fact}
use contract.BorrowLft.{◌⊑◌}
use contract.Running.{tables}
use denote.Exit.{no}
use denote.Param.{param, bounded, layout}
use denote.RattleType.{RattleType, owns}
use denote.RawPtr.{Ptr, ptr_val}
use denote.Signature.{types_at, plain}
use denote.Steps.{nothing, heard, only}
use denote.Triple.Call.{calls_at_last}
use denote.Triple.Clauses.{Lasts, lasts}
use denote.Triple.Spec.{triple_of}
use denote.Triple.Walked.{Stays, stay_dropped, walk_of}
use prog.Wp.{WpFn}
use types.Kit.{‵, raw, ◌⊛◌, some, later, at_ret, ◌$◌, ◌∵◌, !, qed, by, move, keep, drop, use1, pick, await, split}
use types.Kit.{split3, join, fsplit, fjoin, feq_i, rewrite, suffices}
use types.Run.{stop, fld, of_opd, no_more, and_then, first, blocks, exec, returns, enter}
use types.ByLocal.{alloc_all, pass_all, free_all, look_at, get, get_in, sets, lands_last, env}
use types.Part.{sub, whole}
use Rattle.std.proofs.alloc.Calls.{Goes-blank, handle_tells}
use Rattle.std.proofs.raw_atomic.Calls.{fm}
use Rattle.std.proofs.raw_atomic.Walks.{proved_at, leaves}
use Rattle.std.proofs.BoxSteps.Form.{Bx, box_typed}
use Rattle.std.proofs.BoxSteps.Steps.{box_out, box_in}
use Rattle.std.specs.Box.Ownership.{box_owns}
use Rattle.std.specs.contracts.boxed.Box as box
use Rattle.std.specs.contracts.boxed.Box.from_raw as from_raw
use Rattle.std.proofs.boxed.Box.from_raw.Met.{met}
use Rattle.lru_c.specs.contracts.raw_box.RawBox as raw_box
use Rattle.lru_c.specs.contracts.raw_box.RawBox.into_box.{ended, clauses}
use Rattle.lru_c.specs.contracts.raw_box.RawBox.into_box.Key.{name as #self}
use Rattle.lru_c.proofs.Addresses.{marked_val, marked_good, marked_told, ptr_good}
use Rattle.lru_c.proofs.raw_box.RawBox.into_box.Statement.{statement}
use Rattle.lru_c.proofs.raw_box.RawBox.into_box.Code as code

pub into_box_spec : {M : Type 1} → statement M
into_box_spec 𝓤 𝓛 𝓜 𝓡 wired T A LT LA g d dt da allocator glue_t glue_a =
    let Item : RattleType = param 0 T in
    let Heap : RattleType = param 1 A in
    let Boxed : RattleType = box.the_row Item Heap g in
    let Kept : RattleType = raw_box.the_row Item Heap g in
    let End = ended T A g d dt da in
    let said = clauses T A g d dt da 𝓛 𝓜.mem 𝓡.returns in
    let types = bounded (a_type ∷ a_type ∷ []) (T, (A, tt)) (dcons d (dcons dt (dcons da dnil))) in
    let fn = inst_fn types code.function in
    let 𝓣 = tables 𝓤 𝓛.H 𝓜 𝓡 𝓡.env in
    let form : Bx = record { row = T; laws = LT; al = record { row = A; laws = LA; g = g; d = d; drops = da } } in
    let stays : Stays End.signature.params End.kept =
    (stay_dropped (plain (λ _. Kept)) no, (stay_dropped (plain (λ _. Heap)) no, tt)) in
    proved_at 𝓛 End stays said 𝓜 𝓡
    (Goes-blank 𝓛 2 (plain (λ _. Kept)) no (λ κs x f. tt), (Goes-blank 𝓛 2 (plain (λ _. Heap)) no (λ κs x f. tt), tt))
    (#self types) fn (code.unfolded 𝓤 𝓛.H 𝓜 𝓡 wired (T, (A, tt)) d dt da) (λ y are.
    let κs = y.0.0 in let qs = y.0.1 in
    let kept : Kept.Denot = y.0.3.0 in
    let heap : A.Denot = y.0.3.1.0 in
    let p : Ptr = kept.start in
    let Post : Val → SProp 𝓤 = (walk_of 𝓛 End stays said).post y in
    let Run : List Val → SProp 𝓤 = λ us. WpFn 𝓤 𝓛.H 𝓣.C 𝓣.Λ fn us Post in
    let Asks = triple_of 𝓛 (from_raw.signature T A g d da) (from_raw.spec T A g d da 𝓛 𝓜.mem 𝓡.returns) in
    let alive = ‵ (flft κs.0 qs.0) ⊛ ‵ (flft κs.1.0 qs.1.0) ⊛ ‵ ftrue in
    qed 𝓛 ((alive ⊛ ‵ (owns (types_at End.signature.params κs) y.0.3 y.0.4))
    ∷ raw (fact 𝓤 (κs.0 ⊑ T.lives)) ∷ raw (fact 𝓤 (κs.1.0 ⊑ A.lives)) ∷ raw (fact 𝓤 (kept.alloc ≡ heap)) ∷ []) ∵
    move ! (3 ∷ []) $ heard ! (kept.alloc ≡ heap) (λ same.
    split ! $ move ! (1 ∷ []) $ fsplit ! $ fsplit ! $ drop ! $ move ! (1 ∷ []) $ fsplit ! $
    handle_tells form.al ! heap y.0.4.1.0 (λ h spelled fits.
    let w : Val = marked_val p in
    let us : List Val = w ∷ h ∷ [] in
    let z : Asks.Ghost = ((κs, qs, tt, (heap, (p, tt)), (h ∷ [], (ptr_val p ∷ [], tt))), kept.value) in
    rewrite ! 2 (λ (a : A.Denot). ‵ (box_owns (g.dealloc_token a) Item p kept.value)) same refl $
    move ! (5 ∷ 2 ∷ []) $ join ! $ move ! (4 ∷ 0 ∷ []) $ join ! $
    move ! (2 ∷ []) $ feq_i ! (List Val) (ptr_val p ∷ []) (ptr_val p ∷ []) refl $ fjoin ! $
    move ! (2 ∷ 0 ∷ []) $ fjoin ! $ move ! (2 ∷ 0 ∷ []) $ join ! $ join ! $ use1 𝓛 (raw (Asks.pre z)) (id⊢ 𝓤 _) $
    let words : y.0.4.0 ++ (y.0.4.1.0 ++ []) ≡ us = λ i. marked_told Item Heap g kept y.0.4.0 are.0 i ++
    (spelled i ++ []) in
    suffices ! (Run us) (subst (λ vs. ent 𝓤 (Run us) (Run vs)) (sym words) (id⊢ 𝓤 _)) $
    enter ! 𝓣.C 𝓣.Λ fn us Post $ alloc_all ! (λ l. pass_all ! refl (marked_good Item Heap g p, (fits, tt)) $
    let Ev = env fn.locals l in
    sets ! (of_opd ! (get_in ! (fld ! refl (stop !)) (sub ! 0 refl (whole !)))) refl (ptr_good p) $
    first ! $ blocks ! $ sets ! (of_opd ! (get ! refl)) refl fits $
    calls_at_last ! (fm 𝓛 𝓜 𝓡) Asks (met 𝓤 𝓛 𝓜 𝓡 (code.calls-std::boxed::Box::from_raw 𝓡.env wired) T A LT LA g d da
    allocator glue_a) z
    (and_then ! (get ! refl) (and_then ! (get ! refl) (no_more !))) (λ u.
    let Ends = from_raw.ended T A g d da in
    use1 𝓛 (later (some (λ (r : Boxed.Denot). (alive ⊛ ‵ (Boxed.own_val r (u ∷ []))) ⊛
    some (λ (ws : Lasts Ends κs z.0.3). ‵ (lasts Ends κs z.0.3 ws)
    ⊛ (raw (fact 𝓤 (r.value ≡ kept.value)) ⊛ raw (fact 𝓤 (r.alloc ≡ heap))))))) (id⊢ 𝓤 _) $
    await ! tt $ pick ! (λ r. split ! $ move ! (1 ∷ []) $ pick ! (λ ws. split3 ! $ drop ! $ move ! (2 ∷ []) $ split ! $
    move ! (1 ∷ []) $ box_out form ! r (u ∷ []) (λ block o h' starts is_word fits'.
    box_in form ! r block o r.value starts refl $ rewrite ! 0 (λ (vs : List Val). ‵ (Boxed.own_val r vs))
    (sym is_word) refl $
    let good = subst (λ v. True (has_ty (layout Boxed) v) × WT v) (sym (ap only is_word))
    (box_typed form h' block o fits') in
    lands_last ! refl good $ exec ! 𝓣.C 𝓣.Λ Ev code.Mir.t-3 (at_ret Ev Post) $
    sets ! (of_opd ! (get ! refl)) refl good $
    returns ! (look_at ! 0 refl) $ free_all ! refl $
    nothing ! $ nothing ! $ fjoin ! $ nothing ! $ fjoin ! $ keep ! (2 ∷ 0 ∷ 1 ∷ 3 ∷ []) $
    by ! (leaves 𝓛 End stays said y u r (tt, (tt, tt)) (tt, (tt, tt)))))))))))
