use Rattle.std.proofs.Common.{◌≡◌, List, [], ◌∷◌, ◌++◌, refl, sym, ap, subst}
use mir.Syntax.{a_type, dcons, dnil}
use mir.MapTy.{inst_fn}
use mir.Val.{Val}
use base.Logic.{SProp, ent, emp, id⊢}
use base.Fml.{ftrue, flft}
use contract.Monad.{fact, fact_i}
use contract.BorrowLft.{◌⊑◌}
use contract.Running.{tables}
use denote.Builtin.{RawPtr}
use denote.Exit.{no}
use denote.Param.{param, bounded}
use denote.RattleType.{RattleType, owns}
use denote.RawPtr.{Ptr}
use denote.Signature.{types_at, plain}
use denote.Steps.{nothing, only}
use denote.Triple.Call.{calls_at}
use denote.Triple.Clauses.{Lasts, lasts}
use denote.Triple.Spec.{triple_of}
use denote.Triple.Walked.{Stays, stay_dropped, walk_of}
use prog.Wp.{WpFn}
use types.Kit.{‵, raw, ◌⊛◌, some, later, ◌$◌, ◌∵◌, !, qed, by, move, keep, drop, use0, use1, pick, await, split, join}
use types.Kit.{fsplit, fjoin, feq_l, suffices}
use types.Run.{of_opd, no_more, and_then, returns, enter}
use types.ByLocal.{alloc_all, pass_all, free_all, look_at, get, sets, lands_as}
use types.Part.{agg}
use Rattle.std.proofs.alloc.Calls.{Goes-blank}
use Rattle.std.proofs.raw_atomic.Calls.{fm}
use Rattle.std.proofs.raw_atomic.Walks.{proved_at, leaves}
use Rattle.std.proofs.BoxSteps.Form.{Bx, word, box_typed}
use Rattle.std.proofs.BoxSteps.Steps.{box_out, box_in}
use Rattle.std.specs.Box.Ownership.{box_owns}
use Rattle.std.specs.contracts.boxed.Box as box
use Rattle.std.specs.contracts.boxed.Box.into_raw as into_raw
use Rattle.std.proofs.boxed.Box.into_raw.Met.{met}
use Rattle.lru_c.specs.contracts.raw_box.RawBox as raw_box
use Rattle.lru_c.specs.contracts.raw_box.RawBox.from_box.{ended, clauses}
use Rattle.lru_c.specs.contracts.raw_box.RawBox.from_box.Key.{name as #self}
use Rattle.lru_c.proofs.Addresses.{Marked, marked_val, marked_good, marked_made, ptr_good}
use Rattle.lru_c.proofs.raw_box.RawBox.from_box.Statement.{statement}
use Rattle.lru_c.proofs.raw_box.RawBox.from_box.Code as code

pub from_box_spec : {M : Type 1} → statement M
from_box_spec 𝓤 𝓛 𝓜 𝓡 wired T A LT LA g d dt da allocator glue_t glue_a =
    let Item : RattleType = param 0 T in
    let Heap : RattleType = param 1 A in
    let Boxed : RattleType = box.the_row Item Heap g in
    let Kept : RattleType = raw_box.the_row Item Heap g in
    let End = ended T A g d dt da in
    let said = clauses T A g d dt da 𝓛 𝓜.mem 𝓡.returns in
    let types = bounded (a_type ∷ a_type ∷ []) (T, (A, tt)) (dcons d (dcons dt (dcons da dnil))) in
    let fn = inst_fn types code.function in
    let 𝓣 = tables 𝓤 𝓛.H 𝓜 𝓡 𝓡.env in
    let form : Bx = record { row = T; laws = LT; al = record { row = A; laws = LA; g = g; d = d; drops = da } } in
    let stays : Stays End.signature.params End.kept = (stay_dropped (plain (λ _. Boxed)) no, tt) in
    proved_at 𝓛 End stays said 𝓜 𝓡 (Goes-blank 𝓛 2 (plain (λ _. Boxed)) no (λ κs x f. tt), tt)
    (#self types) fn (code.unfolded 𝓤 𝓛.H 𝓜 𝓡 wired (T, (A, tt)) d dt da) (λ y are.
    let κs = y.0.0 in let qs = y.0.1 in
    let b : Boxed.Denot = y.0.3.0 in
    let Post : Val → SProp 𝓤 = (walk_of 𝓛 End stays said).post y in
    let Run : List Val → SProp 𝓤 = λ us. WpFn 𝓤 𝓛.H 𝓣.C 𝓣.Λ fn us Post in
    let Asks = triple_of 𝓛 (into_raw.signature T A g d da dt) (into_raw.spec T A g d da dt 𝓛 𝓜.mem 𝓡.returns) in
    let alive = ‵ (flft κs.0 qs.0) ⊛ ‵ (flft κs.1.0 qs.1.0) ⊛ ‵ ftrue in
    let asked = raw (fact 𝓤 (κs.0 ⊑ T.lives)) ⊛ raw (fact 𝓤 (κs.1.0 ⊑ A.lives)) ⊛ raw (emp 𝓤) in
    qed 𝓛 ((alive ⊛ ‵ (owns (types_at End.signature.params κs) y.0.3 y.0.4)) ∷ asked ∷ []) ∵
    split ! $ move ! (1 ∷ []) $ fsplit ! $ box_out form ! b y.0.4.0 (λ block o h starts spelled fits.
    let w : Val = word form h block o in
    let z : Asks.Ghost = ((κs, qs, tt, (b, tt), (w ∷ [], tt)), tt) in
    box_in form ! b block o b.value starts refl $
    fjoin ! $ move ! (1 ∷ 0 ∷ []) $ join ! $ join ! $ use1 𝓛 (raw (Asks.pre z)) (id⊢ 𝓤 _) $
    suffices ! (Run (w ∷ [])) (subst (λ us. ent 𝓤 (Run (w ∷ [])) (Run us)) (sym (ap (λ us. us ++ []) spelled))
    (id⊢ 𝓤 _)) $
    enter ! 𝓣.C 𝓣.Λ fn (w ∷ []) Post $ alloc_all ! (λ l. pass_all ! refl (box_typed form h block o fits, tt) $
    sets ! (of_opd ! (get ! refl)) refl (box_typed form h block o fits) $
    calls_at ! (fm 𝓛 𝓜 𝓡) Asks (met 𝓤 𝓛 𝓜 𝓡 (code.calls-std::boxed::Box::into_raw 𝓡.env wired) T A LT LA g d da dt
    allocator glue_a glue_t) z
    (and_then ! (get ! refl) (no_more !)) (λ u.
    use1 𝓛 (later (some (λ (p : Ptr). (alive ⊛ ‵ (RawPtr.own_val p (u ∷ []))) ⊛
    some (λ (ws : Lasts (into_raw.ended T A g d da dt) κs z.0.3). ‵ (lasts (into_raw.ended T A g d da dt) κs z.0.3 ws)
    ⊛ ‵ (box_owns (g.dealloc_token b.alloc) Item p b.value))))) (id⊢ 𝓤 _) $
    await ! tt $ pick ! (λ p. split ! $ split ! $ move ! (1 ∷ []) $ feq_l ! (λ is_p. move ! (1 ∷ []) $
    pick ! (λ ws. split ! $ drop ! $
    lands_as ! (ap only is_p) refl (ptr_good p) $
    sets ! (agg ! (no_more !)) refl (tt, tt) $
    sets ! (agg ! (and_then ! (get ! refl) (and_then ! (get ! refl) (no_more !)))) refl (marked_good Item Heap g p) $
    let made : Kept.Denot = record { start = p; mark = record {}; value = b.value; alloc = b.alloc } in
    use0 𝓛 (‵ ((Marked Item Heap g).own_val (p, (record {}, tt)) (marked_val p ∷ [])))
    (marked_made Item Heap g 𝓛 p) $ fjoin ! $
    use0 𝓛 (raw (fact 𝓤 (b.alloc ≡ b.alloc))) (fact_i 𝓤 (b.alloc ≡ b.alloc) (emp 𝓤) refl) $
    use0 𝓛 (raw (fact 𝓤 (b.value ≡ b.value))) (fact_i 𝓤 (b.value ≡ b.value) (emp 𝓤) refl) $ join ! $
    nothing ! $ nothing ! $ fjoin ! $
    returns ! (look_at ! 0 refl) $ free_all ! refl $ keep ! (3 ∷ 0 ∷ 2 ∷ 1 ∷ []) $
    by ! (leaves 𝓛 End stays said y (marked_val p) made ((tt, (tt, tt)), tt) (tt, tt)))))))))
