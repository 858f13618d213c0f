use Rattle.std.proofs.Common.{◌≡◌, T, List, [], ◌∷◌, ◌++◌, refl, sym, ap, ◌∙◌, lit<}
use Rattle.std.specs.Prelude.{Option, None, Some}
use mir.Val.{Val, vstruct, vcons, vnil, of_list, has_ty, WT}
use base.Logic.{SProp, emp}
use base.Fml.{ftrue}
use contract.Monad.{fact, fact_i}
use contract.Running.{tables}
use denote.Exit.{yes}
use denote.Laws.{Is}
use denote.Param.{layout}
use denote.RawPtr.{Ptr, block_ptr, null_ptr, tests_null}
use denote.RattleType.{RattleType, owns}
use denote.Signature.{types_at, plain}
use denote.Steps.{nothing}
use denote.Triple.Walked.{Stays, stay_dropped, walk_of, Goes-dropped}
use prog.Wp.{WpFn}
use types.Kit.{‵, raw, ◌⊛◌, at_ret, prop, ◌$◌, ◌∵◌, !, qed, by, move, keep, use0, use1, split, fsplit, fjoin, regoal}
use types.Run.{stop, fld, lit, of_opd, bin, no_more, and_then, first, branches, exec, returns, enter}
use types.ByLocal.{alloc_all, pass_all, free_all, look_at, get, get_in, sets, sets_last, env}
use types.Match.{live}
use types.Part.{agg, sub, whole}
use Rattle.std.proofs.option.Made.{Some-of, none_of}
use Rattle.std.proofs.raw_atomic.Walks.{proved, leaves}
use Rattle.std.specs.contracts.alloc.Global as global
use Rattle.std.specs.contracts.impls.GlobalAllocator.TheImpl.{ghosts}
use Rattle.std.specs.contracts.option.Option as option
use Rattle.lru_c.specs.Bytes.{BytesMap}
use Rattle.lru_c.specs.BytesHandle.{bytes_row}
use Rattle.lru_c.specs.Handle.{c_heap}
use Rattle.lru_c.specs.contracts.bytes.handle.BytesSlot as lru
use Rattle.lru_c.specs.contracts.raw_box.RawBox as raw_box
use Rattle.lru_c.specs.contracts.bytes.handle.BytesSlot.into_raw as f
use Rattle.lru_c.proofs.Addresses.{Marked, address_val, address_good, marked_val, marked_good}
use Rattle.lru_c.proofs.Addresses.{marked_made, ptr_good, null_or_box}
use Rattle.lru_c.proofs.bytes.handle.BytesSlot.into_raw.Statement.{statement}
use Rattle.lru_c.proofs.bytes.handle.BytesSlot.into_raw.Code as code

address_told : (x : lru.the_row.Denot) (vs : List Val) → Is lru.the_row x vs → vs ≡ address_val x.start ∷ []
address_told x vs is = is.0.1.0 ∙ ap (λ (ws : List Val). vstruct (of_list (ws ++ [])) ∷ []) is.0.1.1.0

abbrev stays : Stays f.ended.signature.params f.ended.kept
stays = (stay_dropped (plain (λ _. lru.the_row)) yes, tt)

pub into_raw_spec : {M : Type 1} → statement M
into_raw_spec 𝓤 𝓛 𝓜 𝓡 wired =
    let Boxed : RattleType = raw_box.the_row bytes_row global.the_row ghosts in
    let Out : RattleType = option.the_row Boxed in
    let fn = code.function in
    let said = f.clauses 𝓛 𝓜.mem 𝓡.returns in
    let 𝓣 = tables 𝓤 𝓛.H 𝓜 𝓡 𝓡.env in
    proved 𝓛 f.ended stays said 𝓜 𝓡 (Goes-dropped 𝓛 0 (plain (λ _. lru.the_row)) yes (λ κs x w. refl), tt)
    f.Key.name fn (code.unfolded 𝓤 𝓛.H 𝓜 𝓡 wired)
    (λ κs. ((λ x. address_val x.start ∷ []), tt)) (λ κs. (address_told, tt))
    (λ κs qs bounds args gh are.
    let h : lru.the_row.Denot = args.0 in
    let y : (walk_of 𝓛 f.ended stays said).Ghost = ((κs, qs, bounds, args, (address_val h.start ∷ [], tt)), gh) in
    let Post : Val → SProp 𝓤 = (walk_of 𝓛 f.ended stays said).post y in
    let Tells : Option BytesMap → Type 0 = λ map. map ≡ h.map in
    qed 𝓛 ((‵ ftrue ⊛ ‵ (owns (types_at f.signature.params κs) args y.0.4)) ∷ raw (emp 𝓤) ∷ []) ∵
    split ! $ move ! (1 ∷ []) $ fsplit ! $ fsplit ! $ keep ! (1 ∷ 3 ∷ []) $
    let Run : Ptr → SProp 𝓤 = λ p. WpFn 𝓤 𝓛.H 𝓣.C 𝓣.Λ fn (address_val p ∷ []) Post in
    null_or_box bytes_row ! h.start h.map
    (λ none null.
    regoal ! (λ p. prop (Run p)) null refl $
    let v : Val = live 0 vnil in
    enter ! 𝓣.C 𝓣.Λ fn (address_val null_ptr ∷ []) Post $
    alloc_all ! (λ l. pass_all ! refl (address_good lru.the_type.name null_ptr, tt) $ let Ev = env fn.locals l in
    sets ! (of_opd ! (get_in ! (fld ! refl (stop !)) (sub ! 0 refl (whole !)))) refl (ptr_good null_ptr) $
    sets ! (bin ! (get ! refl) (lit ! tt) tt) refl (tt, tt) $
    first ! $ branches ! (get ! refl) (λ is_null.
    sets_last ! (agg ! (and_then ! (lit ! tt) (no_more !))) refl (tt, (record { fits = lit< tt }, tt)) $
    exec ! 𝓣.C 𝓣.Λ Ev code.Mir.t-4 (at_ret Ev Post) $
    sets ! (of_opd ! (get ! refl)) refl (tt, (record { fits = lit< tt }, tt)) $
    use0 𝓛 (‵ (Out.own_val None (v ∷ []))) (none_of 𝓛 Boxed) $
    use0 𝓛 (raw (fact 𝓤 (Tells None))) (fact_i 𝓤 (Tells None) (emp 𝓤) (sym none)) $
    nothing ! $ nothing ! $ fjoin ! $
    returns ! (look_at ! 0 refl) $ free_all ! refl $ keep ! (3 ∷ 0 ∷ 2 ∷ 1 ∷ []) $
    by ! (leaves 𝓛 f.ended stays said y v None (tt, tt) (tt, tt)))
    (λ not_null. absurd not_null)))
    (λ map block o some starts testable.
    let p : Ptr = block_ptr block o in
    regoal ! (λ p. prop (Run p)) starts refl $
    let w : Val = marked_val p in
    let v : Val = live 1 (vcons w vnil) in
    let boxed : Boxed.Denot = record { start = p; mark = record {}; value = map; alloc = c_heap } in
    enter ! 𝓣.C 𝓣.Λ fn (address_val p ∷ []) Post $
    alloc_all ! (λ l. pass_all ! refl (address_good lru.the_type.name p, tt) $ let Ev = env fn.locals l in
    sets ! (of_opd ! (get_in ! (fld ! refl (stop !)) (sub ! 0 refl (whole !)))) refl (ptr_good p) $
    sets ! (bin ! (get ! refl) (lit ! tt) (tests_null p testable)) refl (tt, tt) $
    first ! $ branches ! (get ! refl) (λ is_null. absurd is_null) (λ not_null.
    let made = marked_good bytes_row global.the_row ghosts p in
    let good : T (has_ty (layout Out) v) × WT v = (tt, (record { fits = lit< tt }, (made.1, tt))) in
    sets ! (of_opd ! (get ! refl)) refl (ptr_good p) $
    sets ! (agg ! (no_more !)) refl (tt, tt) $
    sets ! (agg ! (and_then ! (get ! refl) (and_then ! (get ! refl) (no_more !)))) refl made $
    sets_last ! (agg ! (and_then ! (lit ! tt) (and_then ! (get ! refl) (no_more !)))) refl good $
    exec ! 𝓣.C 𝓣.Λ Ev code.Mir.t-4 (at_ret Ev Post) $
    sets ! (of_opd ! (get ! refl)) refl good $
    use0 𝓛 (‵ ((Marked bytes_row global.the_row ghosts).own_val (p, (record {}, tt)) (w ∷ [])))
    (marked_made bytes_row global.the_row ghosts 𝓛 p) $ fjoin ! $
    use1 𝓛 (‵ (Out.own_val (Some boxed) (v ∷ []))) (Some-of 𝓛 Boxed boxed w) $
    use0 𝓛 (raw (fact 𝓤 (Tells (Some map)))) (fact_i 𝓤 (Tells (Some map)) (emp 𝓤) (sym some)) $
    nothing ! $ nothing ! $ fjoin ! $
    returns ! (look_at ! 0 refl) $ free_all ! refl $ keep ! (3 ∷ 0 ∷ 2 ∷ 1 ∷ []) $
    by ! (leaves 𝓛 f.ended stays said y v (Some boxed) (tt, tt) (tt, tt))))))
