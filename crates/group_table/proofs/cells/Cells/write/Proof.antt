use Rattle.std.proofs.Common.{◌≡◌, ℕ, ◌+◌, ◌*◌, ◌<◌, List, [], ◌∷◌, ◌++◌, length, refl, sym, subst, ◌∙◌, w64}
use Rattle.std.specs.Prelude.{Option, Some, None, get_or, slice_set}
use mir.Syntax.{a_type}
use mir.Val.{Val, vint, vptr, vunit}
use mir.MapTy.{inst_fn}
use mir.Raw.{raw as bare}
use base.Fraction.{full_share}
use base.Logic.{SProp, ent, emp, id⊢}
use base.Fml.{ftrue, fsep, flft, fat, froom}
use contract.Running.{tables}
use contract.Monad.{fact, fact_i}
use denote.Builtin.{usize}
use denote.Exit.{no, yes}
use denote.Param.{param, layout, layouts}
use denote.Param.Laws.{param_laws}
use denote.RattleType.{RattleType, owns}
use denote.RawPtr.{Ptr}
use denote.Signature.{types_at, plain}
use denote.Steps.{nothing, heard, opens, closes}
use denote.Struct.Members.{Member}
use denote.Triple.Walked.{Stays, stay_dropped, stay_ref, walk_of, Goes-dropped, Goes-ref}
use prog.Wp.{WpFn}
use types.Kit.{‵, raw, ◌⊛◌, at_ret, ◌$◌, ◌∵◌, !, qed, by, move, keep, use0, use1, use2, split, join, fsplit, fsplit3}
use types.Kit.{fjoin, fjoin3, feq_i, rewrite, suffices}
use types.Run.{stop, fld, init, size_lit, unit_lit, of_opd, bin, assigns_last, first, blocks, exec, returns, enter}
use types.ByLocal.{alloc_all, pass_all, free_all, look_at, take_at, give_at, get, get_in, through, sets, env}
use types.Part.{sub, whole}
use Rattle.std.proofs.VecSteps.Shapes.{after}
use Rattle.std.proofs.cell.Inside.{one, gather}
use Rattle.std.proofs.raw_atomic.Walks.{proved_at, leaves}
use Rattle.group_table.specs.CellOwners.{place, owns_cells}
use Rattle.group_table.specs.contracts.cells.Block as block
use Rattle.group_table.specs.contracts.cells.Cells as cells
use Rattle.group_table.specs.contracts.cells.Cells.write.{ended, clauses}
use Rattle.group_table.specs.contracts.cells.Cells.write.Key.{name as #self}
use Rattle.group_table.proofs.CellBlocks.{block_val, block_good, block_told}
use Rattle.group_table.proofs.CellRows.{size, cell_in, takes_out}
use Rattle.group_table.proofs.cells.Cells.write.Statement.{statement}
use Rattle.group_table.proofs.cells.Cells.write.Code as code

pub write_spec : {M : Type 1} → statement M
write_spec 𝓤 𝓛 𝓜 𝓡 wired T L =
    let Entry : RattleType = param 0 T in
    let Start : RattleType = block.the_row Entry in
    let Owner : RattleType = cells.the_row Entry in
    let End = ended T in
    let said = clauses T 𝓛 𝓜.mem 𝓡.returns in
    let types = layouts (a_type ∷ []) (T, tt) in
    let fn = inst_fn types code.function in
    let 𝓣 = tables 𝓤 𝓛.H 𝓜 𝓡 𝓡.env in
    let stays : Stays End.signature.params End.kept = (
      stay_ref (0 ∷ []) tt (plain (λ _. Owner)),
      (
        stay_dropped (plain (λ _. Start)) no,
        (
          stay_dropped (plain (λ _. usize)) yes,
          (stay_dropped (plain (λ _. Entry)) no, tt),
        ),
      ),
    ) in
    proved_at 𝓛 End stays said 𝓜 𝓡 (
      Goes-ref 𝓛 2 0 tt (plain (λ _. Owner)),
      (
        Goes-dropped 𝓛 2 (plain (λ _. Start)) no (λ κs x f. refl),
        (
          Goes-dropped 𝓛 2 (plain (λ _. usize)) yes (λ κs x f. refl),
          (Goes-dropped 𝓛 2 (plain (λ _. Entry)) no (λ κs x f. refl), tt),
        ),
      ),
    )
    (#self types) fn (code.unfolded 𝓤 𝓛.H 𝓜 𝓡 wired (T, tt)) (λ y are.
    let κs = y.0.0 in let qs = y.0.1 in let args = y.0.3 in let vss = y.0.4 in
    let Post : Val → SProp 𝓤 = (walk_of 𝓛 End stays said).post y in
    let c : Owner.Denot = args.0.now in
    let start : Ptr = args.1.0.start in
    let b : ℕ = args.1.1.0 in
    let entry : T.Denot = args.1.1.1.0 in
    let Searched : Type 0 = (c.start ≡ start) × (b < length c.places) × (get_or c.places b None ≡ None) in
    qed 𝓛 (((‵ (flft κs.0 qs.0) ⊛ ‵ (fsep (flft κs.1.0 qs.1.0) ftrue))
    ⊛ ‵ (owns (types_at End.signature.params κs) args vss)) ∷ raw (fact 𝓤 _) ∷ raw (fact 𝓤 Searched) ∷ []) ∵
    keep ! (2 ∷ 0 ∷ []) $ heard ! Searched (λ asked. split ! $ split ! $ move ! (2 ∷ []) $ fsplit3 ! $ fsplit3 ! $
    move ! (4 ∷ []) $ fsplit3 ! $ keep ! (4 ∷ 5 ∷ 7 ∷ 1 ∷ 8 ∷ []) $
    let m : Member = record { row = Entry; ty = layout T } in
    let found = one (layout T) vss.1.1.1.0 (((param_laws 0 T L).lawful 𝓛).typed entry vss.1.1.1.0 are.1.1.1.0) in
    let v : Val = found.0 in
    rewrite ! 3 (λ (vs : List Val). ‵ (Entry.own_val entry vs)) found.1 refl $
    let rb : ℕ = args.0.ref_ptr.0 in let ro : ℕ = args.0.ref_ptr.1 in
    let us : List Val = vptr rb ro ∷ block_val start ∷ vint w64 b ∷ v ∷ [] in
    let Run : List Val → SProp 𝓤 = λ vs. WpFn 𝓤 𝓛.H 𝓣.C 𝓣.Λ fn vs Post in
    suffices ! (Run us) (subst (λ (vs : List Val). ent 𝓤 (Run us) (Run vs))
    (sym (λ i. are.0.0 i ++ (block_told Entry args.1.0 vss.1.0 are.1.0 i ++ (are.1.1.0.0 i ++ (found.1 i ++ [])))))
    (id⊢ 𝓤 (Run us))) $
    enter ! 𝓣.C 𝓣.Λ fn us Post $
    alloc_all ! (λ l. pass_all ! refl (
      (tt, tt),
      (
        block_good Entry start,
        ((tt, record { fits = are.1.1.0.1 }), (found.2, tt)),
      ),
    ) $
    let Ev = env fn.locals l in
    opens ! tt Owner rb ro (λ vs. move ! (1 ∷ []) $ fsplit ! $ move ! (1 ∷ []) $
    takes_out Entry ! c.start c.places b asked.1 (λ at lies.
    let far : ℕ = b * size Entry + at.1 in
    rewrite ! 0 (λ (p : Option T.Denot). ‵ (place Entry at.0 far p)) asked.2 refl $
    use1 𝓛 (‵ (froom (layout T) at.0 far)) (𝓛.laws.raw-room (layout T) at.0 far) $
    take_at ! 2 $
    rewrite ! 0 (λ (p : Ptr). ‵ (fat full_share (layout Start) (l 2) 0 (block_val p))) (sym asked.0 ∙ lies.0) refl $
    give_at ! 2 $
    let held : List (Option T.Denot) = slice_set c.places b (Some entry) in
    let new : Owner.Denot = record { mark = c.mark; start = c.start; places = held } in
    let Told : Type 0 = (c.start ≡ c.start) × (held ≡ held) in
    first ! $ blocks ! $
    sets ! (bin ! (get ! refl) (size_lit ! (record { fits = lies.1 })) (record { fits = lies.2 }))
    refl (tt, record { fits = lies.2 }) $
    sets ! (bin ! (get_in ! (fld ! refl (stop !)) (sub ! 0 refl (whole !))) (get ! refl) tt) refl (tt, tt) $
    sets ! (of_opd ! (get ! refl)) refl found.2 $
    assigns_last ! (of_opd ! (get ! refl)) (through ! refl (stop !)) (init ! 0 refl found.2) $
    exec ! 𝓣.C 𝓣.Λ Ev (after 1 fn.body) (at_ret Ev Post) $ sets ! (of_opd ! (unit_lit !)) refl (tt, tt) $
    use1 𝓛 (‵ (fat full_share (bare (layout T)) at.0 far v)) (𝓛.laws.at_raw full_share (layout T) at.0 far v) $
    move ! (0 ∷ 7 ∷ []) $ gather m ! entry v at.0 far $
    use2 𝓛 (‵ (owns_cells Entry c.start held)) (cell_in Entry 𝓛 c.start c.places b at (Some entry)) $
    move ! (1 ∷ 0 ∷ []) $ fjoin ! $ move ! (1 ∷ 0 ∷ []) $ closes ! tt Owner new vs rb ro $
    feq_i ! (List Val) vss.0 (vptr rb ro ∷ []) are.0.0 $ fjoin3 ! $
    nothing ! $ nothing ! $ fjoin ! $ nothing ! $ fjoin ! $ nothing ! $ fjoin ! $ move ! (1 ∷ 0 ∷ []) $ fjoin ! $
    move ! (1 ∷ 2 ∷ []) $ join ! $ use0 𝓛 (raw (fact 𝓤 Told)) (fact_i 𝓤 Told (emp 𝓤) (refl, refl)) $
    feq_i ! (List Val) (vunit ∷ []) (vunit ∷ []) refl $ returns ! (look_at ! 0 refl) $ free_all ! refl $
    keep ! (2 ∷ 3 ∷ 0 ∷ 1 ∷ []) $
    by ! (leaves 𝓛 End stays said y vunit tt (new, (tt, (tt, (tt, tt)))) (tt, (tt, (tt, (tt, tt))))))))))
