use Rattle.std.proofs.Common.{◌≡◌, ℕ, ◌+◌, ◌*◌, List, [], ◌∷◌, refl, sym, ◌∙◌, w64}
use Rattle.std.specs.Prelude.{Option, Some, None, get_or}
use mir.Syntax.{a_type, named}
use mir.Val.{Val, vint, vptr}
use mir.MapTy.{inst_fn}
use base.Fraction.{full_share}
use base.Logic.{SProp, emp}
use base.Fml.{ftrue, fsep, flft, fat}
use contract.Running.{tables}
use contract.Monad.{fact, fact_i}
use denote.Builtin.{RefOf, usize}
use denote.Opens.{hide, unhide}
use denote.Exit.{no, yes}
use denote.Param.{param, layout, layouts}
use denote.Plain.{uint_vals, uint_Tells}
use denote.RattleType.{RattleType, owns}
use denote.Ref.{shr_vals, shr_Tells}
use denote.RawPtr.{Ptr}
use denote.Signature.{types_at, plain}
use denote.Steps.{nothing, heard}
use denote.Triple.Walked.{Stays, stay_dropped, walk_of, Goes-dropped}
use types.Kit.{‵, raw, ◌⊛◌, at_ret, ◌$◌, ◌∵◌, !, qed, by, move, keep, drop as skip, use0, split, fsplit, fjoin, feq_i}
use types.Kit.{rewrite}
use types.Run.{stop, fld, addr, size_lit, of_opd, bin, first, blocks, exec, returns, enter}
use types.ByLocal.{alloc_all, pass_all, free_all, look_at, take_at, give_at, get, get_in, through, sets, sets_last, env}
use types.Part.{sub, whole}
use Rattle.std.proofs.VecSteps.Shapes.{after}
use Rattle.std.proofs.raw_atomic.Walks.{proved, leaves}
use Rattle.group_table.specs.Cells.{Holds}
use Rattle.group_table.specs.CellOwners.{place_lent}
use Rattle.group_table.specs.contracts.cells.Block as block
use Rattle.group_table.specs.contracts.cells.Cells as cells
use Rattle.group_table.specs.contracts.cells.Cells.get.{ended, clauses}
use Rattle.group_table.specs.contracts.cells.Cells.get.Key.{name as #self}
use Rattle.group_table.proofs.CellBlocks.{block_val, block_good, block_told}
use Rattle.group_table.proofs.CellRows.{size, held_below, looks_at}
use Rattle.group_table.proofs.cells.Cells.get.Statement.{statement}
use Rattle.group_table.proofs.cells.Cells.get.Code as code

pub get_spec : {M : Type 1} → statement M
get_spec 𝓤 𝓛 𝓜 𝓡 wired T L =
    let Entry : RattleType = param 0 T in
    let Start : RattleType = block.the_row Entry in
    let Owner : RattleType = cells.the_row Entry in
    let End = ended T in
    let said = clauses T 𝓛 𝓜.mem 𝓡.returns in
    let types = layouts (a_type ∷ []) (T, tt) in
    let fn = inst_fn types code.function in
    let 𝓣 = tables 𝓤 𝓛.H 𝓜 𝓡 𝓡.env in
    let lent = RefOf (0 ∷ []) tt (plain (λ _. Owner)) (λ _. tt) in
    let stays : Stays End.signature.params End.kept =
    (stay_dropped lent yes, (stay_dropped (plain (λ _. Start)) no, (stay_dropped (plain (λ _. usize)) yes, tt))) in
    proved 𝓛 End stays said 𝓜 𝓡 (
      Goes-dropped 𝓛 2 lent yes (λ κs x f. refl),
      (
        Goes-dropped 𝓛 2 (plain (λ _. Start)) no (λ κs x f. refl),
        (Goes-dropped 𝓛 2 (plain (λ _. usize)) yes (λ κs x f. refl), tt),
      ),
    )
    (#self types) fn (code.unfolded 𝓤 𝓛.H 𝓜 𝓡 wired (T, tt))
    (λ κs. (shr_vals, ((λ x. block_val x.start ∷ []), (uint_vals w64, tt))))
    (λ κs. (shr_Tells (named 0) κs.0 Owner, (block_told Entry, (uint_Tells w64, tt)))) (λ κs qs bounds args gh are.
    let c : Owner.Denot = args.0.now in
    let start : Ptr = args.1.0.start in
    let b : ℕ = args.1.1.0 in
    let rb : ℕ = args.0.ref_ptr.0 in let ro : ℕ = args.0.ref_ptr.1 in
    let y : (walk_of 𝓛 End stays said).Ghost =
    ((κs, qs, bounds, args, (vptr rb ro ∷ [], (block_val start ∷ [], (vint w64 b ∷ [], tt)))), gh) in
    let Post : Val → SProp 𝓤 = (walk_of 𝓛 End stays said).post y in
    let Searched : Type 0 = (c.start ≡ start) × Holds c.places b in
    qed 𝓛 (((‵ (flft κs.0 qs.0) ⊛ ‵ (fsep (flft κs.1.0 qs.1.0) ftrue))
    ⊛ ‵ (owns (types_at End.signature.params κs) args y.0.4)) ∷ raw (fact 𝓤 _) ∷ raw (fact 𝓤 Searched) ∷ []) ∵
    keep ! (2 ∷ 0 ∷ []) $ heard ! Searched (λ asked. split ! $ move ! (1 ∷ []) $ fsplit ! $ fsplit ! $
    keep ! (1 ∷ 3 ∷ []) $
    let entry : T.Denot = asked.1.0 in
    let us : List Val = vptr rb ro ∷ block_val start ∷ vint w64 b ∷ [] in
    enter ! 𝓣.C 𝓣.Λ fn us Post $
    alloc_all ! (λ l. pass_all ! refl ((tt, tt), (block_good Entry start, ((tt, record { fits = are.1.1.0.1 }), tt))) $
    let Ev = env fn.locals l in
    unhide ! $ fsplit ! $ skip ! $
    looks_at Entry ! κs.0 c.start c.places b (held_below c.places b entry asked.1.1) (λ at lies.
    let far : ℕ = b * size Entry + at.1 in
    rewrite ! 0 (λ (p : Option T.Denot). ‵ (place_lent Entry at.0 far p κs.0)) asked.1.1 refl $ hide ! $
    take_at ! 2 $
    rewrite ! 0 (λ (p : Ptr). ‵ (fat full_share (layout Start) (l 2) 0 (block_val p))) (sym asked.0 ∙ lies.0) refl $
    give_at ! 2 $
    let Got : Type 0 = get_or c.places b None ≡ Some entry in
    let v : Val = vptr at.0 far in
    first ! $ blocks ! $
    sets ! (bin ! (get ! refl) (size_lit ! (record { fits = lies.1 })) (record { fits = lies.2 }))
    refl (tt, record { fits = lies.2 }) $
    sets ! (bin ! (get_in ! (fld ! refl (stop !)) (sub ! 0 refl (whole !))) (get ! refl) tt) refl (tt, tt) $
    sets_last ! (addr ! (through ! refl (stop !))) refl (tt, tt) $
    exec ! 𝓣.C 𝓣.Λ Ev (after 1 fn.body) (at_ret Ev Post) $ sets ! (of_opd ! (get ! refl)) refl (tt, tt) $
    feq_i ! (List Val) (v ∷ []) (v ∷ []) refl $ fjoin ! $
    use0 𝓛 (raw (fact 𝓤 Got)) (fact_i 𝓤 Got (emp 𝓤) asked.1.1) $
    nothing ! $ nothing ! $ fjoin ! $ nothing ! $ fjoin ! $ nothing ! $ fjoin ! $
    returns ! (look_at ! 0 refl) $ free_all ! refl $ keep ! (3 ∷ 0 ∷ 2 ∷ 1 ∷ []) $
    by ! (leaves 𝓛 End stays said y v (record { ref_ptr = (at.0, far); now = entry })
    (tt, (tt, (tt, tt))) (tt, (tt, (tt, tt))))))))
