use Rattle.std.proofs.Common.{◌≡◌, ℕ, ◌*◌, ◌^◌, ◌<◌, T, List, [], ◌∷◌, replicate, refl, sym, subst, ap, ◌∙◌, arith, w64}
use Rattle.std.proofs.lemmas.List.{length-replicate}
use Rattle.std.specs.Prelude.{Option, None}
use Rattle.std.specs.Mem.{type_size}
use mir.Syntax.{Ty, a_type, dcons, dnil, named, ty_array, ty_unit}
use mir.Val.{Val, vint, vptr, vunit, has_ty, WT}
use mir.MapTy.{inst_fn}
use base.Logic.{SProp, ent, never, id⊢}
use base.Fml.{Fml, Incl-trans, ftrue, fsep, flft, froom}
use contract.BorrowLft.{◌⊑◌}
use contract.Running.{tables}
use contract.Monad.{fact}
use denote.Builtin.{RefOf, usize}
use denote.Exit.{no, yes}
use denote.Memory.{lone}
use denote.Param.{param, bounded}
use denote.Plain.{uint_vals, uint_Tells}
use denote.RattleType.{RattleType, owns}
use denote.RawPtr.{Ptr, block_ptr, in_a_block}
use denote.Ref.{shr_vals, shr_Tells}
use denote.Signature.{types_at, plain}
use denote.Steps.{nothing, heard}
use denote.Triple.Call.{calls_at_last}
use denote.Triple.Walked.{Stays, stay_dropped, walk_of, Goes-dropped}
use prog.Capped.{capped_fits}
use prog.Memory.{align, capped}
use prog.Wp.{WpFn}
use types.Kit.{‵, raw, ◌⊛◌, given, later, at_ret, ◌$◌, ◌∵◌, !, qed, by, move, keep, use1, learn, await, group, split}
use types.Kit.{join, fsplit, fsplit3, fjoin, flt_l, feq_i, rewrite, suffices}
use types.Run.{stop, fld, size_word, align_word, unit_lit, of_opd, bin, no_more, and_then, first, blocks, exec, returns}
use types.Run.{enter}
use types.ByLocal.{alloc_all, pass_all, free_all, look_at, get, get_in, sets, lands_last, is, env}
use types.Part.{sub, whole}
use Rattle.std.proofs.VecSteps.Shapes.{after}
use Rattle.std.proofs.alloc.Calls.{Al as Handle, Gives, at_gives, Gives-goes, Gives-Gives, Goes-blank}
use Rattle.std.proofs.raw_atomic.Calls.{fm}
use Rattle.std.proofs.raw_atomic.Walks.{proved, leaves}
use Rattle.group_table.specs.CellOwners.{owns_cells, owns_block}
use Rattle.group_table.specs.contracts.cells.Block as block
use Rattle.group_table.specs.contracts.cells.Cells as cells
use Rattle.group_table.specs.contracts.cells.Deed as deed
use Rattle.group_table.specs.contracts.cells.deallocate.{ended, clauses}
use Rattle.group_table.specs.contracts.cells.deallocate.Key.{name as #self}
use Rattle.group_table.proofs.CellBlocks.{block_val, none_val, block_good, block_told, none_told, block_ty, block_size}
use Rattle.group_table.proofs.CellBlocks.{block_align, uncapped}
use Rattle.group_table.proofs.CellRows.{to_room}
use Rattle.group_table.proofs.cells.deallocate.Statement.{statement}
use Rattle.group_table.proofs.cells.deallocate.Code as code

pub deallocate_spec : {M : Type 1} → statement M
deallocate_spec 𝓤 𝓛 𝓜 𝓡 wired X W L LW g d drops met _ =
    let Entry : RattleType = param 0 X in
    let Heap : RattleType = param 1 W in
    let Start : RattleType = block.the_row Entry in
    let Owner : RattleType = cells.the_row Entry in
    let Right : RattleType = deed.the_row Entry Heap g in
    let End = ended X W g d drops in
    let said = clauses X W g d drops 𝓛 𝓜.mem 𝓡.returns in
    let types = bounded (a_type ∷ a_type ∷ []) (X, (W, tt)) (dcons d (dcons drops dnil)) in
    let fn = inst_fn types code.function in
    let 𝓣 = tables 𝓤 𝓛.H 𝓜 𝓡 𝓡.env in
    let handle : Handle = record { row = W; laws = LW; g = g; d = d; drops = drops } in
    let lent = RefOf (0 ∷ []) tt (plain (λ _. Heap)) (λ _. tt) in
    let stays : Stays End.signature.params End.kept = (
      stay_dropped lent yes,
      (
        stay_dropped (plain (λ _. Start)) no,
        (
          stay_dropped (plain (λ _. usize)) yes,
          (
            stay_dropped (plain (λ _. Owner)) no,
            (stay_dropped (plain (λ _. Right)) no, tt),
          ),
        ),
      ),
    ) in
    proved 𝓛 End stays said 𝓜 𝓡 (
      Goes-dropped 𝓛 3 lent yes (λ κs x f. refl),
      (
        Goes-dropped 𝓛 3 (plain (λ _. Start)) no (λ κs x f. refl),
        (
          Goes-dropped 𝓛 3 (plain (λ _. usize)) yes (λ κs x f. refl),
          (
            Goes-blank 𝓛 3 (plain (λ _. Owner)) no (λ κs x f. tt),
            (Goes-blank 𝓛 3 (plain (λ _. Right)) no (λ κs x f. tt), tt),
          ),
        ),
      ),
    )
    (#self types) fn (code.unfolded 𝓤 𝓛.H 𝓜 𝓡 wired (X, (W, tt)) d drops)
    (λ κs. (
      shr_vals,
      (
        (λ x. block_val x.start ∷ []),
        (
          uint_vals w64,
          ((λ _. none_val ∷ []), ((λ _. none_val ∷ []), tt)),
        ),
      ),
    ))
    (λ κs. (
      shr_Tells (named 0) κs.0 Heap,
      (
        block_told Entry,
        (
          uint_Tells w64,
          ((λ x vs is. none_told Entry vs is.0), ((λ x vs is. none_told Entry vs is.0), tt)),
        ),
      ),
    ))
    (λ κs qs bounds args gh are.
    let rb : ℕ = args.0.ref_ptr.0 in let ro : ℕ = args.0.ref_ptr.1 in
    let heap : W.Denot = args.0.now in
    let start : Ptr = args.1.0.start in
    let n : ℕ = args.1.1.0 in
    let c : Owner.Denot = args.1.1.1.0 in
    let right : Right.Denot = args.1.1.1.1.0 in
    let y : (walk_of 𝓛 End stays said).Ghost = (
      (
        κs,
        qs,
        bounds,
        args,
        (vptr rb ro ∷ [], (block_val start ∷ [], (vint w64 n ∷ [], (none_val ∷ [], (none_val ∷ [], tt))))),
      ),
      gh,
    ) in
    let Post : Val → SProp 𝓤 = (walk_of 𝓛 End stays said).post y in
    let Searched : Type 0 = (c.start ≡ start) × (c.places ≡ replicate n None)
    × (right.start ≡ start) × (right.count ≡ n) × (right.alloc ≡ heap) in
    let others : Fml = fsep (flft κs.1.0 qs.1.0) (fsep (flft κs.1.1.0 qs.1.1.0) ftrue) in
    qed 𝓛 (((‵ (flft κs.0 qs.0) ⊛ ‵ others) ⊛ ‵ (owns (types_at End.signature.params κs) args y.0.4))
    ∷ raw (fact 𝓤 _) ∷ raw (fact 𝓤 (κs.1.1.0 ⊑ W.lives)) ∷ raw (fact 𝓤 Searched) ∷ []) ∵
    keep ! (2 ∷ 3 ∷ 0 ∷ []) $ heard ! (κs.1.1.0 ⊑ W.lives) (λ inside. heard ! Searched (λ asked. split ! $ split ! $
    move ! (2 ∷ []) $
    fsplit3 ! $ fsplit ! $ move ! (3 ∷ []) $ fsplit3 ! $ move ! (1 ∷ []) $ fsplit ! $ move ! (3 ∷ []) $ fsplit ! $
    fsplit ! $
    keep ! (4 ∷ 1 ∷ 7 ∷ 9 ∷ 10 ∷ []) $
    rewrite ! 0 (λ (u : Ptr × List (Option X.Denot)). ‵ (owns_cells Entry u.0 u.1)) (λ i. (asked.0 i, asked.1 i)) refl $
    in_a_block ! start (λ p. owns_cells Entry p (replicate n None)) (id⊢ 𝓤 (never 𝓤)) (λ b o e. fsplit ! $
    flt_l ! (λ few.
    let size : ℕ = type_size Entry in
    let τ : Ty = block_ty Entry n in
    let word : ℕ = capped (align (lone Entry.mir)) in
    let below : n * size < 2 ^ 63 = subst (λ k. k * size < 2 ^ 63) (length-replicate n None) few in
    let small : n * size < 2 ^ 64 = omega arith in
    let begins : Ptr = block_ptr b o in
    let us : Ptr → List Val = λ p. vptr rb ro ∷ block_val p ∷ vint w64 n ∷ none_val ∷ none_val ∷ [] in
    let Run : Ptr → SProp 𝓤 = λ p. WpFn 𝓤 𝓛.H 𝓣.C 𝓣.Λ fn (us p) Post in
    let Asks = Gives handle 𝓛 𝓜.mem 𝓡.returns in
    let w : Asks.Ghost = at_gives handle 𝓛 𝓜.mem 𝓡.returns κs.0 qs.0 (rb, ro) heap b o (n * size) word τ in
    rewrite ! 1 (λ (u : W.Denot × Ptr × ℕ). ‵ (owns_block Entry (g.dealloc_token u.0) u.1 u.2))
    (λ i. (asked.4 i, (asked.2 ∙ e) i, asked.3 i)) refl $
    use1 𝓛 (‵ (froom (ty_array (lone Entry.mir) n) b o)) (to_room Entry 𝓛 b n o) $
    use1 𝓛 (‵ (froom τ b o)) (𝓛.laws.room-raw (ty_array (lone Entry.mir) n) b o) $
    suffices ! (Run begins) (subst (λ (p : Ptr). ent 𝓤 (Run begins) (Run p)) (sym e) (id⊢ 𝓤 (Run begins))) $
    enter ! 𝓣.C 𝓣.Λ fn (us begins) Post $ alloc_all ! (λ l. pass_all ! refl (
      (tt, tt),
      (
        block_good Entry begins,
        ((tt, record { fits = are.1.1.0.1 }), ((tt, (tt, tt)), ((tt, (tt, tt)), tt))),
      ),
    ) $
    let Ev = env fn.locals l in
    first ! $ blocks ! $ sets ! (of_opd ! (get_in ! (fld ! refl (stop !)) (sub ! 0 refl (whole !)))) refl (tt, tt) $
    let room : n * capped size ≡ n * size = uncapped n size small in
    sets ! (is ! (bin ! (get ! refl) (size_word !) (record { fits = subst (λ k. k < 2 ^ 64) (sym room) small }))
    (ap (vint w64) room)) refl (tt, record { fits = small }) $
    group ! 4 $
    use1 𝓛 (raw (Asks.pre w)) (Gives-goes handle 𝓛 𝓜.mem 𝓡.returns κs.0 qs.0 (rb, ro) heap (Incl-trans bounds.0 inside)
    b o (n * size) word τ (block_size Entry n small) (block_align Entry n) small
    (capped_fits (align (lone Entry.mir)))) $
    calls_at_last ! (fm 𝓛 𝓜 𝓡) Asks (met.deallocate drops) w
    (and_then ! (get ! refl) (and_then ! (get ! refl) (and_then ! (get ! refl)
    (and_then ! (align_word !) (no_more !))))) (λ v.
    use1 𝓛 (later (given (v ≡ vunit) (‵ (flft κs.0 qs.0))))
    (Gives-Gives handle 𝓛 𝓜.mem 𝓡.returns κs.0 qs.0 (rb, ro) heap b o (n * size) word τ v) $ await ! tt $
    learn ! (λ ended_so.
    lands_last ! refl (subst (λ (z : Val). T (has_ty ty_unit z) × WT z) (sym ended_so) (tt, tt)) $
    exec ! 𝓣.C 𝓣.Λ Ev (after 1 fn.body) (at_ret Ev Post) $ sets ! (of_opd ! (unit_lit !)) refl (tt, tt) $
    join ! $ nothing ! $ feq_i ! (List Val) (vunit ∷ []) (vunit ∷ []) refl $
    nothing ! $ nothing ! $ fjoin ! $ nothing ! $ fjoin ! $ nothing ! $ fjoin ! $ nothing ! $ fjoin ! $ nothing ! $
    fjoin ! $
    returns ! (look_at ! 0 refl) $ free_all ! refl $ keep ! (3 ∷ 0 ∷ 1 ∷ 2 ∷ []) $
    by ! (leaves 𝓛 End stays said y vunit tt (tt, (tt, (tt, (tt, (tt, tt))))) (tt, (tt, (tt, (tt, (tt, tt))))))))))))))
