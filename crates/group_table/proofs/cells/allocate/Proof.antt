use Rattle.std.proofs.Common.{◌≡◌, ℕ, ◌*◌, ◌^◌, ◌<◌, List, [], ◌∷◌, length, replicate, refl, sym, subst, ap, arith}
use Rattle.std.proofs.Common.{lit<, w64}
use Rattle.std.proofs.lemmas.List.{length-replicate}
use Rattle.std.specs.Prelude.{None}
use Rattle.std.specs.Mem.{type_size}
use Rattle.std.specs.Vec.Ownership.{FitsInBlock}
use Rattle.std.specs.Prelude.{Ok, Err, true, false}
use Rattle.std.specs.contracts.result.Result as outcome
use Rattle.std.specs.contracts.alloc.AllocError as refusal
use mir.Syntax.{Ty, Body, a_type, dcons, dnil, named, ty_array}
use mir.Val.{Val, vint, vptr, vstruct, vcons, vnil, WT}
use mir.MapTy.{inst_fn}
use base.Logic.{SProp, emp}
use base.Fml.{Fml, Incl-trans, ftrue, fsep, flft, froom}
use contract.BorrowLft.{◌⊑◌}
use contract.Running.{tables}
use contract.Monad.{fact, fact_i}
use denote.Builtin.{RefOf, usize}
use denote.Exit.{yes}
use denote.Memory.{lone}
use denote.Param.{param, bounded}
use denote.Plain.{uint_vals, uint_Tells}
use denote.RattleType.{RattleType, owns}
use denote.RawPtr.{Ptr, block_ptr}
use denote.Ref.{shr_vals, shr_Tells}
use denote.Signature.{types_at, plain}
use denote.Steps.{nothing, heard}
use denote.Shadow.{makes_shadow}
use denote.Struct.Tuple.{Tuple}
use denote.Triple.Call.{calls_at}
use denote.Triple.Walked.{Stays, stay_dropped, walk_of, Goes-dropped}
use prog.Capped.{capped_fits}
use prog.Memory.{align, capped}
use prog.Wp.{Wp, after_seq, at_return}
use types.Kit.{‵, raw, ◌⊛◌, later, at_ret, ◌$◌, ◌∵◌, !, qed, by, move, keep, use0, use1, use2, use3, any_q, await}
use types.Kit.{split, join, fsplit, fjoin, flt_i}
use types.Run.{stop, fld, lit, size_word, align_word, switches_on, of_opd, bin, no_more, and_then, first, exec, returns}
use types.Run.{enter}
use types.ByLocal.{alloc_all, pass_all, free_all, look_at, get, get_in, sets, lands_as, get_tag, sets_last, is, env}
use types.Part.{agg, whole}
use types.Match.{live, vrt, in_variant}
use Rattle.std.proofs.ResultValues.{ok_of, err_of}
use Rattle.std.proofs.VecSteps.Shapes.{after, head, arm_body}
use Rattle.std.proofs.alloc.Calls.{Al as Handle, Answer-typed, Takes, at_takes, Answered, Takes-goes, Takes-gives}
use Rattle.std.proofs.alloc.Calls.{answers}
use Rattle.std.proofs.raw_atomic.Calls.{fm}
use Rattle.std.proofs.raw_atomic.Walks.{proved, leaves}
use Rattle.group_table.specs.CellOwners.{places}
use Rattle.group_table.specs.contracts.cells.Block as block
use Rattle.group_table.specs.contracts.cells.Cells as cells
use Rattle.group_table.specs.contracts.cells.Deed as deed
use Rattle.group_table.specs.contracts.cells.allocate.{ended, clauses}
use Rattle.group_table.specs.contracts.cells.allocate.Key.{name as #self}
use Rattle.group_table.proofs.CellBlocks.{BucketState, block_val, none_val, three_val, block_good, block_made, none_made}
use Rattle.group_table.proofs.CellBlocks.{three_made, block_ty, block_size, block_align, uncapped}
use Rattle.group_table.proofs.CellRows.{of_room}
use Rattle.group_table.proofs.cells.allocate.Statement.{statement}
use Rattle.group_table.proofs.cells.allocate.Code as code

pub allocate_spec : {M : Type 1} → statement M
allocate_spec 𝓤 𝓛 𝓜 𝓡 wired X W L LW g d drops met _ =
    let Entry : RattleType = param 0 X in
    let Heap : RattleType = param 1 W in
    let Start : RattleType = block.the_row Entry in
    let Owner : RattleType = cells.the_row Entry in
    let Right : RattleType = deed.the_row Entry Heap g in
    let Three : RattleType = Tuple (Start ∷ Owner ∷ Right ∷ []) in
    let Out : RattleType = outcome.the_row Three refusal.the_row in
    let End = ended X W g d drops in
    let said = clauses X W g d drops 𝓛 𝓜.mem 𝓡.returns in
    let types = bounded (a_type ∷ a_type ∷ []) (X, (W, tt)) (dcons d (dcons drops dnil)) in
    let fn = inst_fn types code.function in
    let 𝓣 = tables 𝓤 𝓛.H 𝓜 𝓡 𝓡.env in
    let handle : Handle = record { row = W; laws = LW; g = g; d = d; drops = drops } in
    let lent = RefOf (0 ∷ []) tt (plain (λ _. Heap)) (λ _. tt) in
    let stays : Stays End.signature.params End.kept =
    (stay_dropped lent yes, (stay_dropped (plain (λ _. usize)) yes, tt)) in
    proved 𝓛 End stays said 𝓜 𝓡
    (Goes-dropped 𝓛 3 lent yes (λ κs x f. refl), (Goes-dropped 𝓛 3 (plain (λ _. usize)) yes (λ κs x f. refl), tt))
    (#self types) fn (code.unfolded 𝓤 𝓛.H 𝓜 𝓡 wired (X, (W, tt)) d drops)
    (λ κs. (shr_vals, (uint_vals w64, tt))) (λ κs. (shr_Tells (named 0) κs.0 Heap, (uint_Tells w64, tt)))
    (λ κs qs bounds args gh are.
    let rb : ℕ = args.0.ref_ptr.0 in let ro : ℕ = args.0.ref_ptr.1 in
    let heap : W.Denot = args.0.now in
    let n : ℕ = args.1.0 in
    let y : (walk_of 𝓛 End stays said).Ghost = ((κs, qs, bounds, args, (vptr rb ro ∷ [], (vint w64 n ∷ [], tt))), gh) in
    let Post : Val → SProp 𝓤 = (walk_of 𝓛 End stays said).post y in
    let others : Fml = fsep (flft κs.1.0 qs.1.0) (fsep (flft κs.1.1.0 qs.1.1.0) ftrue) in
    qed 𝓛 (((‵ (flft κs.0 qs.0) ⊛ ‵ others) ⊛ ‵ (owns (types_at End.signature.params κs) args y.0.4))
    ∷ raw (fact 𝓤 _) ∷ raw (fact 𝓤 (κs.1.1.0 ⊑ W.lives)) ∷ raw (fact 𝓤 (FitsInBlock Entry n)) ∷ []) ∵
    keep ! (2 ∷ 3 ∷ 0 ∷ []) $ heard ! (κs.1.1.0 ⊑ W.lives) (λ inside. heard ! (FitsInBlock Entry n) (λ asked.
    split ! $ split ! $ move ! (2 ∷ []) $ fsplit ! $ fsplit ! $ keep ! (1 ∷ 3 ∷ 4 ∷ []) $
    let size : ℕ = type_size Entry in
    let τ : Ty = block_ty Entry n in
    let word : ℕ = capped (align (lone Entry.mir)) in
    let below : n * size < 2 ^ 63 = asked.0 in
    let small : n * size < 2 ^ 64 = omega arith in
    let us : List Val = vptr rb ro ∷ vint w64 n ∷ [] in
    let Asks = Takes handle 𝓛 𝓜.mem 𝓡.returns in
    let w : Asks.Ghost = at_takes handle 𝓛 𝓜.mem 𝓡.returns κs.0 qs.0 (rb, ro) heap (n * size) word τ in
    enter ! 𝓣.C 𝓣.Λ fn us Post $ alloc_all ! (λ l. pass_all ! refl ((tt, tt), ((tt, record { fits = are.1.0.1 }), tt)) $
    let Ev = env fn.locals l in
    let arms : Body = head (after 2 fn.body) in
    let Leave = at_return 𝓤 𝓛.H Ev Post in
    let Then = any_q (after_seq 𝓤 𝓛.H (Wp 𝓤 𝓛.H 𝓣.C 𝓣.Λ Ev (after 3 fn.body) Leave) Leave) in
    let room : n * capped size ≡ n * size = uncapped n size small in
    sets ! (is ! (bin ! (get ! refl) (size_word !) (record { fits = subst (λ k. k < 2 ^ 64) (sym room) small }))
    (ap (vint w64) room)) refl (tt, record { fits = small }) $
    use2 𝓛 (raw (Asks.pre w)) (Takes-goes handle 𝓛 𝓜.mem 𝓡.returns κs.0 qs.0 (rb, ro) heap (Incl-trans bounds.0 inside)
    (n * size) word τ (block_size Entry n small) (block_align Entry n) small
    (capped_fits (align (lone Entry.mir)))) $
    calls_at ! (fm 𝓛 𝓜 𝓡) Asks (met.allocate drops) w
    (and_then ! (get ! refl) (and_then ! (get ! refl) (and_then ! (align_word !) (no_more !)))) (λ answer.
    use1 𝓛 (later (raw (Answered handle 𝓛 𝓜.mem 𝓡.returns heap τ answer) ⊛ ‵ (flft κs.0 qs.0)))
    (Takes-gives handle 𝓛 𝓜.mem 𝓡.returns κs.0 qs.0 (rb, ro) heap (n * size) word τ answer) $
    await ! tt $ split ! $ move ! (1 ∷ 2 ∷ []) $ join ! $ move ! (1 ∷ []) $
    answers handle ! 𝓜.mem 𝓡.returns heap τ answer
    (λ b o e.
    let begins : Ptr = block_ptr b o in
    let base : Start.Denot = record { start = begins } in
    let bare : Owner.Denot = record { mark = record {}; start = begins; places = replicate n None } in
    let right : Right.Denot = record { mark = record {}; start = begins; count = n; alloc = heap } in
    let made : Val = three_val (block_val begins) none_val none_val in
    let v : Val = live 0 (vcons made vnil) in
    let good : WT v = (record { fits = lit< tt }, (((tt, tt), ((tt, tt), ((tt, tt), tt))), tt)) in
    let Told : Type 0 = (begins ≡ begins) × (bare.places ≡ bare.places) × (begins ≡ begins) × (n ≡ n) × (heap ≡ heap) in
    lands_as ! e refl (Answer-typed true b o) $ first ! $
    switches_on ! (get_tag ! (vrt ! refl (fld ! refl (stop !))) (whole !)) $ exec ! 𝓣.C 𝓣.Λ Ev (arm_body 0 arms) Then $
    sets ! (of_opd ! (get_in ! (vrt ! refl (fld ! refl (stop !))) (in_variant ! 0 0 refl refl (whole !))))
    refl (tt, tt) $
    sets ! (of_opd ! (get ! refl)) refl (tt, tt) $
    sets ! (agg ! (and_then ! (get ! refl) (no_more !))) refl (block_good Entry begins) $
    sets ! (agg ! (no_more !)) refl (tt, tt) $
    sets ! (agg ! (and_then ! (get ! refl) (no_more !))) refl (tt, (tt, tt)) $
    sets ! (agg ! (no_more !)) refl (tt, tt) $
    sets ! (agg ! (and_then ! (get ! refl) (no_more !))) refl (tt, (tt, tt)) $
    sets ! (agg ! (and_then ! (get ! refl) (and_then ! (get ! refl) (and_then ! (get ! refl) (no_more !)))))
    refl (tt, good.1.0) $
    sets_last ! (agg ! (and_then ! (lit ! tt) (and_then ! (get ! refl) (no_more !)))) refl (tt, good) $
    exec ! 𝓣.C 𝓣.Λ Ev (after 3 fn.body) (at_ret Ev Post) $ sets ! (of_opd ! (get ! refl)) refl (tt, good) $
    move ! (1 ∷ []) $ use0 𝓛 (‵ ((BucketState Entry).own_val (tt, tt) (none_val ∷ []))) (none_made Entry 𝓛) $ fjoin ! $
    move ! (1 ∷ []) $
    use1 𝓛 (‵ (froom (ty_array (lone Entry.mir) n) b o)) (𝓛.laws.raw-room (ty_array (lone Entry.mir) n) b o) $
    use1 𝓛 (‵ (places Entry b o bare.places)) (of_room Entry 𝓛 b n o) $
    flt_i ! (length bare.places * size) (2 ^ 63)
    (subst (λ k. k * size < 2 ^ 63) (sym (length-replicate n None)) below) $
    fjoin ! $
    use0 𝓛 (‵ ((BucketState Entry).own_val (tt, tt) (none_val ∷ []))) (none_made Entry 𝓛) $ fjoin ! $
    use0 𝓛 (‵ (Start.own_val base (block_val begins ∷ []))) (block_made Entry 𝓛 begins) $
    use3 𝓛 (‵ (Three.own_val (base, bare, right) (made ∷ [])))
    (three_made 𝓛 Start Owner Right base bare right (block_val begins) none_val none_val) $
    use1 𝓛 (‵ (Out.own_val (Ok (base, bare, right)) (v ∷ [])))
    (ok_of 𝓛 Three refusal.the_row (base, bare, right) made) $
    use0 𝓛 (raw (fact 𝓤 Told)) (fact_i 𝓤 Told (emp 𝓤) (refl, refl, refl, refl, refl)) $
    nothing ! $ nothing ! $ fjoin ! $ nothing ! $ fjoin ! $
    returns ! (look_at ! 0 refl) $ free_all ! refl $ keep ! (3 ∷ 0 ∷ 2 ∷ 1 ∷ []) $
    by ! (leaves 𝓛 End stays said y v (Ok (base, bare, right)) (tt, (tt, tt)) (tt, (tt, tt))))
    (λ e.
    let v : Val = live 1 (vcons (vstruct vnil) vnil) in
    let good : WT v = (record { fits = lit< tt }, (tt, tt)) in
    let refused : Fml = refusal.the_row.own_val (record {}) (vstruct vnil ∷ []) in
    lands_as ! e refl (Answer-typed false 0 0) $ first ! $
    switches_on ! (get_tag ! (vrt ! refl (fld ! refl (stop !))) (whole !)) $ exec ! 𝓣.C 𝓣.Λ Ev (arm_body 1 arms) Then $
    sets ! (of_opd ! (get_in ! (vrt ! refl (fld ! refl (stop !))) (in_variant ! 1 0 refl refl (whole !))))
    refl (tt, tt) $
    sets_last ! (agg ! (and_then ! (lit ! tt) (and_then ! (get ! refl) (no_more !)))) refl (tt, good) $
    exec ! 𝓣.C 𝓣.Λ Ev (after 3 fn.body) (at_ret Ev Post) $ sets ! (of_opd ! (get ! refl)) refl (tt, good) $
    use0 𝓛 (‵ refused) (makes_shadow 𝓛 refused (λ vss. (tt, tt)) (tt, (refl, tt))) $
    use1 𝓛 (‵ (Out.own_val (Err (record {})) (v ∷ []))) (err_of 𝓛 Three refusal.the_row (record {}) (vstruct vnil)) $
    use0 𝓛 (raw (fact 𝓤 (Unit {0}))) (fact_i 𝓤 (Unit {0}) (emp 𝓤) tt) $
    nothing ! $ nothing ! $ fjoin ! $ nothing ! $ fjoin ! $
    returns ! (look_at ! 0 refl) $ free_all ! refl $ keep ! (3 ∷ 0 ∷ 2 ∷ 1 ∷ []) $
    by ! (leaves 𝓛 End stays said y v (Err (record {})) (tt, (tt, tt)) (tt, (tt, tt)))))))))
