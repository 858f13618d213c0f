use Rattle.std.proofs.Common.{◌≡◌, ℕ, ◌+◌, ◌*◌, List, [], ◌∷◌, refl, sym, ◌∙◌, w64}
use Rattle.std.specs.Prelude.{Option, Some, None, get_or, slice_set}
use mir.Syntax.{a_type, named}
use mir.Val.{Val, vint, vptr}
use mir.MapTy.{inst_fn}
use base.Fraction.{full_share}
use base.Logic.{SProp, ent, sep, emp, all}
use base.Fml.{GName, Fml, ftrue, fsep, flft, fat}
use seplogic.Ra.Ura.{Ura}
use types.Logic.{Logic, sem}
use denote.Follow.{follows, lends_Part}
use denote.Memory.{mem, cell_at, part_of}
use denote.Struct.Owning.{shape}
use denote.Struct.Struct.{Struct}
use Rattle.group_table.specs.CellLends.{with_places}
use contract.Running.{tables}
use contract.Monad.{fact, fact_i}
use denote.Builtin.{usize}
use denote.Exit.{no, yes}
use denote.Param.{param, layout, layouts}
use denote.Plain.{uint_vals, uint_Tells}
use denote.RattleType.{RattleType, owns}
use denote.Ref.{MutBor, MutRef, mut_vals, mut_Tells}
use denote.RawPtr.{Ptr}
use denote.Signature.{types_at, plain, mut_ref_to}
use denote.Steps.{nothing, heard, opens}
use denote.Triple.Walked.{Stays, stay_dropped, walk_of, Goes-dropped, Goes-spent_ref}
use types.Kit.{‵, raw, ◌⊛◌, some, at_ret, ◌$◌, ◌∵◌, !, qed, by, move, keep, use0, use1, use2, pick, split, split3, join}
use types.Kit.{group, later, await, fpack, done, fsplit, fsplit3, fjoin, rewrite}
use types.Run.{stop, fld, addr, size_lit, of_opd, bin, first, blocks, exec, returns, enter}
use types.ByLocal.{alloc_all, pass_all, free_all, look_at, take_at, give_at, get, get_in, through, sets, sets_last, env}
use types.Part.{sub, whole}
use Rattle.std.proofs.VecSteps.Shapes.{after}
use Rattle.std.proofs.raw_atomic.Walks.{proved, leaves}
use Rattle.group_table.specs.Cells.{Holds}
use Rattle.group_table.specs.CellOwners.{place, owns_cells}
use Rattle.group_table.specs.contracts.cells.Block as block
use Rattle.group_table.specs.contracts.cells.Cells as cells
use Rattle.group_table.specs.contracts.cells.Cells.get_mut.{ended, clauses}
use Rattle.group_table.specs.contracts.cells.Cells.get_mut.Key.{name as #self}
use Rattle.group_table.proofs.CellBlocks.{block_val, block_good, block_told}
use Rattle.group_table.proofs.CellRows.{size, held_below, Back, cell_in, takes_out}
use Rattle.group_table.proofs.cells.Cells.get_mut.Statement.{statement}
use Rattle.group_table.proofs.cells.Cells.get_mut.Code as code

module _ (R : RattleType) {M : Type 1} {𝓤 : Ura M} (𝓛 : Logic 𝓤) (c : (cells.the_row R).Denot) (b : ℕ) (at : ℕ × ℕ)
    (vs : List Val) (rb ro : ℕ) where
  abbrev Owner : RattleType
  Owner = cells.the_row R

  abbrev mark_owned : Fml
  mark_owned = (Struct (shape (cells.the_type R))).own_val (tt, tt) vs

  abbrev mark_lies : Fml
  mark_lies = cell_at full_share Owner.mir vs rb ro

  abbrev Rest : SProp 𝓤
  Rest = sep 𝓤 (all 𝓤 (Back R 𝓛 c.start c.places b at)) (sep 𝓤 (sem 𝓛 mark_owned) (sem 𝓛 mark_lies))

  abbrev Last : R.Denot → Owner.Denot
  Last w = with_places c (slice_set c.places b (Some w))

  rejoins : (w : R.Denot) → ent 𝓤 (sep 𝓤 (sem 𝓛 ((mem R).own_at w at.0 (b * size R + at.1))) Rest)
      (sem 𝓛 ((mem Owner).own_at (Last w) rb ro))
  unfolding part_of
  rejoins w =
      qed 𝓛 (‵ (place R at.0 (b * size R + at.1) (Some w))
      ∷ (raw (all 𝓤 (Back R 𝓛 c.start c.places b at)) ⊛ ‵ mark_owned ⊛ ‵ mark_lies) ∷ []) ∵
      move ! (1 ∷ []) $ split3 ! $ move ! (3 ∷ 0 ∷ []) $
      use2 𝓛 (‵ (owns_cells R c.start (Last w).places)) (cell_in R 𝓛 c.start c.places b at (Some w)) $
      move ! (1 ∷ 0 ∷ []) $ fjoin ! $ move ! (1 ∷ 0 ∷ []) $ fjoin ! $
      fpack ! (List Val) (λ us. fsep (cell_at full_share Owner.mir us rb ro) (Owner.own_val (Last w) us)) vs $ done !

pub get_mut_spec : {M : Type 1} → statement M
get_mut_spec 𝓤 𝓛 𝓜 𝓡 wired T L =
    let Entry : RattleType = param 0 T in
    let Start : RattleType = block.the_row Entry in
    let Whole : RattleType = cells.the_row Entry in
    let End = ended T in
    let said = clauses T 𝓛 𝓜.mem 𝓡.returns in
    let types = layouts (a_type ∷ []) (T, tt) in
    let fn = inst_fn types code.function in
    let 𝓣 = tables 𝓤 𝓛.H 𝓜 𝓡 𝓡.env in
    let stays : Stays End.signature.params End.kept = (
      stay_dropped (mut_ref_to (0 ∷ []) tt (plain (λ _. Whole))) no,
      (stay_dropped (plain (λ _. Start)) no, (stay_dropped (plain (λ _. usize)) yes, tt)),
    ) in
    proved 𝓛 End stays said 𝓜 𝓡 (
      Goes-spent_ref 𝓛 2 (0 ∷ []) tt (plain (λ _. Whole)),
      (
        Goes-dropped 𝓛 2 (plain (λ _. Start)) no (λ κs x f. refl),
        (Goes-dropped 𝓛 2 (plain (λ _. usize)) yes (λ κs x f. refl), tt),
      ),
    )
    (#self types) fn (code.unfolded 𝓤 𝓛.H 𝓜 𝓡 wired (T, tt))
    (λ κs. (mut_vals, ((λ x. block_val x.start ∷ []), (uint_vals w64, tt))))
    (λ κs. (mut_Tells (named 0) κs.0 Whole, (block_told Entry, (uint_Tells w64, tt)))) (λ κs qs bounds args gh are.
    let c : Whole.Denot = args.0.now in
    let start : Ptr = args.1.0.start in
    let b : ℕ = args.1.1.0 in
    let rb : ℕ = args.0.ref_ptr.0 in let ro : ℕ = args.0.ref_ptr.1 in let γ : GName = args.0.ghost_name in
    let y : (walk_of 𝓛 End stays said).Ghost =
    ((κs, qs, bounds, args, (vptr rb ro ∷ [], (block_val start ∷ [], (vint w64 b ∷ [], tt)))), gh) in
    let Post : Val → SProp 𝓤 = (walk_of 𝓛 End stays said).post y in
    let Searched : Type 0 = (c.start ≡ start) × Holds c.places b in
    qed 𝓛 (((‵ (flft κs.0 qs.0) ⊛ ‵ (fsep (flft κs.1.0 qs.1.0) ftrue))
    ⊛ ‵ (owns (types_at End.signature.params κs) args y.0.4)) ∷ raw (fact 𝓤 _) ∷ raw (fact 𝓤 Searched) ∷ []) ∵
    keep ! (2 ∷ 0 ∷ []) $ heard ! Searched (λ asked. split ! $ split ! $ move ! (2 ∷ []) $ fsplit ! $ fsplit3 ! $
    keep ! (1 ∷ 2 ∷ 4 ∷ 5 ∷ []) $
    let entry : T.Denot = asked.1.0 in
    let us : List Val = vptr rb ro ∷ block_val start ∷ vint w64 b ∷ [] in
    enter ! 𝓣.C 𝓣.Λ fn us Post $
    alloc_all ! (λ l. pass_all ! refl ((tt, tt), (block_good Entry start, ((tt, record { fits = are.1.1.0.1 }), tt))) $
    let Ev = env fn.locals l in
    opens ! tt Whole rb ro (λ vs. move ! (1 ∷ []) $ fsplit ! $ move ! (1 ∷ []) $
    takes_out Entry ! c.start c.places b (held_below c.places b entry asked.1.1) (λ at lies.
    let far : ℕ = b * size Entry + at.1 in
    rewrite ! 0 (λ (p : Option T.Denot). ‵ (place Entry at.0 far p)) asked.1.1 refl $
    take_at ! 2 $
    rewrite ! 0 (λ (p : Ptr). ‵ (fat full_share (layout Start) (l 2) 0 (block_val p))) (sym asked.0 ∙ lies.0) refl $
    give_at ! 2 $
    let Got : Type 0 = get_or c.places b None ≡ Some entry in
    let v : Val = vptr at.0 far in
    let lent : GName → MutBor T.Denot = λ δ. record { ref_ptr = (at.0, far); ghost_name = δ; now = entry } in
    let last : T.Denot → Whole.Denot = Last Entry 𝓛 c b at vs rb ro in
    first ! $ blocks ! $
    sets ! (bin ! (get ! refl) (size_lit ! (record { fits = lies.1 })) (record { fits = lies.2 }))
    refl (tt, record { fits = lies.2 }) $
    sets ! (bin ! (get_in ! (fld ! refl (stop !)) (sub ! 0 refl (whole !))) (get ! refl) tt) refl (tt, tt) $
    sets_last ! (addr ! (through ! refl (stop !))) refl (tt, tt) $
    exec ! 𝓣.C 𝓣.Λ Ev (after 1 fn.body) (at_ret Ev Post) $ sets ! (of_opd ! (get ! refl)) refl (tt, tt) $
    move ! (1 ∷ 2 ∷ 3 ∷ []) $ group ! 3 $ move ! (2 ∷ 3 ∷ 4 ∷ 1 ∷ 0 ∷ []) $ group ! 5 $
    use1 𝓛 (later (some (λ (δ : GName). ‵ ((MutRef (named 0) κs.0 Entry).own_val (lent δ) (v ∷ [])) ⊛ ‵ (flft κs.0 qs.0)
    ⊛ ‵ (follows Whole Entry γ δ last))))
    (lends_Part 𝓛 Whole Entry last (named 0) κs.0 qs.0 rb ro at.0 far γ (Rest Entry 𝓛 c b at vs rb ro)
    (rejoins Entry 𝓛 c b at vs rb ro) (Whole.coded.code c) (Whole.coded.code c) entry) $
    await ! tt $ pick ! (λ δ. split3 ! $ move ! (1 ∷ 3 ∷ []) $ join ! $
    use0 𝓛 (raw (fact 𝓤 Got)) (fact_i 𝓤 Got (emp 𝓤) asked.1.1) $ move ! (3 ∷ 0 ∷ []) $ join ! $
    nothing ! $ nothing ! $ fjoin ! $ nothing ! $ fjoin ! $ nothing ! $ fjoin ! $
    returns ! (look_at ! 0 refl) $ free_all ! refl $ keep ! (2 ∷ 0 ∷ 3 ∷ 1 ∷ []) $
    by ! (leaves 𝓛 End stays said y v (lent δ) (tt, (tt, (tt, tt))) (tt, (tt, (tt, tt))))))))))
