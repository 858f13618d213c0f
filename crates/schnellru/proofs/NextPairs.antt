-- One proof for `next` and `next_back` of an `IterMut`: if a pair is left, each lends what another function lends.
use mathlib.Core.Path.{◌≡◌, refl, sym, ap}
use mathlib.Core.List.{List, [], ◌∷◌}
use Prim.Native.Nat.{◌<◌}
use lib.Dec.{lit<, ltb→lt}
use seplogic.Ra.Ura.{Ura}
use base.Fraction.{full_share}
use base.Fml.{Lft, ftrue, fres, flft}
use base.Logic.{SProp, sep, id⊢, emp}
use mir.Syntax.{Fn, Callee, Place, Step, Ty, Lifetime, ty_int, ty_bool, ty_ref, w8, w64, mut, named, erased}
use mir.Syntax.{seq, assign, cond, call, skip, return, place, deref, field, rv_opd, copy, int, addr_of, aggregate}
use mir.Syntax.{op2, lt, unsigned, local, value_local}
use mir.Val.{Val, of_list}
use prog.Model.{Model}
use prog.Wp.{Closed}
use contract.Lifetimes.{Lfts, Outlives, toks}
use contract.Monad.{fact, fact_i}
use contract.Running.{Running, MachineTables, tables}
use types.Logic.{Logic, sem}
use types.Kit.{‵, raw, ◌⊛◌, some, later, at_ret, ◌$◌, ◌∵◌, !, qed, by, move, keep, drop, use0, use1, split, join}
use types.Kit.{fsplit3, fjoin, fjoin3, pick, await, rewrite}
use types.Run.{enter, of_opd, bin, lit, load, addr, stop, fld, no_more, and_then, first, branches, skips, exec}
use types.Run.{returns, returns_within, well_typed}
use types.ByLocal.{alloc_all, pass_all, free_all, look_at, get, through, sets, lands_as, env}
use types.Part.{whole, sub, look_in, agg}
use types.Match.{live}
use denote.Exit.{no}
use denote.Follow.{follows, follows_if, follows_by}
use denote.Laws.{shows}
use denote.Memory.{cell_at}
use denote.Param.{layout}
use denote.Param.Laws.{Laws}
use denote.RattleType.{RattleType}
use denote.Ref.{MutRef, ShrRef, NamedLft, mut_vals, mut_Tells}
use denote.Signature.{plain, mut_ref_to, named_lft}
use denote.Struct.Tuple.{Tuple}
use denote.Steps.{nothing, opens, closes, peeks, heard, only}
use denote.Triple.Call.{calls_at}
use denote.Triple.Clauses.{Ended, Clauses, closing, lasts}
use denote.Triple.Spec.{Meets, triple_of}
use denote.Triple.Table.{framed}
use denote.Triple.Walked.{Stays, walk_of, stay_dropped, Goes-spent_ref}
use Rattle.std.proofs.VecSteps.Shapes.{after}
use Rattle.std.proofs.raw_atomic.Walks.{proved, leaves}
use Rattle.std.specs.Prelude.{Option, None, Some, if◌then◌else◌, nat_lt, option_map}
use Rattle.std.specs.Map.Iter.{deref_pair_mut}
use Rattle.std.specs.contracts.option.Option as option
use Rattle.std.specs.declared.cmp.PartialEq as equality
use Rattle.std.specs.declared.hash.Hash as hashing
use Rattle.std.specs.declared.hash.Hasher as hasher
use Rattle.std.specs.declared.hash.BuildHasher as builder
use Rattle.lru_limits.specs.declared.keys.KeyHasher as key_hasher
use Rattle.group_table.specs.declared.link.LinkType as link_type
use Rattle.lru_limits.specs.declared.limiter.Limiter as limiter
use Rattle.schnellru.specs.Walks.{walk_start, walk_end, lent_name}
use Rattle.schnellru.specs.declared.walk.iter_mut.IterMut.{IterMut}
use Rattle.schnellru.specs.contracts.walk.iter_mut.IterMut as W
use Rattle.schnellru.proofs.walk.iter_mut.IterMut.TheLaws as laws
use Rattle.schnellru.proofs.OutlivedLifetimes.{Outlive, outlive_mono}
use Rattle.schnellru.proofs.LentPairs.{Lent, lent_val, lent_shows, true_of, false_of, some_of, none_of}

module _ {M : Type 1} {𝓤 : Ura M} (𝓛 : Logic 𝓤) (𝓜 : Model 𝓤 𝓛.H) (𝓡 : Running 𝓤 𝓛.H 𝓜) (K V L S N H : RattleType)
    (LK : Laws K) (LV : Laws V) (LL : Laws L) (LS : Laws S) (LN : Laws N) (LH : Laws H)
    (kP : equality.Ghosts K.Denot) (kH : hashing.Ghosts K.Denot) (lL : limiter.Ghosts L.Denot K.Denot V.Denot N.Denot)
    (nL : link_type.Ghosts N.Denot)
    (sK : key_hasher.Ghosts S.Denot K.Denot H.Denot) (sB : builder.Ghosts S.Denot H.Denot) (hH : hasher.Ghosts H.Denot)
    (bounds : List (Outlives 8)) where
  abbrev Walk : Type 0
  Walk = IterMut K.Denot V.Denot L.Denot S.Denot N.Denot H.Denot kP kH lL nL sK sB hH

  abbrev At : NamedLft → RattleType
  At ℓ = W.the_row ℓ K V L S N H kP kH lL nL sK sB hH

  abbrev Row : Lfts 8 → RattleType
  Row κs = At (named_lft 8 1 tt κs)

  abbrev Two : Lfts 8 → RattleType
  Two κs = Lent κs.0 K V

  abbrev Of : (Lfts 8 → RattleType) → Ended
  Of R = record {
    signature = record {
      lifetimes = 8;
      outlives = bounds;
      params = mut_ref_to (0 ∷ []) tt (plain Row) ∷ [];
      result = plain R;
    };
    kept = (no, tt);
  }

  abbrev within : Lfts 8 → List (Lft × Lft)
  within κs = (κs.1.1.0, K.lives) ∷ (κs.1.1.1.0, V.lives) ∷ (κs.1.1.1.1.0, L.lives)
      ∷ (κs.1.1.1.1.1.0, S.lives) ∷ (κs.1.1.1.1.1.1.0, N.lives) ∷ (κs.1.1.1.1.1.1.1.0, H.lives) ∷ []

  abbrev Lives : Lfts 8 → SProp 𝓤 → SProp 𝓤
  Lives κs = Outlive 𝓤 (within κs)

  abbrev fn : Fn → Ty → Ty → Callee → Fn
  fn base σ₁ σ₂ called =
      let pair : Lifetime → RattleType = λ ℓ. Tuple (ShrRef ℓ [] K ∷ MutRef ℓ [] V ∷ []) in
      let self : List Step → Place = λ path. place 1 (deref (layout (At (record { mir = erased; lft = [] }))) ∷ path) in
      record base {
        locals = local (layout (option.the_row (pair (named 0)))) value_local
            ∷ local (ty_ref (named 0) mut σ₁) value_local ∷ local (ty_int w64) value_local
            ∷ local (ty_int w64) value_local ∷ local ty_bool value_local
            ∷ local (layout (pair erased)) value_local ∷ local (ty_ref erased mut σ₂) value_local ∷ [];
        body = seq (assign (place 2 []) (rv_opd (copy (self (field 1 ∷ [])))))
            (seq (assign (place 3 []) (rv_opd (copy (self (field 2 ∷ [])))))
            (seq (assign (place 4 []) (op2 (lt unsigned) (copy (place 2 [])) (copy (place 3 []))))
            (seq (cond (copy (place 4 [])) (seq (assign (place 6 []) (addr_of (self [])))
            (seq (call called (copy (place 6 []) ∷ []) (place 5 []))
            (seq (assign (place 0 []) (aggregate (int w8 1 ∷ copy (place 5 []) ∷ []))) return))) skip)
            (seq (assign (place 0 []) (aggregate (int w8 0 ∷ []))) return))));
      }

  module _ (lent : Walk → Option (K.Denot × V.Denot)) (ends : Walk → V.Denot → Walk) where
    abbrev next : Walk → Option (K.Denot × V.Denot)
    next s = if nat_lt (walk_start s) (walk_end s) then lent s else None

    abbrev Lends : Clauses 𝓤 (Of Two)
    Lends κs a = record {
      ghost = Unit {0};
      requires = λ _. Lives κs (fact 𝓤 (walk_start a.0.now < walk_end a.0.now));
      ensures = λ _ x _. sep 𝓤
          (sem 𝓛 (follows (Row κs) V a.0.ghost_name x.1.ghost_name (ends a.0.now)))
          (fact 𝓤 (lent a.0.now ≡ Some (deref_pair_mut x)));
    }

    abbrev Next : Clauses 𝓤 (Of (λ κs. option.the_row (Two κs)))
    Next κs a = record {
      ghost = Unit {0};
      requires = λ _. Lives κs (emp 𝓤);
      ensures = λ _ o _. sep 𝓤
          (sem 𝓛 (follows_if (Row κs) V a.0.ghost_name (lent_name o) (ends a.0.now) a.0.now))
          (fact 𝓤 (option_map deref_pair_mut o ≡ next a.0.now));
    }

    abbrev 𝓣 : MachineTables 𝓤 𝓛.H 𝓜
    𝓣 = tables 𝓤 𝓛.H 𝓜 𝓡 𝓡.env

    abbrev T : Ended
    T = Of (λ κs. option.the_row (Two κs))

    abbrev stayed : Stays T.signature.params T.kept
    stayed = (stay_dropped _ no, tt)

    pub next_meets : (base : Fn) (σ₁ σ₂ : Ty) (called name : Callee)
        → Meets 𝓛 (Of Two).signature (𝓣.C called) (closing 𝓛 (Of Two) Lends)
        → Closed 𝓤 𝓛.H 𝓣.C 𝓣.Λ name (fn base σ₁ σ₂ called) → Meets 𝓛 T.signature (𝓣.C name) (closing 𝓛 T Next)
    unfolding follows_by
    next_meets base σ₁ σ₂ called name met closed =
        let code = fn base σ₁ σ₂ called in let End = walk_of 𝓛 T stayed Next in
        let G = triple_of 𝓛 (Of Two).signature (closing 𝓛 (Of Two) Lends) in
        proved 𝓛 T stayed Next 𝓜 𝓡 (Goes-spent_ref 𝓛 8 (0 ∷ []) tt (plain Row), tt) name code closed
        (λ κs. (mut_vals, tt)) (λ κs. (mut_Tells (named 0) κs.0 (Row κs), tt)) (λ κs qs os a _ are.
        let κ = κs.0 in let R = Row κs in let X = Two κs in let val = lent_val κ K V in
        let low = laws.lowers (named_lft 8 1 tt κs) K V L S N H kP kH lL nL sK sB hH LK LV LL LS LN LH in
        let r = a.0 in let b = r.ref_ptr.0 in let o = r.ref_ptr.1 in let s = r.now in
        let y : End.Ghost = ((κs, qs, os, a, (mut_vals r, tt)), tt) in
        let Cell = λ (us : List Val). ‵ (cell_at full_share R.mir us b o) in
        let Others = raw (toks 𝓛 7 κs.1 qs.1) in let Tokens = ‵ (flft κ qs.0) ⊛ Others in
        let left = fact 𝓤 (walk_start s < walk_end s) in
        qed 𝓛 ((Tokens ⊛ ‵ ((MutRef (named 0) κ R).own_val r (mut_vals r)) ⊛ ‵ ftrue) ∷ raw (Lives κs (emp 𝓤)) ∷ []) ∵
        split ! $ split ! $ move ! (2 ∷ []) $ split ! $ keep ! (0 ∷ 2 ∷ 3 ∷ 4 ∷ []) $
        enter ! 𝓣.C 𝓣.Λ code _ (End.post y) $ alloc_all ! (λ l. pass_all ! refl ((tt, tt), tt) $
        fsplit3 ! $ move ! (1 ∷ 2 ∷ 3 ∷ []) $ opens ! tt R {h = s} b o (λ us. move ! (1 ∷ []) $
        peeks ! R _ (shows 𝓛 R) s us (λ is.
        let word = low.val_is s us is in
        rewrite ! 1 Cell word refl $ move ! (1 ∷ []) $ well_typed ! (λ ok.
        sets ! (of_opd ! (load ! (through ! refl (fld ! refl (stop !))) (look_in ! 0 (sub ! 1 refl (whole !))))) refl
        (tt, record { fits = ok.1.1.0.fits }) $
        sets ! (of_opd ! (load ! (through ! refl (fld ! refl (stop !))) (look_in ! 0 (sub ! 2 refl (whole !))))) refl
        (tt, record { fits = ok.1.1.1.0.fits }) $
        sets ! (bin ! (get ! refl) (get ! refl) tt) refl (tt, tt) $
        rewrite ! 0 Cell (sym word) refl $ closes ! tt R s us b o $
        first ! $ branches ! (get ! refl)
        (λ more.
        let low_at = ltb→lt (walk_start s) (walk_end s) more in let there = true_of _ more in
        sets ! (addr ! (through ! refl (stop !))) refl (tt, tt) $
        move ! (3 ∷ 0 ∷ 1 ∷ []) $ fjoin3 ! $ nothing ! $ move ! (1 ∷ 0 ∷ []) $ fjoin ! $
        move ! (1 ∷ 2 ∷ 0 ∷ []) $ join ! $ join ! $ move ! (1 ∷ []) $
        use1 𝓛 (raw (Lives κs left)) (outlive_mono 𝓤 (within κs) (fact_i 𝓤 _ (emp 𝓤) low_at)) $
        move ! (1 ∷ 0 ∷ []) $ join ! $ use1 𝓛 (raw (G.pre y)) (id⊢ 𝓤 _) $
        calls_at ! (framed 𝓤 𝓛.H 𝓜 𝓣) G met y (and_then ! (get ! refl) (no_more !)) (λ v.
        use1 𝓛 (later (some (λ (x : X.Denot). (Tokens ⊛ ‵ (X.own_val x (v ∷ []))) ⊛
        some (λ (ws : Unit {0} × Unit {0}). ‵ (lasts (Of Two) κs a ws) ⊛
        (‵ (follows R V r.ghost_name x.1.ghost_name (ends s)) ⊛
        raw (fact 𝓤 (lent s ≡ Some (deref_pair_mut x)))))))) (id⊢ 𝓤 _) $
        await ! tt $ pick ! (λ x. split ! $ split ! $ move ! (1 ∷ []) $
        peeks ! X _ (lent_shows κ K V 𝓛) x (v ∷ []) (λ two.
        rewrite ! 0 (λ (us : List Val). ‵ (X.own_val x us)) two refl $
        lands_as ! (ap only two) refl (tt, (tt, (tt, tt))) $
        sets ! (agg ! (and_then ! (lit ! tt) (and_then ! (get ! refl) (no_more !)))) refl
        (tt, (record { fits = lit< tt }, ((tt, (tt, tt)), tt))) $
        use1 𝓛 (‵ ((option.the_row X).own_val (Some x) (live 1 (of_list (val x ∷ [])) ∷ []))) (some_of 𝓛 X x (val x)) $
        move ! (2 ∷ []) $ pick ! (λ ws. split ! $ drop ! $ split ! $ move ! (1 ∷ []) $ heard ! _ (λ got.
        returns_within ! (End.post y) refl (look_at ! 0 refl) $ free_all ! refl $
        use0 𝓛 (raw (fact 𝓤 (option_map deref_pair_mut (Some x) ≡ next s))) (fact_i 𝓤 _ (emp 𝓤) (rw there (sym got))) $
        move ! (1 ∷ 0 ∷ []) $ join ! $ move ! (1 ∷ 0 ∷ []) $ join ! $ nothing ! $ nothing ! $ fjoin ! $ join ! $
        move ! (1 ∷ 0 ∷ []) $ join ! $ keep ! (0 ∷ []) $
        by ! (leaves 𝓛 T stayed Next y (live 1 (of_list (val x ∷ []))) (Some x) (tt, tt) (tt, tt))))))))
        (λ none. let past = false_of _ none in let over : Option X.Denot = None in
        skips ! $ exec ! 𝓣.C 𝓣.Λ (env code.locals l) (after 4 code.body) (at_ret _ (End.post y)) $
        sets ! (agg ! (and_then ! (lit ! tt) (no_more !))) refl (tt, (record { fits = lit< tt }, tt)) $
        returns ! (look_at ! 0 refl) $ free_all ! refl $ keep ! (0 ∷ 2 ∷ 4 ∷ []) $
        use1 𝓛 (‵ (fres r.ghost_name (R.coded.code s))) (𝓛.names.obs-res r.ghost_name (R.coded.code s)) $
        use0 𝓛 (raw (fact 𝓤 (option_map deref_pair_mut over ≡ next s))) (fact_i 𝓤 _ (emp 𝓤) (rw past refl)) $
        move ! (1 ∷ 0 ∷ []) $ join ! $
        use0 𝓛 (‵ ((option.the_row X).own_val None (live 0 (of_list []) ∷ []))) (none_of 𝓛 X) $ join ! $
        nothing ! $ nothing ! $ fjoin ! $ join ! $ move ! (1 ∷ 2 ∷ 0 ∷ []) $ join ! $ join ! $
        by ! (leaves 𝓛 T stayed Next y (live 0 (of_list [])) None (tt, tt) (tt, tt))))))))
