use mathlib.Core.List.{[], ◌∷◌}
use mir.MapTy.{inst_fn}
use mir.Syntax.{Args, dcons, dnil, a_type}
use denote.Param.{Types, param, copied, bounded}
use denote.Param.Laws.{param_laws, copied_laws}
use Rattle.std.specs.Prelude.{slice_get}
use Rattle.schnellru.specs.Walks.{walk_map, walk_start, walk_after_first}
use Rattle.schnellru.specs.contracts.walk.iter_mut.IterMut.next as f
use Rattle.schnellru.proofs.NextPairs.{next_meets}
use Rattle.schnellru.proofs.walk.iter_mut.IterMut.lend_next.Met.{met}
use Rattle.schnellru.proofs.walk.iter_mut.IterMut.next.Statement.{statement}
use Rattle.schnellru.proofs.walk.iter_mut.IterMut.next.Code as code

pub next_spec : {M : Type 1} → statement M
next_spec 𝓤 𝓛 𝓜 𝓡 wired K V L S N H LK LV LL LS LN LH cN kE kEd kP kPd kH kHd lL lLd nL nLd nC nCd
    sK sKd sB sBd hH hHd hDd m1 m2 m3 m4 m5 m6 m7 m8 m9 m10 =
    let s = f.signature K V L S N H kE kEd kP kPd kH kHd lL lLd nL nLd nC nCd sK sKd sB sBd hH hHd
    hDd in
    let Ts : Types (a_type ∷ a_type ∷ a_type ∷ a_type ∷ a_type ∷ a_type ∷ []) = (K, (V, (L, (S, (N, (H, tt)))))) in
    let at : Args = bounded (a_type ∷ a_type ∷ a_type ∷ a_type ∷ a_type ∷ a_type ∷ []) Ts (dcons kEd (dcons kPd
    (dcons kHd (dcons lLd (dcons nLd (dcons nCd (dcons sKd (dcons sBd (dcons hHd
    (dcons hDd dnil)))))))))) in
    next_meets 𝓛 𝓜 𝓡 (param 0 K) (param 1 V) (param 2 L) (param 3 S) (copied 4 N) (param 5 H) (param_laws 0 K LK)
    (param_laws 1 V LV) (param_laws 2 L LL) (param_laws 3 S LS) (copied_laws 4 N LN) (param_laws 5 H LH) kP kH lL nL
    sK sB hH s.outlives
    (λ walk. slice_get (walk_map walk).pairs (walk_start walk)) (λ walk w. walk_after_first walk w)
    (inst_fn at code.function) _ _ _ _ (met 𝓤 𝓛 𝓜 𝓡 (code.calls-schnellru::walk::iter_mut::IterMut::lend_next
    𝓡.env wired) K V L S N H LK LV LL LS LN LH cN kE kEd kP kPd kH kHd lL lLd nL nLd nC nCd sK sKd
    sB sBd hH hHd hDd m1 m2 m3 m4 m5 m6 m7 m8 m9 m10)
    (code.unfolded 𝓤 𝓛.H 𝓜 𝓡 wired Ts kEd kPd kHd lLd nLd nCd sKd sBd hHd hDd)
