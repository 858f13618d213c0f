use mathlib.Core.Path.{◌≡◌, refl}
use mathlib.Core.List.{List, [], ◌∷◌}
use lib.Dec.{T}
use seplogic.Ra.Ura.{Ura}
use base.Fml.{Fml, Lft}
use base.Logic.{ent}
use mir.Syntax.{Ty, named}
use mir.Val.{Val, has_ty, WT}
use types.Logic.{Logic, sem}
use types.Kit.{‵, ◌$◌, ◌∵◌, !, qed, fpick, fpack, done}
use denote.Follow.{follows_by, such_by}
use denote.Laws.{Typed}
use denote.Param.{param}
use denote.Param.Laws.{Laws, param_laws, of_field, row_shared}
use denote.Param.Shared.{mut_ref_shared}
use denote.RattleType.{RattleType}
use denote.Ref.{MutBor, NamedLft, MutRef}
use denote.Struct.Field.{mut_ref_field}
use denote.Struct.Laws.{mut_ref_laws}
use Rattle.std.specs.Prelude.{Bool, Ok, Err, Result, OnErr}
use Rattle.std.specs.HashMap.Lent.{HashMembers}
use Rattle.std.specs.declared.hash.Hasher as hasher
use Rattle.std.specs.contracts.option.Option as option
use Rattle.std.specs.contracts.result.Result as result
use Rattle.std.proofs.option.Option.TheLaws as option_laws
use Rattle.std.proofs.result.Result.TheLaws as result_laws
use Rattle.group_table.specs.declared.link.LinkType as link_type
use Rattle.lru_limits.specs.declared.limiter.Limiter as limiter
use Rattle.lru_limits.specs.Hashing.{HasherMembers}
use Rattle.lru_model.specs.State.{State}
use Rattle.schnellru.specs.Lending.Values.{map_row}
use Rattle.schnellru.specs.Lending.Answers.{lent_or_none, IsLent, NoneLent, name_lent}
use Rattle.schnellru.specs.Lending.Made.{Made, LendsNone, lends_or, lends_made}
use Rattle.schnellru.specs.declared.map.get_or_insert.NotLent.{NotLent}
use Rattle.schnellru.specs.declared.map.get_or_insert.NotLent.TheVariants.{NotKept, Failed}
use Rattle.schnellru.specs.contracts.map.get_or_insert.NotLent as NL
use Rattle.schnellru.proofs.map.get_or_insert.NotLent.TheLaws as NL_laws

pub lone : (τ : Ty) (vs : List Val) → Typed (τ ∷ []) vs → (v : Val) × (vs ≡ v ∷ []) × (T (has_ty τ v) × WT v)
lone τ [] t = absurd t
lone τ (v ∷ []) t = (v, refl, t.0)
lone τ (v ∷ w ∷ vs) t = absurd t.1

pub on_err_then : {T E P Q : Type 0} (r : Result T E) → (P → Q) → OnErr r P → OnErr r Q
on_err_then (Ok x) f h = tt
on_err_then (Err e) f h = f h

module _ {M : Type 1} {𝓤 : Ura M} (𝓛 : Logic 𝓤) (K V L S N H : RattleType) (key : HashMembers K.Denot) (limits :
    limiter.Ghosts L.Denot K.Denot V.Denot N.Denot)
    (links : link_type.Ghosts N.Denot) (hashed
    : HasherMembers S.Denot K.Denot H.Denot) (hash : hasher.Ghosts H.Denot)
    (m : MutBor (State K.Denot V.Denot L.Denot S.Denot)) {E : Type 0} (Step : Result Bool E →
    State K.Denot V.Denot L.Denot S.Denot → Type 0) where
  abbrev Map : Type 0
  Map = State K.Denot V.Denot L.Denot S.Denot

  abbrev R : RattleType
  R = map_row K V L S N H key limits links hashed hash

  abbrev Or : Result (MutBor V.Denot) (NotLent E) → Fml
  Or = lends_or K V L S N H key limits links hashed hash m Step

  abbrev With : Result (MutBor V.Denot) (NotLent E) → Map → V.Denot → Type 0
  With r n w = Made K V L S N H key limits links hashed hash m Step (lent_or_none r) n w

  abbrev Both : Result (MutBor V.Denot) (NotLent E) → Type 0
  Both r = (s : (V.Denot → Map) × Map) × ((w : V.Denot) → IsLent (lent_or_none r) →
      With r (s.0 w) w) × (NoneLent (lent_or_none r) →
      LendsNone K V L S N H key limits links hashed hash m Step (lent_or_none r) s.1)

  pub ends : (r : Result (MutBor V.Denot) (NotLent E)) →
      ent 𝓤 (sem 𝓛 (Or r)) (sem 𝓛 (lends_made K V L S N H key limits links hashed hash m Step
      (lent_or_none r)))
  unfolding follows_by such_by
  ends (Ok x) = qed 𝓛 (‵ (Or (Ok x)) ∷ []) ∵ fpick ! (λ s.
      fpack ! (Both (Ok x)) (λ s. follows_by Map V.Denot R.coded.code V.coded.code m.ghost_name (name_lent {V =
      V.Denot} {E = E} (lent_or_none (Ok x))) s.0.0 s.0.1) (s.0, (λ w _. s.1 w refl), (λ h. absurd (h refl))) $ done !)
  ends (Err NotKept) = qed 𝓛 (‵ (Or (Err NotKept)) ∷ []) ∵ fpick ! (λ s.
      fpack ! (Both (Err NotKept)) (λ s. follows_by Map V.Denot R.coded.code V.coded.code m.ghost_name (name_lent {V =
      V.Denot} {E = E} (lent_or_none (Err NotKept))) s.0.0 s.0.1) (s.0, (λ w h. absurd cc), (λ _. s.2)) $ done !)
  ends (Err (Failed e)) = qed 𝓛 (‵ (Or (Err (Failed e))) ∷ []) ∵ fpick ! (λ s.
      fpack ! (Both (Err (Failed e))) (λ s. follows_by Map V.Denot R.coded.code V.coded.code m.ghost_name (name_lent
      {V = V.Denot} {E = E} (lent_or_none (Err (Failed e)))) s.0.0 s.0.1) (s.0, (λ w h. absurd cc), (λ _. s.2)) $
      done !)

module _ (κ : Lft) (V E : RattleType) where
  abbrev Ref : RattleType
  Ref = MutRef (named 0) κ (param 1 V)

  abbrev pub Lent : RattleType
  Lent = result.the_row Ref (NL.the_row E)

  abbrev pub Res : RattleType
  Res = result.the_row (option.the_row Ref) E

  module _ (LV : Laws V) (LE : Laws E) where
    abbrev ref_laws : Laws Ref
    ref_laws = let a : NamedLft = record { mir = named 0; lft = κ } in
        of_field (mut_ref_field a (param 1 V) tt) (mut_ref_laws a (param 1 V) tt) refl (mut_ref_shared a (param 1 V)
        tt (row_shared (param 1 V) (param_laws 1 V LV)))

    abbrev pub lent_laws : Laws Lent
    lent_laws = result_laws.the_row_laws Ref (NL.the_row E) ref_laws (NL_laws.the_row_laws E LE)

    abbrev pub res_laws : Laws Res
    res_laws = result_laws.the_row_laws (option.the_row Ref) E (option_laws.the_row_laws Ref ref_laws) LE
