use Rattle.std.proofs.Common.{◌≡◌, [], ◌∷◌, refl}
use Rattle.std.specs.Prelude.{Option, Some}
use mir.Val.{Val}
use base.Logic.{SProp, emp}
use base.Fml.{ftrue}
use contract.Monad.{fact, fact_i}
use contract.Running.{tables}
use denote.Exit.{yes}
use denote.RattleType.{owns}
use denote.Signature.{types_at, plain}
use denote.Steps.{nothing}
use denote.Triple.Walked.{Stays, stay_dropped, walk_of, Goes-dropped}
use types.Kit.{‵, raw, ◌⊛◌, ◌$◌, ◌∵◌, !, qed, by, move, keep, use0, split, fsplit, fjoin}
use types.Run.{stop, fld, of_opd, no_more, and_then, returns, enter}
use types.ByLocal.{alloc_all, pass_all, free_all, look_at, get, get_in, sets}
use types.Part.{agg, sub, whole}
use Rattle.std.proofs.raw_atomic.Walks.{proved, leaves}
use Rattle.std.specs.contracts.impls.GlobalAllocator.TheImpl.{ghosts}
use Rattle.std.specs.contracts.alloc.Global as global
use Rattle.lru_c.specs.Bytes.{BytesMap}
use Rattle.lru_c.specs.BytesHandle.{bytes_row}
use Rattle.lru_c.specs.contracts.raw_box.RawBox as raw_box
use Rattle.lru_c.specs.contracts.bytes.handle.BytesSlot as lru
use Rattle.lru_c.specs.contracts.bytes.handle.BytesSlot.from_raw as f
use Rattle.lru_c.proofs.Addresses.{Address, address_val, address_good, address_made, marked_val, marked_good}
use Rattle.lru_c.proofs.Addresses.{marked_told, ptr_good}
use Rattle.lru_c.proofs.bytes.handle.BytesSlot.from_raw.Statement.{statement}
use Rattle.lru_c.proofs.bytes.handle.BytesSlot.from_raw.Code as code

abbrev stays : Stays f.ended.signature.params f.ended.kept
stays = (stay_dropped (plain (λ _. raw_box.the_row bytes_row global.the_row ghosts)) yes, tt)

pub from_raw_spec : {M : Type 1} → statement M
from_raw_spec 𝓤 𝓛 𝓜 𝓡 wired =
    let Boxed = raw_box.the_row bytes_row global.the_row ghosts in
    let said = f.clauses 𝓛 𝓜.mem 𝓡.returns in
    let 𝓣 = tables 𝓤 𝓛.H 𝓜 𝓡 𝓡.env in
    proved 𝓛 f.ended stays said 𝓜 𝓡 (Goes-dropped 𝓛 0 (plain (λ _. Boxed)) yes (λ κs x w. refl), tt)
    f.Key.name code.function (code.unfolded 𝓤 𝓛.H 𝓜 𝓡 wired)
    (λ κs. ((λ x. marked_val x.start ∷ []), tt)) (λ κs. (marked_told bytes_row global.the_row ghosts, tt))
    (λ κs qs bounds args gh are.
    let b : Boxed.Denot = args.0 in
    let y : (walk_of 𝓛 f.ended stays said).Ghost = ((κs, qs, bounds, args, (marked_val b.start ∷ [], tt)), gh) in
    let Post : Val → SProp 𝓤 = (walk_of 𝓛 f.ended stays said).post y in
    let Given : Option BytesMap → Type 0 = λ map. map ≡ Some b.value in
    qed 𝓛 ((‵ ftrue ⊛ ‵ (owns (types_at f.signature.params κs) args y.0.4)) ∷ raw (emp 𝓤) ∷ []) ∵
    split ! $ move ! (1 ∷ []) $ fsplit ! $ fsplit ! $ keep ! (1 ∷ 3 ∷ []) $
    enter ! 𝓣.C 𝓣.Λ code.function (marked_val b.start ∷ []) Post $
    alloc_all ! (λ l. pass_all ! refl (marked_good bytes_row global.the_row ghosts b.start, tt) $
    sets ! (of_opd ! (get_in ! (fld ! refl (stop !)) (sub ! 0 refl (whole !)))) refl (ptr_good b.start) $
    sets ! (of_opd ! (get ! refl)) refl (ptr_good b.start) $
    sets ! (agg ! (and_then ! (get ! refl) (no_more !))) refl (address_good lru.the_type.name b.start) $
    returns ! (look_at ! 0 refl) $ free_all ! refl $
    use0 𝓛 (‵ ((Address lru.the_type.name).own_val (b.start, tt) (address_val b.start ∷ [])))
    (address_made lru.the_type.name 𝓛 b.start) $ fjoin ! $
    use0 𝓛 (raw (fact 𝓤 (Given (Some b.value)))) (fact_i 𝓤 (Given (Some b.value)) (emp 𝓤) refl) $
    nothing ! $ nothing ! $ fjoin ! $ keep ! (3 ∷ 0 ∷ 2 ∷ 1 ∷ []) $
    by ! (leaves 𝓛 f.ended stays said y (address_val b.start) (record { start = b.start; map = Some b.value })
    (tt, tt) (tt, tt))))
