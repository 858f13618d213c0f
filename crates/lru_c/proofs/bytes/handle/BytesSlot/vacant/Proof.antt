use Rattle.std.proofs.Common.{◌≡◌, [], ◌∷◌, refl}
use Rattle.std.specs.Prelude.{Option, None}
use mir.Val.{Val}
use base.Logic.{SProp, emp}
use base.Fml.{ftrue}
use contract.Monad.{fact, fact_i}
use contract.Running.{tables}
use denote.RawPtr.{Ptr, null_ptr}
use denote.Triple.Walked.{Stays, walk_of}
use types.Kit.{‵, raw, ◌⊛◌, ◌$◌, ◌∵◌, !, qed, by, keep, use0, split, fjoin, feq_i}
use types.Run.{lit, no_more, and_then, returns, enter}
use types.ByLocal.{alloc_all, pass_all, free_all, look_at, sets}
use types.Part.{agg}
use Rattle.std.proofs.raw_atomic.Walks.{proved, leaves}
use Rattle.lru_c.specs.Bytes.{BytesMap}
use Rattle.lru_c.specs.contracts.bytes.handle.BytesSlot as lru
use Rattle.lru_c.specs.contracts.bytes.handle.BytesSlot.vacant as f
use Rattle.lru_c.proofs.Addresses.{Address, address_val, address_good, address_made}
use Rattle.lru_c.proofs.bytes.handle.BytesSlot.vacant.Statement.{statement}
use Rattle.lru_c.proofs.bytes.handle.BytesSlot.vacant.Code as code

abbrev stays : Stays f.ended.signature.params f.ended.kept
stays = tt

pub vacant_spec : {M : Type 1} → statement M
vacant_spec 𝓤 𝓛 𝓜 𝓡 wired =
    let said = f.clauses 𝓛 𝓜.mem 𝓡.returns in
    let 𝓣 = tables 𝓤 𝓛.H 𝓜 𝓡 𝓡.env in
    proved 𝓛 f.ended stays said 𝓜 𝓡 tt f.Key.name code.function (code.unfolded 𝓤 𝓛.H 𝓜 𝓡 wired) (λ κs. tt) (λ κs. tt)
    (λ κs qs bounds args gh are.
    let y : (walk_of 𝓛 f.ended stays said).Ghost = ((κs, qs, bounds, args, tt), gh) in
    let Post : Val → SProp 𝓤 = (walk_of 𝓛 f.ended stays said).post y in
    let NoMap : Option BytesMap → Type 0 = λ map. map ≡ None in
    qed 𝓛 ((‵ ftrue ⊛ ‵ ftrue) ∷ raw (emp 𝓤) ∷ []) ∵ split ! $ keep ! (0 ∷ 1 ∷ []) $
    enter ! 𝓣.C 𝓣.Λ code.function [] Post $ alloc_all ! (λ l. pass_all ! refl tt $
    sets ! (agg ! (and_then ! (lit ! tt) (no_more !))) refl (address_good lru.the_type.name null_ptr) $
    feq_i ! Ptr null_ptr null_ptr refl $
    use0 𝓛 (‵ ((Address lru.the_type.name).own_val (null_ptr, tt) (address_val null_ptr ∷ [])))
    (address_made lru.the_type.name 𝓛 null_ptr) $ fjoin ! $
    use0 𝓛 (raw (fact 𝓤 (NoMap None))) (fact_i 𝓤 (NoMap None) (emp 𝓤) refl) $
    returns ! (look_at ! 0 refl) $ free_all ! refl $
    keep ! (2 ∷ 3 ∷ 1 ∷ 0 ∷ []) $
    by ! (leaves 𝓛 f.ended stays said y (address_val null_ptr) (record { start = null_ptr; map = None }) tt tt)))
