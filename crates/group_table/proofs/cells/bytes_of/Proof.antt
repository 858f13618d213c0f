use Rattle.std.proofs.Common.{◌≡◌, ℕ, ◌^◌, ◌<◌, List, [], ◌∷◌, refl, w64}
use Rattle.std.specs.Mem.{type_size}
use mir.Syntax.{a_type}
use mir.Val.{Val, vint}
use mir.MapTy.{inst_fn}
use base.Logic.{SProp, emp}
use base.Fml.{ftrue}
use contract.Running.{tables}
use contract.Monad.{fact, fact_i}
use denote.RattleType.{RattleType}
use denote.Param.{param, layouts}
use denote.Steps.{nothing}
use denote.Triple.Entry.{alive}
use denote.Triple.Walked.{walk_of}
use prog.Memory.{capped}
use prog.Capped.{capped_fits}
use types.Kit.{‵, raw, ◌⊛◌, ◌$◌, ◌∵◌, !, qed, by, keep, use0, split, fjoin, feq_i, flt_i}
use types.Run.{size_word, of_opd, returns, enter}
use types.ByLocal.{alloc_all, pass_all, free_all, look_at, sets}
use Rattle.std.proofs.raw_atomic.Walks.{proved, leaves}
use Rattle.group_table.specs.contracts.cells.bytes_of.{ended, clauses}
use Rattle.group_table.specs.contracts.cells.bytes_of.Key.{name as #self}
use Rattle.group_table.proofs.cells.bytes_of.Statement.{statement}
use Rattle.group_table.proofs.cells.bytes_of.Code as code

pub bytes_of_spec : {M : Type 1} → statement M
bytes_of_spec 𝓤 𝓛 𝓜 𝓡 wired T L =
    let Entry : RattleType = param 0 T in
    let End = ended T in
    let said = clauses T 𝓛 𝓜.mem 𝓡.returns in
    let types = layouts (a_type ∷ []) (T, tt) in
    let fn = inst_fn types code.function in
    let 𝓣 = tables 𝓤 𝓛.H 𝓜 𝓡 𝓡.env in
    let bytes : ℕ = capped (type_size Entry) in
    let small : bytes < 2 ^ 64 = capped_fits (type_size Entry) in
    let typed = code.unfolded 𝓤 𝓛.H 𝓜 𝓡 wired (T, tt) in
    proved 𝓛 End tt said 𝓜 𝓡 tt (#self types) fn typed (λ κs. tt) (λ κs. tt) (λ κs qs bounds args gh are.
    let y : (walk_of 𝓛 End tt said).Ghost = ((κs, qs, bounds, args, tt), gh) in
    let Post : Val → SProp 𝓤 = (walk_of 𝓛 End tt said).post y in
    qed 𝓛 ((raw (alive 𝓛 End.signature κs qs) ⊛ ‵ ftrue) ∷ raw ((said κs args).requires gh) ∷ []) ∵
    split ! $ keep ! (0 ∷ []) $
    enter ! 𝓣.C 𝓣.Λ fn [] Post $ alloc_all ! (λ l. pass_all ! refl tt $
    sets ! (of_opd ! (size_word !)) refl (tt, record { fits = small }) $
    use0 𝓛 (raw (fact 𝓤 (bytes ≡ bytes))) (fact_i 𝓤 (bytes ≡ bytes) (emp 𝓤) refl) $
    flt_i ! bytes (2 ^ 64) small $ feq_i ! (List Val) (vint w64 bytes ∷ []) (vint w64 bytes ∷ []) refl $ fjoin ! $
    nothing ! $ returns ! (look_at ! 0 refl) $ free_all ! refl $ keep ! (3 ∷ 0 ∷ 1 ∷ 2 ∷ []) $
    by ! (leaves 𝓛 End tt said y (vint w64 bytes) bytes tt tt)))
