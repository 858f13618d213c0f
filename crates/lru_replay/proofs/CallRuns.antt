use Rattle.std.proofs.Common.{◌≡◌, List, [], ◌∷◌, ◌++◌, length, refl, sym, ap, ◌∙◌, subst}
use Rattle.std.proofs.Common.{append_assoc}
use Rattle.std.proofs.lemmas.List.{append-nil, nil_from_length}
use Rattle.std.specs.List.{AllByRecursion}
use Rattle.lru_replay.specs.declared.calls.Answer.{Answer}
use Rattle.lru_replay.specs.declared.calls.Call.{Call}
use Rattle.lru_replay.specs.CallRuns.{IsRun}
use Rattle.lru_replay.specs.Replies.{Reply, said, all_said}

module _ {S C R : Type 0} (IsStep : S → C → R → S → Type 0) (Holds : S → Type 0) where
  pub run-append : (old : S) (calls : List C) (replies : List R) (mid : S) (more : List C) (others : List R) (new : S)
      → IsRun IsStep Holds old calls replies mid → IsRun IsStep Holds mid more others new
      → IsRun IsStep Holds old (calls ++ more) (replies ++ others) new
  run-append old [] [] mid more others new same rest = subst (λ s. IsRun IsStep Holds s more others new) same rest
  run-append old (call ∷ calls) (reply ∷ replies) mid more others new (next, step, holds, run) rest =
      (next, step, holds, run-append next calls replies mid more others new run rest)
  run-append old calls replies mid more others new none rest = absurd none

  pub run-push : (old : S) (calls : List C) (replies : List R) (mid : S) (call : C) (reply : R) (new : S)
      → IsRun IsStep Holds old calls replies mid → IsStep mid call reply new → Holds new
      → IsRun IsStep Holds old (calls ++ call ∷ []) (replies ++ reply ∷ []) new
  run-push old calls replies mid call reply new run step holds =
      run-append old calls replies mid (call ∷ []) (reply ∷ []) new run (new, step, holds, refl)

  pub run_holds : (a : S) (calls : List C) (replies : List R) (b : S) → Holds a
      → IsRun IsStep Holds a calls replies b → Holds b
  run_holds a [] [] b holds same = subst Holds (sym same) holds
  run_holds a (call ∷ calls) (reply ∷ replies) b holds (mid, step, after, run) =
      run_holds mid calls replies b after run
  run_holds a calls replies b holds none = absurd none

  pub some_run : ((a : S) → Holds a → (call : C) → (reply : R) × (b : S) × IsStep a call reply b × Holds b)
      → (a : S) → Holds a → (calls : List C) → (replies : List R) × (b : S) × IsRun IsStep Holds a calls replies b
  some_run step a holds [] = ([], a, refl)
  some_run step a holds (call ∷ calls) =
      let (reply, mid, is, after) = step a holds call in
      let (replies, b, run) = some_run step mid after calls in
      (reply ∷ replies, b, (mid, is, after, run))

pub any_call : {C : Type 0} (calls : List C) → AllByRecursion (λ call. Unit {0}) calls
any_call [] = tt
any_call (call ∷ calls) = (tt, any_call calls)

pub all_said-push : {K V : Type 0} (answers : List (Answer K V)) (answer : Answer K V)
    → all_said (answers ++ answer ∷ []) ≡ all_said answers ++ said answer ∷ []
all_said-push [] answer = refl
all_said-push (a ∷ answers) answer = ap (λ l. said a ∷ l) (all_said-push answers answer)

pub next_items : {K V S : Type 0} (done : List (Call K V S)) {all left later : List (Call K V S)} {call : Call K V S}
    → left ≡ call ∷ later → done ++ left ≡ all → (done ++ call ∷ []) ++ later ≡ all
next_items done {later = later} {call} first items =
    append_assoc done (call ∷ []) later ∙ ap (λ l. done ++ l) (sym first) ∙ items

module _ {K V S A : Type 0} (IsStep : A → Call K V S → Reply K V → A → Type 0) (Holds : A → Type 0) (old : A)
    (done : List (Call K V S)) where
  pub next_run : (answers after : List (Answer K V)) (mid : A) (call : Call K V S)
      (answer : Answer K V) (new : A) → after ≡ answers ++ answer ∷ []
      → IsRun IsStep Holds old done (all_said answers) mid
      → IsStep mid call (said answer) new → Holds new → IsRun IsStep Holds old (done ++ call ∷ []) (all_said after) new
  next_run answers after mid call answer new more run step holds =
      let replies = ap all_said more ∙ all_said-push answers answer in
      rw replies (run-push IsStep Holds old done (all_said answers) mid call (said answer) new run step holds)

  pub whole_run : (all left : List (Call K V S)) (replies : List (Reply K V)) (new : A) → length left ≡ 0
      → done ++ left ≡ all → IsRun IsStep Holds old done replies new → IsRun IsStep Holds old all replies new
  whole_run all left replies new none items run =
      let is = sym (append-nil done) ∙ ap (λ l. done ++ l) (sym (nil_from_length left none)) ∙ items in
      subst (λ calls. IsRun IsStep Holds old calls replies new) is run
