-- The times of the next references to keys. A reference is at time i if i references come before it.
use Rattle.std.specs.Prelude.{◌≡◌, ℕ, suc, ◌+◌, nat_lt, Bool, if◌then◌else◌, List, [], ◌∷◌, Option, IfSome}
use Rattle.std.specs.Ordering.{nat_cmp}
use Rattle.std.specs.BTreeSet.{insert_key}
use Rattle.std.specs.Str.{bytes_eq}
use Rattle.lru_theory.specs.Best.{until}

-- For each reference of a trace that begins at time i, the list contains the time of the next reference to the same
-- key. If there is none, the list contains the time at which the trace ends.
abbrev pub next_times : {K : Type 0} (eq : K → K → Bool) → ℕ → List K → List ℕ
next_times eq i [] = []
next_times eq i (key ∷ trace) = (suc i + until eq key trace) ∷ next_times eq (suc i) trace

-- the rising list `times`, with `time` inserted if this time is before `end`
abbrev pub with_time : ℕ → ℕ → List ℕ → List ℕ
with_time end time times = if nat_lt time end then insert_key nat_cmp times time else times

-- If `best` is not `None`, it is the list `next_times` of the trace.
abbrev pub KnowsRest : List (List ℕ) → Option (List ℕ) → Type 0
KnowsRest trace best = IfSome best (λ times. times ≡ next_times bytes_eq 0 trace)
