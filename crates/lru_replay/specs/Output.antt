-- The text that a replay writes for a reply.
use Rattle.std.specs.Prelude.{◌≡◌, ℕ, Bool, true, false, List, [], ◌∷◌, ◌++◌, Option, Some, None, Result, Ok, Err}
use Rattle.std.specs.Prelude.{decimal, codes, ◌==◌, if◌then◌else◌}
use Rattle.std.specs.declared.alloc.AllocError.{AllocError}
use Rattle.std.specs.Io.KnownBytes.{Appends}
use Rattle.lru_model.specs.Lists.{IsFront}
use Rattle.lru_model.specs.declared.results.ReserveError.{ReserveError}
use Rattle.lru_model.specs.declared.results.ReserveError.TheVariants.{TooLarge, Refused, Memory}
use Rattle.lru_model.specs.declared.results.Updated.{Updated}
use Rattle.lru_model.specs.declared.results.Updated.TheVariants.{Replaced, Rejected, Absent}
use Rattle.lru_replay.specs.declared.lines.figures.Figures.{Figures}
use Rattle.lru_replay.specs.declared.lines.outcome.ReplayError.{ReplayError}
use Rattle.lru_replay.specs.declared.lines.outcome.ReplayError.TheVariants as errors
use Rattle.lru_replay.specs.Replies.{Reply, flag, given, updated, value, pair, listed, reserved, shrunk, stats, done}
use Rattle.lru_replay.specs.Replies.{no_memory, cost_differs}

-- a prefix of the text was written
abbrev pub Begins : Option (List ℕ) → Option (List ℕ) → List ℕ → Type 0
Begins old new text = (part : List ℕ) × IsFront part text × Appends old new part

abbrev pub Fails : ReplayError → Option (List ℕ) → Option (List ℕ) → List ℕ → Type 0
Fails e old new text = (e ≡ errors.Write) × Begins old new text

-- the whole text was written, or a write failed after a prefix of the text was written
abbrev pub Writes : {A : Type 0} → Option (List ℕ) → Option (List ℕ) → Result A ReplayError → List ℕ → Type 0
Writes old new (Ok _) text = Appends old new text
Writes old new (Err e) text = Fails e old new text

-- the text of a pair, such as `3:30`
abbrev pub pair_text : ℕ × ℕ → List ℕ
pair_text p = decimal p.0 ++ 58 ∷ decimal p.1

abbrev pub rest_text : List (ℕ × ℕ) → List ℕ
rest_text [] = []
rest_text (p ∷ pairs) = 32 ∷ pair_text p ++ rest_text pairs

-- the text of the next pair, with a space in front if this pair is not the first
abbrev pub taken_text : Bool → Option (ℕ × ℕ) → List ℕ
taken_text any None = []
taken_text false (Some p) = pair_text p
taken_text true (Some p) = 32 ∷ pair_text p

-- the text of a list of pairs, such as `3:30 2:20 1:10`, or `-` if the list is empty
abbrev pub pairs_text : List (ℕ × ℕ) → List ℕ
pairs_text [] = codes "-"
pairs_text (p ∷ pairs) = pair_text p ++ rest_text pairs

abbrev pub value_text : Option ℕ → List ℕ
value_text None = codes "none"
value_text (Some v) = decimal v

-- the text of a removed pair, such as `3:30`, or `none` if no pair was removed
abbrev pub left_text : Option (ℕ × ℕ) → List ℕ
left_text None = codes "none"
left_text (Some p) = pair_text p

abbrev pub flag_text : Bool → List ℕ
flag_text true = codes "true"
flag_text false = codes "false"

abbrev pub updated_text : Updated ℕ → List ℕ
updated_text (Replaced v) = codes "replaced " ++ decimal v
updated_text (Rejected v) = codes "rejected " ++ decimal v
updated_text (Absent v) = codes "absent " ++ decimal v

abbrev pub insert_text : Result Bool AllocError → List ℕ
insert_text (Ok there) = flag_text there
insert_text (Err e) = codes "no memory"

abbrev pub reservation_text : Result (Unit {0}) ReserveError → List ℕ
reservation_text (Ok _) = codes "ok"
reservation_text (Err TooLarge) = codes "too large"
reservation_text (Err Refused) = codes "refused"
reservation_text (Err Memory) = codes "no memory"

abbrev pub shrink_text : Result Bool AllocError → List ℕ
shrink_text (Ok true) = codes "ok"
shrink_text (Ok false) = codes "kept"
shrink_text (Err e) = codes "no memory"

abbrev pub named_text : List ℕ → ℕ → List ℕ
named_text name n = name ++ decimal n

-- the text of a running total, such as ` cost 3`, or no text if the limiter keeps no running total
abbrev pub cost_text : Option ℕ → List ℕ
cost_text None = []
cost_text (Some cost) = named_text (codes " cost ") cost

-- the text of two counts, such as ` placed 15 shrunk 5`, or ` placed 15` if no shrink rehashed an entry
abbrev pub placed_text : ℕ → ℕ → List ℕ
placed_text placed anew =
    named_text (codes " placed ") placed ++ (if anew == 0 then [] else named_text (codes " shrunk ") anew)

-- the text of the figures, such as `len 1 capacity 3 memory 148 moved 0 placed 3`
abbrev pub figures_text : Figures → List ℕ
figures_text figures = named_text (codes "len ") figures.len ++ (named_text (codes " capacity ") figures.capacity
    ++ (named_text (codes " memory ") figures.memory ++ (named_text (codes " moved ") figures.moved
    ++ placed_text figures.placed figures.shrunk)))

-- The text of a reply. `cost` is the limiter's running total, if any. No line gets the reply `cost_differs`.
abbrev pub reply_text : Option ℕ → Reply ℕ ℕ → List ℕ
reply_text cost (flag there) = flag_text there
reply_text cost (given result out) = insert_text result ++ rest_text out
reply_text cost (updated result) = updated_text result
reply_text cost (value v) = value_text v
reply_text cost (pair left) = left_text left
reply_text cost (listed pairs) = pairs_text pairs
reply_text cost (reserved result) = reservation_text result
reply_text cost (shrunk result) = shrink_text result
reply_text cost (stats figures) = figures_text figures ++ cost_text cost
reply_text cost done = codes "ok"
reply_text cost no_memory = codes "no memory"
reply_text cost cost_differs = codes "cost differs"

abbrev pub bad_text : List ℕ
bad_text = codes "bad"

abbrev pub no_limiter_text : List ℕ
no_limiter_text = codes "no limiter" ++ 10 ∷ []
