-- The replies to calls. In contracts, an `Answer` is a `Reply`.
use Rattle.std.specs.Prelude.{Bool, true, false, List, [], ◌∷◌, Option, None, Result, Ok, Err}
use Rattle.std.specs.declared.alloc.AllocError.{AllocError}
use Rattle.lru_model.specs.Lists.{newest_value}
use Rattle.lru_model.specs.declared.results.ReserveError.{ReserveError}
use Rattle.lru_model.specs.declared.results.Updated.{Updated}
use Rattle.lru_replay.specs.declared.calls.Answer.{Answer}
use Rattle.lru_replay.specs.declared.calls.Answer.TheVariants as answers
use Rattle.lru_replay.specs.declared.lines.figures.Figures.{Figures}

pub data Reply (K V : Type 0) : Type 0 where
  -- whether the key is in the map after the call
  flag : Bool → Reply K V
  -- what an insert returned, and the pairs that the insert passed to its callback, in order
  given : Result Bool AllocError → List (K × V) → Reply K V
  updated : Updated V → Reply K V
  value : Option V → Reply K V
  pair : Option (K × V) → Reply K V
  listed : List (K × V) → Reply K V
  reserved : Result (Unit {0}) ReserveError → Reply K V
  -- whether the table has fewer buckets than before
  shrunk : Result Bool AllocError → Reply K V
  stats : Figures → Reply K V
  -- the call returned nothing
  done : Reply K V
  no_memory : Reply K V
  -- the call was not made, because the running total would be wrong after the call
  cost_differs : Reply K V

module _ {K V : Type 0} where
  abbrev pub said : Answer K V → Reply K V
  said (answers.Flag b) = flag b
  said (answers.Given result out) = given result out.items
  said (answers.Updated result) = updated result
  said (answers.Value v) = value v
  said (answers.Pair p) = pair p
  said (answers.Pairs ps) = listed ps.items
  said answers.Done = done
  said (answers.Reserved result) = reserved result
  said (answers.Shrunk result) = shrunk result
  said (answers.Stats len capacity memory report) = stats (record {
    len = len;
    capacity = capacity;
    memory = memory;
    moved = report.moved;
    placed = report.placed;
    shrunk = report.shrunk;
  })
  said answers.Memory = no_memory
  said answers.CostDiffers = cost_differs

  abbrev pub all_said : List (Answer K V) → List (Reply K V)
  all_said [] = []
  all_said (answer ∷ answers) = said answer ∷ all_said answers

  abbrev pub insert_reply : Result Bool AllocError → Reply K V
  insert_reply (Ok there) = flag there
  insert_reply (Err e) = no_memory

  -- the reply to a get that inserts; the get returned this result, and left these pairs in the map
  abbrev pub made_reply : Result Bool AllocError → List (K × V) → Reply K V
  made_reply (Ok true) pairs = value (newest_value pairs)
  made_reply (Ok false) pairs = value None
  made_reply (Err e) pairs = no_memory
