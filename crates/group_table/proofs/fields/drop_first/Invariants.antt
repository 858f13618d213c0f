use Rattle.std.proofs.Common.{◌≡◌, ℕ, ◌<◌, ◌≤◌, length, get_or, None}
use Rattle.group_table.proofs.fields.drop_first.Given as goal

abbrev pub invariant-loop-b : goal.invariant-loop-b
invariant-loop-b g l = record {
  same : length l.entries ≡ length l.initial.entries;
  freed : (k : ℕ) → k < l.b → get_or l.entries k None ≡ None;
  rest : (k : ℕ) → l.b ≤ k → get_or l.entries k None ≡ get_or l.initial.entries k None;
}
