use Rattle.std.proofs.Common.{◌≡◌, ◌+◌, ◌*◌, take, vec_capacity, sum_by}
use Rattle.std.specs.Mem.{type_size}
use prog.Memory.{capped}
use Rattle.lru_limits.specs.Bytes.{in_word, block_bytes}
use Rattle.lru_limits.proofs.accounts.owned_bytes.VecOwnedBytes.owned_bytes.Given as goal

abbrev pub invariant-loop-item : goal.invariant-loop-item
invariant-loop-item g l = l.sum ≡ in_word
    (block_bytes (in_word (vec_capacity l.self * capped (type_size g.row.T))) + sum_by g.T.OwnedBytes.owned
    (take l.item-index l.self.items))
