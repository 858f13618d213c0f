use Rattle.std.proofs.Common.{None, Some, ◌∙◌}
use Rattle.std.proofs.lemmas.List.{set-set}
use Rattle.group_table.proofs.fields.put.Goals as goal

pub returns-then-byte-lt-DELETED-clause-entries : goal.returns-then-byte-lt-DELETED-clause-entries
returns-then-byte-lt-DELETED-clause-entries g c =
    c.write.ensures ∙ rw c.read-stood.ensures.places (set-set _ c.args.b None (Some c.args.entry))
