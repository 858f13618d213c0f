use Rattle.lru_replay.proofs.SpelledLines.{limit_none}
use Rattle.lru_replay.proofs.lines.words.limit_of.Goals as goal

pub returns-clause-none : goal.returns-clause-none
returns-clause-none c = limit_none _ _ _ c.in_ok-word.ensures.some _ c.limit_with.ensures.none
