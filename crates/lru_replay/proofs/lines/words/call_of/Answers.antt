use Rattle.lru_replay.specs.Grammar.{call_words}
use Rattle.lru_replay.proofs.SpelledLines.{meant_none}
use Rattle.lru_replay.proofs.lines.words.call_of.Goals as goal

pub returns-clause-none : goal.returns-clause-none
returns-clause-none g c = meant_none call_words _ _ _ c.in_ok-word.ensures.some _ c.call_with.ensures
