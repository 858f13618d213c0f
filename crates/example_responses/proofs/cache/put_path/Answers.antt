use Rattle.std.proofs.Common.{inl}
use Rattle.example_responses.proofs.cache.put_path.Goals as goal

pub returns : goal.returns
returns c = inl (c.in_ok-path.path, c.in_ok-path.ensures.copy, c.put_counted.ensures.puts)
