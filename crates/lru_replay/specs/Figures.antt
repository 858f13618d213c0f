-- The figures that `stats` reports.
use Rattle.std.specs.Prelude.{◌≡◌, ◌+◌, length, Some}
use Rattle.lru_model.specs.Sizes.{usage}
use Rattle.lru_model.specs.State.{State, buckets, growth_left}
use Rattle.lru_replay.specs.declared.lines.figures.Figures.{Figures}

pub record IsFigures {K V S H : Type 0} (st : State K V S H) (figures : Figures) : Type 0 where
  pub len : figures.len ≡ length st.pairs
  pub capacity : figures.capacity ≡ length st.pairs + growth_left st
  pub memory : usage st.entry_bytes (buckets st) ≡ Some figures.memory
  pub moved : figures.moved ≡ st.counts.moved
  pub placed : figures.placed ≡ st.counts.placed
  pub shrunk : figures.shrunk ≡ st.counts.shrunk
