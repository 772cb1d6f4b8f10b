-- From which names and beats a child may answer, so that each answer is a frame.
use Rattle.std.specs.Prelude.{◌≡◌, ◌≤◌, true, List, length}
use Rattle.std.specs.List.{list_all, AllByRecursion}
use Rattle.history.specs.declared.limits.TheConstants.{MOST_CHARTS, MOST_DIMENSIONS}
use Rattle.replication.specs.declared.beats.Beat.{Beat}
use Rattle.replication.specs.declared.names.Names.{Names}
use Rattle.replication.specs.Answer.{AreNames, AreBeatsOf, HaveWords}
use Rattle.replication.specs.Copies.{RisesFrom}
use Rattle.replication.specs.Names.{beat_moment}
use Rattle.link_frames.specs.DataForm.{has_id, has_rising_places, has_storage_numbers, is_chart, AreApart}
use Rattle.link_frames.specs.Fields.{FitNames, FitsBeat}

-- The names keep their limits, each stands once, and there are no more than a registry has. The beats rise, each has
-- a word, the numbers of its series rise, and its words are storage numbers.
pub record KeepsRules (names : Names) (beats : List Beat) : Type 0 where
  pub fields : FitNames names
  pub charts : list_all is_chart names.charts ≡ true
  pub ids : list_all has_id names.dimensions ≡ true
  pub apart : AreApart names
  pub few_charts : length names.charts ≤ MOST_CHARTS
  pub few_dimensions : length names.dimensions ≤ MOST_DIMENSIONS
  pub whole : AreNames names
  pub fits : AllByRecursion FitsBeat beats
  pub rises : RisesFrom beat_moment 0 beats
  pub series : AreBeatsOf (length names.dimensions) beats
  pub some : HaveWords beats
  pub places : list_all has_rising_places beats ≡ true
  pub words : list_all has_storage_numbers beats ≡ true
