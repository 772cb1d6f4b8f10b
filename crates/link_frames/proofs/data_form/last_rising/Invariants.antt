use Rattle.std.proofs.Common.{◌≡◌, drop}
use Rattle.replication.specs.Copies.{latest, RisesFrom}
use Rattle.replication.specs.Names.{beat_moment}
use Rattle.link_frames.proofs.data_form.last_rising.Given as goal

abbrev pub invariant-loop-beat : goal.invariant-loop-beat
invariant-loop-beat l = record {
  there : RisesFrom beat_moment l.from l.beats → RisesFrom beat_moment l.last (drop l.beat-index l.beats);
  back : RisesFrom beat_moment l.last (drop l.beat-index l.beats) → RisesFrom beat_moment l.from l.beats;
  latest : latest beat_moment l.last (drop l.beat-index l.beats) ≡ latest beat_moment l.from l.beats;
}
