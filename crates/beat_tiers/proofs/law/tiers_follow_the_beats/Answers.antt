use Rattle.beat_tiers.proofs.StateLaws.{points_are, points_ordered, records_are, records_closed, records_ordered}
use Rattle.beat_tiers.proofs.TierLemmas.{tier_at, tiers_none, tiers_with}
use Rattle.beat_tiers.proofs.law.tiers_follow_the_beats.Goals as goal

pub returns-clause-none : goal.returns-clause-none
returns-clause-none c = tiers_none

pub returns-clause-more : goal.returns-clause-more
returns-clause-more c = λ set beats beat state are follows. tiers_with set beats beat.moment beat.points state are follows

pub returns-clause-floors : goal.returns-clause-floors
returns-clause-floors c = λ set beats state are place one is.
    (tier_at beats 1 place state.records one are.records is).segments.floor

pub returns-clause-ordered : goal.returns-clause-ordered
returns-clause-ordered c = points_ordered

pub returns-clause-each_ordered : goal.returns-clause-each_ordered
returns-clause-each_ordered c = records_ordered

pub returns-clause-each_closed : goal.returns-clause-each_closed
returns-clause-each_closed c = records_closed

pub returns-clause-points : goal.returns-clause-points
returns-clause-points c = points_are

pub returns-clause-records : goal.returns-clause-records
returns-clause-records c = records_are
