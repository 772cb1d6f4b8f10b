use Rattle.std.proofs.Common.{refl}
use Rattle.beat_tiers.proofs.KeptLaws.{beats_are_kept, before_with}
use Rattle.beat_tiers.proofs.TierLemmas.{tiers_with}
use Rattle.beat_tiers.proofs.kept_law.kept_beats_reach_the_floor.Goals as goal

pub returns-clause-kept : goal.returns-clause-kept
returns-clause-kept c = beats_are_kept

pub returns-clause-before_none : goal.returns-clause-before_none
returns-clause-before_none c = λ first others. refl

pub returns-clause-before_more : goal.returns-clause-before_more
returns-clause-before_more c = λ set beats beat state are follows h.
    before_with set beats beat.moment beat.points state are follows (tiers_with set beats beat.moment beat.points state are follows) h
