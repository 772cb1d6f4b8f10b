use Rattle.beat_tiers.proofs.GoingOn.{gone-on-all, sound-all}
use Rattle.beat_tiers.proofs.sound_law.sound_tiers_go_on.Goals as goal

pub returns-clause-sound : goal.returns-clause-sound
returns-clause-sound c = sound-all

pub returns-clause-go_on : goal.returns-clause-go_on
returns-clause-go_on c = gone-on-all
