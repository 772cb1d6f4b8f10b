use Rattle.beat_tiers.proofs.SoundLemmas.{sound-more, sound-next, sound-none}
use Rattle.beat_tiers.proofs.sound_law.sound_tiers_stay_sound.Goals as goal

pub returns-clause-none : goal.returns-clause-none
returns-clause-none c = sound-none

pub returns-clause-more : goal.returns-clause-more
returns-clause-more c = λ state beat sound after. sound-more state beat.moment beat.points sound after

pub returns-clause-sealed : goal.returns-clause-sealed
returns-clause-sealed c = λ state moment points sound after. (sound-next state moment points sound after).seals
