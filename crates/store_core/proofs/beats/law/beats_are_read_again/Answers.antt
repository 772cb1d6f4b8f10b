use Rattle.store_core.proofs.BeatProofs.BeatLaw.{beat_again, beat_found}
use Rattle.store_core.proofs.beats.law.beats_are_read_again.Goals as goal

pub returns : goal.returns
returns c = record {
  again = beat_again;
  form = λ bytes beat fits is. (beat_found bytes beat fits is).0;
  spelt = λ bytes beat fits is. (beat_found bytes beat fits is).1;
}
