use Rattle.entry_codec.proofs.EntriesLaw.{reads_back, is_read, one_value}
use Rattle.entry_codec.proofs.law.entries_round_trip.Goals as goal

pub returns : goal.returns
returns c = record {
  reads_back = reads_back;
  has_spelling = λ e bytes fits is. (is_read bytes e fits is).0;
  is_spelt = λ e bytes fits is. (is_read bytes e fits is).1;
  one_value = one_value;
}
