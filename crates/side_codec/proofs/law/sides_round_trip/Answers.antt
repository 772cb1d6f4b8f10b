use Rattle.side_codec.proofs.SidesLaw.{reads_back, is_read, one_value}
use Rattle.side_codec.proofs.SizeLaws.{side-within}
use Rattle.side_codec.proofs.law.sides_round_trip.Goals as goal

pub returns : goal.returns
returns c = record {
  reads_back = reads_back;
  has_spelling = λ s bytes fits is. (is_read bytes s fits is).0;
  is_spelt = λ s bytes fits is. (is_read bytes s fits is).1;
  one_value = one_value;
  size = side-within;
}
