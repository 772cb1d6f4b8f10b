use Rattle.checkpoint_body.proofs.BodyLaw.{is_read, one_value, reads_back}
use Rattle.checkpoint_body.proofs.SizeLaws.{body-within}
use Rattle.checkpoint_body.proofs.law.bodies_round_trip.Goals as goal

pub returns : goal.returns
returns c = record {
  reads_back = reads_back;
  has_spelling = λ b bytes fits is. (is_read bytes b fits is).0;
  is_spelt = λ b bytes fits is. (is_read bytes b fits is).1;
  one_value = one_value;
  size = body-within;
}
