use Rattle.alarm_events.proofs.AlarmsLaw.{reads_back, is_read, one_value}
use Rattle.alarm_events.proofs.Fields.{kept_field}
use Rattle.alarm_events.proofs.law.kept_alarms_round_trip.Goals as goal

pub returns : goal.returns
returns c = record {
  reads_back = reads_back;
  has_spelling = λ k bytes fits is. (is_read bytes k fits is).0;
  is_spelt = λ k bytes fits is. (is_read bytes k fits is).1;
  one_value = one_value;
  among_fields = kept_field;
}
