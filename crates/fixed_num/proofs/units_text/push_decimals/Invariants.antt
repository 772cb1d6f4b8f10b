use Rattle.std.proofs.Common.{◌≡◌, ◌+◌, ◌^◌, ◌<◌, ◌≤◌, ◌++◌}
use Rattle.arrayvec.specs.ArrayString.{array_string_len}
use Rattle.fixed_num.specs.UnitsText.{decimals}
use Rattle.fixed_num.proofs.units_text.push_decimals.Given as goal

abbrev pub invariant-loop-rest : goal.invariant-loop-rest
invariant-loop-rest l = record {
  written : l.text.bytes ++ decimals l.places l.rest ≡ l.initial.text.bytes ++ decimals 7 l.fn.part;
  below : l.rest < 10 ^ l.places;
  room : array_string_len l.text + l.places ≤ 48;
  places_left : l.places ≤ 7;
}

abbrev pub decreases-loop-rest : goal.decreases-loop-rest
decreases-loop-rest l = l.places
