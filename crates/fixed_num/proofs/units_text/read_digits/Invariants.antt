use Rattle.std.proofs.Common.{◌≡◌, ◌-◌, ◌^◌, min, take, drop}
use Rattle.std.specs.Str.{all_ascii_digits}
use Rattle.std.specs.Str.Parse.{digits_value}
use Rattle.fixed_num.proofs.units_text.read_digits.Given as goal

abbrev pub invariant-loop-byte : goal.invariant-loop-byte
invariant-loop-byte l = record {
  digits_so_far : all_ascii_digits (drop l.byte-index l.bytes) ≡ all_ascii_digits l.bytes;
  value : l.value ≡ min (digits_value 10 (take l.byte-index l.bytes)) (2 ^ 128 - 1);
}
