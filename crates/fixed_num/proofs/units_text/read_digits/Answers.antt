use Rattle.std.proofs.Common.{◌≡◌, ◌-◌, ◌^◌, ◌∙◌, true, get_or, arith, rules}
use Rattle.std.specs.Char.{is_ascii_digit}
use Rattle.fixed_num.proofs.ReadingLemmas.{all_digits-more, digits_value-capped}
use Rattle.fixed_num.proofs.units_text.read_digits.Goals as goal

pub loop-byte-preserved : goal.loop-byte-preserved
loop-byte-preserved c =
    let digit : is_ascii_digit (get_or c.args.bytes.now c.loop-byte.byte-index 0) ≡ true = search rules in
    record {
      digits_so_far = all_digits-more c.args.bytes.now c.loop-byte.byte-index c.loop-byte-test.true digit ∙ c.loop-byte.invariant.digits_so_far;
      value = grind (arith, digits_value-capped c.args.bytes.now c.loop-byte.byte-index (2 ^ 128 - 1) (omega arith) c.loop-byte-test.true digit);
    }
