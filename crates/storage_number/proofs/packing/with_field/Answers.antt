use Rattle.std.proofs.Common.{◌*◌, ◌^◌, ◌<◌, arith}
use Rattle.std.proofs.Math.Nat.{mod-eq_of_lt}
use Rattle.std.proofs.lemmas.Nat.{or_shifted, pow_pos}
use Rattle.storage_number.proofs.packing.with_field.Goals as goal

pub returns : goal.returns
returns c =
    let positive = pow_pos c.args.width in
    let within : c.args.word * 2 ^ c.args.width < 2 ^ 32 = omega (arith, c.requires.room) in
    rw (mod-eq_of_lt within) (or_shifted c.args.word c.args.width c.args.field c.requires.field_bound)
