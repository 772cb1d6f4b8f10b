use Rattle.std.proofs.Common.{arith}
use Rattle.side_codec.specs.declared.fault.SideFault.TheVariants.{BadBytes, Memory}
use Rattle.side_codec.proofs.SidesLaw.{found_fits, found_spelling, refused}
use Rattle.side_codec.proofs.reading.read_side.Goals as goal

pub returns-clause-fits : goal.returns-clause-fits
returns-clause-fits c = found_fits c.args.bytes.now c.take_whole.result (λ place. omega (arith, c.type_inv.bytes place)) c.take_whole.ensures.value

pub returns-clause-spelling : goal.returns-clause-spelling
returns-clause-spelling c = found_spelling c.args.bytes.now c.take_whole.result (λ place. omega (arith, c.type_inv.bytes place)) c.take_whole.ensures.value

pub returns-clause-refused : goal.returns-clause-refused
returns-clause-refused c = refused c.args.bytes.now Memory BadBytes c.take_whole.result c.take_whole.ensures.fault
