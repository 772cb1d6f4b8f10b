use Rattle.std.proofs.Common.{arith}
use Rattle.checkpoint_body.specs.declared.fault.BodyFault.TheVariants.{Memory}
use Rattle.checkpoint_body.proofs.BodyLaw.{found_has, found_spelling, refused}
use Rattle.checkpoint_body.proofs.reading.read_body.Goals as goal

pub returns-clause-fits : goal.returns-clause-fits
returns-clause-fits c = found_has c.args.bytes.now c.take_whole.result (λ place. omega (arith, c.type_inv.bytes place)) c.take_whole.ensures.value

pub returns-clause-spelling : goal.returns-clause-spelling
returns-clause-spelling c = found_spelling c.args.bytes.now c.take_whole.result (λ place. omega (arith, c.type_inv.bytes place)) c.take_whole.ensures.value

pub returns-clause-refused : goal.returns-clause-refused
returns-clause-refused c = refused c.args.bytes.now Memory c.take_whole.result c.take_whole.ensures.fault
