use Rattle.std.proofs.Common.{arith}
use Rattle.agent_app.proofs.NumberLemmas.{number-parsed, number-unparsed}
use Rattle.agent_app.proofs.command.read_number.Goals as goal

pub returns-in-Ok : goal.returns-in-Ok
returns-in-Ok c = number-parsed c.args.word.now (grind arith) (grind arith) (Unit {0}) c.in-Ok.number c.in-Ok.ensures.value.0

pub returns-in-Err : goal.returns-in-Err
returns-in-Err c = number-unparsed c.args.word.now (grind arith) (grind arith) _ c.in-Err.field-0 c.in-Err.ensures.value.0
