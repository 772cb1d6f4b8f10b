use Rattle.field_codec.proofs.Taking.{read_text-is, read_text-refuses}
use Rattle.field_codec.proofs.prefix.text_at.Goals as goal

pub returns-in-Ok : goal.returns-in-Ok
returns-in-Ok c = let e = c.in-Ok.ensures.cases in rw e.0 (read_text-is c.args.bytes.now c.in_ok-size.rest.now c.in_ok-text.text.now c.in_ok-text.rest.now c.in_ok-size.size c.in_ok-size.ensures c.in_ok-text.ensures e.1)

pub returns-in-Err : goal.returns-in-Err
returns-in-Err c = read_text-refuses c.args.bytes.now c.in_ok-size.rest.now c.in_ok-text.text.now c.in_ok-text.rest.now c.in_ok-size.size c.in_ok-size.ensures c.in_ok-text.ensures c.in-Err.ensures.cases.0
