use Rattle.field_codec.proofs.Taking.{read_i128-is}
use Rattle.field_codec.proofs.prefix.i128_at.Goals as goal

pub returns : goal.returns
returns c = read_i128-is c.args.bytes.now c.read_i128.result c.if-bytes-lt16.false (record { sfits = c.read_i128.type_inv }) c.read_i128.ensures
