use Rattle.std.proofs.Common.{refl}
use Rattle.checkpoint.specs.Form.{field}
use Rattle.checkpoint.proofs.head.head_bytes.Goals as goal

pub returns-clause-bytes : goal.returns-clause-bytes
unfolding field
returns-clause-bytes c =
    let second = rw c.write_u64.ensures at c.write_u64-2.ensures in
    rw (second, c.write_u64.ensures) refl
