use Rattle.std.proofs.Common.{refl}
use Rattle.journal_core.specs.Form.{header}
use Rattle.journal_core.proofs.form.header_of.Goals as goal

pub returns : goal.returns
unfolding header
returns c = rw c.to_le_bytes.ensures refl
