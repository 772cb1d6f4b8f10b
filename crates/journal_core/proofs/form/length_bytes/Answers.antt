use Rattle.journal_core.specs.Form.{length_field}
use Rattle.journal_core.proofs.form.length_bytes.Goals as goal

pub returns : goal.returns
unfolding length_field
returns c = c.to_le_bytes.ensures
