use Rattle.std.proofs.Common.{◌∙◌}
use Rattle.extent_file.proofs.FieldLemmas.{decided}
use Rattle.extent_file.proofs.field.has_multiple.Goals as goal

pub returns : goal.returns
returns c =
    decided c.args.field c.args.number c.args.unit c.from.result c.from-missing.result c.from-2.result c.requires.low c.from.ensures
    (c.from-missing.ensures ∙ c.saturating_sub.ensures) c.from-2.ensures
