use Rattle.std.proofs.Common.{sym, ◌∙◌}
use Rattle.beat_entries.proofs.definitions.definitions.Goals as goal

pub charts-requires-clause-can : goal.charts-requires-clause-can
charts-requires-clause-can c = c.requires.can (sym c.has_memory.ensures ∙ c.if-not-has_memory.false)

pub dimensions-requires-clause-can : goal.dimensions-requires-clause-can
dimensions-requires-clause-can c = c.requires.can (sym c.has_memory.ensures ∙ c.if-not-has_memory.false)
