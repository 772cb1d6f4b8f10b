use Rattle.plugin_text.proofs.LimitLemmas.{limits-of}
use Rattle.point_lines.proofs.reader.Reader.take_line.Goals as goal

pub take-requires-clause-limits : goal.take-requires-clause-limits
take-requires-clause-limits c = limits-of c.args.bytes.now c.in_ok-line.line c.requires.whole c.in_ok-line.ensures.line
