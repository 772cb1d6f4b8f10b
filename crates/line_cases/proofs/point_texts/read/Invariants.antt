use Rattle.std.proofs.Common.{◌≤◌, List, length}
use Rattle.history.specs.declared.line.Line.{Line}
use Rattle.point_lines.specs.Reader.{IsReaderOf}
use Rattle.line_cases.proofs.point_texts.read.Given as goal

abbrev pub invariant-loop-line : goal.invariant-loop-line
invariant-loop-line g l = (past : List Line) × IsReaderOf l.reader past × (length past ≤ l.line-index)
