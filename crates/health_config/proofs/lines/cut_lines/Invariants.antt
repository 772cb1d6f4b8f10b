use Rattle.std.proofs.Common.{◌≡◌, ◌≤◌, ◌+◌, ◌++◌, length}
use Rattle.health_config.specs.Lines.{parts, lines_from}
use Rattle.health_config.proofs.LinesLemmas.{behind}
use Rattle.health_config.proofs.lines.cut_lines.Given as goal

-- what is handed out, the line at hand and the parts ahead make the text's lines
abbrev pub invariant-loop-part : goal.invariant-loop-part
invariant-loop-part l = record {
  lines : l.lines ++ behind l.line (lines_from l.number (parts l.ahead)) ≡ lines_from 1 (parts l.fn.text);
  few : l.number + length l.ahead ≤ length l.fn.text + 1;
}

abbrev pub decreases-loop-part : goal.decreases-loop-part
decreases-loop-part l = length l.ahead
