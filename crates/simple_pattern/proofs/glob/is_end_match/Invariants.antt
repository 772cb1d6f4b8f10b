use Rattle.std.proofs.Common.{◌≡◌, length}
use denote.Shadow.{shadow}
use denote.Text.{Utf8}
use Rattle.simple_pattern.specs.Glob.{any_end, is_match}
use Rattle.simple_pattern.proofs.glob.is_end_match.Given as goal

abbrev pub invariant-loop-piece : goal.invariant-loop-piece
invariant-loop-piece l =
    record {
      same : any_end (is_match l.fn.glob) l.fn.name ≡ any_end (is_match l.glob) l.name;
      text_glob : shadow (Utf8 l.glob);
      text_name : shadow (Utf8 l.name);
    }

abbrev pub decreases-loop-piece : goal.decreases-loop-piece
decreases-loop-piece l = length l.glob
