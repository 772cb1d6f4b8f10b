use Rattle.std.proofs.Common.{◌≡◌, ◌++◌, length}
use Rattle.words.specs.Words.{words, has_open_quote}
use Rattle.query_text.proofs.query.read_words.Given as goal

abbrev pub invariant-loop-found : goal.invariant-loop-found
invariant-loop-found l = record {
  read : l.found ++ words l.line ≡ words l.text;
  open_quote : has_open_quote l.line ≡ has_open_quote l.text;
}

abbrev pub decreases-loop-found : goal.decreases-loop-found
decreases-loop-found l = length (words l.line)
