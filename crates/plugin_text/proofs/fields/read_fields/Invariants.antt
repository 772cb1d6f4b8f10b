use Rattle.std.proofs.Common.{◌≡◌, ◌≤◌, ◌++◌, take, length}
use Rattle.words.specs.Words.{words, has_open_quote}
use Rattle.plugin_text.specs.declared.fields.TheConstants.{FIELD_COUNT}
use Rattle.plugin_text.specs.Fields.{texts}
use Rattle.plugin_text.proofs.fields.read_fields.Given as goal

abbrev pub invariant-loop-word : goal.invariant-loop-word
invariant-loop-word l = record {
  fits : length l.fields.items ≤ FIELD_COUNT;
  read : take FIELD_COUNT (texts l.fields.items ++ words l.line) ≡ take FIELD_COUNT (words l.initial.line);
  open_quote : has_open_quote l.line ≡ has_open_quote l.initial.line;
}

abbrev pub decreases-loop-word : goal.decreases-loop-word
decreases-loop-word l = length (words l.line)
