use Rattle.std.proofs.Common.{◌≤◌, ◌-◌, [], length, drop}
use Rattle.plugin_text.specs.LineList.{lines_at, AreWithin}
use Rattle.plugin_text.proofs.CutLemmas.{HasCut}
use Rattle.plugin_text.proofs.line_list.add_places.Given as goal

abbrev pub invariant-loop-place : goal.invariant-loop-place
invariant-loop-place l = record {
  within : AreWithin l.fn.bytes l.places.items;
  low : l.fn.start ≤ l.next;
  high : l.next ≤ length l.fn.bytes;
  cut : HasCut (drop l.fn.start l.fn.bytes) [] (drop l.next l.fn.bytes) (lines_at l.fn.bytes l.fn.places.items) (lines_at l.fn.bytes l.places.items);
}

abbrev pub decreases-loop-place : goal.decreases-loop-place
decreases-loop-place l = length l.fn.bytes - l.next
