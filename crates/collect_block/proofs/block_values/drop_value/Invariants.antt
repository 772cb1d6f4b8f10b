use Rattle.std.proofs.Common.{◌≡◌, not, filter, vec_len}
use Rattle.history.specs.declared.beat.OpenValue.{OpenValue}
use Rattle.history.specs.Looking.{is_value}
use Rattle.collect_block.specs.Marks.{AreMarksOf, AreSeen}
use Rattle.collect_block.proofs.block_values.drop_value.Given as goal

abbrev pub invariant-loop-place : goal.invariant-loop-place
invariant-loop-place l = record {
  marked : AreMarksOf l.marks.items l.values.items;
  seen : AreSeen l.seen l.marks.items;
  others : filter (λ (value : OpenValue). not (is_value l.id value)) l.values.items ≡ filter (λ (value : OpenValue). not (is_value l.id value)) l.initial.values.items;
}

abbrev pub decreases-loop-place : goal.decreases-loop-place
decreases-loop-place l = vec_len l.values
