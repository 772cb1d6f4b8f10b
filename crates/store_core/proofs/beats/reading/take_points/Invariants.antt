use Rattle.std.proofs.Common.{◌≡◌, ◌-◌}
use Rattle.field_codec.specs.Lists.{read_items}
use Rattle.field_codec.proofs.Loops.{with_prefix}
use Rattle.store_core.specs.beats.Beats.{read_point}
use Rattle.store_core.proofs.beats.reading.take_points.Given as goal

abbrev pub invariant-loop : goal.invariant-loop
invariant-loop l = with_prefix l.points (read_items read_point (l.count - l.counter) l.reader) ≡ read_items read_point l.count l.fn.reader
