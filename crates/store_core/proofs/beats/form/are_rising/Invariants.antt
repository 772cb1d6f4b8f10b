use Rattle.std.proofs.Common.{◌≡◌, ◌++◌, drop, map}
use Rattle.std.specs.Option.{option_to_list}
use Rattle.entry_codec.specs.Lists.{is_ascending}
use Rattle.store_core.specs.beats.Beats.{series_of}
use Rattle.store_core.proofs.beats.form.are_rising.Given as goal

abbrev pub invariant-loop-point : goal.invariant-loop-point
invariant-loop-point l =
    is_ascending (option_to_list l.last ++ map series_of (drop l.point-index l.points)) ≡ is_ascending (map series_of l.points)
