use Rattle.std.proofs.Common.{◌≡◌, ◌++◌, take}
use Rattle.std.specs.List.{flat_map}
use Rattle.query_text.specs.Told.{column_text}
use Rattle.query_text.proofs.reply.push_columns.Given as goal

abbrev pub invariant-loop-one : goal.invariant-loop-one
invariant-loop-one l =
    l.out ≡ l.fn.out ++ flat_map (column_text l.registry) (take l.one-index l.series)
