use Rattle.std.proofs.Common.{sym, ap, ◌∙◌}
use Rattle.std.specs.List.{list_all}
use Rattle.beat_entries.specs.Next.{takes_row}
use Rattle.beat_entries.proofs.DefiningLemmas.{rows-there}
use Rattle.beat_entries.proofs.entry.define.Goals as goal

pub returns-then-takes_rows-clause-there : goal.returns-then-takes_rows-clause-there
returns-then-takes_rows-clause-there c =
    rows-there c.define_dimensions.new.registry c.args.beat.now
    (ap (list_all (takes_row c.define_dimensions.new.registry)) (sym c.as_slice-3.ensures) ∙ sym c.takes_rows.ensures ∙ c.if-takes_rows.true)
