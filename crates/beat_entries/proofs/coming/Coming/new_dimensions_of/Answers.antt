use Rattle.std.proofs.Common.{ap, ◌∙◌}
use Rattle.std.specs.List.{count_by}
use Rattle.history.specs.Refusal.{is_new_dimension}
use Rattle.history.specs.Registry.{is_of}
use Rattle.beat_entries.proofs.FreshLemmas.{count-filter}
use Rattle.beat_entries.proofs.coming.Coming.new_dimensions_of.Goals as goal

pub returns-in-Some : goal.returns-in-Some
returns-in-Some c =
    let found = c.args.self.now.found c.in-Some.fresh c.in-Some.is in
    c.count_of.ensures.value ∙ ap (count_by (is_of c.args.chart.now)) found.dimensions ∙ count-filter (is_of c.args.chart.now) (is_new_dimension c.args.self.now.registry.now) c.args.self.now.beat.now.dimensions
