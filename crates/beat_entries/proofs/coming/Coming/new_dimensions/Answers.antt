use Rattle.std.proofs.Common.{length, ap, ◌∙◌}
use Rattle.std.proofs.lemmas.List.Sums.{length-filter}
use Rattle.history.specs.Refusal.{is_new_dimension}
use Rattle.beat_entries.proofs.coming.Coming.new_dimensions.Goals as goal

pub returns-in-Some : goal.returns-in-Some
returns-in-Some c =
    let found = c.args.self.now.found c.in-Some.fresh c.in-Some.is in
    ap length (c.as_slice.ensures ∙ found.dimensions) ∙ length-filter (is_new_dimension c.args.self.now.registry.now) c.args.self.now.beat.now.dimensions
