use Rattle.std.proofs.Common.{◌∙◌}
use Rattle.beat_points.specs.Numbered.{rows_pairs}
use Rattle.beat_points.proofs.BeatLemmas.{sorted-in, sorted-points, sorted-rising}
use Rattle.beat_points.proofs.last_rows.LastRows.points.Goals as goal

pub returns-clause-points : goal.returns-clause-points
returns-clause-points c =
    let registry = c.args.registry.now in
    let beat = c.args.beat.now in
    sorted-points registry c.args.self.now beat c.sorted.result c.in_ok-points.points.items c.requires
    (c.in_ok-points.ensures ∙ (λ i. rows_pairs registry ((c.as_slice.ensures.value ∙ c.self.view_is) i) beat.moment (c.as_slice-2.ensures i)))
    c.sorted.ensures.same c.sorted.ensures.rises

pub returns-clause-words : goal.returns-clause-words
returns-clause-words c =
    let registry = c.args.registry.now in
    let beat = c.args.beat.now in
    sorted-in registry c.args.self.now beat c.sorted.result c.in_ok-points.points.items c.requires
    (c.in_ok-points.ensures ∙ (λ i. rows_pairs registry ((c.as_slice.ensures.value ∙ c.self.view_is) i) beat.moment (c.as_slice-2.ensures i)))
    c.sorted.ensures.same

pub returns-clause-rising : goal.returns-clause-rising
returns-clause-rising c =
    let registry = c.args.registry.now in
    let beat = c.args.beat.now in
    sorted-rising registry c.args.self.now beat c.sorted.result c.in_ok-points.points.items
    (c.in_ok-points.ensures ∙ (λ i. rows_pairs registry ((c.as_slice.ensures.value ∙ c.self.view_is) i) beat.moment (c.as_slice-2.ensures i)))
    c.sorted.ensures.same c.sorted.ensures.rises
