use Rattle.std.proofs.Common.{IfSome, sym, ap, subst, ◌∙◌}
use Rattle.std.specs.List.{filter}
use Rattle.beat_tiers.specs.Searching.{IsBySeries, is_of}
use Rattle.beat_tiers.specs.Tiers.{AreOrdered}
use Rattle.beat_tiers.proofs.SeriesLemmas.{filter_again, ordered_filter}
use Rattle.beat_tiers.proofs.sealed.Sealed.of_series.Goals as goal

pub returns-in-Some-clause-ordered : goal.returns-in-Some-clause-ordered
returns-in-Some-clause-ordered g c = λ o.
    let by : IsBySeries c.self.inside.segment.items c.in-Some.sorted.items =
    subst (λ found. IfSome found (λ sorted. IsBySeries c.self.inside.segment.items sorted.items)) c.in-Some.is c.self.invariant in
    let run = c.run_of.ensures ∙ ap (filter (is_of c.args.series)) c.as_slice.ensures.value ∙ by.same c.args.series ∙ ap (λ segment. filter (is_of c.args.series) segment.items) c.self.view_is in
    subst AreOrdered (sym run) (ordered_filter (is_of c.args.series) c.args.self.now.items o)

pub returns-in-Some-clause-same : goal.returns-in-Some-clause-same
returns-in-Some-clause-same g c =
    let by : IsBySeries c.self.inside.segment.items c.in-Some.sorted.items =
    subst (λ found. IfSome found (λ sorted. IsBySeries c.self.inside.segment.items sorted.items)) c.in-Some.is c.self.invariant in
    let run = c.run_of.ensures ∙ ap (filter (is_of c.args.series)) c.as_slice.ensures.value ∙ by.same c.args.series ∙ ap (λ segment. filter (is_of c.args.series) segment.items) c.self.view_is in
    ap (filter (is_of c.args.series)) run ∙ filter_again (is_of c.args.series) c.args.self.now.items
