use Rattle.std.proofs.Common.{◌<◌, ℕ, List, get_or, sym, ap, subst, ◌∙◌}
use Rattle.tier_rollup.specs.declared.point.Point.{Point}
use Rattle.query_engine.specs.InMemory.{series_in, told_series}
use Rattle.query_engine.proofs.FirstLemmas.{first_same}
use Rattle.query_engine.proofs.TierLemmas.{widths_are}
use Rattle.query_engine.proofs.list_points.ListPointsPoints.next_record.Goals as goal

pub first_record-requires : goal.first_record-requires
first_record-requires c =
    subst (λ (widths : List ℕ). 0 < get_or widths c.args.tier 0) (sym c.as_slice.ensures)
    ((widths_are c.args.self.now.widths c.args.self.now.widths_of_tiers).positive c.args.tier c.requires.tier)

pub returns-clause-found : goal.returns-clause-found
returns-clause-found c = λ told tells.
    first_same (get_or c.as_slice.result.now c.args.tier 0) _ c.floor-floor.result _ c.args.from c.args.to c.series_in.result.now (told c.args.series) c.first_record.result
    (ap (λ (widths : List ℕ). get_or widths c.args.tier 0) c.as_slice.ensures) c.floor-floor.ensures
    (c.series_in.ensures ∙ ap (λ (all : List (List Point)). series_in all c.args.series) c.as_slice-2.ensures ∙ sym (ap (λ (all : ℕ → List Point). all c.args.series) tells))
    c.first_record.ensures (told_series c.args.self.now.points c.args.self.now.rising told tells c.args.series)
