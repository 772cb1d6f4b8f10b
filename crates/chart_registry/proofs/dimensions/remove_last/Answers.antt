use Rattle.std.proofs.Common.{ℕ, List, [], ◌∷◌, is_some, ap, subst, ◌∙◌, arith}
use Rattle.std.proofs.lemmas.List.{length-map, map-append}
use Rattle.indexmap.specs.IndexMap.{values}
use Rattle.chart_registry.specs.declared.charts.Chart.{Chart}
use Rattle.chart_registry.specs.Leaving.{LeavesSeries}
use Rattle.chart_registry.specs.Rows.{row_of, mark_of, row_at, rows, marks, series_in, AreKept}
use Rattle.chart_registry.proofs.LeavingLemmas.{last-found, owner-there}
use Rattle.chart_registry.proofs.dimensions.remove_last.Goals as goal

pub leave-requires-clause-there : goal.leave-requires-clause-there
leave-requires-clause-there c =
    let charts = c.args.charts.now in
    let items = rw c.unwrap-dimension.ensures at c.pop.ensures.items in
    let marked = ap marks items ∙ map-append mark_of c.pop.new.self.items (c.unwrap-dimension.result ∷ []) in
    omega (
      arith,
      owner-there (rows charts) (marks c.pop.new.self.items) (mark_of c.unwrap-dimension.result) (subst (AreKept (rows charts)) marked c.requires.kept),
      length-map (values charts) row_of,
      length-map (values charts) (λ (chart : Chart). chart.def),
    )

pub leave-requires-clause-found : goal.leave-requires-clause-found
leave-requires-clause-found c =
    let charts = c.args.charts.now in
    let items = rw c.unwrap-dimension.ensures at c.pop.ensures.items in
    let marked = ap marks items ∙ map-append mark_of c.pop.new.self.items (c.unwrap-dimension.result ∷ []) in
    ap (λ (id : List ℕ). is_some (series_in (row_at (rows charts) c.unwrap-dimension.result.owner).series id)) c.as_str.ensures
    ∙ ap is_some (last-found (rows charts) (marks c.pop.new.self.items) (mark_of c.unwrap-dimension.result) (subst (AreKept (rows charts)) marked c.requires.kept))

pub returns-clause-last : goal.returns-clause-last
returns-clause-last c =
    let items = rw c.unwrap-dimension.ensures at c.pop.ensures.items in (
      c.unwrap-dimension.result,
      items,
      subst (λ (id : List ℕ). LeavesSeries (rows c.args.charts.now) c.unwrap-dimension.result.owner id (rows c.leave.new.charts)) c.as_str.ensures c.leave.ensures.rows,
    )
