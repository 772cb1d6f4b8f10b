use Rattle.std.proofs.Common.{◌≡◌, ℕ, false, Option, Some, None, IfSome, IfNone, is_some, slice_get, sym, ap, subst, ◌∙◌}
use Rattle.std.specs.List.{list_any}
use Rattle.std.specs.Option.{option_and_then}
use Rattle.history.specs.Registry.{is_chart, is_of, chart_of}
use Rattle.indexmap.specs.IndexMap.{values}
use Rattle.chart_registry.specs.Defining.{chart_id}
use Rattle.chart_registry.proofs.Places.{find-position, list_any-position}
use Rattle.chart_registry.proofs.RegistryLemmas.{chart_of-ids, chart_id-chart_of, unowned}
use Rattle.chart_registry.proofs.registry.Registry.chart_of.Goals as goal

pub returns-clause-value : goal.returns-clause-value
returns-clause-value c =
    c.number_of.ensures ∙ sym (chart_of-ids (values c.self.inside.charts) c.self.inside.dimensions.items c.args.self.now c.self.view_is c.args.id.now)

pub returns-clause-found : goal.returns-clause-found
returns-clause-found c = ap is_some (returns-clause-value c) ∙ list_any-position (is_chart c.args.id.now) c.args.self.now.charts

pub returns-clause-chart : goal.returns-clause-chart
returns-clause-chart c = ap (option_and_then (slice_get c.args.self.now.charts)) (returns-clause-value c) ∙ find-position (is_chart c.args.id.now) c.args.self.now.charts

pub returns-clause-id : goal.returns-clause-id
returns-clause-id c =
    subst (λ (found : Option ℕ). IfSome found (λ n. chart_id c.args.self.now n ≡ c.args.id.now)) (sym (returns-clause-value c)) (chart_id-chart_of c.args.self.now c.args.id.now)

pub returns-clause-unowned : goal.returns-clause-unowned
returns-clause-unowned c = by c.number_of.result (sym (returns-clause-value c))
  where
    by : (found : Option ℕ) → chart_of c.args.self.now c.args.id.now ≡ found → IfNone found (list_any (is_of c.args.id.now) c.args.self.now.dimensions ≡ false)
    by (Some n) e = tt
    by None e = unowned (values c.self.inside.charts) c.self.inside.dimensions.items c.args.self.now c.self.view_is c.self.invariant.known c.args.id.now e
