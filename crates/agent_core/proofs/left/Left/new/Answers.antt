use Rattle.std.proofs.Common.{[], refl, sym, subst, ◌∙◌}
use Rattle.history.specs.Registry.{Registry, same_chart, same_dimension}
use Rattle.history.specs.Regular.{AreApart}
use Rattle.agent_core.specs.Rules.{HasLimits}
use Rattle.agent_core.specs.Gaps.{AreGapsLeft}
use Rattle.agent_core.proofs.AlarmLemmas.{none-yet}
use Rattle.agent_core.proofs.GapLemmas.{none-left}
use Rattle.agent_core.proofs.LimitLemmas.{none-limits}
use Rattle.agent_core.proofs.left.Left.new.Goals as goal

pub returns-clause-left : goal.returns-clause-left
returns-clause-left c set = record {
  registry_is = c.new-registry.ensures;
  role_is = refl;
  last_rows_are = c.new-last_rows.ensures.of_no_beats;
  latest_is = c.nothing_seen-latest.ensures.none;
  gaps_are = subst (AreGapsLeft set []) (sym c.new-gaps.ensures) (none-left set);
  alarms_are = c.in-Ok.ensures.held ∙ none-yet set;
}

pub returns-clause-fit : goal.returns-clause-fit
returns-clause-fit c = record {
  charts = subst (λ (r : Registry). AreApart same_chart r.charts) (sym c.new-registry.ensures) tt;
  dimensions = subst (λ (r : Registry). AreApart same_dimension r.dimensions) (sym c.new-registry.ensures) tt;
  limits = subst HasLimits (sym c.new-registry.ensures) none-limits;
  up_to = c.in-Ok.ensures.up_to c.new-registry.result;
}
