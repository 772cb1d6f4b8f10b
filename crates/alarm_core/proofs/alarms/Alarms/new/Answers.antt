use Rattle.std.proofs.Common.{inl, ◌∙◌}
use Rattle.alarm_core.proofs.ChartLemmas.{none_wanted, none_wanted_now}
use Rattle.alarm_core.proofs.alarms.Alarms.new.Goals as goal

pub invariant_of-result-2 : goal.invariant_of-result-2
invariant_of-result-2 c = record { paired = c.new-8.ensures ∙ none_wanted c.new-2.result c.new-7.result c.new-2.ensures; taken = λ is. absurd (cc) }

pub returns-clause-up_to : goal.returns-clause-up_to
returns-clause-up_to c registry = record {
  pairs = c.new-8.ensures ∙ none_wanted_now c.new-2.result registry.charts c.new-2.ensures;
  series = inl c.new-2.ensures;
}
