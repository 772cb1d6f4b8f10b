use Rattle.std.proofs.Common.{◌⊎◌, inl, inr, map, sym, ap, ◌∙◌}
use Rattle.health_config.specs.Entity.{alarm_of}
use Rattle.alarm_core.specs.Pairing.{states_of}
use Rattle.alarm_core.proofs.ChartLemmas.{none_wanted_now}
use Rattle.alarm_core.proofs.alarms.Alarms.step_again.Goals as goal

either : {A B C D : Type 0} → (A → C) → (B → D) → A ⊎ B → C ⊎ D
either left right (inl a) = inl (left a)
either left right (inr b) = inr (right b)

pub step_all-requires-clause-series : goal.step_all-requires-clause-series
step_all-requires-clause-series g c =
    let alarms = map alarm_of c.args.self.now.alarms in
    let taken = c.in_ok-take_pairs.ensures in
    either
    (λ none. taken.states ∙ ap (states_of alarms alarms c.args.self.now.states.items) (sym (none_wanted_now c.args.self.now.alarms c.args.registry.now.charts (sym taken.alarms ∙ none))))
    (λ series. series)
    taken.up_to.series
