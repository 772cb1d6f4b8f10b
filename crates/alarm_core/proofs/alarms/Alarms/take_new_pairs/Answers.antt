use Rattle.std.proofs.Common.{◌≡◌, List, map, refl, sym, ap, ◌∙◌}
use Rattle.health_config.specs.Entity.{alarm_of}
use Rattle.alarm_events.specs.declared.event.Event.{Event}
use Rattle.alarm_core.specs.Charts.{owner, owner_of}
use Rattle.alarm_core.specs.Pairs.{wanted}
use Rattle.alarm_core.specs.Course.{silent}
use Rattle.alarm_core.specs.Telling.{tell_all}
use Rattle.alarm_core.proofs.AgainLemmas.{pair_owners}
use Rattle.alarm_core.proofs.WantedLemmas.{wanted_each, wanted_rise, states_stay, none_goes}
use Rattle.alarm_core.proofs.alarms.Alarms.take_new_pairs.Goals as goal

pub returns-then-are_states_of : goal.returns-then-are_states_of
returns-then-are_states_of c =
    let alarms = map alarm_of c.args.self.now.alarms in
    let charts = c.args.registry.now.charts in
    let states = c.args.self.now.states.items in
    let at : map owner states ≡ map owner_of (wanted alarms charts) =
    ap (map owner) (sym c.as_slice-states.ensures.value) ∙ c.if-are_states_of.ensures.0 refl ∙ ap (map owner_of) (c.as_slice-pairs.ensures ∙ c.requires.pairs) in
    record {
      text = refl;
      alarms = refl;
      lost = c.clear-then-are_states_of.ensures;
      states = sym (states_stay alarms charts (wanted alarms charts) states (wanted_each alarms charts) (wanted_rise alarms charts) at);
      told = ap (λ (events : List Event). record { log = c.args.self.now.told.log; events = events }) c.clear.ensures
          ∙ sym (ap (tell_all (silent c.args.self.now.told.log)) (none_goes alarms c.args.self.now.lost charts (wanted alarms charts) c.args.registry.now c.args.moment states (wanted_each alarms charts) at));
      taken = refl;
      up_to = record { pairs = c.requires.pairs; series = c.requires.series };
    }

pub invariant_of-self-4-clause-taken : goal.invariant_of-self-4-clause-taken
invariant_of-self-4-clause-taken c = λ is. record {
  owners = ap (map owner) (c.into_vec.ensures ∙ c.in_ok-paired.ensures.states) ∙ pair_owners _ _ _ _ ∙ ap (map owner_of) c.as_slice-pairs.ensures;
  none_lost = c.clear-2.ensures;
}
