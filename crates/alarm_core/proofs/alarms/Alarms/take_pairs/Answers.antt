use Rattle.std.proofs.Common.{◌≡◌, List, map, refl, sym, ap, ◌∙◌}
use Rattle.health_config.specs.Entity.{alarm_of}
use Rattle.alarm_events.specs.declared.event.Event.{Event}
use Rattle.alarm_core.specs.Charts.{AreTaken, owner, owner_of}
use Rattle.alarm_core.specs.Pairs.{wanted}
use Rattle.alarm_core.specs.Course.{silent}
use Rattle.alarm_core.specs.Telling.{tell_all}
use Rattle.alarm_core.proofs.WantedLemmas.{wanted_each, wanted_rise, states_stay, none_goes}
use Rattle.alarm_core.proofs.alarms.Alarms.take_pairs.Goals as goal

pub returns-then-self : goal.returns-then-self
returns-then-self c =
    let alarms = map alarm_of c.args.self.now.alarms in
    let charts = c.args.registry.now.charts in
    let states = c.args.self.now.states.items in
    let are : AreTaken states c.args.self.now.lost c.args.self.now.pairing.pairs = c.args.self.now.taken c.if-self.true in
    let at : map owner states ≡ map owner_of (wanted alarms charts) = are.owners ∙ ap (map owner_of) c.requires.pairs in
    record {
      text = refl;
      alarms = refl;
      lost = are.none_lost;
      states = sym (states_stay alarms charts (wanted alarms charts) states (wanted_each alarms charts) (wanted_rise alarms charts) at);
      told = ap (λ (events : List Event). record { log = c.args.self.now.told.log; events = events }) c.clear.ensures
          ∙ sym (ap (tell_all (silent c.args.self.now.told.log)) (none_goes alarms c.args.self.now.lost charts (wanted alarms charts) c.args.registry.now c.args.moment states (wanted_each alarms charts) at));
      taken = c.if-self.true;
      up_to = record { pairs = c.requires.pairs; series = c.requires.series };
    }
