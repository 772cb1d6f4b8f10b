use Rattle.std.proofs.Common.{◌≡◌, [], length, map, refl, sym, ap, ◌∙◌}
use Rattle.std.proofs.lemmas.Bool.{eqb-true}
use Rattle.std.proofs.lemmas.List.{nil_from_length}
use Rattle.health_config.specs.Entity.{alarm_of}
use Rattle.alarm_core.specs.Charts.{wanted_on}
use Rattle.alarm_core.proofs.ChartLemmas.{none_wanted, none_wanted_now, wanted_known}
use Rattle.alarm_core.proofs.charts.renew.Goals as goal

pub returns-then-is_empty-clause-wanted : goal.returns-then-is_empty-clause-wanted
returns-then-is_empty-clause-wanted c =
    let none : c.args.alarms.now ≡ [] = nil_from_length c.args.alarms.now (eqb-true (length c.args.alarms.now) 0 (sym c.is_empty.ensures ∙ c.if-is_empty.true)) in
    c.requires ∙ sym (none_wanted c.args.alarms.now c.args.pairing.now.charts none) ∙ none_wanted_now c.args.alarms.now c.args.registry.now.charts none

pub returns-then-have_words-clause-wanted : goal.returns-then-have_words-clause-wanted
returns-then-have_words-clause-wanted c =
    let alarms = map alarm_of c.args.alarms.now in
    c.requires ∙ ap (wanted_on alarms) (sym (c.if-have_words.ensures.0 refl ∙ c.as_slice.ensures)) ∙ wanted_known alarms c.args.registry.now.charts
