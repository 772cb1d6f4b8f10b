use Rattle.std.proofs.Common.{ltb, length, take, subst, sym, ◌∙◌, ap}
use Rattle.list_lemmas.proofs.Every.{all-filter, all-take}
use Rattle.replication.specs.declared.beats.Beat.{Beat}
use Rattle.replication.specs.Answer.{AreOfSeries, AreBeatsOf}
use Rattle.replication.proofs.child.Child.answer.Goals as goal

pub fitting_len-requires-clause-series : goal.fitting_len-requires-clause-series
fitting_len-requires-clause-series c =
    let series = length c.args.names.now.dimensions in
    subst (AreBeatsOf series) (sym c.beats_above-later.ensures)
    (all-filter (λ (beat : Beat). AreOfSeries series beat.words) (λ (beat : Beat). ltb _ beat.moment) c.as_slice-kept.result.now
    (subst (AreBeatsOf series) (sym c.as_slice-kept.ensures) c.requires.series))

pub data_with-requires-clause-series : goal.data_with-requires-clause-series
data_with-requires-clause-series c =
    let series = length c.args.names.now.dimensions in
    subst (AreBeatsOf series) (sym (c.first_of-prefix.ensures ∙ ap (take c.in_ok-count.count) c.beats_above-later.ensures))
    (all-take (λ (beat : Beat). AreOfSeries series beat.words) c.in_ok-count.count _
    (all-filter (λ (beat : Beat). AreOfSeries series beat.words) (λ (beat : Beat). ltb _ beat.moment) c.as_slice-kept.result.now
    (subst (AreBeatsOf series) (sym c.as_slice-kept.ensures) c.requires.series)))
