use Rattle.std.proofs.Common.{ℕ, ◌<◌, get_or, length, sym, subst}
use Rattle.std.specs.List.{AllByRecursion}
use Rattle.list_lemmas.proofs.Every.{all-append}
use Rattle.replication.proofs.MarksCode.{all-index}
use Rattle.agent_core.specs.Used.{chart_number}
use Rattle.agent_core.proofs.SentBeats.{same-item}
use Rattle.agent_core.proofs.UsedNumbers.{made-more}
use Rattle.agent_core.proofs.used.all_charts.Goals as goal

pub chart_number-requires : goal.chart_number-requires
chart_number-requires c =
    let series = c.args.series.now in
    let n = c.loop-number.number-index in
    let lt = c.loop-number-test.true in
    all-index (λ (number : ℕ). number < length c.args.registry.now.dimensions) series n (get_or series n 0) c.requires lt (sym (same-item series n 0 lt))

pub loop-number-preserved : goal.loop-number-preserved
loop-number-preserved c =
    let registry = c.args.registry.now in
    let series = c.args.series.now in
    let n = c.loop-number.number-index in
    let lt = c.loop-number-test.true in
    let number = get_or series n 0 in
    let at = sym (same-item series n 0 lt) in
    let within = all-index (λ (number : ℕ). number < length registry.dimensions) series n number c.requires lt at in
    let IsChart : ℕ → Type 0 = λ number. number < length registry.charts in
    record {
      charts = made-more registry.dimensions series n number lt at within (chart_number registry) c.chart_number.result c.loop-number.charts.items c.push.new.self.items
          c.chart_number.ensures.value c.in_ok-push.ensures.items c.loop-number.invariant.charts;
      within = subst (AllByRecursion IsChart) (sym c.in_ok-push.ensures.items) (all-append IsChart c.loop-number.charts.items _ c.loop-number.invariant.within (c.chart_number.ensures.within, tt));
    }
