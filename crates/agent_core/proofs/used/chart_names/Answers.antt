use Rattle.std.proofs.Common.{◌≡◌, ℕ, ◌<◌, get_or, length, IfSome, sym, subst}
use Rattle.std.specs.List.{AllByRecursion}
use Rattle.list_lemmas.proofs.Every.{all-append}
use Rattle.replication.proofs.MarksCode.{all-index}
use Rattle.agent_core.specs.Asking.{IsChartInUtf8}
use Rattle.agent_core.specs.Copies.{chart_name}
use Rattle.agent_core.proofs.SentBeats.{same-item}
use Rattle.agent_core.proofs.UsedNumbers.{made-more}
use Rattle.agent_core.proofs.used.chart_names.Goals as goal

pub chart-requires : goal.chart-requires
chart-requires c =
    let charts = c.args.charts.now in
    let n = c.loop-number.number-index in
    let lt = c.loop-number-test.true in
    all-index (λ (number : ℕ). number < length c.args.registry.now.charts) charts n (get_or charts n 0) c.requires lt (sym (same-item charts n 0 lt))

pub loop-number-preserved : goal.loop-number-preserved
loop-number-preserved c =
    let registry = c.args.registry.now in
    let charts = c.args.charts.now in
    let n = c.loop-number.number-index in
    let lt = c.loop-number-test.true in
    let number = get_or charts n 0 in
    let at = sym (same-item charts n 0 lt) in
    let within = all-index (λ (number : ℕ). number < length registry.charts) charts n number c.requires lt at in
    let name = c.in_ok-name.name in
    record {
      names = made-more registry.charts charts n number lt at within chart_name name c.loop-number.names c.push.new.self
          (subst (λ found. IfSome found (λ def. name ≡ chart_name def)) (sym c.chart.ensures.value) c.in_ok-name.ensures.name) c.in_ok-push.ensures.ok c.loop-number.invariant.names;
      texts = subst (AllByRecursion IsChartInUtf8) (sym c.in_ok-push.ensures.ok) (all-append IsChartInUtf8 c.loop-number.names _ c.loop-number.invariant.texts (c.in_ok-name.ensures.texts, tt));
    }
