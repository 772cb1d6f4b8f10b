use Rattle.std.proofs.Common.{[], length, sym, ap, ◌∙◌, arith}
use Rattle.std.specs.Str.{bytes_eq}
use Rattle.std.proofs.lemmas.List.Sums.{position_or_len_is}
use Rattle.replication.proofs.points.chart_place.Goals as goal

pub returns-then-is_same : goal.returns-then-is_same
returns-then-is_same c =
    let x = c.index-charts-place.result in
    let id = c.args.id.now in
    sym (position_or_len_is (bytes_eq id) c.args.charts.now c.loop-place.place x (omega arith) (λ k lt. c.loop-place.invariant k x lt)
    (λ lt. ap (bytes_eq id) (sym c.index-charts-place.is) ∙ sym c.is_same.ensures ∙ c.if-is_same.true))

pub returns : goal.returns
returns c =
    sym (position_or_len_is (bytes_eq c.args.id.now) c.args.charts.now (length c.args.charts.now) [] (omega arith) (λ k lt. c.loop-place.invariant k [] (omega arith)) (λ lt. absurd (omega arith)))
