use Rattle.std.proofs.Common.{[], length, sym, ap, ◌∙◌, arith}
use Rattle.std.proofs.lemmas.List.Sums.{position_or_len_is}
use Rattle.replication.specs.declared.named.NamedPoint.{NamedPoint}
use Rattle.replication.specs.Points.{has_name_of}
use Rattle.replication.proofs.points.name_place.Goals as goal

pub returns-then-has_name_of : goal.returns-then-has_name_of
returns-then-has_name_of c =
    let x = c.index-names-place.result in
    let p = c.args.point.now in
    sym (position_or_len_is (has_name_of p) c.args.names.now c.loop-place.place x (omega arith) (λ k lt. c.loop-place.invariant k x lt)
    (λ lt. ap (has_name_of p) (sym c.index-names-place.is) ∙ sym c.has_name_of.ensures ∙ c.if-has_name_of.true))

pub returns : goal.returns
returns c =
    let x : NamedPoint = record { chart = []; dimension = []; word = 0 } in
    sym (position_or_len_is (has_name_of c.args.point.now) c.args.names.now (length c.args.names.now) x (omega arith) (λ k lt. c.loop-place.invariant k x (omega arith)) (λ lt. absurd (omega arith)))
