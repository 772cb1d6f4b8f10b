use Rattle.std.proofs.Common.{◌≡◌, cond, Option, Some, ℤ, pos, unsigned_abs, SFits, to_z, of_z, to_z-of_z, rules, arith, sym, ap, subst, ◌∙◌}
use Rattle.std.specs.Int.{w128}
use Rattle.fixed_num.specs.declared.units.Record.{Record}
use Rattle.tier_rollup.specs.Growing.{single}
use Rattle.query_engine.specs.Joining.{joined, HaveRoom}
use Rattle.query_engine.proofs.MemberLemmas.{between_from}
use Rattle.storage_number.proofs.Laws.{word_within}
use Rattle.alarm_core.proofs.ValueLemmas.{point_in}
use Rattle.alarm_core.proofs.record.with_point.Goals as goal

pub sized-requires : goal.sized-requires
sized-requires c =
    let fits : SFits w128 c.in-Some.value.units = search rules in
    let same : to_z w128 (of_z w128 c.in-Some.value.units) ≡ c.in-Some.value.units = to_z-of_z fits in
    omega (arith, ap unsigned_abs same, word_within c.args.point.word c.in-Some.value (sym c.in-Some.ensures.value))

pub returns-in-Some : goal.returns-in-Some
returns-in-Some c = λ has.
    let window = c.args.window in
    let point = c.args.point in
    let value = c.in-Some.value in
    let fits : SFits w128 value.units = search rules in
    let same : to_z w128 (of_z w128 value.units) ≡ value.units = to_z-of_z fits in
    let sizes : c.sized.result ≡ cond c.args.absolute (pos (unsigned_abs value.units)) value.units =
    c.sized.ensures ∙ ap (λ (units : ℤ). cond c.args.absolute (pos (unsigned_abs units)) units) same in
    let inside = between_from window.start window.stop point.moment (omega (arith, c.if-moment-window.false, c.from-moment.ensures)) (omega (arith, c.if-window-moment.false, c.from-moment.ensures)) in
    let one = point_in c.args.absolute window.start window.stop point value c.sized.result inside (sym c.in-Some.ensures.value) sizes in
    let size_fits : SFits w128 c.sized.result = search rules in
    let back : to_z w128 (of_z w128 c.sized.result) ≡ c.sized.result = to_z-of_z size_fits in
    let same_one = ap (λ (units : ℤ). Some (single units value.anomalous)) back ∙ one in
    c.with_value.ensures (subst (λ (r : Option Record). HaveRoom c.args.before r) (sym same_one) has) ∙ ap (joined c.args.before) same_one
