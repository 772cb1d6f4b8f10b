use Rattle.std.proofs.Common.{sym, ◌∙◌, ◌≡◌, ap, Ok, int_le, true, FitsSigned, w64}
use Rattle.std.proofs.lemmas.Int.{to_z-of_z}
use Rattle.plugin_text.proofs.NumberLemmas.{number_within-is, number_within-none}
use Rattle.plugin_text.proofs.number.number_within.Goals as goal

pub returns-in-Ok-clause-value : goal.returns-in-Ok-clause-value
returns-in-Ok-clause-value c =
    let said = c.in-Ok.ensures.value.0 in
    let low = c.ranges.low in
    let high = c.ranges.high in
    let fits : FitsSigned w64 c.in-Ok.number = rw said.1 said.0.1 in
    let above : int_le c.args.low c.in-Ok.number ≡ true = simp to_z-of_z at c.if-low-number.true in
    let below : int_le c.in-Ok.number c.args.high ≡ true = simp to_z-of_z at c.if-number-high.true in
    ap Ok (to_z-of_z w64 c.in-Ok.number fits) ∙ sym (number_within-is c.args.low c.args.high c.in-Ok.number c.args.word.now said.0.0 said.1 above below)

pub returns-in_default-3-clause-value : goal.returns-in_default-3-clause-value
returns-in_default-3-clause-value c =
    sym (number_within-none c.args.low c.args.high c.args.word.now c.ranges.low c.ranges.high (c.in_default.ensures.value.0))
