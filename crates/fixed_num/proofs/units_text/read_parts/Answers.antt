use Rattle.std.proofs.Common.{◌-◌, ◌^◌, ◌∙◌, arith}
use Rattle.fixed_num.proofs.ReadingLemmas.{decimals_below, size_by-dotted}
use Rattle.fixed_num.proofs.units_text.read_parts.Goals as goal

pub size_within-requires : goal.size_within-requires
size_within-requires c =
    λ _. decimals_below c.args.whole.now c.args.part.now (2 ^ 128 - 1) c.in-Some-Some.number c.in-Some-Some.decimals c.in-Some-Some.ensures c.in-Some-Some.ensures'

pub returns-in-Some-Some : goal.returns-in-Some-Some
returns-in-Some-Some c =
    c.size_within.ensures ∙ size_by-dotted c.args.whole.now c.args.part.now (2 ^ 128 - 1) c.in-Some-Some.number c.in-Some-Some.decimals c.in-Some-Some.ensures c.in-Some-Some.ensures' (omega arith)
