-- The definitions of what is told, checked on single cases by computation.
use Rattle.std.proofs.Common.{◌≡◌, ◌++◌, true, [], ◌∷◌, ℤ, codes, refl}
use Rattle.fixed_num.specs.UnitsText.{units_text}
use Rattle.history.specs.declared.fault.BlockFault.TheVariants.{MomentOrder}
use Rattle.history.specs.declared.line.Line.TheVariants.{Moment, Query, Skipped}
use Rattle.plugin_text.specs.declared.fault.LineFault.TheVariants.{BadNumber}
use Rattle.plugin_text.specs.declared.refusal.Refusal.TheVariants.{Line, Block}
use Rattle.plugin_text.specs.Refusal.{refusal_number}
use Rattle.point_lines.specs.Told.{value_text, skipped}

marks : (units : ℤ) → value_text (record { units = units; anomalous = true; reset = true }) ≡ units_text units ++ codes " A" ++ codes " R"
marks units = refl

count : skipped (Moment 1 ∷ Query (codes "a") ∷ Skipped ∷ []) ≡ 2
count = refl

line-number : refusal_number (Line BadNumber) ≡ 15
line-number = refl

block-number : refusal_number (Block (MomentOrder 7)) ≡ 27
block-number = refl
