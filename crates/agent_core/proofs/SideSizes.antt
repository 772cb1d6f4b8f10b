-- How many bytes the side has that an agent writes, by the gaps that it has.
use Rattle.std.proofs.Common.{◌≡◌, ℕ, ◌≤◌, Bool, true, false, cond, nat_lt, List, [], ◌∷◌, length, sym, ap, subst, arith, le_refl, length-append}
use Rattle.history.specs.History.{Beat}
use Rattle.alarm_core.specs.Course.{held, Held}
use Rattle.alarm_core.specs.Kept.{kept}
use Rattle.side_codec.specs.declared.gap.GapSpan.{GapSpan}
use Rattle.side_codec.specs.declared.side.Side.{Side}
use Rattle.side_codec.specs.Sides.{side_bytes, HasSpelling}
use Rattle.side_codec.specs.Size.{side_limit, KeepLimits}
use Rattle.side_codec.proofs.SizeLaws.{side-within}
use Rattle.tier_settings.specs.declared.settings.Settings.{Settings}
use Rattle.agent_core.specs.declared.left.Left.{Left}
use Rattle.agent_core.specs.Gaps.{gaps_above, gaps_of, AreGapsLeft}
use Rattle.agent_core.specs.Left.{IsLeftBy}
use Rattle.agent_core.specs.Sides.{side_by}
use Rattle.agent_core.proofs.AlarmTexts.{texts-of}

-- those above a floor are no more
above-fewer : (floor : ℕ) (gaps : List GapSpan) → length (gaps_above floor gaps) ≤ length gaps
above-fewer floor [] = le_refl 0
above-fewer floor (gap ∷ others) = by (nat_lt gap.to floor) (above-fewer floor others)
  where
    by : (b : Bool) → length (gaps_above floor others) ≤ length others → length (cond b (gaps_above floor others) (gap ∷ others)) ≤ length (gap ∷ others)
    by true fewer = omega (arith, fewer)
    by false fewer = le_refl (length (gap ∷ others))

-- those that a history left are no more than it has
left-few : (set : Settings) (h : List Beat) (left : List GapSpan) → AreGapsLeft set h left → length left ≤ length (gaps_of h)
left-few set h left are = omega (arith, ap length are.whole, length-append are.dropped left)

pub side-short : (floor : ℕ) (left : Left) (side : Side) → side ≡ side_by floor left → HasSpelling side → KeepLimits (kept (held left.alarms)) → length (side_bytes side) ≤ side_limit (length (gaps_above floor left.gaps))
unfolding side_by
side-short floor left side is spelt keep =
    let size = side-within side spelt (subst (λ (s : Side). KeepLimits s.alarms) (sym is) keep) in
    let same : length side.gaps ≡ length (gaps_above floor left.gaps) = ap (λ (s : Side). length s.gaps) is in
    omega (arith, size, same)

-- the side of a history without beats
pub new-short : (set : Settings) (left : Left) (floor : ℕ) → IsLeftBy set [] left → (side : List ℕ) → (KeepLimits (kept (held left.alarms)) → length side ≤ side_limit (length (gaps_above floor left.gaps))) → (limit : ℕ) → side_limit 0 ≤ limit → length side ≤ limit
new-short set left floor is side size limit fits =
    let none = left-few set [] left.gaps is.gaps_are in
    let short = size (subst (λ (one : Held). KeepLimits (kept one)) (sym is.alarms_are) (texts-of set [] [] tt)) in
    let fewer = above-fewer floor left.gaps in
    omega (arith, none, fewer, short, fits)
