use Rattle.std.proofs.Common.{◌≡◌, ℕ, ℤ, Option, IfSome, ap, subst, sym, to_z-of_z}
use Rattle.fixed_num.specs.declared.units.Record.{Record}
use Rattle.tier_rollup.specs.Growing.{grown, HasRoom}
use Rattle.tier_rollup.proofs.record.with_point.Goals as goal

pub returns-in-Some-clause-some : goal.returns-in-Some-clause-some
returns-in-Some-clause-some c =
    let now : ℕ × Record = (c.in-Some.open, c.grown.result) in
    let next : ℤ → ℕ × Record → ℕ × Record = λ units kept. (kept.0, grown kept.1 units c.args.anomalous) in
    let given : ℕ × Record = (c.in-Some.open, c.in-Some.before) in
    let here : HasRoom c.in-Some.before c.args.units → now ≡ next c.args.units given =
    subst (λ (units : ℤ). HasRoom c.in-Some.before units → now ≡ next units given) (to_z-of_z c.ranges.units)
    (λ has. ap (λ (after : Record). pair c.in-Some.open after) (c.grown.ensures.exact has)) in
    subst (λ (current : Option (ℕ × Record)). IfSome current (λ kept. HasRoom kept.1 c.args.units → now ≡ next c.args.units kept)) (sym c.in-Some.is) here
  where
    pair : ℕ → Record → ℕ × Record
    pair bucket after = (bucket, after)
