use Rattle.std.proofs.Common.{◌≡◌, ℤ, ◌*ℤ◌, FitsSigned, to_z, of_z, refl, ◌∙◌, arith}
use Rattle.std.specs.Int.{w32, w128}
use Rattle.std.proofs.lemmas.Int.{to_z-of_z}
use Rattle.algorithms.proofs.Products.{product-fits, product-bound}
use Rattle.algorithms.proofs.word.times.Goals as goal

-- the product of what the code reads is the product
read : (a b b' : ℤ) → FitsSigned w128 a → FitsSigned w32 b → b' ≡ to_z w32 (of_z w32 b) → (to_z w128 (of_z w128 a) *ℤ to_z w128 (of_z w128 b')) ≡ a *ℤ b
read a b b' a-fits b-fits from =
    let same : b' ≡ b = from ∙ to_z-of_z w32 b b-fits in
    let wide : FitsSigned w128 b = record { sfits = omega (arith, b-fits.sfits) } in
    rw (same, to_z-of_z w128 a a-fits, to_z-of_z w128 b wide) refl

pub overflow_mul-result : goal.overflow_mul-result
overflow_mul-result c = rw (read c.args.a c.args.b c.from.result c.ranges.a c.ranges.b c.from.ensures) (product-fits c.args.a c.args.b c.requires c.ranges.b)

pub returns-clause-value : goal.returns-clause-value
returns-clause-value c =
    rw (read c.args.a c.args.b c.from.result c.ranges.a c.ranges.b c.from.ensures)
    (to_z-of_z w128 _ (product-fits c.args.a c.args.b c.requires c.ranges.b))

pub returns-clause-bound : goal.returns-clause-bound
returns-clause-bound c =
    rw (read c.args.a c.args.b c.from.result c.ranges.a c.ranges.b c.from.ensures, to_z-of_z w128 (c.args.a *ℤ c.args.b) (product-fits c.args.a c.args.b c.requires c.ranges.b))
    (product-bound c.args.a c.args.b c.requires c.ranges.b)
