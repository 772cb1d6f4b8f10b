use Rattle.std.proofs.Common.{arith}
use Rattle.fixed_num.proofs.UnitsLemmas.{product_is, product_ge}
use Rattle.fixed_num.proofs.units.product.Goals as goal

pub returns-then-whole-unsigned_abs : goal.returns-then-whole-unsigned_abs
returns-then-whole-unsigned_abs c = grind (arith, product_ge c.args.a c.args.b)

pub returns : goal.returns
returns c = grind (arith, product_is c.args.a c.args.b)
