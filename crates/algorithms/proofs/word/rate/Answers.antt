use Rattle.std.proofs.Common.{◌≡◌, ◌∙◌, rules, pos, ◌*ℤ◌, to_z, of_z}
use Rattle.std.specs.Int.{w128}
use Rattle.history.specs.Points.{rise}
use Rattle.algorithms.proofs.Products.{packed-same}
use Rattle.algorithms.proofs.word.rate.Goals as goal

pub returns : goal.returns
returns c =
    let num : to_z w128 (of_z w128 c.times-num.result) ≡ rise c.args.before.value c.args.sample.now.value *ℤ c.args.sample.now.multiplier = search rules in
    let den : to_z w128 (of_z w128 c.divisor_in-den.result) ≡ c.args.sample.now.divisor *ℤ pos c.args.before.seconds = search rules in
    c.packed.ensures ∙ packed-same _ _ _ _ c.args.sample.now.anomalous c.args.reset num den
