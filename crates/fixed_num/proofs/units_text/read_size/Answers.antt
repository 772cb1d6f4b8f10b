use Rattle.std.proofs.Common.{◌∙◌, sym, arith}
use Rattle.std.proofs.lemmas.Grind.{common_steps}
use Rattle.fixed_num.proofs.ReadingLemmas.{size_read-plain, size_read-dotted}
use Rattle.fixed_num.proofs.units_text.read_size.Goals as goal

pub returns-in-Some : goal.returns-in-Some
returns-in-Some c = grind (arith, common_steps, size_read-dotted c.args.body.now c.in-Some.dot c.in-Some.ensures)

pub returns-in-None : goal.returns-in-None
returns-in-None c = c.read_whole.ensures ∙ sym (size_read-plain c.args.body.now c.in-None.ensures)
