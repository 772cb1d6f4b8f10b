use Rattle.std.proofs.Common.{sym}
use Rattle.beat_tiers.proofs.PartLemmas.{last-item-is}
use Rattle.beat_tiers.proofs.form.last_item.Goals as goal

pub returns-in-Some : goal.returns-in-Some
returns-in-Some g c = sym (last-item-is c.args.before c.args.items.now c.in-Some.item.now (sym c.in-Some.ensures.value))
