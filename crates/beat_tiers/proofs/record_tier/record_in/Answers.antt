use Rattle.std.proofs.Common.{Option, sym, ap, ◌∙◌}
use Rattle.std.specs.Option.{option_and_then}
use Rattle.fixed_num.specs.declared.units.Record.{Record}
use Rattle.beat_tiers.proofs.SlotLemmas.{lookup_filled}
use Rattle.beat_tiers.proofs.record_tier.record_in.Goals as goal

pub returns-in-Some : goal.returns-in-Some
returns-in-Some c =
    ap (option_and_then (λ (was : Option Record). was)) c.in-Some.ensures.value
    ∙ sym (lookup_filled c.args.series c.args.slots.now.entries c.len.ensures.ordered)

pub returns-in-None : goal.returns-in-None
returns-in-None c =
    ap (option_and_then (λ (was : Option Record). was)) c.in-None.ensures.value
    ∙ sym (lookup_filled c.args.series c.args.slots.now.entries c.len.ensures.ordered)
