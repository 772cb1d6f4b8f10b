use Rattle.std.proofs.Common.{◌≡◌, ℕ, List, ap, ◌∙◌}
use Rattle.fixed_num.specs.declared.units.Record.{Record}
use Rattle.beat_tiers.specs.declared.parts.KeptItems.{KeptItems}
use Rattle.beat_tiers.specs.Parts.{with_records}
use Rattle.beat_tiers.specs.Room.{filled}
use Rattle.beat_tiers.specs.State.{RecordTierState}
use Rattle.beat_tiers.proofs.PartLemmas.{open-put}
use Rattle.beat_tiers.proofs.record_tier.RecordTier.restore.Goals as goal

with_parts : (state : RecordTierState) (current : List (ℕ × Record)) (items : KeptItems Record) → state.current ≡ current → state.segments ≡ items
    → state ≡ record { tier = state.tier; current = current; segments = items }
with_parts state current items open_is closed_is =
    ap (λ (found : List (ℕ × Record)). record { tier = state.tier; current = found; segments = state.segments }) open_is
    ∙ ap (λ (kept : KeptItems Record). record { tier = state.tier; current = current; segments = kept }) closed_is

pub returns : goal.returns
returns c =
    let current : filled c.put_records.new.slots.entries ≡ c.args.kept.current =
    c.in_ok-put_records.ensures
    ∙ ap (λ slots. with_records (filled slots) c.as_slice.result.now) c.new-current.ensures.empty
    ∙ ap (with_records _) c.as_slice.ensures
    ∙ open-put c.args.kept.current c.requires.records in
    with_parts (record { tier = c.args.tier; current = filled c.put_records.new.slots.entries; segments = c.in_ok-restore.field-0.kept }) c.args.kept.current c.args.kept.items current c.in_ok-restore.ensures
