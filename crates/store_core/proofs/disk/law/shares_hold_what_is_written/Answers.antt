use Rattle.store_core.proofs.DiskProofs.ShareLemmas.{has_room, has_slot_room, within_syncs}
use Rattle.store_core.proofs.disk.law.shares_hold_what_is_written.Goals as goal

pub returns : goal.returns
returns c = record { room = has_room; slots = has_slot_room; syncs = within_syncs }
