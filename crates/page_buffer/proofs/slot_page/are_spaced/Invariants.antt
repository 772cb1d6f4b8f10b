use Rattle.std.proofs.Common.{◌≡◌, ◌≤◌, drop}
use Rattle.page_buffer.specs.Slots.{spaced}
use Rattle.page_buffer.proofs.slot_page.are_spaced.Given as goal

-- the rest of the words decides
abbrev pub invariant-loop-place : goal.invariant-loop-place
invariant-loop-place l = (l.empty ≤ 6) × (spaced 6 l.words ≡ spaced l.empty (drop l.place l.words))
