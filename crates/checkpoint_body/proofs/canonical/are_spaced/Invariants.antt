use Rattle.std.proofs.Common.{◌≡◌, ◌≤◌, drop}
use Rattle.page_buffer.specs.Slots.{spaced}
use Rattle.checkpoint_body.proofs.canonical.are_spaced.Given as goal

-- the rest of the words decides
abbrev pub invariant-loop-word : goal.invariant-loop-word
invariant-loop-word l = record { few : l.empty ≤ 6; same : spaced 6 l.words ≡ spaced l.empty (drop l.word-index l.words) }
