use Rattle.std.proofs.Common.{◌≢◌, ℕ, ◌+◌, ◌*◌, ◌<◌}
use Rattle.page_buffer.proofs.slot_page.SlotPage.empty_before.Given as goal

-- no distance so far meets the moment
abbrev pub invariant-loop-empty : goal.invariant-loop-empty
invariant-loop-empty l = (e : ℕ) → e < l.empty → l.moment ≢ l.self.first + (l.len + e) * l.self.step
