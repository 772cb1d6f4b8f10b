-- The beat that a MOMENT of an accepted text closes is not refused, and the history keeps within its limits.
use Rattle.std.proofs.Common.{◌≡◌, ℕ, List, ◌∷◌, Option, Some, None, is_some, refl, arith}
use Rattle.std.specs.Option.{option_map_or}
use Rattle.history.specs.declared.line.Line.{Line}
use Rattle.history.specs.declared.line.Line.TheVariants as line
use Rattle.history.specs.History.{Beat, child, last, registry_of}
use Rattle.history.specs.Looking.{beat, charts, dimensions}
use Rattle.history.specs.Read.{history_at, refusal_at}
use Rattle.history.specs.Registry.{Registry}
use Rattle.chart_registry.specs.Accepted.{AreAccepted, IsWithin}
use Rattle.chart_registry.proofs.RoomLemmas.{text-room, HasRoomFor}
use Rattle.chart_registry.proofs.AcceptedLemmas.{text-few}
use Rattle.collect_block.proofs.OpenLemmas.{owners}
use Rattle.beat_entries.proofs.ClosedLemmas.{closed-free}
use Rattle.agent_core.specs.Rules.{beat_refusal, line_refusal}

module _ (every : ℕ) (h : List Beat) (within : IsWithin (registry_of h)) where
  abbrev now : List Line → Registry
  now past = registry_of (history_at every h past)

  pub text-closed : (past : List Line) (moment : ℕ) → AreAccepted every h (line.Moment moment ∷ past)
      → beat_refusal (now past) (is_some (child (history_at every h past))) (last (history_at every h past)) moment (beat every past) ≡ None
  text-closed past moment accepted = closed-free every h within past moment (owners every h past) accepted

  -- a second test that is passed where the first is changes nothing
  either : {A : Type 0} (first second : Option A) → (first ≡ None → second ≡ None) → option_map_or Some first second ≡ first
  either None second free = free refl
  either (Some x) second free = refl

  pub text-line : (past : List Line) (line : Line) → AreAccepted every h past
      → line_refusal (now past) (is_some (child (history_at every h past))) (last (history_at every h past)) every past line ≡ refusal_at every h past line
  text-line past (line.Moment moment) accepted =
      either (refusal_at every h past (line.Moment moment)) (beat_refusal (now past) (is_some (child (history_at every h past))) (last (history_at every h past)) moment (beat every past))
      (λ free. text-closed past moment (free, accepted))
  text-line past other accepted = either (refusal_at every h past other) None (λ free. refl)

  pub text-within : (past : List Line) → AreAccepted every h past → IsWithin (registry_of (history_at every h past))
  text-within past accepted =
      let room : HasRoomFor (now past) (charts every past) (dimensions past) = text-room every h within.charts within.dimensions past accepted in
      record { charts = omega (arith, room.charts); dimensions = omega (arith, room.dimensions); each = text-few every h past within.each accepted }
