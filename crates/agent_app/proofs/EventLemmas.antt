-- What is told of a stored beat: whole lines, which acknowledge it.
use Rattle.std.proofs.Common.{◌≡◌, ℕ, ◌^◌, ◌<◌, ◌≤◌, List, [], ◌∷◌, subst, append-nil}
use Rattle.history.specs.History.{Beat}
use Rattle.plugin_text.specs.Lines.{rest}
use Rattle.tier_settings.specs.declared.settings.Settings.{Settings}
use Rattle.store_core.specs.declared.beats.beat.Beat.{Beat as StoreBeat}
use Rattle.alarm_events.specs.declared.event.Event.{Event}
use Rattle.agent_core.specs.Alarms.{events_at}
use Rattle.agent_core.specs.Copying.{events_onto}
use Rattle.agent_core.specs.Kept.{AreBeatsOf}
use Rattle.agent_core.specs.Replies.{reply_text}
use Rattle.link_session.specs.Keeps.{IsAckedUpTo}
use Rattle.link_session.proofs.EventLemmas.{acked-told as acked-onto, closed-told as closed-onto}

module _ (n count : ℕ) (set : Settings) (beat : Beat) (h : List Beat) (beats : List StoreBeat) (are : AreBeatsOf (beat ∷ h) beats) where
  abbrev told : List Event → List ℕ
  told events = reply_text (record { count = count; events = events })

  -- the events of one beat that follows a history
  one-onto : events_onto set h (beat ∷ []) ≡ events_at set (beat ∷ h)
  unfolding events_onto
  one-onto = append-nil (events_at set (beat ∷ h))

  pub acked-told : count < 2 ^ 64 → count ≤ n → IsAckedUpTo n (told (events_at set (beat ∷ h)))
  acked-told small up = subst (λ (events : List Event). IsAckedUpTo n (told events)) one-onto (acked-onto n count set h (beat ∷ []) beats are small up)

  pub closed-told : rest (told (events_at set (beat ∷ h))) ≡ []
  closed-told = subst (λ (events : List Event). rest (told events) ≡ []) one-onto (closed-onto n count set h (beat ∷ []) beats are)
