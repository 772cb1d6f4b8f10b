-- What a parent stores, and what fails while it does.
use Rattle.std.proofs.Common.{◌≡◌, ⊎_elim, ℕ, ◌<◌, Bool, true, false, ◌&&◌, List, [], ◌∷◌, length, Option, Some, None, is_none, Result, Ok, Err, IfErr, refl, sym, ap, subst, ◌==◌, true≢false, arith, if◌then◌else◌}
use Rattle.std.specs.Option.{option_map_or}
use Rattle.std.proofs.lemmas.Bool.{cases_lt}
use Rattle.history.specs.declared.fault.BlockFault.{BlockFault}
use Rattle.history.specs.History.{Beat, registry_of}
use Rattle.history.specs.Registry.{Registry}
use Rattle.replication.specs.declared.message.Data.{Data}
use Rattle.replication.specs.declared.verdict.Verdict.{Verdict}
use Rattle.replication.specs.declared.verdict.Verdict.TheVariants as verdict
use Rattle.replication.specs.Verdict.{is_stored}
use Rattle.link_frames.specs.DataForm.{IsData}
use Rattle.link_frames.specs.declared.frame.Frame.{Frame}
use Rattle.link_frames.specs.declared.frame.Frame.TheVariants as frame
use Rattle.link_frames.specs.Frames.{done, wrong_child}
use Rattle.tier_settings.specs.declared.settings.Settings.{Settings}
use Rattle.agent_core.specs.Copying.{added_to, beats_of, copy_refusal, verdict_of}
use Rattle.agent_core.specs.Kept.{onto}
use Rattle.agent_core.specs.Roles.{role_of}
use Rattle.agent_core.proofs.PrefixLemmas.{length-none, length-some, onto-length}
use Rattle.link_session.specs.declared.fault.PeerFault.TheVariants.{BadFrame, WrongChild}
use Rattle.link_session.specs.declared.fault.SessionFault.{SessionFault}
use Rattle.link_session.specs.declared.fault.SessionFault.TheVariants.{LinkFault, Agent, PeerRefused, Ended, InputLimit, TellFault, Memory}
use Rattle.link_session.specs.declared.flow.Flow.{Flow}
use Rattle.link_session.specs.Exchange.{ends, leaves, refuses, SessionResult}
use Rattle.link_session.specs.Parent.{asks, copies, copies_other, hears_first, hears_next, parent_does, stores_unless, takes_by, waits, IsToStore, Parent}
use Rattle.link_session.specs.Receiving.{is_for_data, is_spent_by, SaysHas}
use Rattle.link_session.specs.Sending.{IsAgents}
use Rattle.link_session.specs.Session.{result_of, IsRefusing}

-- ---- what fails
-- not where the other end is refused
pub refusing-spares : (result : Result Flow SessionFault) → IfErr result IsRefusing → is_for_data (result_of result) ≡ true → ⊥
refusing-spares (Ok flow) is failed = true≢false (sym failed)
refusing-spares (Err LinkFault) is failed = true≢false (sym failed)
refusing-spares (Err (PeerRefused fault)) is failed = true≢false (sym failed)
refusing-spares (Err Memory) is failed = true≢false (sym failed)
refusing-spares (Err (Agent fault)) is failed = is
refusing-spares (Err Ended) is failed = true≢false (sym failed)
refusing-spares (Err InputLimit) is failed = true≢false (sym failed)
refusing-spares (Err TellFault) is failed = is

-- the agent is spent by a fault of its own
pub spent-own : (result : Result Flow SessionFault) → is_spent_by (result_of result) ≡ true → IsAgents result
spent-own (Ok flow) spent = absurd (true≢false (sym spent))
spent-own (Err LinkFault) spent = absurd (true≢false (sym spent))
spent-own (Err (PeerRefused fault)) spent = absurd (true≢false (sym spent))
spent-own (Err Memory) spent = absurd (true≢false (sym spent))
spent-own (Err (Agent fault)) spent = tt
spent-own (Err Ended) spent = absurd (true≢false (sym spent))
spent-own (Err InputLimit) spent = absurd (true≢false (sym spent))
spent-own (Err TellFault) spent = absurd (true≢false (sym spent))

pub spent-for : (result : SessionResult) → is_spent_by result ≡ true → is_for_data result ≡ true
spent-for (Ok end) spent = spent
spent-for (Err LinkFault) spent = spent
spent-for (Err (PeerRefused fault)) spent = spent
spent-for (Err Memory) spent = spent
spent-for (Err (Agent fault)) spent = spent
spent-for (Err Ended) spent = spent
spent-for (Err InputLimit) spent = spent
spent-for (Err TellFault) spent = refl

-- ---- Have is said to a Data that is to be stored
abbrev is_have : List Frame → Bool
is_have (frame.Have last ∷ rest) = true
is_have others = false

record Stores (h : List Beat) (f : Frame) : Type 0 where
  pub message : Data
  pub is : f ≡ frame.Data message
  pub stored : verdict_of h message ≡ verdict.Stored
  pub free : copy_refusal (registry_of h) (role_of h) message ≡ None

module _ (set : Settings) (id : ℕ) (h : List Beat) where
  unless-stores : (message : Data) → verdict_of h message ≡ verdict.Stored → (why : Option BlockFault) → copy_refusal (registry_of h) (role_of h) message ≡ why → is_have (stores_unless set id h message why).sent ≡ true → Stores h (frame.Data message)
  unless-stores message stored None free has = record { message = message; is = refl; stored = stored; free = free }
  unless-stores message stored (Some why) free has = absurd (true≢false (sym has))

  takes-stores : (message : Data) (v : Verdict) → verdict_of h message ≡ v → is_have (takes_by set id h message v).sent ≡ true → Stores h (frame.Data message)
  takes-stores message verdict.Stored stored has = unless-stores message stored (copy_refusal (registry_of h) (role_of h) message) refl has
  takes-stores message verdict.Old stored has = absurd (true≢false (sym has))
  takes-stores message verdict.Ahead stored has = absurd (true≢false (sym has))
  takes-stores message (verdict.WrongChild kept came) stored has = absurd (true≢false (sym has))

  bye-silent : (over : Bool) → is_have (if over then ends {S = Parent} (Ok tt) (copies id h) else refuses BadFrame (copies id h)).sent ≡ true → ⊥
  bye-silent true has = true≢false (sym has)
  bye-silent false has = true≢false (sym has)

  next-stores : (f : Frame) → is_have (hears_next set id h f).sent ≡ true → Stores h f
  next-stores (frame.Data message) has = takes-stores message (verdict_of h message) refl has
  next-stores (frame.Hello other) has = absurd (true≢false (sym has))
  next-stores (frame.Ask ask) has = absurd (true≢false (sym has))
  next-stores (frame.Have had) has = absurd (true≢false (sym has))
  next-stores (frame.Bye reason) has = absurd (bye-silent (reason == done) has)

module _ (h : List Beat) where
  hello-silent : (id : ℕ) (other : Bool) → is_have (if other then leaves {S = Parent} (frame.Bye wrong_child) (Err (PeerRefused WrongChild)) (waits h) else asks id h).sent ≡ true → ⊥
  hello-silent id true has = true≢false (sym has)
  hello-silent id false has = true≢false (sym has)

  first-silent : (f : Frame) → is_have (hears_first h f).sent ≡ true → ⊥
  first-silent (frame.Hello id) has = hello-silent id (copies_other id h) has
  first-silent (frame.Ask ask) has = true≢false (sym has)
  first-silent (frame.Data message) has = true≢false (sym has)
  first-silent (frame.Have had) has = true≢false (sym has)
  first-silent (frame.Bye reason) has = true≢false (sym has)

pub has-stores : (set : Settings) (parent : Parent) (f : Frame) → SaysHas (parent_does set parent f) → IsToStore parent f
has-stores set parent f says = by parent.peer refl (ap is_have says.1)
  where
    by : (peer : Option ℕ) → parent.peer ≡ peer → is_have (option_map_or (λ id. hears_next set id parent.history f) peer (hears_first parent.history f)).sent ≡ true → IsToStore parent f
    by None is has = absurd (first-silent parent.history f has)
    by (Some id) is has = let it = next-stores set id parent.history f has in record { id = id; peer = is; message = it.message; is = it.is; stored = it.stored; free = it.free }

-- ---- what is stored is at least one beat
pub stored-is : (v : Verdict) → is_stored v ≡ true → v ≡ verdict.Stored
stored-is verdict.Stored is = refl
stored-is verdict.Old is = absurd (true≢false (sym is))
stored-is verdict.Ahead is = absurd (true≢false (sym is))
stored-is (verdict.WrongChild kept came) is = absurd (true≢false (sym is))

beats-some : (registry : Registry) (message : Data) → IsData message → 0 < length (beats_of registry message)
beats-some registry message form =
    ⊎_elim (λ less. omega (arith, length-some registry message less, form.moments.some)) (λ none. omega (arith, length-none registry message none, form.moments.some)) (cases_lt message.prev message.from)

onto-more : (h more : List Beat) → 0 < length more → onto h more ≡ h → ⊥
onto-more h more some same = omega (arith, some, onto-length h more, ap (λ (l : List Beat). length l) same)

module _ (h : List Beat) (message : Data) (stored : verdict_of h message ≡ verdict.Stored) (free : copy_refusal (registry_of h) (role_of h) message ≡ None) where
  added-is : added_to h message ≡ beats_of (registry_of h) message
  added-is = λ i. if is_stored (stored i) && is_none (free i) then beats_of (registry_of h) message else []

  pub added-some : IsData message → onto h (added_to h message) ≡ h → ⊥
  added-some form same = onto-more h (beats_of (registry_of h) message) (beats-some (registry_of h) message form) (subst (λ (more : List Beat). onto h more ≡ h) added-is same)
