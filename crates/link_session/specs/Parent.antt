-- What a parent does with the frames of its child.
use Rattle.std.specs.Prelude.{◌≡◌, ℕ, ◌==◌, Bool, false, not, List, [], ◌∷◌, ◌++◌, length, Option, Some, None, Ok, Err, if◌then◌else◌}
use Rattle.std.specs.Option.{option_map_or}
use Rattle.history.specs.declared.fault.BlockFault.{BlockFault}
use Rattle.history.specs.History.{Beat, child, last, registry_of}
use Rattle.replication.specs.declared.message.Data.{Data}
use Rattle.replication.specs.declared.verdict.Verdict.{Verdict}
use Rattle.replication.specs.declared.verdict.Verdict.TheVariants as verdict
use Rattle.link_frames.specs.declared.frame.Frame.{Frame}
use Rattle.link_frames.specs.declared.frame.Frame.TheVariants as frame
use Rattle.link_frames.specs.Frames.{done, wrong_child}
use Rattle.tier_settings.specs.declared.settings.Settings.{Settings}
use Rattle.store_core.specs.Counts.{counted}
use Rattle.agent_core.specs.declared.fault.AgentFault.TheVariants.{Refused}
use Rattle.agent_core.specs.Copying.{added_to, copy_refusal, events_onto, verdict_of}
use Rattle.agent_core.specs.Kept.{onto}
use Rattle.agent_core.specs.Replies.{reply_text}
use Rattle.agent_core.specs.Roles.{role_of}
use Rattle.link_session.specs.declared.fault.PeerFault.TheVariants.{BadFrame, WrongChild}
use Rattle.link_session.specs.declared.fault.SessionFault.TheVariants.{Agent, PeerRefused}
use Rattle.link_session.specs.Exchange.{exchange, Course, ends, leaves, nothing, refuses, says}

-- what a parent knows: its history, and the id that the child told, once it has
pub record Parent : Type 0 where
  pub history : List Beat
  pub peer : Option ℕ

abbrev pub waits : List Beat → Parent
waits h = record { history = h; peer = None }

abbrev pub copies : ℕ → List Beat → Parent
copies id h = record { history = h; peer = Some id }

abbrev pub parent_begins : List Beat → Course Parent
parent_begins h = nothing (waits h)

-- it asks for what comes behind its history
abbrev pub asks : ℕ → List Beat → Course Parent
asks id h = says (frame.Ask (record { child = id; last = last h })) (copies id h)

-- the history is a copy of another child than this
abbrev pub copies_other : ℕ → List Beat → Bool
copies_other id h = option_map_or (λ kept. not (kept == id)) (child h) false

-- the first frame
abbrev pub hears_first : List Beat → Frame → Course Parent
hears_first h (frame.Hello id) = if copies_other id h then leaves (frame.Bye wrong_child) (Err (PeerRefused WrongChild)) (waits h) else asks id h
hears_first h f = refuses BadFrame (waits h)

-- it stores the beats, tells of them, and says that it has them
abbrev pub stores : Settings → ℕ → List Beat → List Beat → Course Parent
stores set id h more = record {
  sent = frame.Have (last (onto h more)) ∷ [];
  told = reply_text (record { count = counted (length (onto h more)); events = events_onto set h more });
  now = copies id (onto h more);
  ended = None;
}

-- it stores a Data that begins where its history ends, unless that does not take it for this reason
abbrev pub stores_unless : Settings → ℕ → List Beat → Data → Option BlockFault → Course Parent
stores_unless set id h message None = stores set id h (added_to h message)
stores_unless set id h message (Some why) = ends (Err (Agent (Refused why))) (copies id h)

abbrev pub takes_by : Settings → ℕ → List Beat → Data → Verdict → Course Parent
takes_by set id h message verdict.Stored = stores_unless set id h message (copy_refusal (registry_of h) (role_of h) message)
takes_by set id h message verdict.Old = nothing (copies id h)
takes_by set id h message verdict.Ahead = asks id h
takes_by set id h message (verdict.WrongChild kept came) = leaves (frame.Bye wrong_child) (Err (PeerRefused WrongChild)) (copies id h)

-- a frame behind the first
abbrev pub hears_next : Settings → ℕ → List Beat → Frame → Course Parent
hears_next set id h (frame.Data message) = takes_by set id h message (verdict_of h message)
hears_next set id h (frame.Bye reason) = if reason == done then ends (Ok tt) (copies id h) else refuses BadFrame (copies id h)
hears_next set id h f = refuses BadFrame (copies id h)

abbrev pub parent_does : Settings → Parent → Frame → Course Parent
parent_does set parent f = option_map_or (λ id. hears_next set id parent.history f) parent.peer (hears_first parent.history f)

-- what a parent with this history does with these frames
abbrev pub done_with : Settings → List Beat → List Frame → Course Parent
done_with set h0 frames = exchange (parent_does set) (parent_begins h0) frames

-- a parent that knows this is to store the frame: it is a Data that begins where the history ends, and nothing refuses it
pub record IsToStore (parent : Parent) (f : Frame) : Type 0 where
  pub id : ℕ
  pub peer : parent.peer ≡ Some id
  pub message : Data
  pub is : f ≡ frame.Data message
  pub stored : verdict_of parent.history message ≡ verdict.Stored
  pub free : copy_refusal (registry_of parent.history) (role_of parent.history) message ≡ None

-- the last of these frames is a Data that the parent is to store, whose session goes on behind those before it
pub record StoresAtLast (set : Settings) (h0 : List Beat) (frames : List Frame) : Type 0 where
  pub before : List Frame
  pub final : Frame
  pub whole : frames ≡ before ++ final ∷ []
  pub goes_on : (done_with set h0 before).ended ≡ None
  pub stores : IsToStore (done_with set h0 before).now final
