-- What a child does with the frames of its parent. It knows where the Data ended that it sent last, if it sent one.
use Rattle.std.specs.Prelude.{ℕ, ◌==◌, nat_lt, Option, Some, None, Ok, Err, if◌then◌else◌}
use Rattle.replication.specs.declared.ask.Ask.{Ask}
use Rattle.replication.specs.declared.message.Data.{Data}
use Rattle.link_frames.specs.declared.frame.Frame.{Frame}
use Rattle.link_frames.specs.declared.frame.Frame.TheVariants as frame
use Rattle.link_frames.specs.Frames.{bad_frame, done, wrong_child}
use Rattle.link_session.specs.declared.fault.PeerFault.TheVariants.{BadFrame, WrongChild}
use Rattle.link_session.specs.declared.fault.SessionFault.TheVariants.{PeerRefused}
use Rattle.link_session.specs.Exchange.{Course, ends, leaves, nothing, refuses, says}

-- it begins by telling its id
abbrev pub child_begins : ℕ → Course (Option ℕ)
child_begins id = says (frame.Hello id) None

-- it says the Data that answers, or that there is none
abbrev pub answers : Option ℕ → Option Data → Course (Option ℕ)
answers last None = leaves (frame.Bye done) (Ok tt) last
answers last (Some message) = says (frame.Data message) (Some message.upto)

-- a parent that asks another history is refused
abbrev pub hears_ask : ℕ → (Ask → Option Data) → Option ℕ → Ask → Course (Option ℕ)
hears_ask id answer last ask = if ask.child == id then answers last (answer ask) else refuses BadFrame last

-- A parent that has all up to where the last Data ended is answered as if it had asked there. Before any Data it has
-- nothing, and after one no more than that.
abbrev pub hears_have : ℕ → (Ask → Option Data) → Option ℕ → ℕ → Course (Option ℕ)
hears_have id answer None had = refuses BadFrame None
hears_have id answer (Some upto) had =
    if had == upto then answers (Some upto) (answer (record { child = id; last = had })) else (if nat_lt had upto then nothing (Some upto) else refuses BadFrame (Some upto))

-- the parent goes
abbrev pub hears_bye : ℕ → Option ℕ → Course (Option ℕ)
hears_bye reason last =
    if reason == wrong_child then ends (Err (PeerRefused WrongChild)) last else (if reason == bad_frame then ends (Err (PeerRefused BadFrame)) last else refuses BadFrame last)

-- what a child with this id does that has these answers
abbrev pub child_does : ℕ → (Ask → Option Data) → Option ℕ → Frame → Course (Option ℕ)
child_does id answer last (frame.Ask ask) = hears_ask id answer last ask
child_does id answer last (frame.Have had) = hears_have id answer last had
child_does id answer last (frame.Bye reason) = hears_bye reason last
child_does id answer last f = refuses BadFrame last
