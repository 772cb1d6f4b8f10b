use Rattle.std.specs.Prelude.{ℕ, ◌≤◌, ◌⊎◌, List, [], length, take, Option, IsSomeAnd, Contains}
use Rattle.host_model.specs.declared.file.File.{File}
use Rattle.host_model.specs.Images.{Wrote, Cut, contents, written}
use Rattle.host_model.specs.Past.{Event, On, of}
use Rattle.host_model.specs.Calls.{raised}
use Rattle.host_model.specs.Seen.{Seen}

-- a host that tells what it has been through, and which of its calls fail
pub record HostState : Type 0 where
  -- the events so far, the newest first
  pub past : List Event
  -- how many calls were made: the next call has this number
  pub calls : ℕ
  -- the numbers of calls that fail
  pub fails : List ℕ
  -- the number from which on all calls fail
  pub fuse : Option ℕ
  -- how many calls on the disk have failed
  pub disk_faults : ℕ
  -- how many calls of `tell` have failed
  pub tell_faults : ℕ
  -- how many calls of `read` were made
  pub reads : ℕ
  -- how many calls have failed because memory was refused
  pub refusals : ℕ

-- what contracts see of such a host
abbrev pub seen_of : HostState → Seen
seen_of host = record { past = host.past; disk_faults = host.disk_faults; tell_faults = host.tell_faults; reads = host.reads }

-- a host before its first call
abbrev pub new_host : List ℕ → Option ℕ → HostState
new_host fails fuse = record {
  past = [];
  calls = 0;
  fails = fails;
  fuse = fuse;
  disk_faults = 0;
  tell_faults = 0;
  reads = 0;
  refusals = 0;
}

-- the next call is to fail
abbrev pub FailsNext : HostState → Type 0
FailsNext host = Contains host.fails host.calls ⊎ IsSomeAnd host.fuse (λ first. first ≤ host.calls)

-- after a call that did what it was asked to do, and left this past
abbrev pub after_call : HostState → List Event → HostState
after_call host past = record host { past = past; calls = raised host.calls }

-- after a call on the disk that was to fail, and left this past
abbrev pub after_disk_fault : HostState → List Event → HostState
after_disk_fault host past = record host { past = past; calls = raised host.calls; disk_faults = raised host.disk_faults }

-- after a call on the disk to which memory was refused
abbrev pub after_disk_refusal : HostState → HostState
after_disk_refusal host = record host { calls = raised host.calls; disk_faults = raised host.disk_faults; refusals = raised host.refusals }

-- after a call of `tell` that was to fail
abbrev pub after_tell_fault : HostState → HostState
after_tell_fault host = record host { calls = raised host.calls; tell_faults = raised host.tell_faults }

-- after a call of `tell` to which memory was refused
abbrev pub after_tell_refusal : HostState → HostState
after_tell_refusal host = record host { calls = raised host.calls; tell_faults = raised host.tell_faults; refusals = raised host.refusals }

-- after a read
abbrev pub after_read : HostState → HostState
after_read host = record host { reads = raised host.reads }

-- a write
abbrev pub write_event : File → ℕ → List ℕ → List Event → Event
write_event file at bytes past = On file (Wrote at (length bytes) (written (contents (of file past)) at bytes))

-- a write that failed and put no byte down: its range may hold anything after a crash
abbrev pub failed_write_event : File → ℕ → ℕ → List Event → Event
failed_write_event file at size past = On file (Wrote at size (contents (of file past)))

-- a cut
abbrev pub cut_event : File → ℕ → List Event → Event
cut_event file len past = On file (Cut len (take len (contents (of file past))))

-- a cut that failed and took no byte away
abbrev pub failed_cut_event : File → ℕ → List Event → Event
failed_cut_event file len past = On file (Cut len (contents (of file past)))
