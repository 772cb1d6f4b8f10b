use Rattle.std.specs.Prelude.{◌≡◌, ℕ, List, [], ◌∷◌, fold, slice_index_or}
use Rattle.host_model.specs.declared.file.File.{File}
use Rattle.host_model.specs.declared.entry.Entry.{Entry}
use Rattle.host_model.specs.declared.entry.Entry.TheVariants.{Write, FailedWrite, CutTo, FailedCutTo, Sync, Tell}
use Rattle.host_model.specs.Images.{Synced, contents}
use Rattle.host_model.specs.Past.{Event, On, Told, file_number, of}
use Rattle.host_model.specs.HostState.{write_event, failed_write_event, cut_event, failed_cut_event}

-- the event that an entry of the record stands for, after this past
abbrev pub event_of : List Event → Entry → Event
event_of past (Write file at bytes) = write_event file at bytes past
event_of past (FailedWrite file at size) = failed_write_event file at size past
event_of past (CutTo file len) = cut_event file len past
event_of past (FailedCutTo file len) = failed_cut_event file len past
event_of past (Sync file) = On file Synced
event_of past (Tell bytes) = Told bytes

-- the past that a record stands for, whose oldest entry is its first
abbrev pub past_of : List Entry → List Event
past_of = fold (λ past entry. event_of past entry ∷ past) []

-- an entry that changes neither what a file reads as nor what was told
abbrev pub IsQuiet : Entry → Type 0
IsQuiet (Write file at bytes) = ⊥
IsQuiet (FailedWrite file at size) = Unit {0}
IsQuiet (CutTo file len) = ⊥
IsQuiet (FailedCutTo file len) = Unit {0}
IsQuiet (Sync file) = Unit {0}
IsQuiet (Tell bytes) = ⊥

-- what a file reads as, where the files stand in the order of their numbers
abbrev pub file_in : List (List ℕ) → File → List ℕ
file_in disk file = slice_index_or disk (file_number file) []

-- the disk reads as this past says
abbrev pub KeepsDisk : List (List ℕ) → List Event → Type 0
KeepsDisk disk past = (file : File) → file_in disk file ≡ contents (of file past)
