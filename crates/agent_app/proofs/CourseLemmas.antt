-- Runs on one host, one after the other: what they stored stays.
use Rattle.std.proofs.Common.{◌≡◌, ◌⊎◌, inl, inr, ℕ, ◌≤◌, Bool, true, false, List, [], ◌∷◌, length, drop, Option, Some, None, Err, sym, refl, ap, subst, ◌∙◌, append-nil, length-append, arith, true≢false}
use Rattle.std.proofs.Math.ListN.{drop_of_length-le}
use Rattle.std.specs.List.{Contains}
use Rattle.host_model.specs.declared.file.File.{File}
use Rattle.host_model.specs.declared.status.Status.{Status}
use Rattle.host_model.specs.declared.status.Status.TheVariants as status
use Rattle.host_model.specs.Disks.{EveryDisk, reads_as}
use Rattle.host_model.specs.Images.{Change, IsImage}
use Rattle.host_model.specs.Moments.{EveryCrash, Throughout}
use Rattle.host_model.specs.Past.{told, Event, IsDisk}
use Rattle.host_model.specs.Seen.{Seen}
use Rattle.host_model.specs.Source.{Takes}
use Rattle.host_model.specs.Cause.{Rose}
use Rattle.host_model.proofs.DiskLemmas.{untold}
use Rattle.host_model.proofs.MomentLemmas.{at_end, full_text, joined, weakened}
use Rattle.history.specs.History.{Beat, last}
use Rattle.tier_settings.specs.declared.settings.Settings.{Settings}
use Rattle.line_stream.proofs.RunLemmas.{Takes-none}
use Rattle.store_core.specs.Stands.{is_made}
use Rattle.store_core.proofs.StandLemmas.{stands-made}
use Rattle.agent_core.specs.Stands.{StandsForHistory, StandsForNew}
use Rattle.agent_core.specs.Calls.{ReadsAsBefore}
use Rattle.agent_core.specs.Notes.{NotesGo}
use Rattle.agent_core.proofs.NoteLemmas.{notes-made}
use Rattle.link_session.specs.declared.fault.SessionFault.TheVariants.{Memory}
use Rattle.link_session.specs.Keeps.{no_more, IsAckedUpTo, Keeps}
use Rattle.link_session.specs.Parent.{done_with, parent_begins, parent_does}
use Rattle.link_session.specs.Session.{Exchanges, LinkSeen}
use Rattle.link_session.proofs.AckLemmas.{acked-nothing, acked-since, acked-weaker, text-prefix, IsPrefix}
use Rattle.link_session.proofs.ExtendsLemmas.{extends-further, extends-length}
use Rattle.link_session.proofs.LinkLemmas.{sends-nothing}
use Rattle.agent_app.specs.declared.collect.Collector.{Collector}
use Rattle.agent_app.specs.Collect.{CollectsAll, CollectsOn, HasHeard, Outside}
use Rattle.agent_app.specs.Course.{asked, begun, collected, configured, converted, made_again, no_run, none_found, now_made, one_run, ran, received, sent, AreStored, Course, Database, Gives, HoldsDatabase, HoldsRuns, Input, MayGive, MayHaveMade, OfCollector, OfHealth, OfLink, OfSource, OneRun, WhereWhole}
use Rattle.agent_app.specs.Health.{history_with_health, ConfiguresAll, ConfiguresFrom}
use Rattle.agent_app.specs.New.{Makes}
use Rattle.agent_app.specs.Query.{Asks}
use Rattle.agent_app.specs.Receive.{ReceivesAll, ReceivesOn}
use Rattle.agent_app.specs.Run.{history_with_text, is_opened, is_whole, run_every, IsHostAsFound, OnceRead, RunsAll, RunsOn}
use Rattle.agent_app.specs.Send.{SendsAll}
use Rattle.agent_app.proofs.CollectLemmas.{heard-nothing}

-- a history is no database that is not there
made-held : (set : Settings) (h : List Beat) (disk : File → List ℕ) → StandsForHistory set h disk → is_made disk ≡ false → ⊥
made-held set h disk here unmade = true≢false (sym (stands-made here.stored disk here.stands) ∙ unmade)

abbrev ended_with : Status → Option Status
ended_with s = Some s

abbrev not_ended : Option Status
not_ended = None

some-same : (s t : Status) → ended_with s ≡ ended_with t → s ≡ t
some-same s t e = cc

none-some : (t : Status) → not_ended ≡ ended_with t → ⊥
none-some t e = cc

-- ---- a command that stores, whatever it has that from

-- on a database of this history it took this of its input
pub record StoresOn (s : Status) (input : Input) (set : Settings) (h0 : List Beat) (new read : List Event) : Type 0 where
  pub whole : List Beat
  pub gives : Gives input set h0 whole
  pub crashes : Throughout (EveryCrash (Keeps set h0 whole (told read))) read new
  pub ends : is_whole s ≡ true → EveryDisk (StandsForHistory set whole) new

-- nothing was taken of the input
abbrev pub GivesNothing : Input → Type 0
GivesNothing input = (set : Settings) (h : List Beat) → Gives input set h h

pub record IsRunOf (honest : Type 0) (s : Status) (input : Input) (host host' : Seen) : Type 0 where
  pub found : honest → (NotesGo true (reads_as host.past) → ⊥) → IsHostAsFound honest host host' × GivesNothing input
  pub unmade : honest → is_made (reads_as host.past) ≡ false → (s ≡ status.NotADatabase) ⊎ (s ≡ status.DiskFault) ⊎ (s ≡ status.Memory)
  pub resumes : honest → (set : Settings) (h0 : List Beat) → StandsForHistory set h0 (reads_as host.past) → OnceRead (StoresOn s input set h0 host'.past) (GivesNothing input) s host.past host'.past

-- it was once the database was read, or nothing was taken
once-by : (On On' : List Event → Type 0) (untaken untaken' : Type 0) (s : Status) (old new : List Event) → ((read : List Event) → On read → On' read) → (untaken → untaken') → OnceRead On untaken s old new → OnceRead On' untaken' s old new
once-by On On' untaken untaken' s old new on not once = record { read = once.read; before = once.before; silent = once.silent; after = by once.after }
  where
    by : On once.read ⊎ (((s ≡ status.DiskFault) ⊎ (s ≡ status.Memory)) × (new ≡ once.read) × untaken) → On' once.read ⊎ (((s ≡ status.DiskFault) ⊎ (s ≡ status.Memory)) × (new ≡ once.read) × untaken')
    by (inl then) = inl (on once.read then)
    by (inr (short, is, none)) = inr (short, is, not none)

-- of a link nothing was heard
abbrev unheard : (set : Settings) (h : List Beat) (link : LinkSeen) → Exchanges (parent_does set) (parent_begins h) (Err Memory) link link
unheard set h link = record {
  taken = [];
  takes = Takes-none link.left;
  within = omega arith;
  frames = [];
  rest = [];
  cut = record { found = []; handed = refl; frames = tt; spelt = refl };
  broken = None;
  breaks = tt;
  says = record { said = []; unsaid = []; whole = refl; sends = sends-nothing link.sent; complete = λ all. refl };
  why = tt;
  in_turn = λ n less. absurd (omega (arith, less));
}

link-nothing : (link link' : LinkSeen) → link' ≡ link → GivesNothing (OfLink link link')
link-nothing link link' same set h = subst (λ (l : LinkSeen). Gives (OfLink link l) set h h) (sym same) (Err Memory, unheard set h link, refl)

module _ (honest : Type 0) (host host' : Seen) where
  pub of-run : (s : Status) (left left' : Option (List ℕ)) (faults faults' : ℕ) → RunsAll honest s left left' faults faults' host host' → IsRunOf honest s (OfSource left left') host host'
  of-run s left left' faults faults' all = record {
    found = λ h none. let found = all.untaken h none in (found.host_is, nothing found.source.0);
    unmade = all.finds.unmade;
    resumes = λ h set h0 here. once-by _ (StoresOn s (OfSource left left') set h0 host'.past) (left' ≡ left) (GivesNothing (OfSource left left')) s host.past host'.past (by set h0) nothing (all.resumes h set h0 here);
  }
    where
      nothing : left' ≡ left → GivesNothing (OfSource left left')
      nothing same set h = ([], subst (Takes left []) (sym same) (Takes-none left), refl)

      by : (set : Settings) (h0 : List Beat) (read : List Event) → RunsOn s run_every set h0 left left' read host'.past (Rose faults faults') (Rose host.tell_faults host'.tell_faults) (Rose host.disk_faults host'.disk_faults) → StoresOn s (OfSource left left') set h0 host'.past read
      by set h0 read on = record { whole = history_with_text run_every h0 on.runs.taken; gives = (on.runs.taken, on.runs.takes, refl); crashes = on.runs.stores.crashes; ends = on.runs.stores.ends }

  pub of-collect : (collector : Collector) (s : Status) (outside outside' : Outside) → CollectsAll honest collector s outside outside' host host' → IsRunOf honest s (OfCollector collector outside outside') host host'
  of-collect collector s outside outside' all = record {
    found = λ h none. let found = all.untaken h none in (found.1, nothing found.0);
    unmade = all.finds.unmade;
    resumes = λ h set h0 here.
        once-by _ (StoresOn s (OfCollector collector outside outside') set h0 host'.past) (outside' ≡ outside) (GivesNothing (OfCollector collector outside outside')) s host.past host'.past (by set h0) nothing (all.resumes h set h0 here);
  }
    where
      nothing : outside' ≡ outside → GivesNothing (OfCollector collector outside outside')
      nothing same set h = ([], subst (λ (o : Outside). HasHeard collector (last h) outside o []) (sym same) (heard-nothing collector (last h) outside), refl)

      by : (set : Settings) (h0 : List Beat) (read : List Event) → CollectsOn s collector set h0 outside outside' read host'.past (Rose host.tell_faults host'.tell_faults) (Rose host.disk_faults host'.disk_faults) → StoresOn s (OfCollector collector outside outside') set h0 host'.past read
      by set h0 read on = record {
        whole = history_with_text collector.every h0 on.collects.taken;
        gives = (on.collects.taken, on.collects.heard, refl);
        crashes = on.collects.stores.crashes;
        ends = on.collects.stores.ends;
      }

  pub of-health : (s : Status) (left left' : Option (List ℕ)) (faults faults' : ℕ) → ConfiguresAll honest s left left' faults faults' host host' → IsRunOf honest s (OfHealth left left') host host'
  of-health s left left' faults faults' all = record {
    found = λ h none. let found = all.untaken h none in (found.host_is, nothing found.source.0);
    unmade = all.finds.unmade;
    resumes = λ h set h0 here. once-by _ (StoresOn s (OfHealth left left') set h0 host'.past) (left' ≡ left) (GivesNothing (OfHealth left left')) s host.past host'.past (by set h0) nothing (all.resumes h set h0 here);
  }
    where
      nothing : left' ≡ left → GivesNothing (OfHealth left left')
      nothing same set h = ([], false, subst (Takes left []) (sym same) (Takes-none left), (λ e. absurd (true≢false (sym e))), refl)

      by : (set : Settings) (h0 : List Beat) (read : List Event) → ConfiguresFrom s set h0 left left' read host'.past (Rose faults faults') (Rose host.tell_faults host'.tell_faults) (Rose host.disk_faults host'.disk_faults) → StoresOn s (OfHealth left left') set h0 host'.past read
      by set h0 read on =
          let configures = on.configures in
          record {
            whole = history_with_health h0 configures.ended configures.taken;
            gives = (configures.taken, configures.ended, configures.takes, (λ e. (configures.at_end e).1), refl);
            crashes = configures.at.crashes;
            ends = configures.at.ends;
          }

  pub of-receive : (s : Status) (link link' : LinkSeen) → ReceivesAll honest s link link' host host' → IsRunOf honest s (OfLink link link') host host'
  of-receive s link link' all = record {
    found = λ h none. let found = all.untaken h none in (found.1, link-nothing link link' found.0);
    unmade = all.finds.unmade;
    resumes = λ h set h0 here.
        once-by _ (StoresOn s (OfLink link link') set h0 host'.past) (link' ≡ link) (GivesNothing (OfLink link link')) s host.past host'.past (by set h0) (link-nothing link link') (all.resumes h set h0 here);
  }
    where
      by : (set : Settings) (h0 : List Beat) (read : List Event) → ReceivesOn s set h0 link link' read host'.past → StoresOn s (OfLink link link') set h0 host'.past read
      by set h0 read on = record {
        whole = (done_with set h0 on.receives.exchanges.frames).now.history;
        gives = (on.receives.result, on.receives.exchanges, refl);
        crashes = on.receives.crashes;
        ends = on.receives.ends;
      }

module _ (starts : List (Option Database)) (tried : List Settings) (runs : List OneRun) (honest : Type 0) (h : honest) (host host' : Seen)
    (held : EveryDisk (HoldsRuns starts tried runs) host.past) (first : IsDisk host.past (reads_as host.past))
    (s : Status) (input : Input) (all : IsRunOf honest s input host host') where
  -- the run, which has ended so, or has not, when this may have been told
  abbrev run_as : Option Status → List ℕ → OneRun
  run_as ended text = record { status = ended; input = input; text = drop (length (told host.past)) text }

  -- a disk that holds what the runs stored
  abbrev Stored : Option Status → (File → List ℕ) → List ℕ → Type 0
  Stored ended disk text = HoldsRuns starts tried (run_as ended text ∷ runs) disk

  read-as : HoldsRuns starts tried runs (reads_as host.past)
  read-as = held (reads_as host.past) first

  -- where the run has stored and told nothing
  unchanged : (ended : Option Status) → GivesNothing input ⊎ (ended ≡ None) → ((t : Status) → ended ≡ Some t → is_opened t ≡ false)
      → (disk : File → List ℕ) (text : List ℕ) → IsDisk host.past disk → IsPrefix text (told host.past) → Stored ended disk text
  unchanged ended nothing unopened disk text images prefix = by here.stored here.are here.holds
    where
      here : HoldsRuns starts tried runs disk
      here = held disk images

      given : GivesNothing input ⊎ (ended ≡ None) → (set : Settings) (before : List Beat) → MayGive (run_as ended text) set before before
      given (inl gives) set before = inl (gives set before)
      given (inr is) set before = inr (is, refl)

      by : (o : Option Database) → AreStored tried here.start runs o → HoldsDatabase o disk → Stored ended disk text
      by None are holds =
          let short : length text ≤ length (told host.past) = omega (arith, ap length prefix.whole, length-append text prefix.more) in
          record { start = here.start; among = here.among; stored = None; are = none_found runs (run_as ended text) are unopened (drop_of_length-le text short); holds = holds }
      by (Some base) are holds =
          let before = base.history in
          let acked = acked-since (length before) (told host.past) [] text prefix.more (prefix.whole ∙ sym (append-nil (told host.past))) (acked-nothing (length before)) in
          record {
            start = here.start;
            among = here.among;
            stored = Some (record { settings = base.settings; history = before });
            are = one_run runs (run_as ended text) base before before are (given nothing base.settings before) no_more no_more (λ t is all. refl) acked;
            holds = holds;
          }

  -- ---- there was no database
  module _ (unmade : is_made (reads_as host.past) ≡ false) where
    found : IsHostAsFound honest host host' × GivesNothing input
    found = all.found h (λ notes. true≢false (sym (notes-made true (reads_as host.past) notes) ∙ unmade))

    not-opened : (t : Status) → Some s ≡ Some t → is_opened t ≡ false
    not-opened t is = by (all.unmade h unmade)
      where
        same : s ≡ t
        same = some-same s t is

        by : (s ≡ status.NotADatabase) ⊎ (s ≡ status.DiskFault) ⊎ (s ≡ status.Memory) → is_opened t ≡ false
        by (inl is) = ap is_opened (sym same ∙ is)
        by (inr (inl is)) = ap is_opened (sym same ∙ is)
        by (inr (inr is)) = ap is_opened (sym same ∙ is)

    moments-none : Throughout (EveryCrash (Stored None)) host.past host'.past
    moments-none =
        untold (found.0.output h)
        (λ disk text images by_then. unchanged None (inl found.1) (λ t is. absurd (none-some t is)) disk text images (text-prefix host.past text by_then)) (found.0.any_moment h)

    end-none : EveryDisk (λ disk. Stored (Some s) disk (told host'.past)) host'.past
    end-none disk images =
        unchanged (Some s) (inl found.1) not-opened disk (told host'.past) (at_end (found.0.any_moment h) disk images)
        (record { more = []; whole = append-nil (told host'.past) ∙ found.0.output h })

  -- ---- there was one of this history
  module _ (start : Option Database) (among : Contains starts start) (base : Database) (are : AreStored tried start runs (Some base))
      (stands : StandsForHistory base.settings base.history (reads_as host.past)) where
    abbrev set : Settings
    set = base.settings

    abbrev earlier : List Beat
    earlier = base.history

    abbrev OnIt : List Event → Type 0
    OnIt = StoresOn s input set earlier host'.past

    run : OnceRead OnIt (GivesNothing input) s host.past host'.past
    run = all.resumes h set earlier stands

    -- a crash before the database was read: the run had taken nothing
    opening : Throughout (EveryCrash (Stored None)) host.past run.read
    opening =
        untold run.silent
        (λ disk text images by_then. unchanged None (inr refl) (λ t is. absurd (none-some t is)) disk text images (text-prefix host.past text by_then)) run.before

    once-read : (ended : Option Status) (whole : List Beat) → Gives input set earlier whole → (disk : File → List ℕ) (text : List ℕ) → (keeps : Keeps set earlier whole (told run.read) disk text)
        → WhereWhole (run_as ended text) (keeps.stored ≡ whole) → Stored ended disk text
    once-read ended whole gives disk text keeps all =
        let acked = subst (λ (first : List ℕ). IsAckedUpTo (length keeps.stored) (drop (length first) text)) run.silent keeps.acked in
        record {
          start = start;
          among = among;
          stored = Some (record { settings = set; history = keeps.stored });
          are = one_run runs (run_as ended text) base keeps.stored whole are (inl gives) keeps.since keeps.within all acked;
          holds = keeps.stands;
        }

    moments-some : Throughout (EveryCrash (Stored None)) host.past host'.past
    moments-some = by run.after
      where
        by : OnIt run.read ⊎ (((s ≡ status.DiskFault) ⊎ (s ≡ status.Memory)) × (host'.past ≡ run.read) × GivesNothing input) → Throughout (EveryCrash (Stored None)) host.past host'.past
        by (inl on) =
            joined opening
            (weakened (λ now keeps disk text images told_by. once-read None on.whole on.gives disk text (keeps disk text images told_by) (λ t is. absurd (none-some t is))) on.crashes)
        by (inr (short, is, none)) = subst (Throughout (EveryCrash (Stored None)) host.past) (sym is) opening

    -- the run on it ended
    end-on : OnIt run.read → EveryDisk (λ disk. Stored (Some s) disk (told host'.past)) host'.past
    end-on on disk images = by (is_whole s) refl
      where
        keeps : Keeps set earlier on.whole (told run.read) disk (told host'.past)
        keeps = at_end on.crashes disk (told host'.past) images (full_text host'.past (told host'.past) refl)

        by : (whole : Bool) → is_whole s ≡ whole → Stored (Some s) disk (told host'.past)
        by false part =
            once-read (Some s) on.whole on.gives disk (told host'.past) keeps
            (λ t is all. absurd (true≢false (sym all ∙ sym (ap is_whole (some-same s t is)) ∙ part)))
        by true all =
            once-read (Some s) on.whole on.gives disk (told host'.past)
            (record {
              stored = on.whole;
              since = extends-further earlier keeps.stored on.whole keeps.since keeps.within;
              within = no_more;
              stands = on.ends all disk images;
              acked = acked-weaker (length keeps.stored) (length on.whole) (drop (length (told run.read)) (told host'.past)) (extends-length keeps.stored on.whole keeps.within) keeps.acked;
            }) (λ t is whole. refl)

    -- it ended before the database was read
    end-unread : ((s ≡ status.DiskFault) ⊎ (s ≡ status.Memory)) → host'.past ≡ run.read → GivesNothing input → EveryDisk (λ disk. Stored (Some s) disk (told host'.past)) host'.past
    end-unread short is none disk images =
        unchanged (Some s) (inl none) (λ t there. sym (ap is_opened (some-same s t there)) ∙ unopened short) disk (told host'.past)
        (at_end run.before disk (subst (λ (p : List Event). IsDisk p disk) is images))
        (record { more = []; whole = append-nil (told host'.past) ∙ ap told is ∙ run.silent })
      where
        unopened : ((s ≡ status.DiskFault) ⊎ (s ≡ status.Memory)) → is_opened s ≡ false
        unopened (inl is) = ap is_opened is
        unopened (inr is) = ap is_opened is

    end-some : EveryDisk (λ disk. Stored (Some s) disk (told host'.past)) host'.past
    end-some = by run.after
      where
        by : OnIt run.read ⊎ (((s ≡ status.DiskFault) ⊎ (s ≡ status.Memory)) × (host'.past ≡ run.read) × GivesNothing input) → EveryDisk (λ disk. Stored (Some s) disk (told host'.past)) host'.past
        by (inl on) = end-on on
        by (inr (short, is, none)) = end-unread short is none

  pub course-moments : Throughout (EveryCrash (Stored None)) host.past host'.past
  course-moments = by read-as.stored read-as.are read-as.holds
    where
      by : (o : Option Database) → AreStored tried read-as.start runs o → HoldsDatabase o (reads_as host.past) → Throughout (EveryCrash (Stored None)) host.past host'.past
      by None are holds = moments-none holds
      by (Some base) are holds = moments-some read-as.start read-as.among base are holds

  pub course-end : EveryDisk (λ disk. Stored (Some s) disk (told host'.past)) host'.past
  course-end = by read-as.stored read-as.are read-as.holds
    where
      by : (o : Option Database) → AreStored tried read-as.start runs o → HoldsDatabase o (reads_as host.past) → EveryDisk (λ disk. Stored (Some s) disk (told host'.past)) host'.past
      by None are holds = end-none holds
      by (Some base) are holds = end-some read-as.start read-as.among base are holds

-- `new` was tried
module _ (starts : List (Option Database)) (tried : List Settings) (runs : List OneRun) (honest : Type 0) (h : honest) (host host' : Seen)
    (held : EveryDisk (HoldsRuns starts tried runs) host.past) (first : IsDisk host.past (reads_as host.past))
    (set : Settings) (s : Status) (makes : Makes honest set s host host') where
  abbrev Moments : Type 0
  Moments = Throughout (EveryDisk (HoldsRuns starts tried runs)) host.past host'.past

  -- there was no database
  module _ (unmade : is_made (reads_as host.past) ≡ false) where
    read-none : HoldsRuns starts tried runs (reads_as host.past)
    read-none = held (reads_as host.past) first

    none-stored : AreStored tried read-none.start runs None
    none-stored = by read-none.stored read-none.are read-none.holds
      where
        by : (o : Option Database) → AreStored tried read-none.start runs o → HoldsDatabase o (reads_as host.past) → AreStored tried read-none.start runs None
        by None are holds = are
        by (Some base) are holds = absurd (made-held base.settings base.history (reads_as host.past) holds unmade)

    -- and it may have made one
    new-holds : Contains tried set → (disk : File → List ℕ) → IsDisk host.past disk ⊎ StandsForNew set disk → HoldsRuns starts tried runs disk
    new-holds of disk (inl was) = held disk was
    new-holds of disk (inr (inl none)) = record { start = read-none.start; among = read-none.among; stored = None; are = none-stored; holds = none }
    new-holds of disk (inr (inr stands)) = record {
      start = read-none.start;
      among = read-none.among;
      stored = Some (record { settings = set; history = [] });
      are = now_made runs set of none-stored;
      holds = stands;
    }

    new-moments : Contains tried set → Moments
    new-moments of = weakened (λ past left disk images. new-holds of disk (left disk images)) (makes.any_moment h)

  -- whatever moment a crash comes at
  pub course-new : (MayHaveMade s host → Contains tried set) → Moments
  course-new known = by (is_made (reads_as host.past)) refl
    where
      by : (b : Bool) → is_made (reads_as host.past) ≡ b → Moments
      by true there = weakened (λ past was disk images. held disk (was disk images)) (makes.made_moment h there)
      by false unmade = which makes.statuses
        where
          which : (s ≡ status.Ok) ⊎ (s ≡ status.Exists) ⊎ (s ≡ status.DiskFault) ⊎ (s ≡ status.Memory) → Moments
          which (inl is) = new-moments unmade (known (inl is))
          which (inr (inl is)) = absurd (true≢false (sym (makes.exists is h) ∙ unmade))
          which (inr (inr (inl is))) = new-moments unmade (known (inr (is, unmade)))
          which (inr (inr (inr is))) = weakened (λ past was disk images. held disk (was disk images)) (makes.memory_moment is h)

  -- and where none comes before it ends
  pub course-made : (MayHaveMade s host → Contains tried set) → EveryDisk (HoldsRuns starts tried runs) host'.past
  course-made known = by (is_made (reads_as host.past)) refl
    where
      -- nothing is written
      stays : ReadsAsBefore host.past host'.past → EveryDisk (HoldsRuns starts tried runs) host'.past
      stays same disk images = held disk (same.disks disk images)

      by : (b : Bool) → is_made (reads_as host.past) ≡ b → EveryDisk (HoldsRuns starts tried runs) host'.past
      by true there = stays (makes.made h there).1
      by false unmade = which makes.statuses
        where
          which : (s ≡ status.Ok) ⊎ (s ≡ status.Exists) ⊎ (s ≡ status.DiskFault) ⊎ (s ≡ status.Memory) → EveryDisk (HoldsRuns starts tried runs) host'.past
          which (inl is) = at_end (new-moments unmade (known (inl is)))
          which (inr (inl is)) = absurd (true≢false (sym (makes.exists is h) ∙ unmade))
          which (inr (inr (inl is))) = at_end (new-moments unmade (known (inr (is, unmade))))
          which (inr (inr (inr is))) = stays (makes.memory is h)

-- a question was asked
pub course-asked : (starts : List (Option Database)) (tried : List Settings) (runs : List OneRun) (honest : Type 0) → honest → (host host' : Seen) → EveryDisk (HoldsRuns starts tried runs) host.past → (answer : Settings → List Beat → List ℕ) (s : Status)
    → Asks honest answer s host host' → Throughout (EveryDisk (HoldsRuns starts tried runs)) host.past host'.past
course-asked starts tried runs honest h host host' held answer s asks = weakened (λ past before disk images. held disk (before disk images)) (asks.any_moment h)

-- copies were sent to a parent
pub course-sent : (starts : List (Option Database)) (tried : List Settings) (runs : List OneRun) (honest : Type 0) → honest → (host host' : Seen) → EveryDisk (HoldsRuns starts tried runs) host.past → (s : Status) (link link' : LinkSeen)
    → SendsAll honest s link link' host host' → Throughout (EveryDisk (HoldsRuns starts tried runs)) host.past host'.past
course-sent starts tried runs honest h host host' held s link link' sends = weakened (λ past before disk images. held disk (before disk images)) (sends.host_is.any_moment h)

module _ {H : Type 0} (honest : Type 0) (seen : H → Seen) (starts : List (Option Database)) (tried : List Settings) (first : (host : H) → honest → IsDisk (seen host).past (reads_as (seen host).past)) (h : honest) where
  pub course-kept : (runs : List OneRun) (host : H) → Course honest seen starts tried runs host → EveryDisk (HoldsRuns starts tried runs) (seen host).past
  course-kept runs host (begun begin holds) = λ disk images.
      let here = holds disk images in
      record { start = here.start; among = here.among; stored = here.start; are = no_run; holds = here.holds }
  course-kept runs host (ran before begin end s left left' sf sf' course run) =
      course-end starts tried before honest h (seen begin) (seen host) (course-kept before begin course) (first begin h) s (OfSource left left')
      (of-run honest (seen begin) (seen host) s left left' sf sf' run)
  course-kept runs host (collected before begin end collector s outside outside' course run) =
      course-end starts tried before honest h (seen begin) (seen host) (course-kept before begin course) (first begin h) s (OfCollector collector outside outside')
      (of-collect honest (seen begin) (seen host) collector s outside outside' run)
  course-kept runs host (configured before begin end s left left' sf sf' course run) =
      course-end starts tried before honest h (seen begin) (seen host) (course-kept before begin course) (first begin h) s (OfHealth left left')
      (of-health honest (seen begin) (seen host) s left left' sf sf' run)
  course-kept runs host (received before begin end s link link' course run) =
      course-end starts tried before honest h (seen begin) (seen host) (course-kept before begin course) (first begin h) s (OfLink link link')
      (of-receive honest (seen begin) (seen host) s link link' run)
  course-kept runs host (sent before begin end s link link' course sends) =
      at_end (course-sent starts tried runs honest h (seen begin) (seen host) (course-kept runs begin course) s link link' sends)
  course-kept runs host (converted before begin end course leaves) = λ disk images.
      course-kept runs begin course disk (λ file. subst (λ (changes : List Change). IsImage changes (disk file)) (at_end (leaves.any_moment h) file) (images file))
  course-kept runs host (asked before begin end answer s course asks) =
      at_end (course-asked starts tried runs honest h (seen begin) (seen host) (course-kept runs begin course) answer s asks)
  course-kept runs host (made_again before begin end set s course known makes) =
      course-made starts tried runs honest h (seen begin) (seen host) (course-kept runs begin course) (first begin h) set s makes known
