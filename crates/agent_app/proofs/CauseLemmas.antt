-- Counts of failures, from call to call, and the statuses of a failure outside.
use Rattle.std.proofs.Common.{◌≡◌, ℕ, Bool, true, false, Result, Ok, Err, refl, sym, ap, subst, ◌∙◌, arith, true≢false, if◌then◌else◌}
use Rattle.host_model.specs.Cause.{HasCause}
use Rattle.host_model.specs.Seen.{Seen}
use Rattle.host_model.specs.declared.status.Status.{Status}
use Rattle.host_model.specs.declared.status.Status.TheVariants.{Refused, Limit, ReadFault, TellFault, DiskFault}
use Rattle.plugin_text.specs.declared.refusal.Refusal.{Refusal}
use Rattle.plugin_text.specs.Refusal.{refusal_number}
use Rattle.agent_app.specs.Convert.{ending_status, is_limit, refusal_status}
use Rattle.agent_app.specs.Reading.{Ending, Ends, GoesOn, RefusedAt}
use Rattle.agent_app.specs.Running.{Counts}

-- ---- one count
module _ (old new : ℕ) where
  -- it stayed, and nothing failed
  pub stayed : (Failure : Type 0) → new ≡ old → (Failure → ⊥) → HasCause old new Failure
  stayed Failure same never = record { later = omega (arith, same); failed = λ it. absurd (never it); stays = λ _. same }

  -- where nothing fails it stays
  pub stays-so : HasCause old new ⊥ → new ≡ old
  stays-so cause = cause.stays (λ never. never)

  -- the failure in other words
  pub cause-as : (Failure Other : Type 0) → (Other → Failure) → (Failure → Other) → HasCause old new Failure → HasCause old new Other
  cause-as Failure Other back on cause = record { later = cause.later; failed = λ it. cause.failed (back it); stays = λ none. cause.stays (λ it. none (on it)) }

-- a call before left it as it was
pub stayed-before : (old middle new : ℕ) (Failure : Type 0) → middle ≡ old → HasCause middle new Failure → HasCause old new Failure
stayed-before old middle new Failure same cause = subst (λ (n : ℕ). HasCause n new Failure) same cause

-- a call behind did
pub stayed-behind : (old middle new : ℕ) (Failure : Type 0) → new ≡ middle → HasCause old middle Failure → HasCause old new Failure
stayed-behind old middle new Failure same cause = subst (λ (n : ℕ). HasCause old n Failure) (sym same) cause

-- ---- the counts of the output and of the disk
pub same-counts : (host : Seen) (tell disk : Type 0) → (tell → ⊥) → (disk → ⊥) → Counts host host tell disk
same-counts host tell disk no_tell no_disk = record {
  tells = stayed host.tell_faults host.tell_faults tell refl no_tell;
  disk = stayed host.disk_faults host.disk_faults disk refl no_disk;
}

-- a call before left both as they were
pub both-counts : (first middle last : Seen) (tell disk : Type 0) → Counts first middle ⊥ ⊥ → Counts middle last tell disk → Counts first last tell disk
both-counts first middle last tell disk before after = record {
  tells = stayed-before first.tell_faults middle.tell_faults last.tell_faults tell (stays-so first.tell_faults middle.tell_faults before.tells) after.tells;
  disk = stayed-before first.disk_faults middle.disk_faults last.disk_faults disk (stays-so first.disk_faults middle.disk_faults before.disk) after.disk;
}

pub counts-as : (host host' : Seen) (tell disk tell' disk' : Type 0) → (tell' → tell) → (tell → tell') → (disk' → disk) → (disk → disk') → Counts host host' tell disk → Counts host host' tell' disk'
counts-as host host' tell disk tell' disk' tell_back tell_on disk_back disk_on counts = record {
  tells = cause-as host.tell_faults host'.tell_faults tell tell' tell_back tell_on counts.tells;
  disk = cause-as host.disk_faults host'.disk_faults disk disk' disk_back disk_on counts.disk;
}

-- both stayed, and neither part failed
pub counts-none : (host host' : Seen) (tell disk : Type 0) → (tell → ⊥) → (disk → ⊥) → Counts host host' ⊥ ⊥ → Counts host host' tell disk
counts-none host host' tell disk no_tell no_disk = counts-as host host' ⊥ ⊥ tell disk no_tell (λ never. absurd never) no_disk (λ never. absurd never)

-- ---- what a line answers
abbrev pub went_on : Result (Unit {0}) Status
went_on = Ok tt

abbrev pub ended_so : Status → Result (Unit {0}) Status
ended_so status = Err status

pub ended-as : (a b : Status) → ended_so a ≡ ended_so b → a ≡ b
ended-as a b e = cc

module _ (host host' : Seen) where
  -- of a line that was taken
  abbrev GoingCounts : Type 0
  GoingCounts = Counts host host' (went_on ≡ ended_so TellFault) (went_on ≡ ended_so DiskFault)

  pub going-counts : Counts host host' ⊥ ⊥ → GoingCounts
  going-counts = counts-none host host' (went_on ≡ ended_so TellFault) (went_on ≡ ended_so DiskFault) (λ e. cc) (λ e. cc)

  pub gone-counts : GoingCounts → Counts host host' ⊥ ⊥
  gone-counts =
      counts-as host host' (went_on ≡ ended_so TellFault) (went_on ≡ ended_so DiskFault) ⊥ ⊥ (λ never. absurd never) (λ e. cc) (λ never. absurd never) (λ e. cc)

  -- of one that ended the run
  module _ (status : Status) where
    abbrev EndedCounts : Type 0
    EndedCounts = Counts host host' (ended_so status ≡ ended_so TellFault) (ended_so status ≡ ended_so DiskFault)

    abbrev StatusCounts : Type 0
    StatusCounts = Counts host host' (status ≡ TellFault) (status ≡ DiskFault)

    pub ended-counts : StatusCounts → EndedCounts
    ended-counts =
        counts-as host host' (status ≡ TellFault) (status ≡ DiskFault) (ended_so status ≡ ended_so TellFault) (ended_so status ≡ ended_so DiskFault)
        (ended-as status TellFault) (λ e. ap ended_so e) (ended-as status DiskFault) (λ e. ap ended_so e)

    pub status-counts : EndedCounts → StatusCounts
    status-counts =
        counts-as host host' (ended_so status ≡ ended_so TellFault) (ended_so status ≡ ended_so DiskFault) (status ≡ TellFault) (status ≡ DiskFault)
        (λ e. ap ended_so e) (ended-as status TellFault) (λ e. ap ended_so e) (ended-as status DiskFault)

-- ---- statuses
-- the statuses of a failure outside
abbrev pub is_outside : Status → Bool
is_outside ReadFault = true
is_outside TellFault = true
is_outside DiskFault = true
is_outside status = false

pub apart : (status fault : Status) → is_outside status ≡ false → is_outside fault ≡ true → status ≡ fault → ⊥
apart status fault inside outside is = true≢false (sym outside ∙ sym (ap is_outside is) ∙ inside)

pub refusal-inside : (line : ℕ) (why : Refusal) → is_outside (refusal_status line why) ≡ false
refusal-inside line why = by (is_limit why)
  where
    by : (limit : Bool) → is_outside (if limit then Limit line (refusal_number why) else Refused line (refusal_number why)) ≡ false
    by true = refl
    by false = refl

pub ending-inside : (ending : Ending Refusal) → is_outside (ending_status ending) ≡ false
ending-inside GoesOn = refl
ending-inside Ends = refl
ending-inside (RefusedAt line why) = refusal-inside line why
