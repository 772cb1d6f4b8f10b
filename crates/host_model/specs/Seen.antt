use Rattle.std.specs.Prelude.{ℕ, List}
use Rattle.host_model.specs.Past.{Event}

-- What contracts see of a host. Each count stands still at 2^64 - 1.
pub record Seen : Type 0 where
  -- the events so far, the newest first; they are known of an honest host alone
  pub past : List Event
  -- how many calls on the disk have failed
  pub disk_faults : ℕ
  -- how many calls of `tell` have failed
  pub tell_faults : ℕ
  -- how many calls of `read` were made
  pub reads : ℕ
