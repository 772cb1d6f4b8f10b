-- The body of a database of no beats.
use Rattle.std.specs.Prelude.{ℕ, List, []}
use Rattle.checkpoint_body.specs.declared.body.Body.{Body}
use Rattle.checkpoint_body.specs.declared.body.PointTier.{PointTier}
use Rattle.checkpoint_body.specs.declared.body.RecordTier.{RecordTier}
use Rattle.tier_settings.specs.declared.settings.Settings.{Settings}

abbrev pub no_points : PointTier
no_points = record { floor = 0; before = 0; sealed = 0; extents = []; pages = [] }

abbrev pub no_records : RecordTier
no_records = record { floor = 0; sealed = 0; extents = []; open_records = []; pages = [] }

-- with these settings, and this beside the tiers
abbrev pub first_body : Settings → List ℕ → Body
first_body settings side = record {
  settings = settings;
  count = 0;
  last = 0;
  points = no_points;
  minutes = no_records;
  hours = no_records;
  side = side;
}
