-- What the writing of segments leaves alone.
use Rattle.std.specs.Prelude.{◌≡◌, ◌⊎◌, ◌<◌, [], List}
use Rattle.host_model.specs.declared.file.File.{File}
use Rattle.host_model.specs.Past.{Event, file_number, of, told}
use Rattle.checkpoint_body.specs.declared.body.Body.{Body}
use Rattle.store_core.specs.disk.Holds.{IsForeign}

-- a file in which no extents lie
abbrev pub IsNoTier : File → Type 0
IsNoTier file = (file_number file < 4) ⊎ IsForeign file

-- nothing happened to a file in which no extents lie, and nothing was told
pub record OnlyTiers (old new : List Event) : Type 0 where
  pub others : (file : File) → IsNoTier file → of file new ≡ of file old
  pub output : told new ≡ told old

-- the body names no extent
pub record NamesNone (body : Body) : Type 0 where
  pub points : body.points.extents ≡ []
  pub minutes : body.minutes.extents ≡ []
  pub hours : body.hours.extents ≡ []
