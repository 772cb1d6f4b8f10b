-- What a database has stored: what its checkpoint has of the beats up to it, and the beats since. A list of beats has the
-- newest first.
use Rattle.std.specs.Prelude.{◌≡◌, ℕ, ◌+◌, ◌-◌, ◌^◌, Bool, true, false, ◌||◌, nat_lt, if◌then◌else◌, List, [], ◌∷◌, length, map, Option, Some, None}
use Rattle.std.specs.List.{list_any}
use Rattle.std.specs.Option.{is_some}
use Rattle.beat_tiers.specs.Beats.{TierBeat}
use Rattle.beat_tiers.specs.Sound.{after_beats}
use Rattle.beat_tiers.specs.State.{RecordTierState, TiersState, no_beats}
use Rattle.tier_settings.specs.declared.settings.Settings.{Settings}
use Rattle.tier_settings.specs.Settings.{first_tier, other_tiers}
use Rattle.store_core.specs.bodies.Next.{sealed_after}
use Rattle.store_core.specs.declared.beats.beat.Beat.{Beat}
use Rattle.store_core.specs.beats.Beats.{InForm}
use Rattle.store_core.specs.beats.Records.{is_later, with_all}
use Rattle.store_core.specs.Counts.{counted}
use Rattle.store_core.specs.Tiers.{seen, HasTiers}

-- what a checkpoint has of all beats up to it
pub record Base : Type 0 where
  -- how many checkpoints there were before it
  pub number : ℕ
  pub settings : Settings
  -- how many beats there were
  pub count : ℕ
  -- what the tiers keep of them
  pub tiers : TiersState
  -- what the layer above keeps of them, in bytes of its own
  pub side : List ℕ

-- the base is what these beats leave, as tiers see them
pub record IsBaseOf (set : Settings) (beats : List TierBeat) (base : Base) : Type 0 where
  pub settings : base.settings ≡ set
  pub count : base.count ≡ counted (length beats)
  pub tiers : HasTiers set beats base.tiers

pub record Stored : Type 0 where
  pub base : Base
  -- the beats since
  pub after : List Beat

-- a database of no beats, with this side
abbrev pub new_database : Settings → List ℕ → Stored
new_database set side = record {
  base = record {
    number = 0;
    settings = set;
    count = 0;
    tiers = no_beats (first_tier set) (other_tiers set);
    side = side;
  };
  after = [];
}

abbrev pub stored_with : Stored → Beat → Stored
stored_with stored beat = record stored { after = beat ∷ stored.after }

-- with the beat that was given, if there was one
abbrev pub stored_after : Option Beat → Stored → Stored
stored_after None stored = stored
stored_after (Some beat) stored = stored_with stored beat

-- with the others too, which have the oldest first
abbrev pub stored_with_all : Stored → List Beat → Stored
stored_with_all stored rest = record stored { after = with_all stored.after rest }

-- ---- what is stored

-- how many beats there are: the count stands still at 2^64 - 1
abbrev pub count_of : Stored → ℕ
count_of stored = counted (stored.base.count + length stored.after)

-- what the tiers keep of them
abbrev pub tiers_of : Stored → TiersState
tiers_of stored = after_beats stored.base.tiers (map seen stored.after)

-- ---- the next checkpoint

-- there can be a later checkpoint
abbrev pub is_numbered : ℕ → Bool
is_numbered number = nat_lt number (2 ^ 64 - 1)

-- a tier of records has sealed a segment after a moment
abbrev pub has_sealed_records : ℕ → RecordTierState → Bool
has_sealed_records moment one = is_some (sealed_after moment one.segments.sealed)

-- a tier has sealed a segment after a moment
abbrev pub has_sealed : ℕ → TiersState → Bool
has_sealed moment tiers = is_some (sealed_after moment tiers.points.sealed) || list_any (has_sealed_records moment) tiers.records

-- what the next checkpoint has, with this side
abbrev pub next_base : Stored → List ℕ → Base
next_base stored side = record {
  number = stored.base.number + 1;
  settings = stored.base.settings;
  count = count_of stored;
  tiers = tiers_of stored;
  side = side;
}

-- the base moved on by the beats since, where there can be a later checkpoint
abbrev pub advanced : Stored → List ℕ → Stored
advanced stored side = if is_numbered stored.base.number then record { base = next_base stored side; after = [] } else stored

-- ---- the beats since

-- A beat may follow what is stored: it is in form, its moment lies above the last one, and no segment was sealed since the
-- checkpoint, unless there can be no later one.
pub record MayFollow (stored : Stored) (beat : Beat) : Type 0 where
  pub form : InForm beat
  pub later : is_later (tiers_of stored).last beat.moment ≡ true
  pub unsealed : is_numbered stored.base.number ≡ true → has_sealed stored.base.tiers.last (tiers_of stored) ≡ false

-- each of these beats may follow those before it
abbrev pub HaveFollowed : Base → List Beat → Type 0
HaveFollowed base [] = Unit {0}
HaveFollowed base (beat ∷ beats) = MayFollow (record { base = base; after = beats }) beat × HaveFollowed base beats
