-- Copies of a child's beats, and what a child says of itself, over beats of any kind. A child is two lists,
-- the oldest first: its beats with points, and the floors that it had.
use Rattle.std.specs.Prelude.{◌≡◌, ℕ, ◌==◌, ◌+◌, ◌-◌, ◌<◌, ◌≤◌, Bool, true, not, ◌&&◌, ◌||◌, nat_lt, nat_le, max, List, [], ◌∷◌, length, take, filter, if◌then◌else◌}
use Rattle.std.specs.List.{AllByRecursion, list_any}
use Rattle.replication.specs.declared.gap.Gap.{Gap}

-- ---- gaps and floors
-- the moment lies in the gap
abbrev pub is_in : ℕ → Gap → Bool
is_in moment gap = nat_lt gap.from moment && nat_le moment gap.to

-- the moment lies in none of the gaps
abbrev pub is_outside : List Gap → ℕ → Bool
is_outside gaps moment = not (list_any (is_in moment) gaps)

-- the gap ends by this moment
abbrev pub EndsBy : ℕ → Gap → Type 0
EndsBy last gap = gap.to ≤ last

-- where the last of the gaps ends
abbrev pub end_of : ℕ → List Gap → ℕ
end_of last [] = last
end_of last (gap ∷ gaps) = end_of gap.to gaps

-- the floor is one that the child had; before the first it had 0
abbrev pub had_floor : List ℕ → ℕ → Bool
had_floor floors floor = (floor == 0) || list_any (λ set. floor == set) floors

-- ---- messages
-- what a child says: above `from`, up to and with `upto`, it has these beats and no others
pub record Message (B : Type 0) : Type 0 where
  pub prev : ℕ
  pub from : ℕ
  pub upto : ℕ
  pub floor : ℕ
  pub beats : List B

-- the gap from `prev` to `from`, if there is one
abbrev pub gap_between : ℕ → ℕ → List Gap
gap_between prev from = if nat_lt prev from then record { from = prev; to = from } ∷ [] else []

-- what a copy that ends where the message begins lacks from then on
abbrev pub gap_of : {B : Type 0} → Message B → List Gap
gap_of message = gap_between message.prev message.from

-- The first things that a message adds to a copy that ends at its `prev`: the gap, and then the beats.
abbrev pub first_gaps : {B : Type 0} → ℕ → Message B → List Gap
first_gaps n message = take n (gap_of message)

abbrev pub first_beats : {B : Type 0} → ℕ → Message B → List B
first_beats n message = take (n - length (gap_of message)) message.beats

module _ {B : Type 0} (moment : B → ℕ) where
  -- the moments rise, from above `low`
  abbrev pub RisesFrom : ℕ → List B → Type 0
  RisesFrom low [] = Unit {0}
  RisesFrom low (beat ∷ beats) = (low < moment beat) × RisesFrom (moment beat) beats

  -- the last moment, where `before` was the last one before these beats
  abbrev pub latest : ℕ → List B → ℕ
  latest before [] = before
  latest before (beat ∷ beats) = latest (moment beat) beats

  -- the last moment of a copy that ended at `last`, once it has these gaps and beats
  abbrev pub last_with : ℕ → List Gap → List B → ℕ
  last_with last gaps beats = latest (end_of last gaps) beats

  -- the beats whose moments are at most `last` and pass the test
  abbrev pub up_to : (ℕ → Bool) → ℕ → List B → List B
  up_to test last child = filter (λ beat. nat_le (moment beat) last && test (moment beat)) child

  -- the beats above a moment
  abbrev pub above : ℕ → List B → List B
  above from child = filter (λ beat. nat_lt from (moment beat)) child

  -- the beats above `from`, up to and with `upto`
  abbrev pub between : ℕ → ℕ → List B → List B
  between from upto child = up_to (nat_lt from) upto child

  -- the beats up to and with `last` that lie in no gap
  abbrev pub copy : List B → List Gap → ℕ → List B
  copy child gaps last = up_to (is_outside gaps) last child

  -- What is held up to `last` is a copy of the child: all of its beats but those in the gaps. Each gap ends
  -- one below a floor that the child had.
  pub record IsCopy (floors : List ℕ) (child held : List B) (gaps : List Gap) (last : ℕ) : Type 0 where
    pub beats : held ≡ copy child gaps last
    pub ends : AllByRecursion (λ gap. had_floor floors (gap.to + 1) ≡ true) gaps

  -- The message is true of the child: it has a beat, it has each of the child's beats from where it begins to
  -- where it ends, and where it begins above `prev`, the child had lost what came before.
  pub record IsTrueOf (floors : List ℕ) (child : List B) (message : Message B) : Type 0 where
    pub floor : had_floor floors message.floor ≡ true
    pub from : message.from ≡ max message.prev (message.floor - 1)
    pub some : message.from < message.upto
    pub upto : message.upto ≡ latest message.from message.beats
    pub beats : message.beats ≡ between message.from message.upto child
