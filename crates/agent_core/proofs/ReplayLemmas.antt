-- A kept beat has an entry that goes on from what is before it, and leaves what the beat leaves.
use Rattle.std.proofs.Common.{◌≡◌, ◌<◌, ◌⊎◌, inl, inr, lt-ltb, true, false, ◌&&◌, nat_lt, List, ◌∷◌, length, map, Option, Some, is_none, refl, sym, ap, ◌∙◌, subst, true≢false, arith}
use Rattle.std.proofs.lemmas.Bool.{not-false}
use Rattle.std.proofs.lemmas.List.Elements.{recursion_from_All}
use Rattle.std.proofs.lemmas.Option.{same_Some}
use Rattle.algorithms.specs.declared.last.Last.{Last}
use Rattle.history.specs.History.{Beat, collected, copied, health, missing, last, registry_of, Word}
use Rattle.history.specs.Registry.{Registry, same_chart, same_dimension}
use Rattle.beat_points.specs.LastRows.{AreLastOf}
use Rattle.history.specs.Regular.{AreApart}
use Rattle.history.specs.declared.numbered.NumberedBeat.{NumberedBeat}
use Rattle.alarm_core.specs.declared.latest.Latest.{Latest}
use Rattle.alarm_core.specs.Course.{held}
use Rattle.entry_codec.specs.declared.entry.Entry.{Entry}
use Rattle.entry_codec.specs.declared.entry.Entry.TheVariants as entry
use Rattle.entry_codec.specs.Entries.{entry_bytes, read_entry, HasSpelling}
use Rattle.entry_codec.proofs.EntriesLaw.{reads_back}
use Rattle.beat_entries.specs.Copied.{defined_by}
use Rattle.chart_registry.specs.Taking.{chart_def, dimension_back, with_charts}
use Rattle.beat_entries.specs.Next.{with_numbered}
use Rattle.history.specs.Numbered.{numbered_beat}
use Rattle.beat_entries.proofs.CopiedLemmas.{all-mapped, copied-next, copied-registry}
use Rattle.beat_entries.proofs.DefinedLemmas.{chart-alike, chart-itself, dimension-alike, dimension-itself}
use Rattle.beat_entries.proofs.FollowLemmas.{beat-goes-on, last-is}
use Rattle.beat_entries.proofs.PutLemmas.{apart-put_all}
use Rattle.tier_settings.specs.declared.settings.Settings.{Settings}
use Rattle.tier_settings.specs.Settings.{first_tier}
use Rattle.side_codec.specs.declared.gap.GapSpan.{GapSpan}
use Rattle.beat_tiers.specs.Tiers.{IsTier}
use Rattle.store_core.specs.declared.beats.beat.Beat.{Beat as StoreBeat}
use Rattle.beat_tiers.specs.declared.item.BeatPoint.{BeatPoint}
use Rattle.agent_core.specs.declared.fault.OpenFault.{OpenFault}
use Rattle.agent_core.specs.declared.fault.OpenFault.TheVariants.{Damaged, Memory}
use Rattle.agent_core.specs.declared.left.Left.{Left}
use Rattle.agent_core.specs.declared.left.Role.TheVariants.{Collects, Copies}
use Rattle.agent_core.specs.Kept.{copied_entry, copied_point, gap_entry, AreBeatsOf, IsBeatOf}
use Rattle.agent_core.specs.Left.{AwaitsAlarms, IsLeftBy}
use Rattle.agent_core.specs.Notes.{entry_goes_on, entry_in, moment_of, names_series, noted_in, noted_of, takes_note, with_entry, with_note, Noted}
use Rattle.agent_core.specs.declared.alarming.Stepping.{Stepping}
use Rattle.agent_core.specs.declared.alarming.Stepping.TheVariants as stepping
use Rattle.agent_core.specs.Alarms.{IsSteppingOf}
use Rattle.agent_core.specs.LastSeen.{IsLatestOf}
use Rattle.agent_core.specs.Gaps.{AreGapsLeft}
use Rattle.agent_core.specs.Replay.{gaps_after, HasRows, HasSeen, HasSeenNone, IsDoneBy}
use Rattle.agent_core.specs.Roles.{may_collect, role_of}
use Rattle.agent_core.proofs.FollowLemmas.{follows-may, follows-owned, follows-regular}
use Rattle.agent_core.proofs.GapLemmas.{beat-later, gap-joins, gaps-stay, health-stays}
use Rattle.agent_core.proofs.HistoryLemmas.{copies-of, follows-alone}
use Rattle.agent_core.proofs.NoteLemmas.{found-in, note-left, note-takes}
use Rattle.agent_core.proofs.PointLemmas.{points-named}
use Rattle.agent_core.proofs.Within.{within-of}

-- the entry of a beat that follows a history
abbrev pub entry_for : List Beat → Beat → Entry
entry_for g (collected moment beat) = entry.Collected (numbered_beat (registry_of (collected moment beat ∷ g)) moment beat)
entry_for g (copied copy) = copied_entry g copy
entry_for g (health text) = entry.Health text
entry_for g (missing gap) = gap_entry gap

-- ---- the note has the entry
has-entry : (kept : StoreBeat) (found : Entry) → kept.note ≡ entry_bytes found → HasSpelling found → kept.moment ≡ moment_of found → entry_in kept ≡ Some found
has-entry kept found note spelt at = found-in kept found (ap read_entry note ∙ reads_back found spelt) at

pub note-is : (g : List Beat) (beat : Beat) (kept : StoreBeat) → IsBeatOf g beat kept → entry_in kept ≡ Some (entry_for g beat)
note-is g (collected moment beat) kept of =
    has-entry kept (entry_for g (collected moment beat)) (ap (λ (k : StoreBeat). k.note) of.is_kept) of.spelt (ap (λ (k : StoreBeat). k.moment) of.is_kept)
note-is g (copied copy) kept of =
    has-entry kept (entry_for g (copied copy)) (ap (λ (k : StoreBeat). k.note) of.is_kept) of.spelt (ap (λ (k : StoreBeat). k.moment) of.is_kept)
note-is g (health text) kept of =
    has-entry kept (entry_for g (health text)) (ap (λ (k : StoreBeat). k.note) of.is_kept) of.spelt (ap (λ (k : StoreBeat). k.moment) of.is_kept)
note-is g (missing gap) kept of =
    has-entry kept (entry_for g (missing gap)) (ap (λ (k : StoreBeat). k.note) of.is_kept) of.spelt (ap (λ (k : StoreBeat). k.moment) of.is_kept)

-- ---- the entry goes on
module _ (g : List Beat) (beats : List StoreBeat) (are : AreBeatsOf g beats) where
  pub entry-goes : (beat : Beat) (kept : StoreBeat) → IsBeatOf g beat kept → entry_goes_on (noted_of g) (entry_for g beat) ≡ true
  entry-goes (collected moment beat) kept of =
      let may = not-false (may_collect (role_of g)) (sym (copies-of g beats are) ∙ follows-alone g moment beat of.follows) in
      let goes = beat-goes-on g moment beat (follows-owned g moment beat of.follows) (follows-may g moment beat of.follows (within-of g beats are)) (follows-regular g moment beat of.follows) in
      λ i. may i && goes i
  entry-goes (copied copy) kept of = λ i. of.follows.role i && copied-next g copy of.follows.may i
  entry-goes (health text) kept of = ap is_none of.accepted
  entry-goes (missing gap) kept of = of.role

  -- it leaves what the beat leaves
  left-after : (beat : Beat) (kept : StoreBeat) → IsBeatOf g beat kept → noted_of (beat ∷ g) ≡ with_entry (noted_of g) (entry_for g beat)
  left-after (collected moment beat) kept of =
      let same = last-is g moment beat (follows-owned g moment beat of.follows) in
      λ i. record { registry = same i; role = Collects }
  left-after (copied copy) kept of = λ i. record { registry = sym (copied-registry g copy of.follows.may) i; role = Copies copy.child }
  left-after (health text) kept of = refl
  left-after (missing gap) kept of = refl

  points-there : (beat : Beat) (kept : StoreBeat) → IsBeatOf g beat kept → names_series (registry_of (beat ∷ g)) kept.points ≡ true
  points-there (collected moment beat) kept of =
      ap (λ (k : StoreBeat). names_series (registry_of (collected moment beat ∷ g)) k.points) of.is_kept ∙ points-named (registry_of (collected moment beat ∷ g)) g moment beat
  points-there (copied copy) kept of =
      let registry = registry_of (copied copy ∷ g) in
      ap (λ (k : StoreBeat). names_series registry k.points) of.is_kept
      ∙ all-mapped (λ (word : Word). word.series < length registry.dimensions) (copied_point registry) (λ (point : BeatPoint). nat_lt point.series (length registry.dimensions))
      (λ word below. lt-ltb word.series (length registry.dimensions) below) copy.words (recursion_from_All (λ (word : Word). word.series < length registry.dimensions) copy.words of.follows.may.words)
  points-there (health text) kept of = ap (λ (k : StoreBeat). names_series (registry_of g) k.points) of.is_kept
  points-there (missing gap) kept of = ap (λ (k : StoreBeat). names_series (registry_of g) k.points) of.is_kept

  module _ (beat : Beat) (kept : StoreBeat) (of : IsBeatOf g beat kept) where
    pub beat-takes : (left : Noted) → left ≡ noted_of g → takes_note left kept ≡ true
    beat-takes left is =
        ap (λ (l : Noted). takes_note l kept) is
        ∙ note-takes (noted_of g) kept (entry_for g beat) (note-is g beat kept of) true (noted_of (beat ∷ g)) (entry-goes beat kept of) (left-after beat kept of) (points-there beat kept of)

    pub beat-leaves : (left left' : Noted) → left ≡ noted_of g → left' ≡ with_note left kept → left' ≡ noted_of (beat ∷ g)
    beat-leaves left left' is made =
        made ∙ ap (λ (l : Noted). with_note l kept) is
        ∙ sym (note-left (noted_of g) kept (entry_for g beat) (note-is g beat kept of) (noted_of (beat ∷ g)) (left-after beat kept of))

-- ---- the last rows

-- where nothing is defined and set, they stay
last-stays : (lasts lasts' : List (Option Last)) (g h : List Beat) → lasts' ≡ lasts → (AreLastOf lasts g → AreLastOf lasts h) → AreLastOf lasts g → AreLastOf lasts' h
last-stays lasts lasts' g h same carry was = subst (λ (l : List (Option Last)). AreLastOf l h) (sym same) (carry was)

last-after : (g : List Beat) (beat : Beat) (kept : StoreBeat) (lasts lasts' : List (Option Last)) → IsBeatOf g beat kept → AreLastOf lasts g
    → HasRows (registry_of (beat ∷ g)) lasts lasts' (entry_for g beat) → AreLastOf lasts' (beat ∷ g)
last-after g (collected moment beat) kept lasts lasts' of was rows = rows g beat was refl (follows-regular g moment beat of.follows) refl
last-after g (copied copy) kept lasts lasts' of was rows = rows g copy was refl
last-after g (health text) kept lasts lasts' of was rows =
    last-stays lasts lasts' g (health text ∷ g) rows (λ was. record { rows = was.rows; within = was.within }) was
last-after g (missing gap) kept lasts lasts' of was rows =
    last-stays lasts lasts' g (missing gap ∷ g) rows (λ was. record { rows = was.rows; within = was.within }) was

-- ---- what was last seen
none-seen : (latest latest' : Latest) (g h : List Beat) → HasSeenNone latest latest' → (IsLatestOf latest g → IsLatestOf latest h) → IsLatestOf latest g → IsLatestOf latest' h
none-seen latest latest' g h same carry was =
    let now = carry was in
    record {
      charts = ap (λ (l : Latest). l.charts) same ∙ now.charts;
      points = ap (λ (l : Latest). l.points) same ∙ now.points;
      raws = ap (λ (l : Latest). l.raws) same ∙ now.raws;
    }

latest-after : (g : List Beat) (beats : List StoreBeat) (lasts : List (Option Last)) (beat : Beat) (kept : StoreBeat) (latest latest' : Latest) → AreBeatsOf g beats → AreLastOf lasts g → IsBeatOf g beat kept → IsLatestOf latest g
    → HasSeen (registry_of (beat ∷ g)) latest latest' (entry_for g beat) kept.points → IsLatestOf latest' (beat ∷ g)
latest-after g beats lasts (collected moment beat) kept latest latest' are last of was seen = seen g beats lasts beat are last was refl (follows-regular g moment beat of.follows) refl (ap (λ (k : StoreBeat). k.points) of.is_kept)
latest-after g beats lasts (copied copy) kept latest latest' are last of was seen = seen g beats lasts copy are last was refl refl (ap (λ (k : StoreBeat). k.points) of.is_kept)
latest-after g beats lasts (health text) kept latest latest' are last of was seen =
    none-seen latest latest' g (health text ∷ g) seen (λ was. record { charts = was.charts; points = was.points; raws = was.raws }) was
latest-after g beats lasts (missing gap) kept latest latest' are last of was seen =
    none-seen latest latest' g (missing gap ∷ g) seen (λ was. record { charts = was.charts; points = was.points; raws = was.raws }) was

-- ---- the gaps
gaps-taken : (set : Settings) (g : List Beat) (beats : List StoreBeat) (beat : Beat) (kept : StoreBeat) (left : List GapSpan) → IsTier (first_tier set) → AreBeatsOf g beats → IsBeatOf g beat kept → AreGapsLeft set g left
    → AreGapsLeft set (beat ∷ g) (gaps_after left (entry_for g beat))
gaps-taken set g beats (collected moment beat) kept left is_tier are of was = gaps-stay set g beats are (collected moment beat) (beat-later g (collected moment beat) kept of) left refl was
gaps-taken set g beats (copied copy) kept left is_tier are of was = gaps-stay set g beats are (copied copy) (beat-later g (copied copy) kept of) left refl was
gaps-taken set g beats (health text) kept left is_tier are of was = health-stays set g text left was
gaps-taken set g beats (missing gap) kept left is_tier are of was = gap-joins set g beats are is_tier gap (let at = of.from in omega (arith, at)) of.later left was

-- what was left has the registry and the role of its history
pub noted-is : (set : Settings) (g : List Beat) (left : Left) → IsLeftBy set g left → noted_in left ≡ noted_of g
noted-is set g left was = λ i. record { registry = was.registry_is i; role = was.role_is i }

-- all but the alarms has taken the beat
pub beat-taken : (set : Settings) (g : List Beat) (beats : List StoreBeat) (beat : Beat) (kept : StoreBeat) (left left' : Left) (found : Entry)
    → IsTier (first_tier set) → AreBeatsOf g beats → IsBeatOf g beat kept → IsLeftBy set g left → entry_in kept ≡ Some found → noted_in left' ≡ with_note (noted_in left) kept
    → HasRows left'.registry left.last_rows left'.last_rows found → HasSeen left'.registry left.latest left'.latest found kept.points → left'.latest.before ≡ last g → left'.gaps ≡ gaps_after left.gaps found → left'.alarms ≡ left.alarms
    → AwaitsAlarms set g beat left'
beat-taken set g beats beat kept left left' found is_tier are of was has made rows seen before gaps alarms =
    let is : noted_in left' ≡ noted_of (beat ∷ g) = beat-leaves g beats are beat kept of (noted_in left) (noted_in left') (noted-is set g left was) made in
    let registry : left'.registry ≡ registry_of (beat ∷ g) = ap (λ (n : Noted). n.registry) is in
    let same : found ≡ entry_for g beat = same_Some found (entry_for g beat) (sym has ∙ note-is g beat kept of) in
    let now : HasRows (registry_of (beat ∷ g)) left.last_rows left'.last_rows (entry_for g beat)
    = subst (λ (r : Registry). HasRows r left.last_rows left'.last_rows (entry_for g beat)) registry (subst (λ (e : Entry). HasRows left'.registry left.last_rows left'.last_rows e) same rows) in
    let seen_now : HasSeen (registry_of (beat ∷ g)) left.latest left'.latest (entry_for g beat) kept.points
    = subst (λ (r : Registry). HasSeen r left.latest left'.latest (entry_for g beat) kept.points) registry (subst (λ (e : Entry). HasSeen left'.registry left.latest left'.latest e kept.points) same seen) in
    record {
      registry_is = registry;
      role_is = ap (λ (n : Noted). n.role) is;
      last_rows_are = last-after g beat kept left.last_rows left'.last_rows of was.last_rows_are now;
      latest_is = latest-after g beats left.last_rows beat kept left.latest left'.latest are was.last_rows_are of was.latest_is seen_now;
      gaps_are = subst (AreGapsLeft set (beat ∷ g)) (sym (gaps ∙ ap (gaps_after left.gaps) same)) (gaps-taken set g beats beat kept left.gaps is_tier are of was.gaps_are);
      before = before;
      alarms_are = ap held alarms ∙ was.alarms_are;
    }

-- what its entry does to alarms, it does
does-by : (g : List Beat) (beat : Beat) (does : Stepping) → IsDoneBy (entry_for g beat) does → IsSteppingOf beat does
does-by g (collected moment beat) (stepping.Beat at defines) done = done
does-by g (copied copy) (stepping.Beat at defines) done = done
does-by g (health text) (stepping.Configuration config) done = done
does-by g (missing gap) stepping.Nothing done = done
does-by g (collected moment beat) (stepping.Configuration config) done = absurd done
does-by g (collected moment beat) stepping.Nothing done = absurd done
does-by g (copied copy) (stepping.Configuration config) done = absurd done
does-by g (copied copy) stepping.Nothing done = absurd done
does-by g (health text) (stepping.Beat at defines) done = absurd done
does-by g (health text) stepping.Nothing done = absurd done
does-by g (missing gap) (stepping.Beat at defines) done = absurd done
does-by g (missing gap) (stepping.Configuration config) done = absurd done

pub does-after : (g : List Beat) (beat : Beat) (kept : StoreBeat) (found : Entry) (does : Stepping) → IsBeatOf g beat kept → entry_in kept ≡ Some found → IsDoneBy found does → IsSteppingOf beat does
does-after g beat kept found does of has done =
    let same : found ≡ entry_for g beat = same_Some found (entry_for g beat) (sym has ∙ note-is g beat kept of) in
    does-by g beat does (subst (λ (e : Entry). IsDoneBy e does) same done)

-- ---- what stays so of any entry

-- each thing stands once in the registry
once-after : (registry registry' : Registry) (found : NumberedBeat) → registry' ≡ with_numbered registry found
    → AreApart same_chart registry.charts → AreApart same_dimension registry.dimensions → AreApart same_chart registry'.charts × AreApart same_dimension registry'.dimensions
once-after registry registry' found made charts dimensions =
    let middle = with_charts registry found.charts in (
      subst (λ (r : Registry). AreApart same_chart r.charts) (sym made) (apart-put_all same_chart chart-itself chart-alike registry.charts (map chart_def found.charts) charts),
      subst (λ (r : Registry). AreApart same_dimension r.dimensions) (sym made)
          (apart-put_all same_dimension dimension-itself dimension-alike registry.dimensions (map (dimension_back middle) found.dimensions) dimensions),
    )

same-once : (left left' : Noted) → left'.registry ≡ left.registry → AreApart same_chart left.registry.charts → AreApart same_dimension left.registry.dimensions
    → AreApart same_chart left'.registry.charts × AreApart same_dimension left'.registry.dimensions
same-once left left' same charts dimensions =
    (subst (λ (r : Registry). AreApart same_chart r.charts) (sym same) charts, subst (λ (r : Registry). AreApart same_dimension r.dimensions) (sym same) dimensions)

pub entry-once : (left left' : Noted) (found : Entry) → left' ≡ with_entry left found
    → AreApart same_chart left.registry.charts → AreApart same_dimension left.registry.dimensions → AreApart same_chart left'.registry.charts × AreApart same_dimension left'.registry.dimensions
entry-once left left' (entry.Collected found) made charts dimensions = once-after left.registry left'.registry found (ap (λ (l : Noted). l.registry) made) charts dimensions
entry-once left left' (entry.Copied found) made charts dimensions = once-after left.registry left'.registry (defined_by found) (ap (λ (l : Noted). l.registry) made) charts dimensions
entry-once left left' (entry.Health text) made charts dimensions = same-once left left' (ap (λ (l : Noted). l.registry) made) charts dimensions
entry-once left left' (entry.Gap gap) made charts dimensions = same-once left left' (ap (λ (l : Noted). l.registry) made) charts dimensions

-- ---- the faults

-- a beat of a history is taken
pub never-broken : (set : Settings) (g : List Beat) (beats : List StoreBeat) (beat : Beat) (kept : StoreBeat) (left : Left) → AreBeatsOf g beats → IsBeatOf g beat kept → IsLeftBy set g left
    → takes_note (noted_in left) kept ≡ false → ⊥
never-broken set g beats beat kept left are of was broken = true≢false (sym (beat-takes g beats are beat kept of (noted_in left) (noted-is set g left was)) ∙ broken)

pub only-memory : (fault : OpenFault) → (fault ≡ Memory) ⊎ (fault ≡ Damaged 5) → (fault ≡ Damaged 5 → ⊥) → fault ≡ Memory
only-memory fault (inl memory) never = memory
only-memory fault (inr damaged) never = absurd (never damaged)
