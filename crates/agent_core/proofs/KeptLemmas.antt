-- What is kept of a beat, and what a crash leaves of a history.
use Rattle.std.proofs.lemmas.Option.{same_Some}
use Rattle.std.proofs.Common.{◌≡◌, ℕ, ◌+◌, ◌<◌, ◌≤◌, ◌⊎◌, inl, inr, List, [], ◌∷◌, length, map, Option, Some, None, is_some, refl, sym, ap, ◌∙◌, subst, arith}
use Rattle.host_model.specs.declared.file.File.{File}
use Rattle.host_model.specs.Past.{Event, Told}
use Rattle.host_model.specs.Disks.{EveryDisk}
use Rattle.host_model.specs.Moments.{Throughout}
use Rattle.host_model.proofs.MomentLemmas.{joined}
use Rattle.host_model.proofs.DiskLemmas.{disks_weaker}
use Rattle.algorithms.specs.declared.last.Last.{Last}
use Rattle.history.specs.declared.beat.OpenBeat.{OpenBeat}
use Rattle.history.specs.declared.fault.BlockFault.{BlockFault}
use Rattle.history.specs.declared.numbered.NumberedBeat.{NumberedBeat}
use Rattle.history.specs.History.{Beat, child, collected, copied, health, missing, last, registry_of, Copy, Gap}
use Rattle.history.specs.Registry.{Registry, with_definitions}
use Rattle.beat_points.specs.declared.series_word.SeriesWord.{SeriesWord}
use Rattle.beat_points.specs.LastRows.{AreLastOf}
use Rattle.beat_points.specs.Points.{beat_points, IsNext}
use Rattle.history.specs.Numbered.{numbered_beat}
use Rattle.history.specs.Regular.{IsRegular}
use Rattle.entry_codec.specs.declared.entry.Entry.TheVariants as entry
use Rattle.beat_entries.specs.Rules.{with_beat}
use Rattle.alarm_core.specs.Course.{held, Outcome}
use Rattle.tier_settings.specs.declared.settings.Settings.{Settings}
use Rattle.entry_codec.specs.Entries.{entry_bytes, HasSpelling}
use Rattle.store_core.specs.declared.beats.beat.Beat.{Beat as StoreBeat}
use Rattle.beat_tiers.specs.declared.item.BeatPoint.{BeatPoint}
use Rattle.store_core.specs.Stands.{StandsAround, StandsEither}
use Rattle.store_core.specs.Counts.{counted, raised}
use Rattle.store_core.specs.Store.{IsStoreOf, StoreState}
use Rattle.store_core.specs.Stored.{advanced, stored_with}
use Rattle.store_core.proofs.StandLemmas.{images-at, told-at}
use Rattle.alarm_core.specs.declared.latest.Latest.{Latest}
use Rattle.agent_core.specs.Agent.{left_in, AgentState, IsAgentOf}
use Rattle.agent_core.specs.Answers.{tier_beats}
use Rattle.agent_core.specs.Gaps.{gap_span, join_gap, AreGapsLeft}
use Rattle.agent_core.specs.LastSeen.{IsLatestOf}
use Rattle.agent_core.specs.Kept.{copied_point, kept_of, note_of, point_of, stored_points, AreBeatsOf, Follows, IsBeatOf, IsCopyOf, IsJudgedAt, IsTakenBeat}
use Rattle.agent_core.specs.Sides.{IsSideOf}
use Rattle.agent_core.specs.Stands.{HoldsHistory, IsStoredOf, StandsForHealth, StandsForHistory, StandsForOneOf}
use Rattle.agent_core.specs.Left.{AwaitsAlarms, IsLeftBy}
use Rattle.agent_core.specs.Replay.{HasRoom, HasSeenBeat, HasSeenCopy, HasTakenRows}
use Rattle.agent_core.specs.declared.left.Left.{Left}
use Rattle.agent_core.specs.declared.left.Role.TheVariants.{Collects, Copies}
use Rattle.agent_core.specs.Roles.{child_in, copies}
use Rattle.agent_core.specs.Rules.{beat_refusal, content_refusal, IsOpenBeat}
use Rattle.agent_core.specs.Health.{health_refusal}
use Rattle.agent_core.proofs.HistoryLemmas.{before-of, child-of, copies-of, follows-passed}
use Rattle.agent_core.proofs.AlarmLemmas.{gap-outcome}
use Rattle.agent_core.proofs.GapLemmas.{first-tier, gap-joins, gaps-stay, health-stays, later-for}
use Rattle.agent_core.proofs.LastSeenLemmas.{latest-missing}
use Rattle.agent_core.proofs.StoredLemmas.{answers, applied-all, stored_advanced, stored_more, were_kept, WereKept}

-- what is kept is put together of its parts
pub kept-is : (registry : Registry) (lasts : List (Option Last)) (h : List Beat) (moment : ℕ) (beat : OpenBeat) (words : List SeriesWord) (points : List BeatPoint) (note : List ℕ) → IsNext registry lasts h moment beat
    → words ≡ beat_points registry h moment beat → points ≡ map (point_of registry) words → note ≡ note_of registry moment beat
    → record { moment = Some moment; points = points; note = note } ≡ kept_of h moment beat
kept-is registry lasts h moment beat words points note next words_are points_are note_is =
    let stored : points ≡ stored_points registry h moment beat = points_are ∙ ap (map (point_of registry)) words_are in
    let whole : StoreBeat → StoreBeat = λ kept. kept in
    let parts : whole (record { moment = Some moment; points = points; note = note }) ≡ whole (record { moment = Some moment; points = stored_points registry h moment beat; note = note_of registry moment beat })
    = λ i. record { moment = Some moment; points = stored i; note = note_is i } in
    let named : (r : Registry) → StoreBeat = λ r. record { moment = Some moment; points = stored_points r h moment beat; note = note_of r moment beat } in
    parts ∙ ap named next.registry_is

-- the rows of the beat by number are taken, as those of the beat
pub rows-taken : (registry : Registry) (lasts lasts' : List (Option Last)) (h : List Beat) (moment : ℕ) (beat : OpenBeat) (numbered : NumberedBeat) → numbered ≡ numbered_beat registry moment beat
    → HasTakenRows registry lasts lasts' numbered → IsNext registry lasts h moment beat → IsRegular registry beat → AreLastOf lasts' (collected moment beat ∷ h)
rows-taken registry lasts lasts' h moment beat numbered same taken next regular =
    subst (HasTakenRows registry lasts lasts') same taken h beat next.lasts_are next.registry_is regular refl

-- a numbered beat has its moment
pub numbered-at : (registry : Registry) (moment : ℕ) (beat : OpenBeat) (after : Registry) (numbered : NumberedBeat) → IsTakenBeat registry moment beat after numbered → numbered ≡ numbered_beat after numbered.moment beat
numbered-at registry moment beat after numbered taken =
    taken.numbered_is ∙ (λ i. numbered_beat after (sym (ap (λ (n : NumberedBeat). n.moment) taken.numbered_is) i) beat)

-- a beat that was judged, once the registry took it
pub judged-at : (registry : Registry) (moment : ℕ) (beat : OpenBeat) (numbered : NumberedBeat) → IsOpenBeat beat → content_refusal registry moment beat ≡ None → numbered ≡ numbered_beat (with_beat registry beat) moment beat
    → IsJudgedAt registry moment beat numbered
judged-at registry moment beat numbered is_open content is =
    let at : moment ≡ numbered.moment = sym (ap (λ (n : NumberedBeat). n.moment) is) in
    record {
      moment_is = sym at;
      judged = record {
        is_open = is_open;
        content = subst (λ (m : ℕ). content_refusal registry m beat ≡ None) at content;
        numbered_is = is ∙ (λ i. numbered_beat (with_beat registry beat) (at i) beat);
      };
    }

pub taken-of : (registry after : Registry) (moment : ℕ) (beat : OpenBeat) (numbered : NumberedBeat) → IsJudgedAt registry moment beat numbered → after ≡ with_beat registry beat → IsRegular after beat → IsTakenBeat registry moment beat after numbered
taken-of registry after moment beat numbered at taken regular = record {
  applied = taken;
  numbered_is = at.judged.numbered_is ∙ (λ i. numbered_beat (sym taken i) (at.moment_is i) beat);
  regular = regular;
}

pub same-next : (after : Registry) (lasts : List (Option Last)) (g : List Beat) (moment : ℕ) (beat : OpenBeat) (numbered : NumberedBeat) → numbered ≡ numbered_beat after moment beat
    → IsNext after lasts g moment beat → IsNext after lasts g numbered.moment beat
same-next after lasts g moment beat numbered is next = subst (λ (m : ℕ). IsNext after lasts g m beat) (sym (ap (λ (n : NumberedBeat). n.moment) is)) next

-- and so are its rows and points taken as what was last seen
pub seen-taken : (registry : Registry) (latest latest' : Latest) (h : List Beat) (moment : ℕ) (beat : OpenBeat) (numbered : NumberedBeat) (kept : StoreBeat) → numbered ≡ numbered_beat registry moment beat
    → HasSeenBeat registry latest latest' numbered kept.points → (beats : List StoreBeat) (lasts : List (Option Last)) → AreBeatsOf h beats → AreLastOf lasts h → IsLatestOf latest h → registry ≡ registry_of (collected moment beat ∷ h) → IsRegular registry beat → kept ≡ kept_of h moment beat
    → IsLatestOf latest' (collected moment beat ∷ h)
seen-taken registry latest latest' h moment beat numbered kept same seen beats lasts are last was is regular is_kept =
    let points : kept.points ≡ stored_points registry h moment beat = ap (λ (k : StoreBeat). k.points) is_kept ∙ ap (λ (r : Registry). stored_points r h moment beat) (sym is) in
    subst (λ (n : NumberedBeat). HasSeenBeat registry latest latest' n kept.points) same seen h beats lasts beat are last was is regular refl points

-- ---- a store that holds a history
module _ (past : List Event) (store : StoreState) (set : Settings) (h : List Beat) (holds : HoldsHistory past store set h) where
  -- whatever a crash leaves, the disk holds the history
  pub stays : EveryDisk (StandsForHistory set h) past
  stays disk images = record { stored = holds.stored; are = holds.are; stands = images-at past store holds.stored [] holds.store_of disk images }

  -- the last moment of the store is that of the history
  pub store-last : store.tiers.last ≡ last h
  store-last = (answers past store set h holds.stored [] holds.are holds.store_of).last_is

  -- ---- a checkpoint with the side of the history
  module _ (side : List ℕ) (is : IsSideOf set h side) where
    moved-are : IsStoredOf set h (advanced holds.stored side)
    moved-are = stored_advanced set h holds.stored side holds.are holds.store_of.has.follow is

    -- at every moment the history stands
    pub moves : (new : List Event) → Throughout (EveryDisk (StandsEither holds.stored (advanced holds.stored side))) past new → Throughout (EveryDisk (StandsForHistory set h)) past new
    moves new moments = disks_weaker either moments
      where
        either : (disk : File → List ℕ) → StandsEither holds.stored (advanced holds.stored side) disk → StandsForHistory set h disk
        either disk (inl stands) = record { stored = holds.stored; are = holds.are; stands = stands }
        either disk (inr stands) = record { stored = advanced holds.stored side; are = moved-are; stands = stands }

    -- and then the store still holds it
    pub holds-moved : (new : List Event) (store' : StoreState) → IsStoreOf new store' (advanced holds.stored side) → HoldsHistory new store' set h
    holds-moved new store' store_of = record { stored = advanced holds.stored side; are = moved-are; store_of = store_of }

  module _ (beat : Beat) (kept : StoreBeat) (of : IsBeatOf h beat kept) where
    -- at every moment of the store the history stands, or that with the beat
    pub climbs : (new : List Event) → Throughout (EveryDisk (StandsAround holds.stored kept)) past new
        → Throughout (EveryDisk (λ disk. StandsForHistory set h disk ⊎ StandsForHistory set (beat ∷ h) disk)) past new
    climbs new moments = disks_weaker around moments
      where
        around : (disk : File → List ℕ) → StandsAround holds.stored kept disk → StandsForHistory set h disk ⊎ StandsForHistory set (beat ∷ h) disk
        around disk (inl stands) = inl (record { stored = holds.stored; are = holds.are; stands = stands })
        around disk (inr stands) = inr (record { stored = stored_with holds.stored kept; are = stored_more set h holds.stored beat kept holds.are of; stands = stands })

    -- and then the store holds that
    pub holds-beat : (new : List Event) (store' : StoreState) → IsStoreOf new store' (stored_with holds.stored kept) → HoldsHistory new store' set (beat ∷ h)
    holds-beat new store' store_of = record { stored = stored_with holds.stored kept; are = stored_more set h holds.stored beat kept holds.are of; store_of = store_of }

  -- ---- a beat that was collected, and that the registry has taken
  module _ (before : Registry) (left : Left) (was : IsLeftBy set h (record left { registry = before })) (moment : ℕ) (beat : OpenBeat) (follows : Follows h moment beat)
      (numbered : NumberedBeat) (taken : IsTakenBeat before moment beat left.registry numbered) where
    is-next : IsNext left.registry left.last_rows h moment beat
    is-next =
        let kept = were_kept set h holds.stored holds.are in
        record {
          registry_is = taken.applied ∙ ap (λ (r : Registry). with_definitions r beat.charts beat.dimensions) was.registry_is;
          lasts_are = was.last_rows_are;
          before = before-of h kept.beats kept.are moment (follows-passed h moment beat follows).later;
        }

    module _ (kept : StoreBeat)
        (says : (g : List Beat) → IsNext left.registry left.last_rows g numbered.moment beat → numbered ≡ numbered_beat left.registry numbered.moment beat → kept ≡ kept_of g numbered.moment beat) where
      -- what the code kept is what is kept
      is-kept : kept ≡ kept_of h moment beat
      is-kept =
          says h (same-next left.registry left.last_rows h moment beat numbered taken.numbered_is is-next) (numbered-at before moment beat left.registry numbered taken)
          ∙ ap (λ (m : ℕ). kept_of h m beat) (ap (λ (n : NumberedBeat). n.moment) taken.numbered_is)

      pub collected-of : HasSpelling (entry.Collected numbered) → IsBeatOf h (collected moment beat) kept
      collected-of spelt = record {
        follows = follows;
        is_kept = is-kept;
        spelt = subst (λ (r : Registry). HasSpelling (entry.Collected (numbered_beat r moment beat))) is-next.registry_is (subst (λ (n : NumberedBeat). HasSpelling (entry.Collected n)) taken.numbered_is spelt);
      }

      -- all but the alarms has taken it
      pub collected-awaits : (lasts' : List (Option Last)) (seen : Left) → seen ≡ record left { last_rows = lasts'; latest = seen.latest } → HasTakenRows left.registry left.last_rows lasts' numbered
          → HasSeenBeat left.registry left.latest seen.latest numbered kept.points → seen.latest.before ≡ store.tiers.last → AwaitsAlarms set h (collected moment beat) (record seen { role = Collects })
      collected-awaits lasts' seen only rows points at =
          let all = were_kept set h holds.stored holds.are in
          record {
            registry_is = ap (λ (l : Left). l.registry) only ∙ is-next.registry_is;
            role_is = refl;
            last_rows_are = subst (λ (l : Left). AreLastOf l.last_rows (collected moment beat ∷ h)) (sym only)
                (rows-taken left.registry left.last_rows lasts' h moment beat numbered taken.numbered_is rows is-next taken.regular);
            latest_is = seen-taken left.registry left.latest seen.latest h moment beat numbered kept taken.numbered_is points all.beats left.last_rows all.are was.last_rows_are was.latest_is is-next.registry_is taken.regular is-kept;
            gaps_are = subst (λ (l : Left). AreGapsLeft set (collected moment beat ∷ h) l.gaps) (sym only)
                (gaps-stay set h all.beats all.are (collected moment beat) (later-for h moment (follows-passed h moment beat follows).later) left.gaps refl was.gaps_are);
            before = at ∙ store-last;
            alarms_are = ap (λ (l : Left). held l.alarms) only ∙ was.alarms_are;
          }

  -- ---- a copied beat, whose definitions the registry has
  pub copy-awaits : (before : Registry) (left : Left) → IsLeftBy set h (record left { registry = before }) → (copy : Copy) (kept : StoreBeat) (moment : ℕ) → IsCopyOf h copy kept
      → left.registry ≡ registry_of (copied copy ∷ h) → kept.moment ≡ Some moment → (lasts' : List (Option Last)) (seen : Left) → seen ≡ record left { last_rows = lasts'; latest = seen.latest }
      → HasRoom left.registry left.last_rows lasts' → HasSeenCopy left.registry left.latest seen.latest moment kept.points → seen.latest.before ≡ store.tiers.last
      → AwaitsAlarms set h (copied copy) (record seen { role = Copies copy.child })
  copy-awaits before left was copy kept moment of is at lasts' seen only room points before_is =
      let all = were_kept set h holds.stored holds.are in
      let moment_is : moment ≡ copy.moment = same_Some moment copy.moment (sym at ∙ ap (λ (k : StoreBeat). k.moment) of.is_kept) in
      let points_are : kept.points ≡ map (copied_point left.registry) copy.words = ap (λ (k : StoreBeat). k.points) of.is_kept ∙ ap (λ (r : Registry). map (copied_point r) copy.words) (sym is) in
      record {
        registry_is = ap (λ (l : Left). l.registry) only ∙ is;
        role_is = refl;
        last_rows_are = subst (λ (l : Left). AreLastOf l.last_rows (copied copy ∷ h)) (sym only) (room h copy was.last_rows_are is);
        latest_is = points h all.beats left.last_rows copy all.are was.last_rows_are was.latest_is is moment_is points_are;
        gaps_are = subst (λ (l : Left). AreGapsLeft set (copied copy ∷ h) l.gaps) (sym only)
            (gaps-stay set h all.beats all.are (copied copy) (later-for h copy.moment of.follows.later) left.gaps refl was.gaps_are);
        before = before_is ∙ store-last;
        alarms_are = ap (λ (l : Left). held l.alarms) only ∙ was.alarms_are;
      }

  -- ---- a configuration
  pub health-of : (text : List ℕ) (kept : StoreBeat) → health_refusal text ≡ None → kept ≡ record { moment = None; points = []; note = entry_bytes (entry.Health text) } → HasSpelling (entry.Health text) → IsBeatOf h (health text) kept
  health-of text kept accepted is_kept spelt = record { accepted = accepted; is_kept = is_kept; spelt = spelt }

-- the moment before it is the last one
pub health-awaits : (set : Settings) (h : List Beat) (left : Left) (text : List ℕ) (before : ℕ) → IsLeftBy set h left → before ≡ last h → AwaitsAlarms set h (health text) (record left { latest = record left.latest { before = before } })
health-awaits set h left text before was at = record {
  registry_is = was.registry_is;
  role_is = was.role_is;
  last_rows_are = record { rows = was.last_rows_are.rows; within = was.last_rows_are.within };
  latest_is = record { charts = was.latest_is.charts; points = was.latest_is.points; raws = was.latest_is.raws };
  gaps_are = health-stays set h text left.gaps was.gaps_are;
  before = at;
  alarms_are = was.alarms_are;
}

-- ---- a gap
pub left-gap : (past : List Event) (store : StoreState) (set : Settings) (h : List Beat) → HoldsHistory past store set h → (gap : Gap) (left joined : Left) → IsLeftBy set h left → joined ≡ record left { gaps = joined.gaps }
    → joined.gaps ≡ join_gap left.gaps (gap_span gap) → last h ≤ gap.from → last h < gap.to → IsLeftBy set (missing gap ∷ h) (record joined { role = Copies gap.child })
left-gap past store set h holds gap left joined was only gaps from later = subst (λ (l : Left). IsLeftBy set (missing gap ∷ h) (record l { role = Copies gap.child })) (sym only) (record {
  registry_is = was.registry_is;
  role_is = refl;
  last_rows_are = record { rows = was.last_rows_are.rows; within = was.last_rows_are.within };
  latest_is = latest-missing left.latest h gap was.latest_is;
  gaps_are =
      let all = were_kept set h holds.stored holds.are in
      subst (AreGapsLeft set (missing gap ∷ h)) (sym gaps)
      (gap-joins set h all.beats all.are (first-tier set (tier_beats h) store (applied-all past store set h holds)) gap from later left.gaps was.gaps_are);
  alarms_are = was.alarms_are ∙ ap (λ (o : Outcome). o.held) (gap-outcome set h gap);
})

-- ---- the history stands, and then it or another
pub then-either : (old middle new : List Event) (set : Settings) (h more : List Beat) → Throughout (EveryDisk (StandsForHistory set h)) old middle
    → Throughout (EveryDisk (λ disk. StandsForHistory set h disk ⊎ StandsForHistory set more disk)) middle new
    → Throughout (EveryDisk (λ disk. StandsForHistory set h disk ⊎ StandsForHistory set more disk)) old new
then-either old middle new set h more first second = joined (disks_weaker (λ disk stands. inl stands) first) second

-- ---- the agent
counted-more : (n : ℕ) → raised (counted n) ≡ counted (n + 1)
counted-more n = omega arith

-- a store has kept beats for its history
pub agent-kept : (past : List Event) (agent : AgentState) (set : Settings) (h : List Beat) → IsAgentOf past agent set h → WereKept h
agent-kept past agent set h is_of = were_kept set h is_of.holds.stored is_of.holds.are

-- telling changes nothing of it
pub agent-told : (sent : List ℕ) (past : List Event) (agent : AgentState) (set : Settings) (h : List Beat) → IsAgentOf past agent set h → IsAgentOf (Told sent ∷ past) agent set h
agent-told sent past agent set h is_of = record {
  holds = record { stored = is_of.holds.stored; are = is_of.holds.are; store_of = told-at sent past agent.store is_of.holds.stored [] is_of.holds.store_of };
  left_by = is_of.left_by;
  last_is = is_of.last_is;
  count = is_of.count;
  going = is_of.going;
}

-- an agent has copied just where its history has a child
pub copies-child : (past : List Event) (agent : AgentState) (set : Settings) (h : List Beat) → IsAgentOf past agent set h → copies agent.role ≡ is_some (child h)
copies-child past agent set h is_of =
    let kept = agent-kept past agent set h is_of in
    ap copies is_of.left_by.role_is ∙ sym (copies-of h kept.beats kept.are)

-- and it copies that child
pub child-is : (past : List Event) (agent : AgentState) (set : Settings) (h : List Beat) → IsAgentOf past agent set h → child_in agent.role ≡ child h
child-is past agent set h is_of =
    let kept = agent-kept past agent set h is_of in
    ap child_in is_of.left_by.role_is ∙ child-of h kept.beats kept.are

module _ (past : List Event) (agent : AgentState) (set : Settings) (h : List Beat) (is_of : IsAgentOf past agent set h) where
  abbrev refusal : ℕ → OpenBeat → Option BlockFault
  refusal moment beat = beat_refusal agent.registry (copies agent.role) agent.last moment beat

  pub follows-of : (moment : ℕ) (beat : OpenBeat) → IsOpenBeat beat → refusal moment beat ≡ None → Follows h moment beat
  follows-of moment beat is_open free = record {
    is_open = is_open;
    accepted = sym (λ i. beat_refusal (is_of.left_by.registry_is i) (copies-child past agent set h is_of i) (is_of.last_is i) moment beat) ∙ free;
  }

  -- nothing has happened yet
  pub nothing_done : (reason : Option BlockFault) (more : List Beat) → EveryDisk (StandsForOneOf set h reason more) past
  nothing_done reason more disk images = inl (stays past agent.store set h is_of.holds disk images)

  pub one_of : (reason : Option BlockFault) (more : List Beat) (new : List Event) → reason ≡ None
      → Throughout (EveryDisk (λ disk. StandsForHistory set h disk ⊎ StandsForHistory set more disk)) past new
      → Throughout (EveryDisk (StandsForOneOf set h reason more)) past new
  one_of reason more new free moments = disks_weaker (either reason more free) moments
    where
      either : (reason : Option BlockFault) (more : List Beat) → reason ≡ None → (disk : File → List ℕ) → (StandsForHistory set h disk ⊎ StandsForHistory set more disk) → StandsForOneOf set h reason more disk
      either reason more free disk (inl stands) = inl stands
      either reason more free disk (inr stands) = inr (free, stands)

-- an agent whose store holds the history with a beat, which left what it has
pub agent-more : (past new : List Event) (agent parts agent' : AgentState) (set : Settings) (h : List Beat) (beat : Beat) (moment : ℕ) → IsAgentOf past agent set h → HoldsHistory new parts.store set (beat ∷ h)
    → parts.count ≡ agent.count → parts.fault ≡ None → agent' ≡ record parts { alarms = agent'.alarms; last = moment; count = raised parts.count } → moment ≡ last (beat ∷ h) → IsLeftBy set (beat ∷ h) (left_in agent')
    → IsAgentOf new agent' set (beat ∷ h)
agent-more past new agent parts agent' set h beat moment is_of holds count going is at left = record {
  holds = subst (λ (a : AgentState). HoldsHistory new a.store set (beat ∷ h)) (sym is) holds;
  left_by = left;
  last_is = ap (λ (a : AgentState). a.last) is ∙ at;
  count = ap (λ (a : AgentState). a.count) is ∙ ap raised (count ∙ is_of.count) ∙ counted-more (length h) ∙ ap counted (omega arith);
  going = ap (λ (a : AgentState). a.fault) is ∙ going;
}

-- ---- a configuration that nothing refuses
pub health-nothing : (past : List Event) (agent : AgentState) (set : Settings) (h : List Beat) (text : List ℕ) → IsAgentOf past agent set h → EveryDisk (StandsForHealth set h text) past
health-nothing past agent set h text is_of disk images = inl (stays past agent.store set h is_of.holds disk images)

pub health-moments : (past new : List Event) (set : Settings) (h : List Beat) (text : List ℕ) → health_refusal text ≡ None
    → Throughout (EveryDisk (λ disk. StandsForHistory set h disk ⊎ StandsForHistory set (health text ∷ h) disk)) past new → Throughout (EveryDisk (StandsForHealth set h text)) past new
health-moments past new set h text accepted moments = disks_weaker by moments
  where
    by : (disk : File → List ℕ) → StandsForHistory set h disk ⊎ StandsForHistory set (health text ∷ h) disk → StandsForHealth set h text disk
    by disk (inl stands) = inl stands
    by disk (inr stands) = inr (accepted, stands)
