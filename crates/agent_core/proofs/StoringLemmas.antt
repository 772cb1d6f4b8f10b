-- What a store keeps of a gap and of a copied beat.
use Rattle.std.proofs.Common.{◌≡◌, ℕ, ◌<◌, ◌≤◌, ◌^◌, true, List, [], ◌∷◌, length, map, Some, refl, sym, ap, ◌∙◌, subst, arith, length-append, lt-ltb}
use Rattle.std.proofs.lemmas.Bool.{cond-false, cond-true, le-ltb}
use Rattle.std.proofs.lemmas.List.Elements.{All-nil}
use Rattle.host_model.specs.Past.{Event}
use Rattle.history.specs.declared.numbered.NumberedChart.{NumberedChart}
use Rattle.history.specs.declared.numbered.NumberedDimension.{NumberedDimension}
use Rattle.history.specs.History.{Beat, copied, missing, registry_of, Copy, Gap}
use Rattle.history.specs.Limits.{chart_keeps_limits, dimension_keeps_limits}
use Rattle.history.specs.Numbered.{numbered_charts, numbered_dimensions}
use Rattle.history.specs.Registry.{Registry}
use Rattle.entry_codec.specs.declared.entry.Entry.TheVariants as entry
use Rattle.tier_settings.specs.declared.settings.Settings.{Settings}
use Rattle.entry_codec.specs.Entries.{entry_bytes, gap_bytes, is_canonical, is_collected_canonical, HasSpelling, IsWithinLimits}
use Rattle.field_codec.proofs.Lengths.{length-u32_bytes, length-u64_bytes}
use Rattle.beat_entries.specs.Copied.{definitions_of, told_chart, told_dimension, told_word}
use Rattle.beat_tiers.specs.declared.item.BeatPoint.{BeatPoint}
use Rattle.replication.specs.declared.beats.Beat.{Beat as SentBeat}
use Rattle.replication.specs.declared.message.Data.{Data}
use Rattle.store_core.specs.declared.beats.beat.Beat.{Beat as StoreBeat}
use Rattle.store_core.specs.beats.Beats.{beat_bytes, InForm}
use Rattle.store_core.specs.Store.{StoreState}
use Rattle.store_core.proofs.BeatProofs.BeatLaw.{beat_size}
use Rattle.agent_core.specs.Copying.{gap_beat}
use Rattle.agent_core.specs.Kept.{copied_entry, copied_point, gap_entry, IsCopyOf, IsGapOf}
use Rattle.agent_core.specs.Stands.{HoldsHistory}
use Rattle.agent_core.specs.Roles.{may_copy, role_of}
use Rattle.agent_core.specs.Storing.{defining, gap_beats, sent_entry, sent_kept, IsSentAs}
use Rattle.agent_core.proofs.KeptLemmas.{store-last}

-- ---- a gap
gap-length : (gap : Gap) → length (entry_bytes (gap_entry gap)) ≡ 17
unfolding entry_bytes gap_bytes
gap-length gap = simp (length-append, length-u32_bytes, length-u64_bytes) (omega arith)

module _ (gap : Gap) (points : List BeatPoint) (none : points ≡ []) (note : List ℕ) (note_is : note ≡ entry_bytes (gap_entry gap)) where
  pub gap-form : 0 < gap.to → gap.to < 2 ^ 32 → InForm (record { moment = Some gap.to; points = points; note = note })
  gap-form some small =
      let size : length note ≡ 17 = ap length note_is ∙ gap-length gap in
      subst (λ (ps : List BeatPoint). InForm (record { moment = Some gap.to; points = ps; note = note })) (sym none) (record {
        short = record { moment = (some, small); points = record { count = omega arith; each = tt }; note = omega (arith, size) };
        form = refl;
      })

  pub gap-size : length (beat_bytes (record { moment = Some gap.to; points = points; note = note })) ≤ 2 ^ 26
  gap-size =
      let size : length note ≡ 17 = ap length note_is ∙ gap-length gap in
      let empty : length points ≡ 0 = ap length none in
      omega (arith, beat_size (record { moment = Some gap.to; points = points; note = note }), empty, size)

pub gap-spelt : (gap : Gap) → gap.child < 2 ^ 64 → gap.from < 2 ^ 32 → gap.to < 2 ^ 32 → HasSpelling (gap_entry gap)
unfolding is_canonical
gap-spelt gap child from to = record { short = record { child = child; from = from; to = to }; canonical = refl }

-- what is kept of a gap that may follow the history
pub gap-of : (past : List Event) (store : StoreState) (set : Settings) (h : List Beat) → HoldsHistory past store set h → (gap : Gap) (kept : StoreBeat) → kept ≡ record { moment = Some gap.to; points = []; note = entry_bytes (gap_entry gap) }
    → HasSpelling (gap_entry gap) → may_copy (role_of h) ≡ true → gap.from ≡ store.tiers.last → store.tiers.last < gap.to → IsGapOf h gap kept
gap-of past store set h holds gap kept is_kept spelt role at later =
    let last_is = store-last past store set h holds in
    record { role = role; from = omega (arith, last_is, at); later = omega (arith, last_is, later); is_kept = is_kept; spelt = spelt }

-- ---- a copied beat

module _ (registry : Registry) (message : Data) (charts : List NumberedChart) (dimensions : List NumberedDimension) (beat : SentBeat) (g : List Beat) (copy : Copy) (sent : IsSentAs registry message charts dimensions beat g copy) where
  entry-same : entry.Copied (sent_entry registry message charts dimensions beat) ≡ copied_entry g copy
  entry-same =
      let charts_are : charts ≡ numbered_charts (registry_of (copied copy ∷ g)) (definitions_of copy) = sent.charts_are ∙ ap (λ (r : Registry). numbered_charts r (definitions_of copy)) sent.registry_is in
      let dimensions_are : dimensions ≡ numbered_dimensions (registry_of (copied copy ∷ g)) (definitions_of copy) = sent.dimensions_are ∙ ap (λ (r : Registry). numbered_dimensions r (definitions_of copy)) sent.registry_is in
      λ i. entry.Copied (record {
        child = sym sent.child i;
        moment = sym sent.moment i;
        charts = map told_chart (charts_are i);
        dimensions = map told_dimension (dimensions_are i);
        words = map told_word (sym sent.words i);
      })

  -- what is kept of the beat is that of the copy
  pub copy-of : (kept : StoreBeat) → kept ≡ sent_kept registry message charts dimensions beat → HasSpelling (entry.Copied (sent_entry registry message charts dimensions beat)) → IsCopyOf g copy kept
  copy-of kept is spelt =
      let whole : StoreBeat → StoreBeat = λ kept. kept in
      record {
        follows = sent.follows;
        is_kept = is ∙ (λ i. whole (record {
          moment = Some (sym sent.moment i);
          points = map (copied_point (sent.registry_is i)) (sym sent.words i);
          note = entry_bytes (entry-same i);
        }));
        spelt = subst HasSpelling entry-same spelt;
      }

-- a beat that defines nothing keeps the limits
pub nothing-within : IsWithinLimits (defining [] [])
nothing-within = record {
  chart_limits = All-nil (λ (chart : NumberedChart). chart_keeps_limits chart.def ≡ true);
  dimension_limits = All-nil (λ (dimension : NumberedDimension). dimension_keeps_limits dimension.def ≡ true);
  charts = omega arith;
  dimensions = omega arith;
  rows = omega arith;
  values = omega arith;
}

pub nothing-canonical : is_collected_canonical (defining [] []) ≡ true
unfolding is_collected_canonical
nothing-canonical = refl

-- ---- the gap before the beats of a Data
pub gap-some : (message : Data) → message.prev < message.from → missing (record { child = message.child; from = message.prev; to = message.from }) ∷ [] ≡ gap_beats message
gap-some message less = ap (map (gap_beat message.child)) (sym (cond-true _ (record { from = message.prev; to = message.from } ∷ []) [] (lt-ltb message.prev message.from less)))

pub gap-none : (message : Data) → message.from ≤ message.prev → [] ≡ gap_beats message
gap-none message less = ap (map (gap_beat message.child)) (sym (cond-false _ (record { from = message.prev; to = message.from } ∷ []) [] (le-ltb message.prev message.from less)))
