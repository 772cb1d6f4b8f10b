-- The names that some beats use, and the beats with the new places of their series: a child may answer from them, and
-- answers the same as from all names.
use Rattle.std.proofs.Common.{◌≡◌, ℕ, ◌<◌, Bool, true, List, length, map, refl, sym, ap, subst, ◌∙◌}
use Rattle.std.specs.List.{AllByRecursion}
use Rattle.std.proofs.lemmas.List.{length-map}
use Rattle.history.specs.Registry.{Registry, same_chart, same_dimension}
use Rattle.history.specs.Regular.{AreApart}
use Rattle.replication.specs.declared.ask.Ask.{Ask}
use Rattle.replication.specs.declared.beats.Beat.{Beat as SentBeat}
use Rattle.replication.specs.declared.names.Names.{Names}
use Rattle.replication.specs.Answer.{data_of, AreOfSeries}
use Rattle.replication.specs.Copies.{RisesFrom}
use Rattle.replication.specs.Names.{beat_moment, placed_beat, used_names, uses, uses_chart, words_of}
use Rattle.replication.specs.Places.{select}
use Rattle.replication.proofs.Copies.{all-map}
use Rattle.replication.proofs.NamesLaws.{RisesFrom-map}
use Rattle.link_frames.specs.Children.{KeepsRules}
use Rattle.link_frames.specs.DataForm.{has_rising_places, has_storage_numbers}
use Rattle.link_frames.specs.Fields.{FitsBeat}
use Rattle.link_frames.proofs.PlacesLaw.{of-all}
use Rattle.link_frames.proofs.AnswerLaw.{beats-fit}
use Rattle.agent_core.specs.Asking.{AreInUtf8, HasChart, IsSendable}
use Rattle.agent_core.specs.Copies.{names_of}
use Rattle.agent_core.specs.Rules.{HasLimits}
use Rattle.agent_core.specs.Used.{has, items_at, Rise}
use Rattle.agent_core.proofs.SentNames.{names-sent, told, told_of, MayName}
use Rattle.agent_core.proofs.UsedBeats.{placed-sendable}
use Rattle.agent_core.proofs.UsedNames.{all-own, few-answer}
use Rattle.agent_core.proofs.UsedRegistry.{all-stay, dimensions-picked, used-told}

module _ (names : Names) (may : MayName names) (beats : List SentBeat) (rises : RisesFrom beat_moment 0 beats) (fits : AllByRecursion FitsBeat beats) (sendable : AllByRecursion (IsSendable (length names.dimensions)) beats) where
  -- the names and the beats keep the rules
  keeps-rules : KeepsRules names beats
  keeps-rules =
      let series = length names.dimensions in
      record {
        fields = may.fields;
        charts = may.charts;
        ids = may.ids;
        apart = may.apart;
        few_charts = may.few_charts;
        few_dimensions = may.few_dimensions;
        whole = may.whole;
        fits = fits;
        rises = rises;
        series = all-map (IsSendable series) (λ beat. AreOfSeries series beat.words) beats (λ beat may. may.words.of) sendable;
        some = all-map (IsSendable series) (λ beat. 0 < length beat.words) beats (λ beat may. may.some) sendable;
        places = of-all has_rising_places beats (all-map (IsSendable series) (λ beat. has_rising_places beat ≡ true) beats (λ beat may. may.words.rise) sendable);
        words = of-all has_storage_numbers beats (all-map (IsSendable series) (λ beat. has_storage_numbers beat ≡ true) beats (λ beat may. may.words.numbers) sendable);
      }

module _ (registry : Registry) (apart_charts : AreApart same_chart registry.charts) (apart_dimensions : AreApart same_dimension registry.dimensions) (limits : HasLimits registry)
    (beats : List SentBeat) (rises : RisesFrom beat_moment 0 beats) (fits : AllByRecursion FitsBeat beats) (sendable : AllByRecursion (IsSendable (length registry.dimensions)) beats)
    (series : List ℕ) (rise : Rise series) (same : has series ≡ uses (words_of beats)) where
  -- the names that the beats use, and the beats with their new places, keep the rules
  pub used-rules : (names : Names) → names ≡ used_names (names_of registry) (words_of beats) → AreInUtf8 names → AllByRecursion (HasChart registry) (items_at registry.dimensions series)
      → (placed : List SentBeat) → placed ≡ map (placed_beat (has series)) beats → KeepsRules names placed
  used-rules names names_are utf8 owned placed placed_are =
      let words = words_of beats in
      let charts = uses_chart (names_of registry) words in
      let few = told_of registry charts (uses words) in
      let are : names ≡ few = names_are ∙ used-told registry words in
      let stay = all-stay registry words (subst (AllByRecursion (HasChart registry)) (dimensions-picked registry words series rise same) owned) in
      let may : MayName few = names-sent registry charts apart_charts apart_dimensions limits (uses words) stay (subst AreInUtf8 are utf8) in
      let moved = map (placed_beat (uses words)) beats in
      let moved_are : placed ≡ moved = placed_are ∙ ap (λ (test : ℕ → Bool). map (placed_beat test) beats) same in
      let moved_rise : RisesFrom beat_moment 0 moved = RisesFrom-map beat_moment beat_moment (placed_beat (uses words)) (λ beat. refl) 0 beats rises in
      let moved_may : AllByRecursion (IsSendable (length (select (uses words) 0 registry.dimensions))) moved = placed-sendable (uses words) registry.dimensions beats (all-own (names_of registry) beats) sendable in
      let size : length (select (uses words) 0 registry.dimensions) ≡ length few.dimensions = sym (length-map (select (uses words) 0 registry.dimensions) (told registry charts)) in
      subst (λ (names : Names). KeepsRules names placed) (sym are)
      (subst (KeepsRules few) (sym moved_are)
      (keeps-rules few may moved moved_rise (beats-fit (uses words) beats fits) (subst (λ (n : ℕ). AllByRecursion (IsSendable n) moved) size moved_may)))

-- and a child answers the same from them
pub used-answer : (all : Names) (beats : List SentBeat) (series : List ℕ) → has series ≡ uses (words_of beats) → (names : Names) → names ≡ used_names all (words_of beats)
    → (placed : List SentBeat) → placed ≡ map (placed_beat (has series)) beats → (child floor : ℕ) (ask : Ask) → data_of child floor names placed ask ≡ data_of child floor all beats ask
used-answer all beats series same names names_are placed placed_are child floor ask =
    let moved_are : placed ≡ map (placed_beat (uses (words_of beats))) beats = placed_are ∙ ap (λ (test : ℕ → Bool). map (placed_beat test) beats) same in
    (λ i. data_of child floor (names_are i) (moved_are i) ask) ∙ few-answer child floor all beats ask
