-- Beats with the new places of their series keep the rules that they kept.
use Rattle.std.proofs.Common.{◌≡◌, ℕ, Bool, true, List, [], ◌∷◌, length, map, ◌∙◌, arith}
use Rattle.std.specs.List.{AllByRecursion}
use Rattle.std.proofs.lemmas.List.{length-map}
use Rattle.std.proofs.lemmas.List.Folds.{list_all-map}
use Rattle.replication.specs.declared.beats.Beat.{Beat}
use Rattle.replication.specs.declared.beats.SeriesWord.{SeriesWord}
use Rattle.replication.specs.Answer.{AreOfSeries}
use Rattle.replication.specs.Names.{placed_beat, placed_word}
use Rattle.replication.specs.Places.{select}
use Rattle.replication.proofs.Wholes.{place-within}
use Rattle.link_frames.specs.DataForm.{is_storage_number}
use Rattle.link_frames.proofs.AnswerLaw.{rising-words}
use Rattle.agent_core.specs.Asking.{IsSendable}

module _ (test : ℕ → Bool) where
  abbrev Passes : SeriesWord → Type 0
  Passes word = test word.series ≡ true

  words-of : {X : Type 0} (xs : List X) (words : List SeriesWord) → AllByRecursion Passes words → AreOfSeries (length xs) words → AreOfSeries (length (select test 0 xs)) (map (placed_word test) words)
  words-of xs [] pass of = tt
  words-of xs (word ∷ words) pass of = (place-within test word.series xs pass.0 of.0, words-of xs words pass.1 of.1)

  beat-sendable : {X : Type 0} (xs : List X) (beat : Beat) → AllByRecursion Passes beat.words → IsSendable (length xs) beat → IsSendable (length (select test 0 xs)) (placed_beat test beat)
  beat-sendable xs beat pass may = record {
    some = omega (arith, may.some, length-map beat.words (placed_word test));
    words = record {
      of = words-of xs beat.words pass may.words.of;
      rise = rising-words test beat.words pass may.words.rise;
      numbers = list_all-map is_storage_number (placed_word test) beat.words ∙ may.words.numbers;
    };
  }

  pub placed-sendable : {X : Type 0} (xs : List X) (beats : List Beat) → AllByRecursion (λ (beat : Beat). AllByRecursion Passes beat.words) beats → AllByRecursion (IsSendable (length xs)) beats
      → AllByRecursion (IsSendable (length (select test 0 xs))) (map (placed_beat test) beats)
  placed-sendable xs [] pass all = tt
  placed-sendable xs (beat ∷ beats) pass all = (beat-sendable xs beat pass.0 all.0, placed-sendable xs beats pass.1 all.1)
