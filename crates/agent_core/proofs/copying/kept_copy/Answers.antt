use Rattle.std.proofs.Common.{◌≡◌, ◌≤◌, true, All, List, map, length, Some, rules, sym, ap, subst, ◌∙◌, arith}
use Rattle.std.proofs.lemmas.List.{length-map}
use Rattle.beat_points.specs.declared.series_word.SeriesWord.{SeriesWord}
use Rattle.beat_points.specs.Points.{AreRising}
use Rattle.beat_entries.specs.Copied.{told_word}
use Rattle.entry_codec.specs.declared.entry.Entry.{Entry}
use Rattle.entry_codec.specs.declared.entry.Entry.TheVariants as entry
use Rattle.entry_codec.specs.declared.words.CopiedWord.{CopiedWord}
use Rattle.entry_codec.specs.Entries.{entry_bytes, HasSpelling}
use Rattle.storage_number.specs.Word.{is_word}
use Rattle.store_core.specs.declared.beats.beat.Beat.{Beat as StoreBeat}
use Rattle.agent_core.specs.Kept.{copied_point}
use Rattle.agent_core.specs.Kept.{point_of as kept_point}
use Rattle.agent_core.specs.Notes.{names_series}
use Rattle.agent_core.specs.Storing.{defining, entry_word, point_word, sent_entry, sent_words}
use Rattle.agent_core.proofs.EntryLemmas.{copied-length}
use Rattle.agent_core.proofs.FormLemmas.{kept-form, kept-size}
use Rattle.agent_core.proofs.PointLemmas.{words-named}
use Rattle.agent_core.proofs.WordLemmas.{all-stored, copied-points, sent-words, told-words, AreSentWords}
use Rattle.agent_core.proofs.copying.kept_copy.Goals as goal

module _ (c : goal.After-drop-words-2) where
  -- the words of the beat by number
  sent : AreSentWords c.args.registry.now c.args.message.now.names c.args.beat.now c.in_ok-words.words.items
  sent =
      sent-words c.args.registry.now c.requires.own c.requires.registry.few c.args.message.now.names c.args.beat.now c.requires.names c.requires.places c.requires.words
      c.args.series.now c.in_ok-words.words.items c.requires.series c.in_ok-words.ensures.same c.in_ok-words.ensures.rises

  abbrev words : List SeriesWord
  words = c.in_ok-words.words.items

  -- the points of the words
  points-are : c.in_ok-points.points ≡ map (kept_point c.args.registry.now) words
  points-are = c.in_ok-points.ensures.points ∙ ap (map (kept_point c.args.registry.now)) c.as_slice.ensures.value

  points-kept : c.in_ok-points.points ≡ map (copied_point c.args.registry.now) (sent_words c.args.registry.now c.args.message.now c.args.beat.now)
  points-kept =
      points-are ∙ ap (map (kept_point c.args.registry.now)) sent.words_are
      ∙ copied-points c.args.registry.now (sent_words c.args.registry.now c.args.message.now c.args.beat.now)

  abbrev made : List CopiedWord → Entry
  made told = entry.Copied (record (sent_entry c.args.registry.now c.args.message.now c.args.charts.now c.args.dimensions.now c.args.beat.now) { words = told })

  entry-is : c.in_ok-entry.entry ≡ entry.Copied (sent_entry c.args.registry.now c.args.message.now c.args.charts.now c.args.dimensions.now c.args.beat.now)
  entry-is =
      c.in_ok-entry.ensures.entry ∙ ap (λ (ws : List SeriesWord). made (map entry_word ws)) (c.as_slice-2.ensures.value ∙ sent.words_are)
      ∙ ap made (told-words (sent_words c.args.registry.now c.args.message.now c.args.beat.now))

  note-is : c.in_ok-note.note ≡ entry_bytes (entry.Copied (sent_entry c.args.registry.now c.args.message.now c.args.charts.now c.args.dimensions.now c.args.beat.now))
  note-is = c.in_ok-note.ensures.spelling ∙ ap entry_bytes entry-is

  note-short : length c.in_ok-note.note ≤ 33579025
  note-short =
      let told = map told_word (sent_words c.args.registry.now c.args.message.now c.args.beat.now) in
      let same : length told ≡ length words = ap length (sym (told-words (sent_words c.args.registry.now c.args.message.now c.args.beat.now))) ∙ told-length ∙ ap length (sym sent.words_are) in
      let few : length told ≤ 65536 = omega (arith, same, sent.few) in
      omega (arith, ap length note-is, copied-length c.args.message.now.child c.args.beat.now.moment (defining c.args.charts.now c.args.dimensions.now) c.requires.within told few)
    where
      told-length : length (map entry_word (map point_word (sent_words c.args.registry.now c.args.message.now c.args.beat.now))) ≡ length (map point_word (sent_words c.args.registry.now c.args.message.now c.args.beat.now))
      told-length = length-map (map point_word (sent_words c.args.registry.now c.args.message.now c.args.beat.now)) entry_word

pub returns-clause-kept : goal.returns-clause-kept
returns-clause-kept c =
    let whole : StoreBeat → StoreBeat = λ kept. kept in
    λ i. whole (record { moment = Some c.args.beat.now.moment; points = points-kept c i; note = note-is c i })

pub returns-clause-spelt : goal.returns-clause-spelt
returns-clause-spelt c = subst HasSpelling (entry-is c) c.in_ok-entry.ensures.spelt

pub returns-clause-named : goal.returns-clause-named
returns-clause-named c = ap (names_series c.args.registry.now) (points-are c) ∙ words-named c.args.registry.now (words c) (sent c).there

pub returns-clause-form : goal.returns-clause-form
returns-clause-form c =
    kept-form c.args.registry.now c.requires.registry (words c) (sent c).there (sent c).rising c.in_ok-points.points (points-are c) c.in_ok-note.note (note-short c)
    c.args.beat.now.moment c.requires.later (search rules) c.in_ok-points.ensures.short

pub returns-clause-size : goal.returns-clause-size
returns-clause-size c =
    kept-size c.args.registry.now c.requires.registry (words c) (sent c).there (sent c).rising c.in_ok-points.points (points-are c) c.in_ok-note.note (note-short c)
    (Some c.args.beat.now.moment)

-- ---- what its entry requires
pub copied_entry-requires-clause-rising : goal.copied_entry-requires-clause-rising
copied_entry-requires-clause-rising c =
    let sent = sent-words c.args.registry.now c.requires.own c.requires.registry.few c.args.message.now.names c.args.beat.now c.requires.names c.requires.places c.requires.words
    c.args.series.now c.in_ok-words.words.items c.requires.series c.in_ok-words.ensures.same c.in_ok-words.ensures.rises in
    subst AreRising (sym c.as_slice-2.ensures.value) sent.rising

pub copied_entry-requires-clause-stored : goal.copied_entry-requires-clause-stored
copied_entry-requires-clause-stored c =
    let sent = sent-words c.args.registry.now c.requires.own c.requires.registry.few c.args.message.now.names c.args.beat.now c.requires.names c.requires.places c.requires.words
    c.args.series.now c.in_ok-words.words.items c.requires.series c.in_ok-words.ensures.same c.in_ok-words.ensures.rises in
    subst (All (λ (word : SeriesWord). is_word word.word ≡ true)) (sym c.as_slice-2.ensures.value) (all-stored c.args.registry.now c.in_ok-words.words.items sent.there)

pub copied_entry-requires-clause-few : goal.copied_entry-requires-clause-few
copied_entry-requires-clause-few c =
    let sent = sent-words c.args.registry.now c.requires.own c.requires.registry.few c.args.message.now.names c.args.beat.now c.requires.names c.requires.places c.requires.words
    c.args.series.now c.in_ok-words.words.items c.requires.series c.in_ok-words.ensures.same c.in_ok-words.ensures.rises in
    subst (λ (words : List SeriesWord). length words ≤ 65536) (sym c.as_slice-2.ensures.value) sent.few
