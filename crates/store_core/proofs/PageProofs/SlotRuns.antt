-- The pages of points in the order of their series, then moments: each has its form, and their order is kept.
use Rattle.std.proofs.Common.{◌≡◌, ◌≢◌, ℕ, zero, suc, ◌+◌, ◌-◌, ◌*◌, ◌^◌, ◌<◌, ◌≤◌, true, List, [], ◌∷◌, ◌++◌, length, map, replicate, Some, refl, sym, ap, subst, ◌∙◌, arith, append_assoc, length-append, lit<}
use Rattle.std.specs.List.{AllByRecursion}
use Rattle.std.proofs.lemmas.Bool.{and_from, and_parts, eqb-true, false≢true, lt-ltb}
use Rattle.std.proofs.lemmas.List.{length-replicate}
use Rattle.list_lemmas.proofs.Every.{all-append}
use Rattle.storage_number.specs.Step.{steps}
use Rattle.storage_number.specs.Word.{is_word}
use Rattle.beat_tiers.specs.declared.item.Item.{Item}
use Rattle.beat_tiers.specs.declared.item.Stepped.{Stepped}
use Rattle.checkpoint_body.specs.declared.item.Point.{Point}
use Rattle.checkpoint_body.specs.declared.page.SlotPage.{SlotPage}
use Rattle.page_buffer.specs.Slots.{spaced}
use Rattle.checkpoint_body.specs.Fields.{FitsWord}
use Rattle.checkpoint_body.specs.Slots.{slot_page_of, slot_pages, with_point, with_word}
use Rattle.checkpoint_body.proofs.SlotLemmas.{takes_is}
use Rattle.store_core.specs.pages.Items.{point_of_item}
use Rattle.beat_tiers.specs.Sound.{IsPointItem}
use Rattle.store_core.specs.pages.Ranges.{FitsPoint}
use Rattle.store_core.proofs.PageProofs.RunLemmas.{run-pages_of, AreRun, HasSpan, Span}
use Rattle.store_core.proofs.PageProofs.SeriesOrder.{all_mapped, linked_map, AreBySeries}

-- its moments
abbrev pub span_of : SlotPage → Span
span_of page = record { series = page.series; first = page.first; end = page.first + (length page.words - 1) * page.step }

-- ---- words, one after the other

spaced-append : (empty : ℕ) (words more : List ℕ) → spaced empty words ≡ true → spaced 0 more ≡ true → spaced empty (words ++ more) ≡ true
spaced-append empty [] more spread rest = subst (λ (n : ℕ). spaced n more ≡ true) (sym (eqb-true empty 0 spread)) rest
spaced-append empty (zero ∷ words) more spread rest =
    let parts = and_parts _ _ spread in and_from _ _ parts.0 (spaced-append (empty + 1) words more parts.1 rest)
spaced-append empty (suc word ∷ words) more spread rest = spaced-append 0 words more spread rest

spaced-word : (empty word : ℕ) → word ≢ 0 → spaced empty (word ∷ []) ≡ true
spaced-word empty zero some = absurd (some refl)
spaced-word empty (suc word) some = refl

spaced-gap : (empty count word : ℕ) → word ≢ 0 → empty + count ≤ 6 → spaced empty (replicate count 0 ++ word ∷ []) ≡ true
spaced-gap empty zero word some few = spaced-word empty word some
spaced-gap empty (suc count) word some few = and_from _ _ (lt-ltb empty 6 (omega arith)) (spaced-gap (empty + 1) count word some (omega arith))

fits-gap : (count word : ℕ) → word < 2 ^ 32 → AllByRecursion FitsWord (replicate count 0 ++ word ∷ [])
fits-gap zero word fits = (fits, tt)
fits-gap (suc count) word fits = (lit< tt, fits-gap count word fits)

-- ---- a page

-- a point of a segment
pub record IsPoint (point : Point) : Type 0 where
  pub series : point.series < 65536
  pub moment : point.moment < 2 ^ 32
  pub least : 1 ≤ point.step
  pub most : point.step ≤ 86400
  pub word : is_word point.word ≡ true
  pub fits : point.word < 2 ^ 32

pub word_some : (word : ℕ) → is_word word ≡ true → word ≢ 0
unfolding steps
word_some word is same = false≢true (subst (λ (n : ℕ). is_word n ≡ true) same is)

-- the page of some of them
pub record IsPage (page : SlotPage) : Type 0 where
  pub series : page.series < 65536
  pub least : 1 ≤ page.step
  pub most : page.step ≤ 86400
  pub some : 1 ≤ length page.words
  pub few : length page.words ≤ 1024
  pub spread : spaced 6 page.words ≡ true
  pub fits : AllByRecursion FitsWord page.words
  pub ends : page.first + (length page.words - 1) * page.step < 2 ^ 32

page_begun : (point : Point) → IsPoint point → IsPage (slot_page_of point)
page_begun point is = record {
  series = is.series;
  least = is.least;
  most = is.most;
  some = omega arith;
  few = omega arith;
  spread = spaced-word 6 point.word (word_some point.word is.word);
  fits = (is.fits, tt);
  ends = omega (arith, is.moment);
}

of_begun : (point : Point) → IsPoint point → IsPage (slot_page_of point) × HasSpan (span_of (slot_page_of point)) point.series point.moment point.moment
of_begun point is = (page_begun point is, record { series = refl; first = refl; end = omega arith })

-- the page with a point behind so many empty slots
page_added : (page : SlotPage) (point : Point) (empty : ℕ) → IsPage page → IsPoint point → empty ≤ 6 → length page.words + empty < 1024
    → page.first + (length page.words + empty) * page.step ≡ point.moment
    → IsPage (with_word page point.word empty) × HasSpan (span_of (with_word page point.word empty)) page.series page.first point.moment
page_added page point empty was is few room moment =
    let more : List ℕ = replicate empty 0 ++ point.word ∷ [] in
    let words : page.words ++ replicate empty 0 ++ point.word ∷ [] ≡ page.words ++ more = append_assoc page.words (replicate empty 0) (point.word ∷ []) in
    let count : length (page.words ++ replicate empty 0 ++ point.word ∷ []) ≡ length page.words + empty + 1 =
    length-append (page.words ++ replicate empty 0) (point.word ∷ [])
    ∙ ap (λ (n : ℕ). n + 1) (length-append page.words (replicate empty 0) ∙ ap (λ (n : ℕ). length page.words + n) (length-replicate empty 0)) in
    let last : length (page.words ++ replicate empty 0 ++ point.word ∷ []) - 1 ≡ length page.words + empty = omega (arith, count) in
    let end : page.first + (length (page.words ++ replicate empty 0 ++ point.word ∷ []) - 1) * page.step ≡ point.moment =
    ap (λ (n : ℕ). page.first + n * page.step) last ∙ moment in (
      record {
        series = was.series;
        least = was.least;
        most = was.most;
        some = omega (arith, count);
        few = omega (arith, count, room);
        spread = subst (λ (l : List ℕ). spaced 6 l ≡ true) (sym words)
            (spaced-append 6 page.words more was.spread (spaced-gap 0 empty point.word (word_some point.word is.word) (omega (arith, few))));
        fits = subst (AllByRecursion FitsWord) (sym words) (all-append FitsWord page.words more was.fits (fits-gap empty point.word is.fits));
        ends = subst (λ (n : ℕ). n < 2 ^ 32) (sym end) is.moment;
      },
      record { series = refl; first = refl; end = end },
    )

of_added : (page : SlotPage) (point : Point) (more : SlotPage) → IsPage page → IsPoint point → with_point page point ≡ Some more
    → IsPage more × HasSpan (span_of more) point.series (span_of page).first point.moment × ((span_of page).series ≡ point.series)
of_added page point more was is e =
    let known = takes_is page point more e in
    let both = page_added page point known.empty was is known.few known.room known.moment in
    let P : SlotPage → Type 0 = λ page'. IsPage page' × HasSpan (span_of page') page.series page.first point.moment in
    let made = subst P known.is both in
    (made.0, record { series = made.1.series ∙ known.series; first = made.1.first; end = made.1.end }, known.series)

-- ---- the pages of items

-- each page has its form, and may follow the one before
abbrev pub AreSlotRun : List SlotPage → Type 0
AreSlotRun pages = AreRun span_of IsPage (record { series = 0; free = 0 }) pages

point_is : (item : Item Stepped) → IsPointItem item → FitsPoint (point_of_item item) → IsPoint (point_of_item item)
point_is item is fits = record { series = is.series; moment = fits.moment; least = is.least; most = is.most; word = is.word; fits = fits.word }

-- the points of items by their series
pub points_are : (sorted : List (Item Stepped)) → AllByRecursion IsPointItem sorted → AllByRecursion FitsPoint (map point_of_item sorted)
    → AllByRecursion IsPoint (map point_of_item sorted)
points_are sorted are fit = all_mapped IsPointItem FitsPoint IsPoint point_of_item point_is sorted are fit

pub slot_run : (sorted : List (Item Stepped)) → AreBySeries sorted → AllByRecursion IsPoint (map point_of_item sorted)
    → AreSlotRun (slot_pages (map point_of_item sorted))
slot_run sorted by are =
    run-pages_of with_point slot_page_of span_of (λ (point : Point). point.series) (λ (point : Point). point.moment) IsPoint IsPage of_begun of_added
    (map point_of_item sorted)
    (linked_map point_of_item (λ (point : Point). point.series) (λ (point : Point). point.moment) IsPoint (λ one next behind. behind) sorted by are)
