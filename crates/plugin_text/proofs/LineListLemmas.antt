-- Lines in one buffer.
use Rattle.std.proofs.Common.{◌≡◌, ℕ, ◌+◌, ◌-◌, ◌<◌, ◌≤◌, true, false, List, [], ◌∷◌, ◌++◌, length, take, drop, refl, ap, ◌∙◌, subst, arith, length-append, length-drop}
use Rattle.std.specs.List.{slice_range}
use Rattle.std.proofs.Math.Seq.{drop-append_seam}
use Rattle.std.proofs.lemmas.Bool.{le-leb, lt-leb}
use Rattle.std.proofs.lemmas.List.{take-append-le, drop-append-le, take_all, map-append, length-take-le, drop-drop}
use Rattle.std.proofs.lemmas.List.Elements.{All-head, All-tail}
use Rattle.plugin_text.specs.declared.line_list.Place.{Place}
use Rattle.plugin_text.specs.LineList.{line_at, lines_at, IsWithin, AreWithin}
use Rattle.plugin_text.specs.declared.splitter.TheConstants.{LINE_LIMIT}
use Rattle.plugin_text.specs.Lines.{parts, lines, fits}

range-append : (bytes more : List ℕ) (start end : ℕ) → start ≤ end → end ≤ length bytes → slice_range (bytes ++ more) start end ≡ slice_range bytes start end
range-append bytes more start end order within =
    let from_start : drop start (bytes ++ more) ≡ drop start bytes ++ more = drop-append-le start bytes more (omega arith) in
    ap (take (end - start)) from_start ∙ take-append-le (end - start) (drop start bytes) more (omega (arith, length-drop start bytes))

range-last : (bytes line : List ℕ) → slice_range (bytes ++ line) (length bytes) (length (bytes ++ line)) ≡ line
range-last bytes line = ap (take (length (bytes ++ line) - length bytes)) (drop-append_seam bytes line) ∙ take_all _ line (omega (arith, length-append bytes line))

-- how long a line is
pub length-line_at : (bytes : List ℕ) (place : Place) → IsWithin bytes place → length (line_at bytes place) + place.start ≡ place.end
length-line_at bytes place within =
    omega (arith, within.0, within.1, length-drop place.start bytes, length-take-le (place.end - place.start) (drop place.start bytes) (omega (arith, within.0, within.1, length-drop place.start bytes)))

pub fits_at : (bytes : List ℕ) (place : Place) → IsWithin bytes place → place.end ≤ place.start + LINE_LIMIT → fits (line_at bytes place) ≡ true
fits_at bytes place within short = le-leb (length (line_at bytes place)) LINE_LIMIT (omega (arith, length-line_at bytes place within, short))

pub too_long_at : (bytes : List ℕ) (place : Place) → IsWithin bytes place → place.start + LINE_LIMIT < place.end → fits (line_at bytes place) ≡ false
too_long_at bytes place within long = lt-leb (length (line_at bytes place)) LINE_LIMIT (omega (arith, length-line_at bytes place within, long))

-- the first part of what stands from a place on
pub parts_from : (bytes : List ℕ) (start len : ℕ) → parts (drop start bytes) ≡ take len (drop start bytes) ∷ parts (drop (len + 1) (drop start bytes))
    → parts (drop start bytes) ≡ slice_range bytes start (start + len) ∷ parts (drop (start + len + 1) bytes)
parts_from bytes start len is =
    let span : start + len - start ≡ len = omega arith in
    let behind : start + (len + 1) ≡ start + len + 1 = omega arith in
    is ∙ rw (span, drop-drop (len + 1) start bytes, behind) refl

-- ---- what is there stays when more bytes follow
module _ (bytes more : List ℕ) where
  pub lines_at-append : (places : List Place) → AreWithin bytes places → lines_at (bytes ++ more) places ≡ lines_at bytes places
  lines_at-append [] are = refl
  lines_at-append (place ∷ places) are =
      let here = All-head (IsWithin bytes) place places are in
      rw (range-append bytes more place.start place.end here.0 here.1, lines_at-append places (All-tail (IsWithin bytes) place places are)) refl

-- ---- one line more
pub lines_at-push : (bytes : List ℕ) (places : List Place) (place : Place) → lines_at bytes (places ++ place ∷ []) ≡ lines_at bytes places ++ line_at bytes place ∷ []
lines_at-push bytes places place = map-append (line_at bytes) places (place ∷ [])

-- a line that is added behind all others
module _ (bytes line : List ℕ) (places : List Place) (are : AreWithin bytes places) where
  abbrev last_place : Place
  last_place = record { start = length bytes; end = length (bytes ++ line) }

  at_last : lines_at (bytes ++ line) (places ++ last_place ∷ []) ≡ lines_at bytes places ++ line ∷ []
  at_last =
      lines_at-push (bytes ++ line) places last_place ∙ ap (λ ls. ls ++ line_at (bytes ++ line) last_place ∷ []) (lines_at-append bytes line places are)
      ∙ ap (λ l. lines_at bytes places ++ l ∷ []) (range-last bytes line)

  pub lines_at-pushed : (bytes' : List ℕ) (places' : List Place) (start end : ℕ) → bytes' ≡ bytes ++ line → start ≡ length bytes → end ≡ length bytes'
      → places' ≡ places ++ record { start = start; end = end } ∷ [] → lines_at bytes' places' ≡ lines_at bytes places ++ line ∷ []
  lines_at-pushed bytes' places' start end bytes_are start_is end_is places_are = rw (places_are, end_is, start_is, bytes_are) at_last

-- ---- the lines of a text that is added behind all others
module _ (bytes text bytes' : List ℕ) (places places' : List Place) (start : ℕ) (list : List (List ℕ)) (are : AreWithin bytes places) (is : lines_at bytes places ≡ list)
    (bytes_are : bytes' ≡ bytes ++ text) (start_is : start ≡ length bytes) where
  text_behind : drop start bytes' ≡ text
  text_behind = rw (bytes_are, start_is) (drop-append_seam bytes text)

  list_stays : lines_at bytes' places ≡ list
  list_stays = rw bytes_are (lines_at-append bytes text places are ∙ is)

  pub lines_behind : lines_at bytes' places' ≡ lines_at bytes' places ++ lines (drop start bytes') → lines_at bytes' places' ≡ list ++ lines text
  lines_behind added = added ∙ ap (λ ls. ls ++ lines (drop start bytes')) list_stays ∙ ap (λ (t : List ℕ). list ++ lines t) text_behind

  pub handed_behind : (IsPrefix : List ℕ → List (List ℕ) → Type 0) → (handed : List (List ℕ)) × (lines_at bytes' places' ≡ lines_at bytes' places ++ handed) × IsPrefix (drop start bytes') handed
      → (handed : List (List ℕ)) × (lines_at bytes' places' ≡ list ++ handed) × IsPrefix text handed
  handed_behind IsPrefix h = (h.0, h.1 ∙ ap (λ ls. ls ++ h.0) list_stays, subst (λ t. IsPrefix t h.0) text_behind h.2)
