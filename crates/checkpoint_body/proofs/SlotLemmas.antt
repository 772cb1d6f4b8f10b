-- The points of a page of slots, and its size.
use Rattle.std.proofs.Common.{◌≡◌, ◌≢◌, ℕ, zero, suc, ◌+◌, ◌*◌, ◌≤◌, ◌<◌, Bool, ◌&&◌, ◌==◌, ltb, List, [], ◌∷◌, ◌++◌, length, replicate, Option, Some, None, refl, ap, sym, subst, ◌∙◌, arith}
use Rattle.std.specs.Option.{option_map}
use Rattle.std.specs.List.{find, AllByRecursion}
use Rattle.std.proofs.Common.{length-append}
use Rattle.std.proofs.lemmas.Bool.{and_parts, eqb-true, ltb-true}
use Rattle.std.proofs.lemmas.List.{append-nil}
use Rattle.list_lemmas.proofs.Searches.{found-all, found-passes}
use Rattle.checkpoint_body.specs.declared.item.Point.{Point}
use Rattle.checkpoint_body.specs.declared.page.SlotPage.{SlotPage}
use Rattle.checkpoint_body.specs.Slots.{gaps, points_from, points_in, slot_page_of, slot_page_size, takes, with_point, with_word}

-- ---- the points of a page

module _ (series step : ℕ) where
  points_from-append : (moment : ℕ) (prefix rest : List ℕ)
      → points_from series step moment (prefix ++ rest) ≡ points_from series step moment prefix ++ points_from series step (moment + length prefix * step) rest
  points_from-append moment [] rest = ap (λ (at : ℕ). points_from series step at rest) (omega arith)
  points_from-append moment (zero ∷ prefix) rest =
      points_from-append (moment + step) prefix rest
      ∙ ap (λ (at : ℕ). points_from series step (moment + step) prefix ++ points_from series step at rest) (omega arith)
  points_from-append moment (suc word ∷ prefix) rest =
      ap (λ (points : List Point). record { series = series; moment = moment; step = step; word = suc word } ∷ points)
      (points_from-append (moment + step) prefix rest
      ∙ ap (λ (at : ℕ). points_from series step (moment + step) prefix ++ points_from series step at rest) (omega arith))

  points_from-empty : (moment count : ℕ) → points_from series step moment (replicate count 0) ≡ []
  points_from-empty moment zero = refl
  points_from-empty moment (suc count) = points_from-empty (moment + step) count

  points_from-one : (moment word : ℕ) → word ≢ 0
      → points_from series step moment (word ∷ []) ≡ record { series = series; moment = moment; step = step; word = word } ∷ []
  points_from-one moment zero some = absurd (some refl)
  points_from-one moment (suc word) some = refl

length-empty : (count : ℕ) → length {A = ℕ} (replicate count 0) ≡ count
length-empty zero = refl
length-empty (suc count) = ap suc (length-empty count)

-- a page that takes a point
pub record Takes (page : SlotPage) (point : Point) (more : SlotPage) : Type 0 where
  pub empty : ℕ
  pub few : empty ≤ 6
  pub series : page.series ≡ point.series
  pub step : page.step ≡ point.step
  pub moment : page.first + (length page.words + empty) * page.step ≡ point.moment
  pub room : length page.words + empty < 1024
  pub is : with_word page point.word empty ≡ more

mapped : {X Y : Type 0} (f : X → Y) (o : Option X) (y : Y) → option_map f o ≡ Some y → (x : X) × (o ≡ Some x) × (f x ≡ y)
mapped f (Some x) y e = (x, refl, cc)
mapped f None y e = absurd cc

few_gaps : AllByRecursion (λ (empty : ℕ). empty ≤ 6) gaps
few_gaps = (omega arith, (omega arith, (omega arith, (omega arith, (omega arith, (omega arith, (omega arith, tt)))))))

pub takes_is : (page : SlotPage) (point : Point) (more : SlotPage) → with_point page point ≡ Some more → Takes page point more
takes_is page point more e =
    let found = mapped (with_word page point.word) (find (takes page point) gaps) more e in
    let empty = found.0 in
    let passes = found-passes (takes page point) gaps empty found.1 in
    let few = found-all (λ (n : ℕ). n ≤ 6) (takes page point) gaps empty few_gaps found.1 in
    let first : Bool = page.series == point.series in
    let second : Bool = page.step == point.step in
    let third : Bool = page.first + (length page.words + empty) * page.step == point.moment in
    let fourth : Bool = ltb (length page.words + empty) 1024 in
    let last = and_parts (first && second && third) fourth passes in
    let next = and_parts (first && second) third last.0 in
    let prefix = and_parts first second next.0 in
    record {
      empty = empty;
      few = few;
      series = eqb-true page.series point.series prefix.0;
      step = eqb-true page.step point.step prefix.1;
      moment = eqb-true (page.first + (length page.words + empty) * page.step) point.moment next.1;
      room = ltb-true (length page.words + empty) 1024 last.1;
      is = found.2;
    }

pub of_begun : (point : Point) → point.word ≢ 0 → points_in (slot_page_of point) ≡ point ∷ []
of_begun point some = points_from-one point.series point.step point.moment point.word some

point_from : ℕ → ℕ → ℕ → ℕ → Point
point_from series step moment word = record { series = series; moment = moment; step = step; word = word }

pub of_added : (page : SlotPage) (point : Point) (more : SlotPage) → point.word ≢ 0 → with_point page point ≡ Some more → points_in more ≡ points_in page ++ point ∷ []
unfolding point_from
of_added page point more some e =
    let known = takes_is page point more e in
    let empty = known.empty in
    let prefix = page.words ++ replicate empty 0 in
    let before : points_from page.series page.step page.first prefix ≡ points_in page =
    points_from-append page.series page.step page.first page.words (replicate empty 0)
    ∙ ap (λ (rest : List Point). points_in page ++ rest) (points_from-empty page.series page.step (page.first + length page.words * page.step) empty)
    ∙ append-nil (points_in page) in
    let at : page.first + length prefix * page.step ≡ point.moment =
    ap (λ (n : ℕ). page.first + n * page.step) (length-append page.words (replicate empty 0) ∙ ap (λ (n : ℕ). length page.words + n) (length-empty empty)) ∙ known.moment in
    let one : points_from page.series page.step (page.first + length prefix * page.step) (point.word ∷ []) ≡ point ∷ [] =
    points_from-one page.series page.step (page.first + length prefix * page.step) point.word some
    ∙ ap (λ (n : ℕ). point_from page.series page.step n point.word ∷ []) at
    ∙ ap (λ (n : ℕ). point_from n page.step point.moment point.word ∷ []) known.series
    ∙ ap (λ (n : ℕ). point_from point.series n point.moment point.word ∷ []) known.step in
    ap points_in (sym known.is)
    ∙ points_from-append page.series page.step page.first prefix (point.word ∷ [])
    ∙ ap (λ (points : List Point). points ++ points_from page.series page.step (page.first + length prefix * page.step) (point.word ∷ [])) before
    ∙ ap (λ (points : List Point). points_in page ++ points) one

-- ---- its size

pub size_begun : (point : Point) → slot_page_size (slot_page_of point) ≤ 28
size_begun point = omega arith

pub size_added : (page : SlotPage) (point : Point) (more : SlotPage) → with_point page point ≡ Some more → slot_page_size more ≤ slot_page_size page + 28
size_added page point more e =
    let known = takes_is page point more e in
    let empty = known.empty in
    let count : length (page.words ++ replicate empty 0 ++ point.word ∷ []) ≡ length page.words + empty + 1 =
    length-append (page.words ++ replicate empty 0) (point.word ∷ [])
    ∙ ap (λ (n : ℕ). n + 1) (length-append page.words (replicate empty 0) ∙ ap (λ (n : ℕ). length page.words + n) (length-empty empty)) in
    subst (λ (page' : SlotPage). slot_page_size page' ≤ slot_page_size page + 28) known.is (omega (arith, count, known.few))
