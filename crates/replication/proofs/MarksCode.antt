-- Steps of the calls on marks.
use Rattle.std.proofs.Common.{◌≡◌, ℕ, zero, suc, ◌+◌, ◌-◌, ◌<◌, ◌≤◌, Bool, true, false, not, List, [], ◌∷◌, ◌++◌, length, map, take, drop, get_or, set, cond, refl, sym, ap, subst, ◌∙◌, arith, Some, slice_get, append_assoc}
use Rattle.std.specs.List.{AllByRecursion, sum_by}
use Rattle.std.proofs.lemmas.List.{length-take-le, map-append, take-append-drop, take_more}
use Rattle.replication.specs.declared.beats.SeriesWord.{SeriesWord}
use Rattle.replication.specs.declared.marks.Marks.{Marks}
use Rattle.replication.specs.declared.names.ChartName.{ChartName}
use Rattle.replication.specs.declared.names.DimName.{DimName}
use Rattle.replication.specs.declared.names.Names.{Names}
use Rattle.replication.specs.Bytes.{chart_size, dimension_size}
use Rattle.replication.specs.Marks.{AreMarks, AreMarksOf, ArePlaces, words_size}
use Rattle.replication.specs.Names.{uses, uses_chart, placed_dimension}
use Rattle.replication.specs.Places.{select, place}
use Rattle.replication.proofs.MarksLaws.{mark-more, uses-more, uses_chart-more, words_size-more, words_size-rises}
use Rattle.replication.proofs.Places.{select-more}

-- what holds of each item holds of the one at a place
pub all-index : {X : Type 0} (P : X → Type 0) (xs : List X) (i : ℕ) (x : X) → AllByRecursion P xs → i < length xs → x ≡ get_or xs i x → P x
all-index P [] i x all lt at = absurd (omega arith)
all-index P (y ∷ ys) zero x all lt at = subst P (sym at) all.0
all-index P (y ∷ ys) (suc i) x all lt at = all-index P ys i x all.1 (omega arith) at

pub get_at : {X : Type 0} (xs : List X) (i : ℕ) (x : X) → i < length xs → x ≡ get_or xs i x → slice_get xs i ≡ Some x
get_at [] i x lt at = absurd (omega arith)
get_at (y ∷ ys) zero x lt at = ap Some (sym at)
get_at (y ∷ ys) (suc i) x lt at = get_at ys i x (omega arith) at

-- both names of a word are marked
pub marked : (names : Names) (words : List SeriesWord) (old : Marks) (new : Marks) (word : SeriesWord) (dimension : DimName)
    → slice_get names.dimensions word.series ≡ Some dimension → word.series < length names.dimensions → dimension.chart < length names.charts
    → new.dimensions.items ≡ set old.dimensions.items word.series true → new.charts.items ≡ set old.charts.items dimension.chart true
    → AreMarksOf names words old → AreMarksOf names (words ++ word ∷ []) new
marked names words old new word dimension found lt lt_chart dimensions charts are = record {
  dimensions = subst (AreMarks (uses (words ++ word ∷ [])) (length names.dimensions)) (sym dimensions)
      (mark-more (uses words) (uses (words ++ word ∷ [])) (length names.dimensions) word.series old.dimensions.items (λ j. uses-more words word j) lt are.dimensions);
  charts = subst (AreMarks (uses_chart names (words ++ word ∷ [])) (length names.charts)) (sym charts)
      (mark-more (uses_chart names words) (uses_chart names (words ++ word ∷ [])) (length names.charts) dimension.chart old.charts.items (λ j. uses_chart-more names words word dimension j found) lt_chart are.charts);
}

cond-not : (b : Bool) (n : ℕ) → cond (not b) n 0 ≡ cond b 0 n
cond-not true n = refl
cond-not false n = refl

-- and what is new takes its bytes
pub sized : (names : Names) (words : List SeriesWord) (old : Marks) (word : SeriesWord) (dimension : DimName) (chart : ChartName) (first second : ℕ)
    → slice_get names.dimensions word.series ≡ Some dimension → slice_get names.charts dimension.chart ≡ Some chart → word.series < length names.dimensions → dimension.chart < length names.charts
    → first ≡ cond (not (get_or old.dimensions.items word.series false)) (dimension_size dimension) 0 → second ≡ cond (not (get_or old.charts.items dimension.chart false)) (chart_size chart) 0
    → AreMarksOf names words old → words_size names (words ++ word ∷ []) ≡ words_size names words + (8 + first + second)
sized names words old word dimension chart first second found found_chart lt lt_chart own own_chart are =
    let more = words_size-more names words word dimension chart found found_chart in
    let a : first ≡ cond (uses words word.series) 0 (dimension_size dimension) = own ∙ cond-not (get_or old.dimensions.items word.series false) (dimension_size dimension) ∙ ap (λ b. cond b 0 (dimension_size dimension)) (are.dimensions.each word.series lt) in
    let b : second ≡ cond (uses_chart names words dimension.chart) 0 (chart_size chart) = own_chart ∙ cond-not (get_or old.charts.items dimension.chart false) (chart_size chart) ∙ ap (λ b. cond b 0 (chart_size chart)) (are.charts.each dimension.chart lt_chart) in
    omega (arith, more, a, b)

-- ---- loops
pub words-more : {X : Type 0} (words more items : List X) (i : ℕ) (d : X) → items ≡ more → i < length items → (words ++ take i more) ++ get_or items i d ∷ [] ≡ words ++ take (i + 1) more
words-more words more items i d same lt =
    let within : i < length more = omega (arith, ap length same) in
    ap (λ items. (words ++ take i more) ++ get_or items i d ∷ []) same ∙ append_assoc words (take i more) (get_or more i d ∷ []) ∙ ap (λ end. words ++ end) (sym (take_more more i d within))

words-split : {X : Type 0} (words more : List X) (i : ℕ) → (words ++ take i more) ++ drop i more ≡ words ++ more
words-split words more i = append_assoc words (take i more) (drop i more) ∙ ap (λ end. words ++ end) (take-append-drop i more)

-- a word that has no room is too much for the beat
pub word-past : (names : Names) (words more items : List SeriesWord) (i : ℕ) (d : SeriesWord) (room start size : ℕ) → items ≡ more → i < length items
    → room + (8 + words_size names (words ++ take i more)) ≡ start + words_size names words
    → words_size names ((words ++ take i more) ++ get_or items i d ∷ []) ≡ words_size names (words ++ take i more) + size → room < size
    → start + words_size names words < 8 + words_size names (words ++ more)
word-past names words more items i d room start size same lt before next past =
    let grown = ap (words_size names) (words-more words more items i d same lt) in
    let all = ap (words_size names) (words-split words more (i + 1)) in
    omega (arith, words_size-rises names (words ++ take (i + 1) more) (drop (i + 1) more), grown, all, before, next, past)

-- and one that has room leaves the rest
pub word-within : (names : Names) (words more items : List SeriesWord) (i : ℕ) (d : SeriesWord) (room start size : ℕ) → items ≡ more → i < length items
    → room + (8 + words_size names (words ++ take i more)) ≡ start + words_size names words
    → words_size names ((words ++ take i more) ++ get_or items i d ∷ []) ≡ words_size names (words ++ take i more) + size → size ≤ room
    → room - size + (8 + words_size names (words ++ take (i + 1) more)) ≡ start + words_size names words
word-within names words more items i d room start size same lt before next within =
    let grown = ap (words_size names) (words-more words more items i d same lt) in
    omega (arith, grown, before, next, within)

pub places-own : (test : ℕ → Bool) (n : ℕ) (places : List ℕ) → ArePlaces test n places → ArePlaces test (length places) places
places-own test n places are = record { long = refl; each = λ k lt. are.each k (omega (arith, are.long)) }

-- no words take nothing
pub words_size-none : (names : Names) → words_size names [] ≡ 0
words_size-none names = omega (arith, none dimension_size 0 names.dimensions, none chart_size 0 names.charts)
  where
    none : {X : Type 0} (f : X → ℕ) (n : ℕ) (xs : List X) → sum_by f (select (λ k. false) n xs) ≡ 0
    none f n [] = refl
    none f n (x ∷ xs) = none f (n + 1) xs

-- ---- what is selected
pub select-next : {X : Type 0} (test : ℕ → Bool) (xs : List X) (marks : List Bool) (i : ℕ) (d : Bool) (x : X) → AreMarks test (length xs) marks → i < length xs → x ≡ get_or xs i x
    → select test 0 (take i xs) ++ cond (get_or marks i d) (x ∷ []) [] ≡ select test 0 (take (i + 1) xs)
select-next test xs marks i d x are lt at =
    let at_i : 0 + length (take i xs) ≡ i = omega (arith, length-take-le i xs (omega arith)) in
    let mark : get_or marks i d ≡ test (0 + length (take i xs)) = any-default marks i d false (omega (arith, are.long)) ∙ are.each i lt ∙ ap test (sym at_i) in
    ap (λ b. select test 0 (take i xs) ++ cond b (x ∷ []) []) mark ∙ sym (select-more test 0 (take i xs) x) ∙ ap (select test 0) (sym (take_more xs i x lt ∙ ap (λ x. take i xs ++ x ∷ []) (sym at)))
  where
    any-default : (marks : List Bool) (i : ℕ) (d e : Bool) → i < length marks → get_or marks i d ≡ get_or marks i e
    any-default [] i d e lt = absurd (omega arith)
    any-default (m ∷ ms) zero d e lt = refl
    any-default (m ∷ ms) (suc i) d e lt = any-default ms i d e (omega arith)

nat-default : (xs : List ℕ) (k d e : ℕ) → k < length xs → get_or xs k d ≡ get_or xs k e
nat-default [] k d e lt = absurd (omega arith)
nat-default (x ∷ xs) zero d e lt = refl
nat-default (x ∷ xs) (suc k) d e lt = nat-default xs k d e (omega arith)

map-cond : {X Y : Type 0} (f : X → Y) (b : Bool) (x : X) → cond b (f x ∷ []) [] ≡ map f (cond b (x ∷ []) [])
map-cond f true x = refl
map-cond f false x = refl

pub dimension-next : (test charts : ℕ → Bool) (xs : List DimName) (marks : List Bool) (places : List ℕ) (i : ℕ) (d : Bool) (e : ℕ) (x : DimName)
    → AreMarks test (length xs) marks → ArePlaces charts (length places) places → i < length xs → x ≡ get_or xs i x → x.chart < length places
    → map (placed_dimension charts) (select test 0 (take i xs)) ++ cond (get_or marks i d) ((record x { chart = get_or places x.chart e }) ∷ []) []
    ≡ map (placed_dimension charts) (select test 0 (take (i + 1) xs))
dimension-next test charts xs marks places i d e x are places_are lt at within =
    let place_is : get_or places x.chart e ≡ place charts x.chart = nat-default places x.chart e 0 within ∙ places_are.each x.chart within in
    ap (λ (n : ℕ). map (placed_dimension charts) (select test 0 (take i xs)) ++ cond (get_or marks i d) ((record x { chart = n }) ∷ []) []) place_is
    ∙ ap (λ end. map (placed_dimension charts) (select test 0 (take i xs)) ++ end) (map-cond (placed_dimension charts) (get_or marks i d) x)
    ∙ sym (map-append (placed_dimension charts) (select test 0 (take i xs)) (cond (get_or marks i d) (x ∷ []) []))
    ∙ ap (map (placed_dimension charts)) (select-next test xs marks i d x are lt at)

pub select-push : {X : Type 0} (test : ℕ → Bool) (xs : List X) (marks : List Bool) (i : ℕ) (d : Bool) (x : X) (used new : List X) → AreMarks test (length xs) marks → i < length xs → x ≡ get_or xs i x
    → used ≡ select test 0 (take i xs) → new ≡ used ++ cond (get_or marks i d) (x ∷ []) [] → new ≡ select test 0 (take (i + 1) xs)
select-push test xs marks i d x used new are lt at before pushed =
    pushed ∙ ap (λ used. used ++ cond (get_or marks i d) (x ∷ []) []) before ∙ select-next test xs marks i d x are lt at

pub dimension-push : (test charts : ℕ → Bool) (xs : List DimName) (marks : List Bool) (places : List ℕ) (i : ℕ) (d : Bool) (e : ℕ) (x : DimName) (used new : List DimName)
    → AreMarks test (length xs) marks → ArePlaces charts (length places) places → i < length xs → x ≡ get_or xs i x → x.chart < length places
    → used ≡ map (placed_dimension charts) (select test 0 (take i xs)) → new ≡ used ++ cond (get_or marks i d) ((record x { chart = get_or places x.chart e }) ∷ []) []
    → new ≡ map (placed_dimension charts) (select test 0 (take (i + 1) xs))
dimension-push test charts xs marks places i d e x used new are places_are lt at within before pushed =
    pushed ∙ ap (λ used. used ++ cond (get_or marks i d) ((record x { chart = get_or places x.chart e }) ∷ []) []) before ∙ dimension-next test charts xs marks places i d e x are places_are lt at within
