-- The words of a pattern are those of its words.
use Rattle.std.proofs.Common.{◌≡◌, ◌<◌, ℕ, Bool, true, false, cond, ◌||◌, List, [], ◌∷◌, ◌++◌, length, filter, Some, refl, sym, ap, ◌∙◌, arith}
use Rattle.std.proofs.lemmas.List.Elements.{filter-append}
use Rattle.std.proofs.lemmas.List.Splits.{length-slice_split}
use Rattle.std.specs.List.{slice_split, onto_first, flat_map}
use Rattle.simple_pattern.specs.Words.{is_separator, is_word, words}
use Rattle.health_config.specs.Lookup.{behind_of, dimensions, dimensions_by, pattern}

-- what stands between separators, commas among them
abbrev parts : List ℕ → List (List ℕ)
parts text = slice_split (is_separator true) text

wider_by : (b c : Bool) → (b || false) ≡ true → (b || c) ≡ true
wider_by true c e = refl
wider_by false c e = cc

wider : (byte : ℕ) → is_separator false byte ≡ true → is_separator true byte ≡ true
wider byte e = wider_by _ _ e

onto_first-append : (byte : ℕ) (xs ys : List (List ℕ)) → 0 < length xs → onto_first byte (xs ++ ys) ≡ onto_first byte xs ++ ys
onto_first-append byte [] ys some = absurd (omega arith)
onto_first-append byte (x ∷ xs) ys some = refl

some_parts : (text : List ℕ) → 0 < length (parts text)
some_parts text = omega (arith, length-slice_split (is_separator true) text)

blank_step : (byte : ℕ) (whole : List (List ℕ)) (blanks : List (List ℕ)) (q : Bool) → q ≡ true → whole ≡ flat_map parts blanks
    → cond q ([] ∷ whole) (onto_first byte whole) ≡ flat_map parts ([] ∷ blanks)
blank_step byte whole blanks true e same = ap (λ (more : List (List ℕ)). [] ∷ more) same
blank_step byte whole blanks false e same = cc

other_step : (byte : ℕ) (first : List ℕ) (blanks whole : List (List ℕ)) (q : Bool) → whole ≡ parts first ++ flat_map parts blanks
    → cond q ([] ∷ whole) (onto_first byte whole) ≡ cond q ([] ∷ parts first) (onto_first byte (parts first)) ++ flat_map parts blanks
other_step byte first blanks whole true same = ap (λ (more : List (List ℕ)). [] ∷ more) same
other_step byte first blanks whole false same =
    ap (onto_first byte) same ∙ onto_first-append byte (parts first) (flat_map parts blanks) (some_parts first)

parts_step : (byte : ℕ) (whole blanks : List (List ℕ)) (p : Bool) → is_separator false byte ≡ p → 0 < length blanks → whole ≡ flat_map parts blanks
    → cond (is_separator true byte) ([] ∷ whole) (onto_first byte whole) ≡ flat_map parts (cond p ([] ∷ blanks) (onto_first byte blanks))
parts_step byte whole blanks true e some same = blank_step byte whole blanks (is_separator true byte) (wider byte e) same
parts_step byte whole [] false e some same = absurd (omega arith)
parts_step byte whole (first ∷ blanks) false e some same = other_step byte first blanks whole (is_separator true byte) same

parts_flat : (text : List ℕ) → parts text ≡ flat_map parts (slice_split (is_separator false) text)
parts_flat [] = refl
parts_flat (byte ∷ text) =
    parts_step byte (parts text) (slice_split (is_separator false) text) (is_separator false byte) refl (omega (arith, length-slice_split (is_separator false) text)) (parts_flat text)

filter_step : (part : List ℕ) (more : List (List ℕ)) → filter is_word (flat_map parts more) ≡ flat_map (words true) (filter is_word more)
    → filter is_word (parts part ++ flat_map parts more) ≡ flat_map (words true) (cond (is_word part) (part ∷ filter is_word more) (filter is_word more))
filter_step [] more same = same
filter_step (byte ∷ part) more same =
    filter-append is_word (parts (byte ∷ part)) (flat_map parts more) ∙ ap (λ (rest : List (List ℕ)). words true (byte ∷ part) ++ rest) same

filter_flat : (all : List (List ℕ)) → filter is_word (flat_map parts all) ≡ flat_map (words true) (filter is_word all)
filter_flat [] = refl
filter_flat (part ∷ more) = filter_step part more (filter_flat more)

-- to cut at commas too is to cut each word there
pub words_flat : (text : List ℕ) → words true text ≡ flat_map (words true) (words false text)
words_flat text = ap (filter is_word) (parts_flat text) ∙ filter_flat (slice_split (is_separator false) text)

-- the dimensions of a text behind the first `of`
pub dimensions_some : (text dims : List ℕ) → Some (words false dims) ≡ behind_of (words false text) → dimensions (words false text) ≡ pattern (words true dims)
dimensions_some text dims e = ap dimensions_by (sym e) ∙ ap pattern (sym (words_flat dims))
