-- What a line says, by the words that are kept of it.
use Rattle.std.proofs.Common.{◌≡◌, ℕ, false, List, [], ◌∷◌, length, take, nat_lt, Err, refl, ap, sym, arith, if◌then◌else◌}
use Rattle.std.proofs.lemmas.Bool.Decides.{nat_tests}
use Rattle.std.proofs.lemmas.Str.{is_utf8-from_IsUtf8}
use Rattle.std.specs.Str.{IsUtf8}
use Rattle.plugin_text.specs.declared.fault.LineFault.TheVariants.{NotText, MissingWord}
use Rattle.plugin_text.specs.declared.keyword.Keyword.{Keyword}
use Rattle.plugin_text.specs.declared.keyword.Keyword.TheVariants.{Chart, Dimension, Begin, Set, End, Flush, Disable, Moment, Query}
use Rattle.words.specs.Words.{words, has_open_quote}
use Rattle.plugin_text.specs.Block.{begin, set, moment}
use Rattle.plugin_text.specs.Chart.{chart, chart_of}
use Rattle.plugin_text.specs.Dimension.{dimension}
use Rattle.plugin_text.specs.Line.{line, text_line, known_line, said}
use Rattle.words.proofs.Boundaries.{not_utf8}

-- no line reads more than its first ten words

enough : (a b c d : List ℕ) (more : List (List ℕ)) → nat_lt (length (a ∷ b ∷ c ∷ d ∷ more)) 4 ≡ false
enough a b c d more = grind (arith, nat_tests)

chart-enough : (words : List (List ℕ)) → nat_lt (length words) 4 ≡ false → chart words ≡ chart_of words
chart-enough words is = ap (λ b. if b then Err MissingWord else chart_of words) is

chart-take : (words : List (List ℕ)) → chart (take 10 words) ≡ chart words
chart-take [] = refl
chart-take (a ∷ []) = refl
chart-take (a ∷ b ∷ []) = refl
chart-take (a ∷ b ∷ c ∷ []) = refl
chart-take (a ∷ b ∷ c ∷ d ∷ []) = refl
chart-take (a ∷ b ∷ c ∷ d ∷ e ∷ []) = refl
chart-take (a ∷ b ∷ c ∷ d ∷ e ∷ f ∷ []) = refl
chart-take (a ∷ b ∷ c ∷ d ∷ e ∷ f ∷ g ∷ []) = refl
chart-take (a ∷ b ∷ c ∷ d ∷ e ∷ f ∷ g ∷ h ∷ []) = refl
chart-take (a ∷ b ∷ c ∷ d ∷ e ∷ f ∷ g ∷ h ∷ i ∷ []) = refl
chart-take (a ∷ b ∷ c ∷ d ∷ e ∷ f ∷ g ∷ h ∷ i ∷ j ∷ more) =
    let all = a ∷ b ∷ c ∷ d ∷ e ∷ f ∷ g ∷ h ∷ i ∷ j ∷ more in
    sym (chart-enough all (enough a b c d (e ∷ f ∷ g ∷ h ∷ i ∷ j ∷ more)))

dimension-take : (words : List (List ℕ)) → dimension (take 10 words) ≡ dimension words
dimension-take [] = refl
dimension-take (a ∷ []) = refl
dimension-take (a ∷ b ∷ []) = refl
dimension-take (a ∷ b ∷ c ∷ []) = refl
dimension-take (a ∷ b ∷ c ∷ d ∷ []) = refl
dimension-take (a ∷ b ∷ c ∷ d ∷ e ∷ []) = refl
dimension-take (a ∷ b ∷ c ∷ d ∷ e ∷ f ∷ more) = refl

begin-take : (words : List (List ℕ)) → begin (take 10 words) ≡ begin words
begin-take [] = refl
begin-take (a ∷ more) = refl

set-take : (words : List (List ℕ)) → set (take 10 words) ≡ set words
set-take [] = refl
set-take (a ∷ []) = refl
set-take (a ∷ b ∷ []) = refl
set-take (a ∷ b ∷ c ∷ more) = refl

moment-take : (words : List (List ℕ)) → moment (take 10 words) ≡ moment words
moment-take [] = refl
moment-take (a ∷ more) = refl

said-take : (first : Keyword) (words : List (List ℕ)) (rest : List ℕ) → said first (take 10 words) rest ≡ said first words rest
said-take Chart words rest = chart-take words
said-take Dimension words rest = dimension-take words
said-take Begin words rest = begin-take words
said-take Set words rest = set-take words
said-take End words rest = refl
said-take Flush words rest = refl
said-take Disable words rest = refl
said-take Moment words rest = moment-take words
said-take Query words rest = refl

-- where no quote stays open, a line says what its kept words do
pub known_line-kept : (first : Keyword) (rest text : List ℕ) (kept : List (List ℕ)) → kept ≡ take 10 (words text) → has_open_quote text ≡ false → rest ≡ text
    → said first kept rest ≡ known_line text first
known_line-kept first rest text kept is closed same = rw (is, closed, same) (said-take first (words text) text)

-- a line that is text, and one that is not
pub line-text : (bytes : List ℕ) → IsUtf8 bytes → text_line bytes ≡ line bytes
unfolding line
line-text bytes utf8 = rw (is_utf8-from_IsUtf8 bytes utf8) refl

pub line-other : (bytes : List ℕ) → (IsUtf8 bytes → ⊥) → line bytes ≡ Err NotText
unfolding line
line-other bytes other = rw (not_utf8 bytes other) refl
