-- The words of a text, each with the byte at which it begins.
use Rattle.std.specs.Prelude.{ℕ, zero, suc, ◌-◌, if◌then◌else◌, List, [], ◌∷◌}
use denote.Enum.Bare.{sameb}
use Rattle.std.specs.Prelude.{Bool}
use Rattle.health_expr.specs.contracts.word.Kind.{the_type}
use Rattle.health_expr.specs.declared.word.Kind.{Kind}
use Rattle.health_expr.specs.declared.word.Kind.TheVariants.{End}
use Rattle.words.specs.Words.{is_blank}
use Rattle.health_expr.specs.Cut.{Cut, first_word}

pub record Placed : Type 0 where
  pub kind : Kind
  -- the digits of a number, or a name
  pub said : List ℕ
  pub place : ℕ

-- the text's end is a word
abbrev pub end_at : ℕ → Placed
end_at place = record { kind = End; said = []; place = place }

abbrev pub placed : ℕ → Cut → Placed
placed place cut = record { kind = cut.kind; said = cut.said; place = place }

-- the words of a text that begins at a place, where so many of its bytes belong to the word before
abbrev pub words_from : ℕ → ℕ → List ℕ → List Placed
words_from left place [] = end_at place ∷ []
words_from (suc left) place (byte ∷ text) = words_from left (suc place) text
words_from zero place (byte ∷ text) =
    if is_blank byte then words_from zero (suc place) text
    else placed place (first_word (byte ∷ text)) ∷ words_from ((first_word (byte ∷ text)).len - 1) (suc place) text

-- the words of a text, and its end as the last one
unfoldable pub words_of : List ℕ → List Placed
words_of text = words_from 0 0 text

-- ---- the next word

unfoldable pub first : List Placed → Placed
first [] = end_at 0
first (word ∷ words) = word

unfoldable pub after : List Placed → List Placed
after [] = []
after (word ∷ words) = words

-- whether the next word is of this kind
unfoldable pub sees : Kind → List Placed → Bool
sees kind words = sameb the_type (first words).kind kind
