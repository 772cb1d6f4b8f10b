-- The text of words is cut into those words.
use Rattle.std.proofs.Common.{◌≡◌, ◌≢◌, ◌==◌, ◌<◌, ◌≤◌, ◌^◌, ℕ, zero, suc, ◌+◌, ◌/◌, ◌%◌, Bool, true, false, not, nat_lt, cond, List, [], ◌∷◌, ◌++◌, length, take, drop, position, Option, Some, None, Ok, All, arith, subst, sym, refl, ap, ◌∙◌, inl, inr, ℤ, pos, negsuc, append_assoc}
use Rattle.std.proofs.lemmas.Bool.Decides.{nat_tests}
use Rattle.std.proofs.lemmas.Bool.{cases_eq, and_from, and_parts, lt-ltb, ne_eqb}
use Rattle.std.proofs.lemmas.Fmt.{decimal_is_IsNumeral_wide}
use Rattle.std.proofs.lemmas.List.{append-nil, take_at, drop_at, length-append}
use Rattle.std.proofs.lemmas.List.Elements.{All-head, All-tail}
use Rattle.std.proofs.lemmas.Str.Parse.{numerals_by_value, tells_all_ascii_digits}
use Rattle.std.proofs.Math.Nat.{mod-lt}
use Rattle.std.specs.Char.{is_ascii_digit}
use Rattle.std.specs.Fmt.{decimal}
use Rattle.std.specs.List.{prefix_len, position_or_len}
use Rattle.std.specs.Prelude.{slice_index}
use Rattle.std.specs.Str.{all_ascii_digits}
use Rattle.fixed_num.proofs.UnitsTextLemmas.{decimals-none, decimals-more, digit_below, pow_positive}
use Rattle.fixed_num.specs.Units.{one}
use Rattle.fixed_num.specs.UnitsText.{decimals, fraction_text, size_text}
use Rattle.health_expr.specs.declared.operator.Operator.{Operator}
use Rattle.health_expr.specs.declared.operator.Operator.TheVariants as operator
use Rattle.health_expr.specs.declared.operator.Prefix.TheVariants as prefix
use Rattle.health_expr.specs.declared.word.Kind.{Kind}
use Rattle.health_expr.specs.declared.word.Kind.TheVariants.{End, Number, Name, Nan, Infinity, Abs, Open, Close, Question, Colon, Not, Plus, Minus}
use Rattle.words.specs.Words.{is_blank}
use Rattle.health_expr.specs.Cut.{Cut, is_letter, is_brace, digits_len, decimals_len, number_len, braced, dollar, letters, mark, marked, number as number_cut, first_by, first_word}
use Rattle.health_expr.specs.Grammar.{Outcome, whole, expression, tree_read}
use Rattle.health_expr.specs.Tree.{Tree, number, nan, infinity, name, prefixed, combined, chosen}
use Rattle.health_expr.specs.Words.{Placed, end_at, placed, words_from, words_of, first, sees}
use Rattle.health_expr.specs.Written.{Lexeme, plain, open_word, close_word, question_word, colon_word, operator_word, number_word, name_word, enclosed, words_in, text_of_words, text_of, levels_in, IsLiteral, IsWritable}
use Rattle.health_expr.proofs.Rereads.{laid, Ends, quiet_end, rereads}
use Rattle.health_expr.proofs.WordsLemmas.{front}
use Rattle.fixed_num.proofs.ReadsBack.{fraction_text-none, fraction_text-some}

-- ---- what may follow a word: a blank, or nothing

abbrev Breaks : List ℕ → Type 0
Breaks [] = Unit {0}
Breaks (byte ∷ bytes) = byte ≡ 32

by_break : (P : List ℕ → Type 0) → P [] → ((rest : List ℕ) → P (32 ∷ rest)) → (tail : List ℕ) → Breaks tail → P tail
by_break P none more [] b = none
by_break P none more (byte ∷ rest) b = subst (λ (x : ℕ). P (x ∷ rest)) (sym b) (more rest)

-- a text that is not empty begins with the word by its first byte
pub first_cons : (byte : ℕ) (rest : List ℕ) → first_word (byte ∷ rest) ≡ first_by byte (byte ∷ rest)
unfolding first_word
first_cons byte rest =
    let some : (length (byte ∷ rest) == 0) ≡ false = grind (arith, nat_tests) in
    ap (λ (b : Bool). cond b (record { kind = End; said = []; len = 0 }) (first_by byte (byte ∷ rest))) some

-- a text of these bytes begins with the word, whatever blank follows
record IsWord (word : Lexeme) : Type 0 where
  byte : ℕ
  more : List ℕ
  bytes : word.bytes ≡ byte ∷ more
  plain_byte : is_blank byte ≡ false
  cut : (tail : List ℕ) → Breaks tail → first_word (word.bytes ++ tail) ≡ record { kind = word.kind; said = word.said; len = length word.bytes }

-- ---- words, one behind the other

text_step : (byte : ℕ) (more tail : List ℕ) (kind : Kind) (said : List ℕ) (at : ℕ) → is_blank byte ≡ false
    → first_word ((byte ∷ more) ++ tail) ≡ record { kind = kind; said = said; len = length (byte ∷ more) }
    → words_from 0 at (32 ∷ ((byte ∷ more) ++ tail)) ≡ record { kind = kind; said = said; place = suc at } ∷ words_from 0 (suc at + length (byte ∷ more)) tail
text_step byte more tail kind said at plain_byte cut =
    let none : prefix_len is_blank (byte ∷ (more ++ tail)) ≡ 0 = ap (λ (b : Bool). cond b (1 + prefix_len is_blank (more ++ tail)) 0) plain_byte in
    front (suc at) byte (more ++ tail) none
    ∙ ap (λ (c : Cut). placed (suc at) c ∷ words_from 0 (suc at + c.len) (drop c.len (byte ∷ (more ++ tail)))) cut
    ∙ ap (λ (rest : List ℕ). record { kind = kind; said = said; place = suc at } ∷ words_from 0 (suc at + length (byte ∷ more)) rest) (drop_at (byte ∷ more) tail (length (byte ∷ more)) refl)

word_step : (word : Lexeme) (tail : List ℕ) (at : ℕ) → IsWord word → Breaks tail
    → words_from 0 at (32 ∷ (word.bytes ++ tail)) ≡ record { kind = word.kind; said = word.said; place = suc at } ∷ words_from 0 (suc at + length word.bytes) tail
word_step word tail at is breaks =
    let P : List ℕ → Type 0 = λ bytes. first_word (bytes ++ tail) ≡ record { kind = word.kind; said = word.said; len = length bytes }
    → words_from 0 at (32 ∷ (bytes ++ tail)) ≡ record { kind = word.kind; said = word.said; place = suc at } ∷ words_from 0 (suc at + length bytes) tail in
    subst P (sym is.bytes) (λ cut. text_step is.byte is.more tail word.kind word.said at is.plain_byte cut) (is.cut tail breaks)

abbrev AreWords : List Lexeme → Type 0
AreWords [] = Unit {0}
AreWords (word ∷ words) = IsWord word × AreWords words

AreWords-append : (xs ys : List Lexeme) → AreWords xs → AreWords ys → AreWords (xs ++ ys)
AreWords-append [] ys p q = q
AreWords-append (x ∷ xs) ys p q = (p.0, AreWords-append xs ys p.1 q)

text_breaks : (words : List Lexeme) → Breaks (text_of_words words)
text_breaks [] = tt
text_breaks (word ∷ words) = refl

-- the words of a text of words
text_words : (words : List Lexeme) (at : ℕ) → AreWords words → words_from 0 at (text_of_words words) ≡ laid words (λ x. end_at x ∷ []) at
text_words [] at are = refl
text_words (word ∷ words) at are =
    word_step word (text_of_words words) at are.0 (text_breaks words)
    ∙ ap (λ (rest : List Placed). record { kind = word.kind; said = word.said; place = suc at } ∷ rest) (text_words words (suc at + length word.bytes) are.1)

-- ---- marks and words of letters

open_is : IsWord open_word
unfolding first_word
open_is = record { byte = 40; more = []; bytes = refl; plain_byte = refl; cut = by_break (λ tail. first_word (open_word.bytes ++ tail) ≡ record { kind = Open; said = []; len = 1 }) refl (λ rest. first_cons 40 (32 ∷ rest)) }

close_is : IsWord close_word
unfolding first_word
close_is = record { byte = 41; more = []; bytes = refl; plain_byte = refl; cut = by_break (λ tail. first_word (close_word.bytes ++ tail) ≡ record { kind = Close; said = []; len = 1 }) refl (λ rest. first_cons 41 (32 ∷ rest)) }

question_is : IsWord question_word
unfolding first_word
question_is = record { byte = 63; more = []; bytes = refl; plain_byte = refl; cut = by_break (λ tail. first_word (question_word.bytes ++ tail) ≡ record { kind = Question; said = []; len = 1 }) refl (λ rest. first_cons 63 (32 ∷ rest)) }

colon_is : IsWord colon_word
unfolding first_word
colon_is = record { byte = 58; more = []; bytes = refl; plain_byte = refl; cut = by_break (λ tail. first_word (colon_word.bytes ++ tail) ≡ record { kind = Colon; said = []; len = 1 }) refl (λ rest. first_cons 58 (32 ∷ rest)) }

not_is : IsWord (plain Not (33 ∷ []))
unfolding first_word
not_is = record { byte = 33; more = []; bytes = refl; plain_byte = refl; cut = by_break (λ tail. first_word ((plain Not (33 ∷ [])).bytes ++ tail) ≡ record { kind = (plain Not (33 ∷ [])).kind; said = []; len = 1 }) refl (λ rest. first_cons 33 (32 ∷ rest)) }

minus_is : IsWord (plain Minus (45 ∷ []))
unfolding first_word
minus_is = record { byte = 45; more = []; bytes = refl; plain_byte = refl; cut = by_break (λ tail. first_word ((plain Minus (45 ∷ [])).bytes ++ tail) ≡ record { kind = (plain Minus (45 ∷ [])).kind; said = []; len = 1 }) refl (λ rest. first_cons 45 (32 ∷ rest)) }

plus_is : IsWord (plain Plus (43 ∷ []))
unfolding first_word
plus_is = record { byte = 43; more = []; bytes = refl; plain_byte = refl; cut = by_break (λ tail. first_word ((plain Plus (43 ∷ [])).bytes ++ tail) ≡ record { kind = (plain Plus (43 ∷ [])).kind; said = []; len = 1 }) refl (λ rest. first_cons 43 (32 ∷ rest)) }

nan_is : IsWord (plain Nan (110 ∷ 97 ∷ 110 ∷ []))
unfolding first_word
nan_is = record { byte = 110; more = 97 ∷ 110 ∷ []; bytes = refl; plain_byte = refl; cut = by_break (λ tail. first_word ((plain Nan (110 ∷ 97 ∷ 110 ∷ [])).bytes ++ tail) ≡ record { kind = (plain Nan (110 ∷ 97 ∷ 110 ∷ [])).kind; said = []; len = 3 }) refl (λ rest. first_cons 110 (97 ∷ 110 ∷ 32 ∷ rest)) }

infinity_is : IsWord (plain Infinity (105 ∷ 110 ∷ 102 ∷ []))
unfolding first_word
infinity_is = record { byte = 105; more = 110 ∷ 102 ∷ []; bytes = refl; plain_byte = refl; cut = by_break (λ tail. first_word ((plain Infinity (105 ∷ 110 ∷ 102 ∷ [])).bytes ++ tail) ≡ record { kind = (plain Infinity (105 ∷ 110 ∷ 102 ∷ [])).kind; said = []; len = 3 }) refl (λ rest. first_cons 105 (110 ∷ 102 ∷ 32 ∷ rest)) }

abs_is : IsWord (plain Abs (97 ∷ 98 ∷ 115 ∷ []))
unfolding first_word
abs_is = record { byte = 97; more = 98 ∷ 115 ∷ []; bytes = refl; plain_byte = refl; cut = by_break (λ tail. first_word ((plain Abs (97 ∷ 98 ∷ 115 ∷ [])).bytes ++ tail) ≡ record { kind = (plain Abs (97 ∷ 98 ∷ 115 ∷ [])).kind; said = []; len = 3 }) refl (λ rest. first_cons 97 (98 ∷ 115 ∷ 32 ∷ rest)) }

operator_is : (op : Operator) → IsWord (operator_word op)
unfolding first_word
operator_is operator.Or = record { byte = 124; more = 124 ∷ []; bytes = refl; plain_byte = refl; cut = by_break (λ tail. first_word ((operator_word operator.Or).bytes ++ tail) ≡ record { kind = (operator_word operator.Or).kind; said = []; len = 2 }) refl (λ rest. first_cons 124 (124 ∷ 32 ∷ rest)) }
operator_is operator.And = record { byte = 38; more = 38 ∷ []; bytes = refl; plain_byte = refl; cut = by_break (λ tail. first_word ((operator_word operator.And).bytes ++ tail) ≡ record { kind = (operator_word operator.And).kind; said = []; len = 2 }) refl (λ rest. first_cons 38 (38 ∷ 32 ∷ rest)) }
operator_is operator.Equal = record { byte = 61; more = 61 ∷ []; bytes = refl; plain_byte = refl; cut = by_break (λ tail. first_word ((operator_word operator.Equal).bytes ++ tail) ≡ record { kind = (operator_word operator.Equal).kind; said = []; len = 2 }) refl (λ rest. first_cons 61 (61 ∷ 32 ∷ rest)) }
operator_is operator.NotEqual = record { byte = 33; more = 61 ∷ []; bytes = refl; plain_byte = refl; cut = by_break (λ tail. first_word ((operator_word operator.NotEqual).bytes ++ tail) ≡ record { kind = (operator_word operator.NotEqual).kind; said = []; len = 2 }) refl (λ rest. first_cons 33 (61 ∷ 32 ∷ rest)) }
operator_is operator.Less = record { byte = 60; more = []; bytes = refl; plain_byte = refl; cut = by_break (λ tail. first_word ((operator_word operator.Less).bytes ++ tail) ≡ record { kind = (operator_word operator.Less).kind; said = []; len = 1 }) refl (λ rest. first_cons 60 (32 ∷ rest)) }
operator_is operator.AtMost = record { byte = 60; more = 61 ∷ []; bytes = refl; plain_byte = refl; cut = by_break (λ tail. first_word ((operator_word operator.AtMost).bytes ++ tail) ≡ record { kind = (operator_word operator.AtMost).kind; said = []; len = 2 }) refl (λ rest. first_cons 60 (61 ∷ 32 ∷ rest)) }
operator_is operator.Greater = record { byte = 62; more = []; bytes = refl; plain_byte = refl; cut = by_break (λ tail. first_word ((operator_word operator.Greater).bytes ++ tail) ≡ record { kind = (operator_word operator.Greater).kind; said = []; len = 1 }) refl (λ rest. first_cons 62 (32 ∷ rest)) }
operator_is operator.AtLeast = record { byte = 62; more = 61 ∷ []; bytes = refl; plain_byte = refl; cut = by_break (λ tail. first_word ((operator_word operator.AtLeast).bytes ++ tail) ≡ record { kind = (operator_word operator.AtLeast).kind; said = []; len = 2 }) refl (λ rest. first_cons 62 (61 ∷ 32 ∷ rest)) }
operator_is operator.Add = record { byte = 43; more = []; bytes = refl; plain_byte = refl; cut = by_break (λ tail. first_word ((operator_word operator.Add).bytes ++ tail) ≡ record { kind = (operator_word operator.Add).kind; said = []; len = 1 }) refl (λ rest. first_cons 43 (32 ∷ rest)) }
operator_is operator.Subtract = record { byte = 45; more = []; bytes = refl; plain_byte = refl; cut = by_break (λ tail. first_word ((operator_word operator.Subtract).bytes ++ tail) ≡ record { kind = (operator_word operator.Subtract).kind; said = []; len = 1 }) refl (λ rest. first_cons 45 (32 ∷ rest)) }
operator_is operator.Multiply = record { byte = 42; more = []; bytes = refl; plain_byte = refl; cut = by_break (λ tail. first_word ((operator_word operator.Multiply).bytes ++ tail) ≡ record { kind = (operator_word operator.Multiply).kind; said = []; len = 1 }) refl (λ rest. first_cons 42 (32 ∷ rest)) }
operator_is operator.Divide = record { byte = 47; more = []; bytes = refl; plain_byte = refl; cut = by_break (λ tail. first_word ((operator_word operator.Divide).bytes ++ tail) ≡ record { kind = (operator_word operator.Divide).kind; said = []; len = 1 }) refl (λ rest. first_cons 47 (32 ∷ rest)) }

-- ---- numbers

digit_plain : (byte : ℕ) → is_ascii_digit byte ≡ true → is_blank byte ≡ false
digit_plain byte e = grind (arith, nat_tests)

-- digits, and what is no digit behind them
digits_then : (digits rest : List ℕ) → all_ascii_digits digits ≡ true → digits_len rest ≡ 0 → digits_len (digits ++ rest) ≡ length digits
digits_then [] rest all none = none
digits_then (digit ∷ digits) rest all none =
    let parts = and_parts (is_ascii_digit digit) (all_ascii_digits digits) all in
    let below = digits_then digits rest parts.1 none in
    ap (λ (b : Bool). cond b (1 + digits_len (digits ++ rest)) 0) parts.0 ∙ omega (arith, below)

break_digits : (tail : List ℕ) → Breaks tail → digits_len tail ≡ 0
break_digits = by_break (λ tail. digits_len tail ≡ 0) refl (λ rest. refl)

break_decimals : (tail : List ℕ) → Breaks tail → decimals_len tail ≡ 0
break_decimals = by_break (λ tail. decimals_len tail ≡ 0) refl (λ rest. refl)

dot_more : (ds tail : List ℕ) (b : Bool) → nat_lt 0 (digits_len (ds ++ tail)) ≡ b → 0 < length ds → digits_len (ds ++ tail) ≡ length ds → cond b (digits_len (ds ++ tail) + 1) 0 ≡ length ds + 1
dot_more ds tail true e some long = omega (arith, long)
dot_more ds tail false e some long = absurd (grind (arith, nat_tests))

dot_len : (ds tail : List ℕ) → all_ascii_digits ds ≡ true → 0 < length ds → Breaks tail → decimals_len (46 ∷ (ds ++ tail)) ≡ length ds + 1
dot_len ds tail all some breaks = dot_more ds tail (nat_lt 0 (digits_len (ds ++ tail))) refl some (digits_then ds tail all (break_digits tail breaks))

-- digits alone, or with a dot and digits
record IsNumeral (bytes : List ℕ) : Type 0 where
  digit : ℕ
  more : List ℕ
  begins : bytes ≡ digit ∷ more
  is_digit : is_ascii_digit digit ≡ true
  len : (tail : List ℕ) → Breaks tail → number_len (bytes ++ tail) ≡ length bytes

number_cut_is : (bytes tail : List ℕ) → number_len (bytes ++ tail) ≡ length bytes → number_cut (bytes ++ tail) ≡ record { kind = Number; said = bytes; len = length bytes }
number_cut_is bytes tail len =
    ap (λ (n : ℕ). record { kind = Number; said = take n (bytes ++ tail); len = n }) len
    ∙ ap (λ (said : List ℕ). record { kind = Number; said = said; len = length bytes }) (take_at bytes tail (length bytes) refl)

first_number : (digit : ℕ) (more tail : List ℕ) → is_ascii_digit digit ≡ true → first_word ((digit ∷ more) ++ tail) ≡ number_cut ((digit ∷ more) ++ tail)
first_number digit more tail is =
    let text = (digit ∷ more) ++ tail in
    first_cons digit (more ++ tail)
    ∙ ap (λ (b : Bool). cond b (number_cut text) (cond (digit == 36) (dollar text) (cond (is_letter digit) (letters text) (marked (mark (length text) digit (slice_index text 1)))))) is

numeral_first : (bytes tail : List ℕ) (digit : ℕ) (more : List ℕ) → bytes ≡ digit ∷ more → is_ascii_digit digit ≡ true → first_word (bytes ++ tail) ≡ number_cut (bytes ++ tail)
numeral_first bytes tail digit more e is = subst (λ (b : List ℕ). first_word (b ++ tail) ≡ number_cut (b ++ tail)) (sym e) (first_number digit more tail is)

numeral_word : (bytes : List ℕ) → IsNumeral bytes → IsWord (record { kind = Number; said = bytes; bytes = bytes })
numeral_word bytes is = record {
  byte = is.digit;
  more = is.more;
  bytes = is.begins;
  plain_byte = digit_plain is.digit is.is_digit;
  cut = λ tail breaks. numeral_first bytes tail is.digit is.more is.begins is.is_digit ∙ number_cut_is bytes tail (is.len tail breaks);
}

-- digits alone
plain_numeral : (digits : List ℕ) → all_ascii_digits digits ≡ true → 0 < length digits → IsNumeral digits
plain_numeral [] all some = absurd (omega arith)
plain_numeral (digit ∷ digits) all some = record {
  digit = digit;
  more = digits;
  begins = refl;
  is_digit = (and_parts (is_ascii_digit digit) (all_ascii_digits digits) all).0;
  len = λ tail breaks.
      let whole_len = digits_then (digit ∷ digits) tail all (break_digits tail breaks) in
      ap (λ (n : ℕ). n + decimals_len (drop n ((digit ∷ digits) ++ tail))) whole_len
      ∙ ap (λ (rest : List ℕ). length (digit ∷ digits) + decimals_len rest) (drop_at (digit ∷ digits) tail (length (digit ∷ digits)) refl)
      ∙ omega (arith, break_decimals tail breaks);
}

dotted_len : (digits ds tail : List ℕ) → all_ascii_digits digits ≡ true → all_ascii_digits ds ≡ true → 0 < length ds → Breaks tail → number_len ((digits ++ 46 ∷ ds) ++ tail) ≡ length (digits ++ 46 ∷ ds)
dotted_len digits ds tail all part some breaks =
    let same : (digits ++ 46 ∷ ds) ++ tail ≡ digits ++ (46 ∷ (ds ++ tail)) = append_assoc digits (46 ∷ ds) tail in
    let whole_len = digits_then digits (46 ∷ (ds ++ tail)) all refl in
    ap (λ (bytes : List ℕ). number_len bytes) same
    ∙ ap (λ (n : ℕ). n + decimals_len (drop n (digits ++ (46 ∷ (ds ++ tail))))) whole_len
    ∙ ap (λ (rest : List ℕ). length digits + decimals_len rest) (drop_at digits (46 ∷ (ds ++ tail)) (length digits) refl)
    ∙ omega (arith, dot_len ds tail part some breaks, length-append digits (46 ∷ ds))

dotted_numeral : (digits ds : List ℕ) → all_ascii_digits digits ≡ true → 0 < length digits → all_ascii_digits ds ≡ true → 0 < length ds → IsNumeral (digits ++ 46 ∷ ds)
dotted_numeral [] ds all some part more = absurd (omega arith)
dotted_numeral (digit ∷ digits) ds all some part more = record {
  digit = digit;
  more = digits ++ 46 ∷ ds;
  begins = refl;
  is_digit = (and_parts (is_ascii_digit digit) (all_ascii_digits digits) all).0;
  len = λ tail breaks. dotted_len (digit ∷ digits) ds tail all part more breaks;
}

decimals_all : (places part : ℕ) → part < 10 ^ places → all_ascii_digits (decimals places part) ≡ true
decimals_all zero part below =
    let none : part ≡ 0 = omega arith in
    ap (λ (p : ℕ). all_ascii_digits (decimals zero p)) none ∙ ap all_ascii_digits (decimals-none zero)
decimals_all (suc places) part below =
    elim (cases_eq part 0) [
      | inl none ↦ ap (λ (p : ℕ). all_ascii_digits (decimals (suc places) p)) none ∙ ap all_ascii_digits (decimals-none (suc places))
      | inr more ↦
          let positive : 0 < part = omega arith in
          let digit = digit_below places part positive below in
          let is : is_ascii_digit (48 + part / 10 ^ places) ≡ true = grind arith in
          ap all_ascii_digits (decimals-more places part positive)
          ∙ and_from (is_ascii_digit (48 + part / 10 ^ places)) (all_ascii_digits (decimals places (part % 10 ^ places))) is (decimals_all places (part % 10 ^ places) (mod-lt part (pow_positive places)))
    ]

decimals_some : (part : ℕ) → 0 < part → 0 < length (decimals 7 part)
decimals_some part positive = subst (λ (ds : List ℕ). 0 < length ds) (sym (decimals-more 6 part positive)) (omega arith)

size_numeral : (n : ℕ) → n / one < 10 ^ 64 → n % one < 10 ^ 7 → IsNumeral (size_text n)
size_numeral n below part_below =
    let digits = decimal_is_IsNumeral_wide (n / one) below in
    let all : all_ascii_digits (decimal (n / one)) ≡ true = (numerals_by_value _ tells_all_ascii_digits).from (decimal (n / one)) digits.0.1 in
    elim (cases_eq (n % one) 0) [
      | inl none ↦ subst (λ (bytes : List ℕ). IsNumeral bytes) (sym (ap (λ (t : List ℕ). decimal (n / one) ++ t) (fraction_text-none (n % one) none) ∙ append-nil (decimal (n / one)))) (plain_numeral (decimal (n / one)) all digits.0.0)
      | inr more ↦
          let positive : 0 < n % one = omega arith in
          subst (λ (bytes : List ℕ). IsNumeral bytes) (sym (ap (λ (t : List ℕ). decimal (n / one) ++ t) (fraction_text-some (n % one) more)))
          (dotted_numeral (decimal (n / one)) (decimals 7 (n % one)) all digits.0.0 (decimals_all 7 (n % one) part_below) (decimals_some (n % one) positive))
    ]

number_is : (units : ℤ) → IsLiteral units → IsWord (number_word units)
number_is (pos n) fits = numeral_word (size_text n) (size_numeral n (omega arith) (omega arith))
number_is (negsuc n) fits = absurd fits

-- ---- names

other_byte : (byte : ℕ) → byte ≢ 125 → not (is_brace byte) ≡ true
other_byte byte other = grind (arith, nat_tests)

brace_after : (text rest : List ℕ) → All (λ byte. byte ≢ 125) text → position_or_len is_brace (text ++ 125 ∷ rest) ≡ length text
brace_after [] rest none = refl
brace_after (byte ∷ text) rest none =
    let below = brace_after text rest (All-tail (λ (b : ℕ). b ≢ 125) byte text none) in
    ap (λ (b : Bool). cond b (1 + position_or_len is_brace (text ++ 125 ∷ rest)) 0) (other_byte byte (All-head (λ (b : ℕ). b ≢ 125) byte text none)) ∙ omega (arith, below)

brace_found : (text rest : List ℕ) → All (λ byte. byte ≢ 125) text → position is_brace (text ++ 125 ∷ rest) ≡ Some (length text)
brace_found text rest none =
    let at = brace_after text rest none in
    let long = length-append text (125 ∷ rest) in
    let within : nat_lt (position_or_len is_brace (text ++ 125 ∷ rest)) (length (text ++ 125 ∷ rest)) ≡ true = lt-ltb _ _ (omega arith) in
    ap (λ (b : Bool). cond b (Some (position_or_len is_brace (text ++ 125 ∷ rest))) None) within ∙ ap (λ (n : ℕ). Some n) at

name_cut : (text tail : List ℕ) → All (λ byte. byte ≢ 125) text → first_word (36 ∷ 123 ∷ (text ++ 125 ∷ tail)) ≡ record { kind = Name; said = text; len = length text + 3 }
unfolding first_word
name_cut text tail none =
    first_cons 36 (123 ∷ (text ++ 125 ∷ tail))
    ∙ ap (λ (o : Option ℕ). braced (36 ∷ 123 ∷ (text ++ 125 ∷ tail)) o) (brace_found text tail none)
    ∙ ap (λ (said : List ℕ). record { kind = Name; said = said; len = length text + 3 }) (take_at text (125 ∷ tail) (length text) refl)

name_is : (text : List ℕ) → All (λ byte. byte ≢ 125) text → IsWord (name_word text)
name_is text none = record {
  byte = 36;
  more = 123 ∷ (text ++ 125 ∷ []);
  bytes = refl;
  plain_byte = refl;
  cut = λ tail breaks.
      let long : length text + 3 ≡ suc (suc (length (text ++ 125 ∷ []))) = omega (arith, length-append text (125 ∷ [])) in
      ap (λ (bytes : List ℕ). first_word (36 ∷ 123 ∷ bytes)) (append_assoc text (125 ∷ []) tail)
      ∙ name_cut text tail none
      ∙ ap (λ (n : ℕ). record { kind = Name; said = text; len = n }) long;
}

-- ---- the words of a tree

enclosed_are : (b : Bool) (words : List Lexeme) → AreWords words → AreWords (enclosed b words)
enclosed_are true words are = (open_is, AreWords-append words (close_word ∷ []) are (close_is, tt))
enclosed_are false words are = are

tree_words : (loose : ℕ) (tree : Tree) → IsWritable tree → AreWords (words_in loose tree)
tree_words loose (number units) fits = (number_is units fits, tt)
tree_words loose nan fits = (nan_is, tt)
tree_words loose infinity fits = (infinity_is, tt)
tree_words loose (name text) fits = (name_is text fits, tt)
tree_words loose (prefixed prefix.Not operand) fits = (not_is, tree_words 0 operand fits)
tree_words loose (prefixed prefix.Minus operand) fits = (minus_is, tree_words 0 operand fits)
tree_words loose (prefixed prefix.Plus operand) fits = (plus_is, tree_words 0 operand fits)
tree_words loose (prefixed prefix.Abs operand) fits = (abs_is, enclosed_are true (words_in 7 operand) (tree_words 7 operand fits))
tree_words loose (combined op left right) fits =
    enclosed_are _ _ (AreWords-append _ _ (tree_words _ left fits.0) (operator_is op, tree_words _ right fits.1))
tree_words loose (chosen condition one_tree two_tree) fits =
    enclosed_are _ _ (AreWords-append _ _ (tree_words 6 condition fits.0) (question_is, AreWords-append _ _ (tree_words 7 one_tree fits.1) (colon_is, tree_words 7 two_tree fits.2)))

end_ends : Ends (λ at. end_at at ∷ [])
unfolding sees first
end_ends = record { quiet = quiet_end; other = λ at. refl }

-- the text of a tree is read as that tree
pub reads_text : (tree : Tree) → IsWritable tree → levels_in 7 tree ≤ 64 → tree_read (text_of tree) ≡ Ok tree
unfolding tree_read words_of sees first
reads_text tree fits low =
    let given = (rereads tree fits).whole_of.reads 65 (λ at. end_at at ∷ []) 0 (omega arith) end_ends in
    ap (λ (words : List Placed). whole (expression 65 words)) (text_words (words_in 7 tree) 0 (tree_words 7 tree fits))
    ∙ ap (λ (o : Outcome). whole o) given.is
