-- The words of a text, from one to the next.
use Rattle.std.proofs.Common.{◌≡◌, ◌≢◌, ◌==◌, ◌<◌, ◌≤◌, ℕ, zero, suc, ◌+◌, ◌-◌, Bool, true, false, ◌&&◌, nat_lt, cond, List, [], ◌∷◌, length, drop, position, Option, Some, None, arith, subst, sym, refl, ap, ◌∙◌, one-add, add-zero, lit<}
use Rattle.std.proofs.lemmas.Bool.Decides.{nat_tests}
use Rattle.std.proofs.lemmas.List.{length-drop}
use Rattle.std.proofs.lemmas.List.Sums.{prefix_len-le-length}
use Rattle.std.proofs.lemmas.List.Quantifiers.{position-Some}
use Rattle.std.specs.Char.{is_ascii_digit}
use Rattle.std.specs.List.{prefix_len}
use Rattle.std.specs.Prelude.{slice_index}
use Rattle.health_expr.specs.declared.word.Kind.{Kind}
use Rattle.health_expr.specs.declared.word.Kind.TheVariants.{End}
use Rattle.health_expr.specs.declared.cursor.Words.TheInside.{Inside}
use Rattle.words.specs.Words.{is_blank}
use Rattle.health_expr.specs.Cut.{Cut, is_letter, is_brace, digits_len, decimals_len, unknown, braced, named, dollar, number, letters, single, mark, marked, first_word}
use Rattle.health_expr.specs.Cursor.{words_ahead, IsReady}
use Rattle.health_expr.specs.Words.{Placed, placed, words_from, words_of, first, after}

-- ---- how long a word is

-- at least one byte, and no more than the text has
record Fits (text : List ℕ) (cut : Cut) : Type 0 where
  some : 1 ≤ cut.len
  within : cut.len ≤ length text

either : {X : Type 0} (P : X → Type 0) (b : Bool) (x y : X) → (b ≡ true → P x) → (b ≡ false → P y) → P (cond b x y)
either P true x y p q = p refl
either P false x y p q = q refl

pub first_passes : (test : ℕ → Bool) (text : List ℕ) → 0 < length text → test (slice_index text 0) ≡ true → 1 ≤ prefix_len test text
first_passes test [] some e = absurd (omega arith)
first_passes test (byte ∷ text) some e = subst (λ (b : Bool). 1 ≤ cond b (1 + prefix_len test text) 0) (sym e) (omega arith)

decimals_len-le-length : (text : List ℕ) → decimals_len text ≤ length text
decimals_len-le-length [] = omega arith
decimals_len-le-length (byte ∷ text) =
    let within : digits_len text ≤ length text = prefix_len-le-length is_ascii_digit text in
    either (λ (n : ℕ). n ≤ length (byte ∷ text)) (byte == 46 && nat_lt 0 (digits_len text)) (digits_len text + 1) 0 (λ e. omega arith) (λ e. omega arith)

Fits-number : (text : List ℕ) → 0 < length text → is_ascii_digit (slice_index text 0) ≡ true → Fits text (number text)
Fits-number text some e =
    let whole : 1 ≤ digits_len text = first_passes is_ascii_digit text some e in
    let within : digits_len text ≤ length text = prefix_len-le-length is_ascii_digit text in
    let part = decimals_len-le-length (drop (digits_len text) text) in
    let long = length-drop (digits_len text) text in
    record { some = omega arith; within = omega arith }

Fits-letters : (text : List ℕ) → 0 < length text → is_letter (slice_index text 0) ≡ true → Fits text (letters text)
Fits-letters text some e =
    let whole : 1 ≤ prefix_len is_letter text = first_passes is_letter text some e in
    let within : prefix_len is_letter text ≤ length text = prefix_len-le-length is_letter text in
    record { some = omega arith; within = omega arith }

Fits-unknown : (text : List ℕ) → 0 < length text → Fits text (unknown text)
Fits-unknown text some = record { some = omega arith; within = omega arith }

Fits-braced : (text : List ℕ) (end : Option ℕ) → 0 < length text → end ≡ position is_brace (drop 2 text) → Fits text (braced text end)
Fits-braced text None some e = Fits-unknown text some
Fits-braced text (Some end) some e =
    let at = position-Some is_brace (drop 2 text) end 0 (sym e) in
    let long = length-drop 2 text in
    let below = at.0 in
    record { some = omega arith; within = omega arith }

Fits-named : (text : List ℕ) → 0 < length text → Fits text (named text (prefix_len is_letter (drop 1 text)))
Fits-named text some =
    let within : prefix_len is_letter (drop 1 text) ≤ length (drop 1 text) = prefix_len-le-length is_letter (drop 1 text) in
    let long = length-drop 1 text in
    either (Fits text) (prefix_len is_letter (drop 1 text) == 0) (unknown text) _ (λ e. Fits-unknown text some) (λ e. record { some = omega arith; within = omega arith })

Fits-dollar : (text : List ℕ) → 0 < length text → Fits text (dollar text)
Fits-dollar text some =
    either (Fits text) (slice_index text 1 == 123) _ _ (λ e. Fits-braced text _ some refl) (λ e. Fits-named text some)

second : (text : List ℕ) → 0 < slice_index text 1 → 2 ≤ length text
second [] e = absurd (omega arith)
second (x ∷ []) e = absurd (omega arith)
second (x ∷ y ∷ text) e = omega arith

two : (text : List ℕ) (kind : Kind) (b c : ℕ) → 0 < c → (slice_index text 0 == b && slice_index text 1 == c) ≡ true → Fits text (marked (kind, 2))
two text kind b c more e =
    let long = second text (grind (arith, nat_tests)) in
    record { some = omega arith; within = long }

one : (text : List ℕ) (kind : Kind) → 0 < length text → Fits text (marked (kind, 1))
one text kind some = record { some = omega arith; within = omega arith }

Fits-single : (text : List ℕ) → 0 < length text → Fits text (marked (single (length text) (slice_index text 0)))
Fits-single text some =
    let P : Kind × ℕ → Type 0 = λ m. Fits text (marked m) in
    let b = slice_index text 0 in
    either P (b == 40) _ _ (λ e. one text _ some) (λ e. either P (b == 41) _ _ (λ e. one text _ some) (λ e. either P (b == 63) _ _ (λ e. one text _ some) (λ e. either P (b == 58) _ _ (λ e. one text _ some) (λ e. either P (b == 33) _ _ (λ e. one text _ some) (λ e. either P (b == 43) _ _ (λ e. one text _ some) (λ e. either P (b == 45) _ _ (λ e. one text _ some) (λ e. either P (b == 42) _ _ (λ e. one text _ some) (λ e. either P (b == 47) _ _ (λ e. one text _ some) (λ e. either P (b == 60) _ _ (λ e. one text _ some) (λ e. either P (b == 62) _ _ (λ e. one text _ some) (λ e. record { some = omega arith; within = omega arith })))))))))))

Fits-marked : (text : List ℕ) → 0 < length text → Fits text (marked (mark (length text) (slice_index text 0) (slice_index text 1)))
Fits-marked text some =
    let P : Kind × ℕ → Type 0 = λ m. Fits text (marked m) in
    let b = slice_index text 0 in
    let c = slice_index text 1 in
    either P (b == 124 && c == 124) _ _ (λ e. two text _ 124 124 (lit< tt) e) (λ e. either P (b == 38 && c == 38) _ _ (λ e. two text _ 38 38 (lit< tt) e) (λ e. either P (b == 61 && c == 61) _ _ (λ e. two text _ 61 61 (lit< tt) e) (λ e. either P (b == 33 && c == 61) _ _ (λ e. two text _ 33 61 (lit< tt) e) (λ e. either P (b == 60 && c == 62) _ _ (λ e. two text _ 60 62 (lit< tt) e) (λ e. either P (b == 60 && c == 61) _ _ (λ e. two text _ 60 61 (lit< tt) e) (λ e. either P (b == 62 && c == 61) _ _ (λ e. two text _ 62 61 (lit< tt) e) (λ e. Fits-single text some)))))))

first_word-Fits : (text : List ℕ) → 0 < length text → Fits text (first_word text)
unfolding first_word
first_word-Fits text some =
    either (Fits text) (length text == 0) _ _
    (λ e. absurd (grind (arith, nat_tests)))
    (λ e. either (Fits text) (is_ascii_digit (slice_index text 0)) _ _ (Fits-number text some)
    (λ e. either (Fits text) (slice_index text 0 == 36) _ _ (λ e. Fits-dollar text some)
    (λ e. either (Fits text) (is_letter (slice_index text 0)) _ _ (Fits-letters text some) (λ e. Fits-marked text some))))

-- ---- blanks

stripped_step : (byte : ℕ) (text : List ℕ) (b : Bool) → is_blank byte ≡ b → prefix_len is_blank (drop (prefix_len is_blank text) text) ≡ 0
    → prefix_len is_blank (drop (cond b (1 + prefix_len is_blank text) 0) (byte ∷ text)) ≡ 0
stripped_step byte text true e rest = rw one-add rest
stripped_step byte text false e rest = ap (λ (b : Bool). cond b (1 + prefix_len is_blank text) 0) e

-- no blank stands behind the blanks of a text
pub stripped : (text : List ℕ) → prefix_len is_blank (drop (prefix_len is_blank text) text) ≡ 0
stripped [] = refl
stripped (byte ∷ text) = stripped_step byte text (is_blank byte) refl (stripped text)

passed_step : (byte : ℕ) (text : List ℕ) (place : ℕ) (b : Bool) → is_blank byte ≡ b
    → words_from 0 (suc place) text ≡ words_from 0 (suc place + prefix_len is_blank text) (drop (prefix_len is_blank text) text)
    → words_from 0 place (byte ∷ text) ≡ words_from 0 (place + cond b (1 + prefix_len is_blank text) 0) (drop (cond b (1 + prefix_len is_blank text) 0) (byte ∷ text))
passed_step byte text place true e rest =
    let here : suc place + prefix_len is_blank text ≡ place + suc (prefix_len is_blank text) = omega arith in
    let more : suc (prefix_len is_blank text) ≡ 1 + prefix_len is_blank text = omega arith in
    ap (λ (b : Bool). cond b (words_from 0 (suc place) text) (placed place (first_word (byte ∷ text)) ∷ words_from ((first_word (byte ∷ text)).len - 1) (suc place) text)) e
    ∙ rest
    ∙ ap (λ (p : ℕ). words_from 0 p (drop (prefix_len is_blank text) text)) here
    ∙ ap (λ (n : ℕ). words_from 0 (place + n) (drop n (byte ∷ text))) more
passed_step byte text place false e rest = rw add-zero refl

-- blanks are passed
pub passed : (text : List ℕ) (place : ℕ) → words_from 0 place text ≡ words_from 0 (place + prefix_len is_blank text) (drop (prefix_len is_blank text) text)
passed [] place = rw add-zero refl
passed (byte ∷ text) place = passed_step byte text place (is_blank byte) refl (passed text (suc place))

-- ---- the next word

skipped : (n place : ℕ) (text : List ℕ) → n ≤ length text → words_from n place text ≡ words_from 0 (place + n) (drop n text)
skipped zero place text h = rw add-zero refl
skipped (suc n) place [] h = absurd (omega arith)
skipped (suc n) place (byte ∷ text) h =
    let here : suc place + n ≡ place + suc n = omega arith in
    skipped n (suc place) text (omega arith) ∙ ap (λ (p : ℕ). words_from 0 p (drop n text)) here

moved : (len place byte : ℕ) (text : List ℕ) → 1 ≤ len → len ≤ length (byte ∷ text) → words_from (len - 1) (suc place) text ≡ words_from 0 (place + len) (drop len (byte ∷ text))
moved zero place byte text some within = absurd (omega arith)
moved (suc n) place byte text some within =
    let less : suc n - 1 ≡ n = omega arith in
    let here : suc place + n ≡ place + suc n = omega arith in
    ap (λ (m : ℕ). words_from m (suc place) text) less ∙ skipped n (suc place) text (omega arith) ∙ ap (λ (p : ℕ). words_from 0 p (drop n text)) here

no_blank_step : (byte : ℕ) (text : List ℕ) (b : Bool) → is_blank byte ≡ b → cond b (1 + prefix_len is_blank text) 0 ≡ 0 → b ≡ false
no_blank_step byte text true e none = absurd (omega arith)
no_blank_step byte text false e none = refl

pub front : (place byte : ℕ) (text : List ℕ) → prefix_len is_blank (byte ∷ text) ≡ 0
    → words_from 0 place (byte ∷ text) ≡ placed place (first_word (byte ∷ text)) ∷ words_from 0 (place + (first_word (byte ∷ text)).len) (drop (first_word (byte ∷ text)).len (byte ∷ text))
front place byte text none =
    let plain : is_blank byte ≡ false = no_blank_step byte text (is_blank byte) refl none in
    let fits = first_word-Fits (byte ∷ text) (omega arith) in
    ap (λ (b : Bool). cond b (words_from 0 (suc place) text) (placed place (first_word (byte ∷ text)) ∷ words_from ((first_word (byte ∷ text)).len - 1) (suc place) text)) plain
    ∙ ap (λ (rest : List Placed). placed place (first_word (byte ∷ text)) ∷ rest) (moved (first_word (byte ∷ text)).len place byte text fits.some fits.within)

pub first_front : (place : ℕ) (text : List ℕ) → prefix_len is_blank text ≡ 0 → first (words_from 0 place text) ≡ placed place (first_word text)
unfolding first first_word
first_front place [] none = refl
first_front place (byte ∷ text) none = ap first (front place byte text none)

pub after_front : (place : ℕ) (text : List ℕ) → prefix_len is_blank text ≡ 0 → 0 < length text → after (words_from 0 place text) ≡ words_from 0 (place + (first_word text).len) (drop (first_word text).len text)
unfolding after
after_front place [] none some = absurd (omega arith)
after_front place (byte ∷ text) none some = ap after (front place byte text none)

pub shorter : (ws : List Placed) → (first ws).kind ≢ End → length (after ws) < length ws
unfolding first after
shorter [] more = absurd (more refl)
shorter (w ∷ ws) more = omega arith

some_ahead : (text : List ℕ) → (first_word text).kind ≢ End → 0 < length text
unfolding first_word
some_ahead [] more = absurd (more refl)
some_ahead (byte ∷ text) more = omega arith

-- ---- a reader of words

-- what a reader knows of the next word
pub known : (inside : Inside) (now : List Placed) → words_ahead inside ≡ now → IsReady inside → placed inside.place (first_word inside.ahead.now) ≡ first now
known inside now is ready = sym (first_front inside.place inside.ahead.now ready.no_blank) ∙ ap first is

-- what a reader has before it once it passed a word
pub behind : (inside : Inside) (now : List Placed) (ahead : List ℕ) → words_ahead inside ≡ now → IsReady inside → (first now).kind ≢ End
    → ahead ≡ drop (prefix_len is_blank inside.word.rest.now) inside.word.rest.now → (length ahead ≤ length inside.ahead.now) × (words_from 0 (inside.place + (length inside.ahead.now - length ahead)) ahead ≡ after now) × (prefix_len is_blank ahead ≡ 0)
behind inside now ahead is ready more stripped_is =
    let text = inside.ahead.now in
    let len = (first_word text).len in
    let some = some_ahead text (λ e. more (ap (λ (w : Placed). w.kind) (sym (known inside now is ready)) ∙ e)) in
    let fits = first_word-Fits text some in
    let rest : inside.word.rest.now ≡ drop len text = ready.next.rest in
    let ahead_is : ahead ≡ drop (prefix_len is_blank (drop len text)) (drop len text) = stripped_is ∙ ap (λ (bytes : List ℕ). drop (prefix_len is_blank bytes) bytes) rest in
    let blanks : prefix_len is_blank (drop len text) ≤ length (drop len text) = prefix_len-le-length is_blank (drop len text) in
    let long : length ahead ≡ length (drop len text) - prefix_len is_blank (drop len text) = ap length ahead_is ∙ length-drop (prefix_len is_blank (drop len text)) (drop len text) in
    let longer = length-drop len text in
    let within = fits.within in
    let place : inside.place + (length text - length ahead) ≡ inside.place + len + prefix_len is_blank (drop len text) = omega arith in (
      omega arith,
      ap (λ (p : ℕ). words_from 0 p ahead) place
          ∙ ap (λ (bytes : List ℕ). words_from 0 (inside.place + len + prefix_len is_blank (drop len text)) bytes) ahead_is
          ∙ sym (passed (drop len text) (inside.place + len))
          ∙ sym (after_front inside.place text ready.no_blank some)
          ∙ ap after is,
      ap (λ (bytes : List ℕ). prefix_len is_blank bytes) ahead_is ∙ stripped (drop len text),
    )

-- what a new reader has before it
pub begun : (text ahead : List ℕ) → ahead ≡ drop (prefix_len is_blank text) text → words_from 0 (length text - length ahead) ahead ≡ words_of text
unfolding words_of
begun text ahead is =
    let blanks = prefix_len-le-length is_blank text in
    let long : length ahead ≡ length text - prefix_len is_blank text = ap length is ∙ length-drop (prefix_len is_blank text) text in
    let place : length text - length ahead ≡ 0 + prefix_len is_blank text = omega arith in
    ap (λ (p : ℕ). words_from 0 p ahead) place ∙ ap (λ (bytes : List ℕ). words_from 0 (0 + prefix_len is_blank text) bytes) is ∙ sym (passed text 0)

pub begun_shorter : (text ahead : List ℕ) → ahead ≡ drop (prefix_len is_blank text) text → length ahead ≤ length text
begun_shorter text ahead is = omega (arith, ap length is ∙ length-drop (prefix_len is_blank text) text)
