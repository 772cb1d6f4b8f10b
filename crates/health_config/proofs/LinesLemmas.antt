-- The lines of the parts that are left, behind the line at hand.
use Rattle.std.proofs.Common.{◌≡◌, ◌<◌, ◌≤◌, ℕ, ◌+◌, Bool, true, false, cond, List, [], ◌∷◌, ◌++◌, length, take, drop, position, Some, None, append_assoc, refl, sym, ap, ◌∙◌, arith}
use Rattle.std.proofs.lemmas.Bool.Decides.{nat_tests}
use Rattle.std.proofs.lemmas.List.Elements.{All-from_get_or}
use Rattle.std.proofs.lemmas.List.Splits.{slice_split_none, slice_split_first}
use Rattle.std.proofs.lemmas.List.Sums.{fails_before_first}
use Rattle.std.specs.List.{All, onto_first, position_or_len}
use Rattle.health_config.specs.declared.lines.Line.{Line}
use Rattle.health_config.specs.Lines.{is_line_feed, parts, goes_on, said, joined, lines, lines_from, Takes}

-- lines that begin with one of this number
abbrev pub first_as : ℕ → List Line → List Line
first_as number lines = joined number [] lines

-- a line at hand, and the lines behind it
abbrev pub behind : Line → List Line → List Line
behind line lines = joined line.number line.text lines

joined_twice : (n m : ℕ) (prefix more : List ℕ) (lines : List Line) → joined n prefix (joined m more lines) ≡ joined n (prefix ++ more) lines
joined_twice n m prefix more [] = refl
joined_twice n m prefix more (line ∷ lines) = ap (λ (text : List ℕ). record { number = n; text = text } ∷ lines) (sym (append_assoc prefix more line.text))

from_step : (n : ℕ) (part : List ℕ) (lines : List Line) (b : Bool)
    → joined n [] (cond b (joined n (said part) lines) (record { number = n; text = said part } ∷ lines)) ≡ cond b (joined n (said part) lines) (record { number = n; text = said part } ∷ lines)
from_step n part lines true = joined_twice n n [] (said part) lines
from_step n part lines false = refl

fresh : (n : ℕ) (part : List ℕ) (more : List (List ℕ)) → joined n [] (lines_from n (part ∷ more)) ≡ lines_from n (part ∷ more)
fresh n part more = from_step n part (lines_from (n + 1) more) (goes_on part)

some_parts : (n byte : ℕ) (more : List (List ℕ)) → joined n [] (lines_from n (onto_first byte more)) ≡ lines_from n (onto_first byte more)
some_parts n byte [] = fresh n (byte ∷ []) []
some_parts n byte (part ∷ more) = fresh n (byte ∷ part) more

fresh_split : (n byte : ℕ) (more : List (List ℕ)) (b : Bool) → joined n [] (lines_from n (cond b ([] ∷ more) (onto_first byte more))) ≡ lines_from n (cond b ([] ∷ more) (onto_first byte more))
fresh_split n byte more true = fresh n [] more
fresh_split n byte more false = some_parts n byte more

-- a fresh line at hand adds nothing
pub fresh_parts : (n : ℕ) (text : List ℕ) → joined n [] (lines_from n (parts text)) ≡ lines_from n (parts text)
fresh_parts n [] = fresh n [] []
fresh_parts n (byte ∷ text) = fresh_split n byte (parts text) (is_line_feed byte)

take_step : (n next m : ℕ) (text part : List ℕ) (done more : List Line) (b : Bool) → joined next [] more ≡ more
    → (cond b done (done ++ record { number = n; text = text ++ said part } ∷ [])) ++ behind (cond b (record { number = n; text = text ++ said part }) (record { number = next; text = [] })) more
    ≡ done ++ joined n text (cond b (joined m (said part) more) (record { number = m; text = said part } ∷ more))
take_step n next m text part done more true same = ap (λ (lines : List Line). done ++ lines) (sym (joined_twice n m text (said part) more))
take_step n next m text part done more false same = append_assoc done (record { number = n; text = text ++ said part } ∷ []) (joined next [] more) ∙ ap (λ (lines : List Line). done ++ (record { number = n; text = text ++ said part } ∷ lines)) same

-- a part that is taken leaves the lines as they were to be
pub taken : (done done' : List Line) (line line' : Line) (number next : ℕ) (part left : List ℕ) → next ≡ number + 1 → Takes part next done line done' line'
    → done' ++ behind line' (lines_from next (parts left)) ≡ done ++ behind line (lines_from number (part ∷ parts left))
taken done done' line line' number next part left e takes =
    ap (λ (lines : List Line). lines ++ behind line' (lines_from next (parts left))) takes.0
    ∙ ap (λ (at : Line). (cond (goes_on part) done (done ++ record { number = line.number; text = line.text ++ said part } ∷ [])) ++ behind at (lines_from next (parts left))) takes.1
    ∙ take_step line.number next number line.text part done (lines_from next (parts left)) (goes_on part) (fresh_parts next left)
    ∙ ap (λ (n : ℕ). done ++ behind line (cond (goes_on part) (joined number (said part) (lines_from n (parts left))) (record { number = number; text = said part } ∷ lines_from n (parts left)))) e

last_step : (n m : ℕ) (text part : List ℕ) (b : Bool) → joined n text (cond b (joined m (said part) []) (record { number = m; text = said part } ∷ [])) ≡ record { number = n; text = text ++ said part } ∷ []
last_step n m text part true = refl
last_step n m text part false = refl

-- the last part ends the line at hand
pub last_taken : (line : Line) (number : ℕ) (part : List ℕ) → behind line (lines_from number (part ∷ [])) ≡ record { number = line.number; text = line.text ++ said part } ∷ []
last_taken line number part = last_step line.number number line.text part (goes_on part)

-- at first nothing is handed out, and a fresh line is at hand
pub begun : (done : List Line) (line : Line) (text : List ℕ) → done ≡ [] → line.number ≡ 1 → line.text ≡ [] → done ++ behind line (lines_from 1 (parts text)) ≡ lines_from 1 (parts text)
begun done line text none first empty =
    ap (λ (lines : List Line). lines ++ behind line (lines_from 1 (parts text))) none
    ∙ ap (λ (n : ℕ). joined n line.text (lines_from 1 (parts text))) first
    ∙ ap (λ (prefix : List ℕ). joined 1 prefix (lines_from 1 (parts text))) empty
    ∙ fresh_parts 1 text

-- the line at hand is the last, with the last part
pub finished : (done all : List Line) (line : Line) (number : ℕ) (ahead text new : List ℕ) → parts ahead ≡ ahead ∷ [] → new ≡ line.text ++ said ahead
    → all ≡ done ++ record { number = line.number; text = new } ∷ [] → done ++ behind line (lines_from number (parts ahead)) ≡ lines_from 1 (parts text) → all ≡ lines text
unfolding lines
finished done all line number ahead text new last added pushed kept =
    pushed
    ∙ ap (λ (prefix : List ℕ). done ++ record { number = line.number; text = prefix } ∷ []) added
    ∙ ap (λ (lines : List Line). done ++ lines) (sym (last_taken line number ahead))
    ∙ ap (λ (left : List (List ℕ)). done ++ behind line (lines_from number left)) (sym last)
    ∙ kept

-- ---- the first line feed

list_any-none : (text : List ℕ) → length text ≤ position_or_len is_line_feed text → All (λ byte. is_line_feed byte ≡ false) text
list_any-none text past = All-from_get_or (λ byte. is_line_feed byte ≡ false) text 0 (λ k inside. fails_before_first is_line_feed text k 0 (omega arith))

no_place : (text : List ℕ) → None ≡ position is_line_feed text → length text ≤ position_or_len is_line_feed text
no_place text e = grind arith

at_place : (text : List ℕ) (k : ℕ) → Some k ≡ position is_line_feed text → (position_or_len is_line_feed text ≡ k) × (position_or_len is_line_feed text < length text)
at_place text k e = grind (arith, nat_tests)

pub parts_none : (text : List ℕ) → None ≡ position is_line_feed text → parts text ≡ text ∷ []
parts_none text e = slice_split_none is_line_feed text (list_any-none text (no_place text e))

pub parts_at : (text : List ℕ) (k : ℕ) → Some k ≡ position is_line_feed text → parts text ≡ take k text ∷ parts (drop (k + 1) text)
parts_at text k e =
    let at = at_place text k e in
    slice_split_first is_line_feed text 0 at.1 ∙ ap (λ (n : ℕ). take n text ∷ parts (drop (n + 1) text)) at.0
