-- The lines of the texts that are told of a query.
use Rattle.std.proofs.Common.{◌≡◌, ℕ, zero, suc, ◌+◌, ◌/◌, ◌%◌, ◌^◌, ◌<◌, Bool, true, false, cond, not, nat_eq, nat_lt, List, [], ◌∷◌, ◌++◌, length, slice_index_or, All, codes, Option, Some, None, ℤ, pos, negsuc, refl, sym, ap, subst, ◌∙◌, append_assoc, append-nil, arith, unwrap_or, slice_get}
use Rattle.std.specs.Char.{is_ascii_digit}
use Rattle.std.specs.Fmt.{decimal, digits, digits_onto, digit_glyph}
use Rattle.std.specs.List.{flat_map, list_any, slice_split, AllByRecursion}
use Rattle.std.specs.Option.{option_map_or}
use Rattle.std.proofs.lemmas.Bool.{or_parts, or_right}
use Rattle.std.proofs.lemmas.Bool.Decides.{nat_tests}
use Rattle.std.proofs.lemmas.List.Elements.{All-from_recursion}
use Rattle.std.proofs.lemmas.List.Splits.{slice_split_at}
use Rattle.fixed_num.specs.Units.{one}
use Rattle.fixed_num.specs.UnitsText.{decimals, fraction_text, size_text, units_text}
use Rattle.history.specs.declared.beat.OpenDim.{OpenDim}
use Rattle.history.specs.Limits.{is_line_feed, is_one_line}
use Rattle.history.specs.Registry.{Registry}
use Rattle.query_engine.specs.declared.request.Request.{Request}
use Rattle.query_engine.specs.declared.table.Table.{Table}
use Rattle.query_engine.specs.declared.table.TableRow.{TableRow}
use Rattle.query_text.specs.declared.fault.QueryFault.{QueryFault}
use Rattle.query_text.specs.declared.fault.QueryFault.TheVariants.{BadWord, BadNumber, NoChart, BadGroup, TooManyRows, Memory}
use Rattle.query_text.specs.Replies.{begins_with_digit, is_reply_line, HasOneLineIds, IsReply}
use Rattle.query_text.specs.Told.{column_text, cell_text, row_text, table_text, fault_text}

-- ---- texts without a line feed

abbrev pub IsFree : List ℕ → Type 0
IsFree text = AllByRecursion (λ (byte : ℕ). is_line_feed byte ≡ false) text

pub free-append : (xs ys : List ℕ) → IsFree xs → IsFree ys → IsFree (xs ++ ys)
free-append [] ys first second = second
free-append (x ∷ xs) ys first second = (first.0, free-append xs ys first.1 second)

free-flat_map : {A : Type 0} (f : A → List ℕ) (xs : List A) → ((x : A) → IsFree (f x)) → IsFree (flat_map f xs)
free-flat_map f [] each = tt
free-flat_map f (x ∷ xs) each = free-append (f x) (flat_map f xs) (each x) (free-flat_map f xs each)

pub free-one_line : (text : List ℕ) → list_any is_line_feed text ≡ false → IsFree text
free-one_line [] e = tt
free-one_line (x ∷ xs) e = let parts = or_parts (is_line_feed x) (list_any is_line_feed xs) e in (parts.0, free-one_line xs parts.1)

-- ---- decimal digits

glyph-digit : (digit : ℕ) → digit < 10 → is_ascii_digit (digit_glyph false digit) ≡ true
glyph-digit digit small = grind (arith, nat_tests)

glyph-free : (digit : ℕ) → is_line_feed (digit_glyph false digit) ≡ false
glyph-free digit = by (nat_lt digit 10)
  where
    by : (b : Bool) → is_line_feed (cond b (48 + digit) (87 + digit)) ≡ false
    by true = grind (arith, nat_tests)
    by false = grind (arith, nat_tests)

-- digits, and at least one
pub record IsNumber (text : List ℕ) : Type 0 where
  pub begun : begins_with_digit text ≡ true
  pub free : IsFree text

number-onto : (k n : ℕ) (acc : List ℕ) → IsNumber acc → IsNumber (digits_onto k 10 false n acc)
number-onto zero n acc is = is
number-onto (suc k) n acc is =
    let more : IsNumber (digit_glyph false (n % 10) ∷ acc) = record { begun = glyph-digit (n % 10) (omega arith); free = (glyph-free (n % 10), is.free) } in
    by (nat_eq (n / 10) 0) (digit_glyph false (n % 10) ∷ acc) (digits_onto k 10 false (n / 10) (digit_glyph false (n % 10) ∷ acc)) more (number-onto k (n / 10) (digit_glyph false (n % 10) ∷ acc) more)
  where
    by : (b : Bool) (xs ys : List ℕ) → IsNumber xs → IsNumber ys → IsNumber (cond b xs ys)
    by true xs ys here there = here
    by false xs ys here there = there

pub decimal-number : (n : ℕ) → IsNumber (decimal n)
unfolding digits
decimal-number n =
    let last : IsNumber (digit_glyph false (n % 10) ∷ []) = record { begun = glyph-digit (n % 10) (omega arith); free = (glyph-free (n % 10), tt) } in
    by (nat_eq (n / 10) 0) (digit_glyph false (n % 10) ∷ []) (digits_onto 63 10 false (n / 10) (digit_glyph false (n % 10) ∷ [])) last (number-onto 63 (n / 10) (digit_glyph false (n % 10) ∷ []) last)
  where
    by : (b : Bool) (xs ys : List ℕ) → IsNumber xs → IsNumber ys → IsNumber (cond b xs ys)
    by true xs ys here there = here
    by false xs ys here there = there

-- ---- the texts of units

digit-free : (digit : ℕ) → is_line_feed (48 + digit) ≡ false
digit-free digit = grind (arith, nat_tests)

decimals-free : (places part : ℕ) → IsFree (decimals places part)
unfolding decimals
decimals-free zero part = tt
decimals-free (suc places) part = by (nat_eq part 0) (decimals places (part % 10 ^ places)) (decimals-free places (part % 10 ^ places))
  where
    by : (b : Bool) (others : List ℕ) → IsFree others → IsFree (cond b [] ((48 + part / 10 ^ places) ∷ others))
    by true others free = tt
    by false others free = (digit-free (part / 10 ^ places), free)

fraction-free : (part : ℕ) → IsFree (fraction_text part)
fraction-free part = by (nat_eq part 0)
  where
    by : (b : Bool) → IsFree (cond b [] (46 ∷ decimals 7 part))
    by true = tt
    by false = (refl, decimals-free 7 part)

size-free : (size : ℕ) → IsFree (size_text size)
size-free size = free-append (decimal (size / one)) (fraction_text (size % one)) (decimal-number (size / one)).free (fraction-free (size % one))

pub units-free : (units : ℤ) → IsFree (units_text units)
units-free (pos n) = size-free n
units-free (negsuc n) = (refl, size-free (suc n))

-- ---- the lines of a reply

cell-free : (cell : Option ℤ) → IsFree (cell_text cell)
cell-free None = (refl, (refl, (refl, (refl, (refl, tt)))))
cell-free (Some units) = (refl, units-free units)

id-free : (dimensions : List OpenDim) (series : ℕ) → All (λ (dimension : OpenDim). is_one_line dimension.def.id ≡ true) dimensions
    → IsFree (option_map_or (λ (dimension : OpenDim). dimension.def.id) (slice_get dimensions series) [])
id-free [] series all = tt
id-free (dimension ∷ others) zero all = free-one_line dimension.def.id (not_true (list_any is_line_feed dimension.def.id) (all 0 dimension (omega arith)))
  where
    not_true : (b : Bool) → not b ≡ true → b ≡ false
    not_true false e = refl
    not_true true e = sym e
id-free (dimension ∷ others) (suc series) all = id-free others series (λ k d within. all (suc k) d (omega arith))

column-free : (registry : Registry) → HasOneLineIds registry → (series : ℕ) → IsFree (column_text registry series)
column-free registry ids series = (refl, id-free registry.dimensions series ids)

abbrev pub head_line : Registry → List ℕ → ℕ → List ℕ
head_line registry series rows = codes "ROWS " ++ decimal rows ++ flat_map (column_text registry) series

abbrev pub row_line : TableRow → List ℕ
row_line row = decimal row.start ++ flat_map cell_text row.cells

abbrev pub fault_line : ℕ → List ℕ
fault_line number = codes "ERROR " ++ decimal number

head-free : (registry : Registry) (series : List ℕ) (rows : ℕ) → HasOneLineIds registry → IsFree (head_line registry series rows)
head-free registry series rows ids =
    free-append (codes "ROWS " ++ decimal rows) (flat_map (column_text registry) series)
    (free-append (codes "ROWS ") (decimal rows) (refl, (refl, (refl, (refl, (refl, tt))))) (decimal-number rows).free)
    (free-flat_map (column_text registry) series (column-free registry ids))

row-free : (row : TableRow) → IsFree (row_line row)
row-free row = free-append (decimal row.start) (flat_map cell_text row.cells) (decimal-number row.start).free (free-flat_map cell_text row.cells cell-free)

fault-free : (number : ℕ) → IsFree (fault_line number)
fault-free number = free-append (codes "ERROR ") (decimal number) (refl, (refl, (refl, (refl, (refl, (refl, tt)))))) (decimal-number number).free

digit-begun : (text more : List ℕ) → begins_with_digit text ≡ true → is_reply_line (text ++ more) ≡ true
digit-begun [] more e = absurd (cc)
digit-begun (byte ∷ text) more e = or_right _ (is_ascii_digit byte) e

-- ---- whole lines

-- one line more in front of others
pub line-more : (line text : List ℕ) → IsFree line → is_reply_line line ≡ true → IsReply text → IsReply ((line ++ codes "\n") ++ text)
line-more line text free begun reply = record {
  lines = line ∷ reply.lines;
  whole =
      ap (slice_split is_line_feed) (append_assoc line (10 ∷ []) text)
      ∙ slice_split_at is_line_feed line 10 text (All-from_recursion (λ (byte : ℕ). is_line_feed byte ≡ false) line free) refl
      ∙ ap (λ (ls : List (List ℕ)). line ∷ ls) reply.whole;
  begun = λ k d within. at k d within;
}
  where
    at : (k : ℕ) (d : List ℕ) → k < length (line ∷ reply.lines) → is_reply_line (slice_index_or (line ∷ reply.lines) k d) ≡ true
    at zero d within = begun
    at (suc k) d within = reply.begun k d (omega arith)

pub no-line : IsReply []
no-line = record { lines = []; whole = refl; begun = λ k d within. absurd (omega arith) }

pub rows-reply : (rows : List TableRow) → IsReply (flat_map row_text rows)
rows-reply [] = no-line
rows-reply (row ∷ rows) =
    line-more (row_line row) (flat_map row_text rows) (row-free row)
    (digit-begun (decimal row.start) (flat_map cell_text row.cells) (decimal-number row.start).begun) (rows-reply rows)

pub table-reply : (registry : Registry) (request : Request) (table : Table) → HasOneLineIds registry → IsReply (table_text registry request table)
table-reply registry request table ids =
    line-more (head_line registry request.series (length table.rows)) (flat_map row_text table.rows) (head-free registry request.series (length table.rows) ids) refl (rows-reply table.rows)

one-fault : (number : ℕ) → IsReply (fault_line number ++ codes "\n")
one-fault number = subst IsReply (append-nil (fault_line number ++ codes "\n")) (line-more (fault_line number) [] (fault-free number) refl no-line)

pub fault-reply : (fault : QueryFault) → IsReply (unwrap_or (fault_text fault) [])
fault-reply BadWord = one-fault 1
fault-reply BadNumber = one-fault 2
fault-reply NoChart = one-fault 3
fault-reply BadGroup = one-fault 4
fault-reply TooManyRows = one-fault 5
fault-reply Memory = no-line
