-- Kinds of fields made of other kinds.
use Rattle.std.proofs.Common.{◌≡◌, ℕ, ◌^◌, ◌<◌, ◌≤◌, Bool, true, false, cond, ltb, List, ◌++◌, length, take, drop, Ok, Err, refl, sym, ap, subst, ◌∙◌, append_assoc, arith}
use Rattle.std.proofs.lemmas.Bool.{le-ltb, ltb-false}
use Rattle.std.proofs.lemmas.List.{drop_at, length-append, length-take, take-append-drop, take_at}
use Rattle.byteorder.specs.Endian.{little_number, little_bytes}
use Rattle.byteorder.specs.Numbers.{length-bytes_low_first, little_from-lt, little_number-reads_back}
use Rattle.field_codec.specs.declared.fault.FieldFault.{FieldFault}
use Rattle.field_codec.specs.declared.fault.FieldFault.TheVariants.{Short}
use Rattle.field_codec.specs.Field.{IsBytes, IsField}
use Rattle.field_codec.specs.Reading.{ReadOf, read_as, read_counted, read_number, read_passing}
use Rattle.field_codec.proofs.Numbers.{little_bytes-little_number}

-- a value that was read
abbrev pub done : {X : Type 0} → X × List ℕ → ReadOf X
done read = Ok read

pub done_is : {X : Type 0} (a b : X × List ℕ) → done a ≡ done b → a ≡ b
done_is a b e = cc

-- a test that did not fail
pub passed : {X : Type 0} (test : Bool) (fault : FieldFault) (a b : X × List ℕ) → cond test (Err fault) (Ok a) ≡ done b → (test ≡ false) × (a ≡ b)
passed true fault a b e = absurd cc
passed false fault a b e = (refl, cc)

-- the two facts from which the others follow
pub field_from : {X : Type 0} (HasSpelling : X → Type 0) (spelling : X → List ℕ) (read : List ℕ → ReadOf X)
    → ((value : X) (rest : List ℕ) → HasSpelling value → read (spelling value ++ rest) ≡ Ok (value, rest))
    → ((bytes : List ℕ) (value : X) (rest : List ℕ) → IsBytes bytes → read bytes ≡ Ok (value, rest) → HasSpelling value × (bytes ≡ spelling value ++ rest))
    → IsField HasSpelling spelling read
field_from {X} HasSpelling spelling read back taken =
    let same : (a b : X) (x y : List ℕ) → HasSpelling a → HasSpelling b → spelling a ++ x ≡ spelling b ++ y → (a, x) ≡ (b, y) =
    λ a b x y fits_a fits_b e. done_is (a, x) (b, y) (sym (back a x fits_a) ∙ ap read e ∙ back b y fits_b) in
    record {
      reads_back = back;
      has_spelling = λ bytes value rest fits e. (taken bytes value rest fits e).0;
      is_spelt = λ bytes value rest fits e. (taken bytes value rest fits e).1;
      one_value = λ a b x y fits_a fits_b e. ap (λ (p : X × List ℕ). p.0) (same a b x y fits_a fits_b e);
      one_end = λ a b x y fits_a fits_b e. ap (λ (p : X × List ℕ). p.1) (same a b x y fits_a fits_b e);
    }

-- a number of so many bytes
pub number_field : (size : ℕ) → IsField (λ n. n < 256 ^ size) (little_bytes size) (read_number size)
number_field size =
    field_from (λ n. n < 256 ^ size) (little_bytes size) (read_number size)
    (λ n rest small.
    let len = length-bytes_low_first 0 size n in
    let long : ltb (length (little_bytes size n ++ rest)) size ≡ false =
    le-ltb _ _ (omega (arith, length-append (little_bytes size n) rest, len)) in
    rw (long, little_number-reads_back size n rest small, drop_at (little_bytes size n) rest size len) refl)
    (λ bytes n rest fits e.
    let read = passed (ltb (length bytes) size) Short (little_number size bytes, drop size bytes) (n, rest) e in
    let long : size ≤ length bytes = ltb-false _ _ read.0 in
    let n_is : little_number size bytes ≡ n = ap (λ (p : ℕ × List ℕ). p.0) read.1 in
    let rest_is : drop size bytes ≡ rest = ap (λ (p : ℕ × List ℕ). p.1) read.1 in
    let prefix : little_bytes size n ≡ take size bytes =
    ap (little_bytes size) (sym n_is) ∙ little_bytes-little_number size bytes fits long in (
      subst (λ (m : ℕ). m < 256 ^ size) n_is (little_from-lt 0 size bytes fits),
      rw (prefix, ← rest_is) (sym (take-append-drop size bytes)),
    ))

-- the same values, said otherwise
pub same_values : {X : Type 0} (V W : X → Type 0) (spelling : X → List ℕ) (read : List ℕ → ReadOf X)
    → ((value : X) → V value → W value) → ((value : X) → W value → V value) → IsField V spelling read → IsField W spelling read
same_values V W spelling read to from field =
    field_from W spelling read
    (λ value rest fits. field.reads_back value rest (from value fits))
    (λ bytes value rest fits e. (to value (field.has_spelling bytes value rest fits e), field.is_spelt bytes value rest fits e))

-- what was read before the value was made of it
pub read_as-ok : {X Y : Type 0} (f : X → Y) (read : ReadOf X) (y : Y) (rest : List ℕ) → read_as f read ≡ Ok (y, rest)
    → (x : X) × (read ≡ Ok (x, rest)) × (f x ≡ y)
read_as-ok {X} {Y} f (Ok found) y rest e =
    let same = done_is (f found.0, found.1) (y, rest) e in
    let end : found.1 ≡ rest = ap (λ (p : Y × List ℕ). p.1) same in
    (found.0, ap (λ (r : List ℕ). done (found.0, r)) end, ap (λ (p : Y × List ℕ). p.0) same)
read_as-ok f (Err fault) y rest e = absurd cc

-- the values that two functions make of one another
pub as_field : {X Y : Type 0} (V : X → Type 0) (W : Y → Type 0) (spelling : X → List ℕ) (read : List ℕ → ReadOf X) (to : X → Y) (from : Y → X)
    → ((x : X) → V x → W (to x) × (from (to x) ≡ x)) → ((y : Y) → W y → V (from y) × (to (from y) ≡ y))
    → IsField V spelling read → IsField W (λ y. spelling (from y)) (λ bytes. read_as to (read bytes))
as_field {X} {Y} V W spelling read to from there back field =
    field_from W (λ y. spelling (from y)) (λ bytes. read_as to (read bytes))
    (λ y rest fits.
    let known = back y fits in
    rw (field.reads_back (from y) rest known.0) (ap (λ (v : Y). done (v, rest)) known.1))
    (λ bytes y rest fits e.
    let found = read_as-ok to (read bytes) y rest e in
    let known = there found.0 (field.has_spelling bytes found.0 rest fits found.1) in
    let again : from y ≡ found.0 = ap from (sym found.2) ∙ known.1 in (
      subst W found.2 known.0,
      field.is_spelt bytes found.0 rest fits found.1 ∙ ap (λ (x : X). spelling x ++ rest) (sym again),
    ))

-- what passed the test
read_passing-ok : {X : Type 0} (test : X → Bool) (fault : FieldFault) (read : ReadOf X) (value : X) (rest : List ℕ) → read_passing test fault read ≡ Ok (value, rest)
    → (read ≡ Ok (value, rest)) × (test value ≡ true)
read_passing-ok {X} test fault (Ok found) value rest e =
    let chosen = passing_cond (test found.0) fault found (value, rest) e in
    (ap (λ (p : X × List ℕ). done p) chosen.1, ap (λ (p : X × List ℕ). test p.0) (sym chosen.1) ∙ chosen.0)
  where
    passing_cond : {X : Type 0} (b : Bool) (fault : FieldFault) (x y : X × List ℕ) → cond b (Ok x) (Err fault) ≡ done y → (b ≡ true) × (x ≡ y)
    passing_cond true fault x y e = (refl, cc)
    passing_cond false fault x y e = absurd cc
read_passing-ok test other (Err fault) value rest e = absurd cc

-- the values that pass a test
pub passing_field : {X : Type 0} (V : X → Type 0) (spelling : X → List ℕ) (read : List ℕ → ReadOf X) (test : X → Bool) (fault : FieldFault)
    → IsField V spelling read → IsField (λ x. V x × (test x ≡ true)) spelling (λ bytes. read_passing test fault (read bytes))
passing_field V spelling read test fault field =
    field_from (λ x. V x × (test x ≡ true)) spelling (λ bytes. read_passing test fault (read bytes))
    (λ value rest fits. rw (field.reads_back value rest fits.0, fits.1) refl)
    (λ bytes value rest fits e.
    let found = read_passing-ok test fault (read bytes) value rest e in
    ((field.has_spelling bytes value rest fits found.0, found.1), field.is_spelt bytes value rest fits found.0))

-- what a number counted
read_counted-ok : (read : ReadOf ℕ) (content rest : List ℕ) → read_counted read ≡ Ok (content, rest)
    → (after : List ℕ) × (read ≡ Ok (length content, after)) × (after ≡ content ++ rest)
read_counted-ok (Ok size) content rest e =
    let found = passed (ltb (length size.1) size.0) Short (take size.0 size.1, drop size.0 size.1) (content, rest) e in
    let long : size.0 ≤ length size.1 = ltb-false _ _ found.0 in
    let content_is : take size.0 size.1 ≡ content = ap (λ (p : List ℕ × List ℕ). p.0) found.1 in
    let rest_is : drop size.0 size.1 ≡ rest = ap (λ (p : List ℕ × List ℕ). p.1) found.1 in
    let len : size.0 ≡ length content = sym (ap length (sym content_is) ∙ (let l = length-take size.0 size.1 in omega (arith, l))) in
    (size.1, ap (λ (n : ℕ). done (n, size.1)) len, rw (← content_is, ← rest_is) (sym (take-append-drop size.0 size.1)))
read_counted-ok (Err fault) content rest e = absurd cc

-- bytes behind their number
pub counted_field : (limit : ℕ) (spelling : ℕ → List ℕ) (read : List ℕ → ReadOf ℕ) → IsField (λ n. n < limit) spelling read
    → IsField (λ content. length content < limit) (λ content. spelling (length content) ++ content) (λ bytes. read_counted (read bytes))
counted_field limit spelling read field =
    field_from (λ content. length content < limit) (λ content. spelling (length content) ++ content) (λ bytes. read_counted (read bytes))
    (λ content rest small.
    let long : ltb (length (content ++ rest)) (length content) ≡ false = le-ltb _ _ (omega (arith, length-append content rest)) in
    rw (append_assoc (spelling (length content)) content rest, field.reads_back (length content) (content ++ rest) small, long, take_at content rest (length content) refl, drop_at content rest (length content) refl) refl)
    (λ bytes content rest fits e.
    let found = read_counted-ok (read bytes) content rest e in
    let prefix = field.is_spelt bytes (length content) found.0 fits found.1 in (
      field.has_spelling bytes (length content) found.0 fits found.1,
      prefix ∙ ap (λ (after : List ℕ). spelling (length content) ++ after) found.2 ∙ sym (append_assoc (spelling (length content)) content rest),
    ))
