-- how far the records have been read
use Rattle.std.proofs.Common.{◌≡◌, ℕ, ◌+◌, ◌-◌, ◌<◌, ◌≤◌, List, [], ◌∷◌, ◌++◌, length, take, drop, Some, refl, sym, ap, ◌∙◌, subst, arith, append_assoc, length-append}
use Rattle.std.specs.List.{AllByRecursion}
use Rattle.std.proofs.Math.Seq.{take-append-add}
use Rattle.std.proofs.lemmas.List.{take-append-drop, drop-drop, drop_at, length-drop}
use Rattle.journal_core.specs.declared.fault.JournalFault.{JournalFault}
use Rattle.journal_core.specs.declared.fault.JournalFault.TheVariants.{DiskFault, NotAJournal, Memory}
use Rattle.journal_core.specs.declared.reading.Next.TheVariants.{Record}
use Rattle.journal_core.specs.Form.{header, length_field, opened, IsShort, StandsFor, GoesOn, FailsAt}
use Rattle.journal_core.specs.Reading.{Tail, TailGoesOn, TailFails, BeginsWith, BeginsWithRecord, FailsFrom, IfNotAJournal}
use Rattle.journal_core.proofs.FormLemmas.{length-header, length-length_field, opened-more, length-opened_more, short-more}
use Rattle.journal_core.proofs.GrammarLemmas.{tail_of, behind}
use Rattle.journal_core.proofs.NextLemmas.{fails_in_record}

opened-append : (records others : List (List ℕ)) → opened (records ++ others) ≡ opened records ++ opened others
opened-append [] others = refl
opened-append (body ∷ records) others =
    ap (λ (l : List ℕ). 1 ∷ l)
    (ap (λ (l : List ℕ). length_field (length body) ++ (body ++ l)) (opened-append records others)
    ∙ ap (λ (l : List ℕ). length_field (length body) ++ l) (sym (append_assoc body (opened records) (opened others)))
    ∙ sym (append_assoc (length_field (length body)) (body ++ opened records) (opened others)))

short-append : (records others : List (List ℕ)) → AllByRecursion IsShort records → AllByRecursion IsShort others → AllByRecursion IsShort (records ++ others)
short-append [] others all more = more
short-append (body ∷ records) others all more = (all.0, short-append records others all.1 more)

-- records in front of others
tail_behind : (records others : List (List ℕ)) (bytes : List ℕ) → AllByRecursion IsShort records → Tail bytes others → Tail (opened records ++ bytes) (records ++ others)
tail_behind records others bytes fits tail = record {
  gate = tail.gate;
  rest = tail.rest;
  form =
      ap (λ (l : List ℕ). opened records ++ l) tail.form
      ∙ sym (append_assoc (opened records) (opened others) (tail.gate ∷ tail.rest))
      ∙ ap (λ (l : List ℕ). l ++ tail.gate ∷ tail.rest) (sym (opened-append records others));
  closed = tail.closed;
  fits = short-append records others fits tail.fits;
}

goes_on_behind : (records : List (List ℕ)) (bytes : List ℕ) → AllByRecursion IsShort records → TailGoesOn bytes → TailGoesOn (opened records ++ bytes)
goes_on_behind records bytes fits on = (
  on.0,
  records ++ on.1,
  subst (λ (l : List ℕ). Tail l (records ++ on.1)) (sym (append_assoc (opened records) bytes on.0)) (tail_behind records on.1 (bytes ++ on.0) fits on.2),
)

goes_on_ahead : (records : List (List ℕ)) (bytes : List ℕ) → AllByRecursion IsShort records → TailGoesOn (opened records ++ bytes) → TailGoesOn bytes
goes_on_ahead records bytes fits on =
    let there = behind records on.1 (bytes ++ on.0) fits (subst (λ (l : List ℕ). Tail l on.1) (append_assoc (opened records) bytes on.0) on.2) in
    (on.0, there.others, there.tail)

-- what fails behind records fails with them
fails_behind : (records : List (List ℕ)) (bytes : List ℕ) (place : ℕ) → AllByRecursion IsShort records → TailFails bytes place
    → TailFails (opened records ++ bytes) (length (opened records) + place)
fails_behind records bytes place fits fails =
    let prefix = opened records in
    record {
      within = omega (arith, fails.within, length-append prefix bytes);
      before = subst TailGoesOn (sym (take-append-add prefix bytes place)) (goes_on_behind records (take place bytes) fits fails.before);
      here = λ inside on.
          let there : take (length prefix + place + 1) (prefix ++ bytes) ≡ prefix ++ take (place + 1) bytes =
          ap (λ (n : ℕ). take n (prefix ++ bytes)) (omega arith) ∙ take-append-add prefix bytes (place + 1) in
          fails.here (omega (arith, length-append prefix bytes)) (goes_on_ahead records (take (place + 1) bytes) fits (subst TailGoesOn there on));
      broken = λ others tail. fails.broken (behind records others bytes fits tail).others (behind records others bytes fits tail).tail;
    }

-- behind a header

tail_stands : (generation : ℕ) (bytes : List ℕ) (records : List (List ℕ)) → Tail bytes records → StandsFor generation (header generation ++ bytes) records
tail_stands generation bytes records tail = record {
  gate = tail.gate;
  rest = tail.rest;
  form = ap (λ (l : List ℕ). header generation ++ l) tail.form;
  closed = tail.closed;
  fits = tail.fits;
}

header_goes_on : (generation : ℕ) (bytes : List ℕ) → TailGoesOn bytes → GoesOn generation (header generation ++ bytes)
header_goes_on generation bytes on = (
  on.0,
  (
    on.1,
    subst (λ (l : List ℕ). StandsFor generation l on.1) (sym (append_assoc (header generation) bytes on.0)) (tail_stands generation (bytes ++ on.0) on.1 on.2),
  ),
)

header_went_on : (generation : ℕ) (bytes : List ℕ) → GoesOn generation (header generation ++ bytes) → TailGoesOn bytes
header_went_on generation bytes on = (
  on.0,
  on.1.0,
  tail_of generation (bytes ++ on.0) on.1.0 (subst (λ (l : List ℕ). StandsFor generation l on.1.0) (append_assoc (header generation) bytes on.0) on.1.1),
)

header_fails_behind : (generation : ℕ) (bytes : List ℕ) (place : ℕ) → TailFails bytes place → FailsAt generation (header generation ++ bytes) (16 + place)
header_fails_behind generation bytes place fails =
    let head = header generation in
    let size = length-header generation in
    let cut : (count : ℕ) → take (16 + count) (head ++ bytes) ≡ head ++ take count bytes =
    λ count. ap (λ (n : ℕ). take (n + count) (head ++ bytes)) (sym size) ∙ take-append-add head bytes count in
    record {
      within = omega (arith, fails.within, length-append head bytes, size);
      before = subst (GoesOn generation) (sym (cut place)) (header_goes_on generation (take place bytes) fails.before);
      here = λ inside on.
          let there : take (16 + place + 1) (head ++ bytes) ≡ head ++ take (place + 1) bytes =
          ap (λ (n : ℕ). take n (head ++ bytes)) (omega arith) ∙ cut (place + 1) in
          fails.here (omega (arith, length-append head bytes, size)) (header_went_on generation (take (place + 1) bytes) (subst (GoesOn generation) there on));
      broken = λ is_journal. fails.broken is_journal.0 (tail_of generation bytes is_journal.0 is_journal.1);
    }

pub fails_at : (generation : ℕ) (bytes : List ℕ) (end : ℕ) → bytes ≡ header generation ++ drop 16 bytes → FailsFrom 16 bytes end → FailsAt generation bytes end
fails_at generation bytes end form from =
    let place : 16 + (end - 16) ≡ end = omega (arith, from.after) in
    subst (FailsAt generation bytes) place
    (subst (λ (l : List ℕ). FailsAt generation l (16 + (end - 16))) (sym form) (header_fails_behind generation (drop 16 bytes) (end - 16) from.fails))

-- the records before this place have been read
pub record Reached (bytes : List ℕ) (place : ℕ) (records : List (List ℕ)) : Type 0 where
  pub form : drop 16 bytes ≡ opened records ++ drop place bytes
  pub size : place ≡ 16 + length (opened records)
  pub fits : AllByRecursion IsShort records

pub reached_more : (bytes : List ℕ) (place : ℕ) (records : List (List ℕ)) (body : List ℕ) → Reached bytes place records → BeginsWithRecord (drop place bytes) (Some body) → IsShort body
    → Reached bytes (place + (5 + length body)) (records ++ body ∷ [])
reached_more bytes place records body reached begins short =
    let rest = drop (5 + length body) (drop place bytes) in
    let there : rest ≡ drop (place + (5 + length body)) bytes = drop-drop (5 + length body) place bytes in
    record {
      form =
          reached.form
          ∙ ap (λ (l : List ℕ). opened records ++ l) begins
          ∙ sym (opened-more records body rest)
          ∙ ap (λ (l : List ℕ). opened (records ++ body ∷ []) ++ l) there;
      size = omega (arith, reached.size, length-opened_more records body);
      fits = short-more records body reached.fits short;
    }

pub reached_fails : (bytes : List ℕ) (place end : ℕ) (records : List (List ℕ)) → Reached bytes place records → FailsFrom place bytes end → FailsFrom 16 bytes end
reached_fails bytes place end records reached from =
    let there : length (opened records) + (end - place) ≡ end - 16 = omega (arith, reached.size, from.after) in
    record {
      after = omega (arith, reached.size, from.after);
      fails =
          subst (TailFails (drop 16 bytes)) there
          (subst (λ (l : List ℕ). TailFails l (length (opened records) + (end - place))) (sym reached.form)
          (fails_behind records (drop place bytes) (end - place) reached.fits from.fails));
    }

-- one record

pub record_read : (bytes : List ℕ) (place count : ℕ) (body : List ℕ) → BeginsWith (drop place bytes) (Record count) → body ≡ take count (drop (place + 5) bytes) → length body ≡ count
    → BeginsWithRecord (drop place bytes) (Some body)
record_read bytes place count body begins is_body size =
    let tail = drop place bytes in
    let rest = begins.0 in
    let five : drop 5 tail ≡ rest = ap (λ (l : List ℕ). drop 5 l) begins.1 ∙ drop_at (length_field count) rest 4 (length-length_field count) in
    let there : drop (place + 5) bytes ≡ rest = sym (drop-drop 5 place bytes) ∙ five in
    let behind_body : drop (5 + length body) tail ≡ drop count rest =
    ap (λ (n : ℕ). drop (5 + n) tail) size ∙ sym (drop-drop count 5 tail) ∙ ap (λ (l : List ℕ). drop count l) five in
    let split : rest ≡ body ++ drop (5 + length body) tail =
    sym (take-append-drop count rest)
    ∙ ap (λ (l : List ℕ). l ++ drop count rest) (sym (is_body ∙ ap (λ (l : List ℕ). take count l) there))
    ∙ ap (λ (l : List ℕ). body ++ l) (sym behind_body) in
    begins.1
    ∙ ap (λ (l : List ℕ). 1 ∷ (length_field count ++ l)) split
    ∙ ap (λ (n : ℕ). 1 ∷ (length_field n ++ (body ++ drop (5 + length body) tail))) (sym size)

pub record_cut : (bytes : List ℕ) (place size count end : ℕ) → size ≡ length bytes → place + 5 ≤ size → BeginsWith (drop place bytes) (Record count)
    → (end ≡ size) × (size - (place + 5) < count) → FailsFrom place bytes end
record_cut bytes place size count end is_size inside begins cut =
    let rest = begins.0 in
    let lengths : length (drop place bytes) ≡ 5 + length rest = ap length begins.1 ∙ omega (arith, length-append (length_field count) rest, length-length_field count) in
    let there : 5 + length rest ≡ end - place = omega (arith, cut.0, length-drop place bytes) in
    record {
      after = omega (arith, cut.0);
      fails =
          subst (TailFails (drop place bytes)) there
          (subst (λ (l : List ℕ). TailFails l (5 + length rest)) (sym begins.1)
          (fails_in_record count rest begins.2 (omega (arith, cut.1, length-drop place bytes))));
    }

-- faults

pub IfNotAJournal-weaker : {P Q : ℕ → Type 0} (fault : JournalFault) → ((place : ℕ) → P place → Q place) → IfNotAJournal fault P → IfNotAJournal fault Q
IfNotAJournal-weaker DiskFault weaker held = tt
IfNotAJournal-weaker (NotAJournal place) weaker held = weaker place held
IfNotAJournal-weaker Memory weaker held = tt
