-- where the header of a journal is not there
use Rattle.std.proofs.Common.{◌≡◌, ◌≢◌, ℕ, ◌+◌, ◌<◌, ◌≤◌, List, [], ◌∷◌, ◌++◌, length, min, take, drop, get_or, sym, ap, ◌∙◌, arith, append_assoc, length-append}
use Rattle.std.proofs.lemmas.List.{take-take, take-append-drop, get_or-take, get_or_append_left, length-take}
use Rattle.journal_core.specs.Form.{header, opened, IsJournal, FailsAt}
use Rattle.journal_core.proofs.FormLemmas.{length-header}

-- a journal has each byte of the header
byte_of_header : (generation : ℕ) (bytes : List ℕ) (place : ℕ) → place < 16 → IsJournal generation bytes → get_or bytes place 0 ≡ get_or (header generation) place 0
byte_of_header generation bytes place below is_journal =
    let stands = is_journal.1 in
    ap (λ (l : List ℕ). get_or l place 0) stands.form
    ∙ get_or_append_left (header generation) (opened is_journal.0 ++ stands.gate ∷ stands.rest) 0 place (omega (arith, length-header generation))

journal_size : (generation : ℕ) (bytes : List ℕ) → IsJournal generation bytes → 16 ≤ length bytes
journal_size generation bytes is_journal =
    let stands = is_journal.1 in
    omega (arith, ap length stands.form, length-append (header generation) (opened is_journal.0 ++ stands.gate ∷ stands.rest), length-header generation)

-- the header up to this place is there, and its next byte is not
pub header_fails : (generation : ℕ) (bytes : List ℕ) (place : ℕ) → place < 16 → place ≤ length bytes → take place bytes ≡ take place (header generation)
    → (place < length bytes → get_or bytes place 0 ≢ get_or (header generation) place 0) → FailsAt generation bytes place
header_fails generation bytes place below within same differs =
    let head = header generation in
    record {
      within = within;
      before = (
        drop place head ++ 0 ∷ [],
        (
          [],
          record {
            gate = 0;
            rest = [];
            form =
                ap (λ (l : List ℕ). l ++ (drop place head ++ 0 ∷ [])) same
                ∙ sym (append_assoc (take place head) (drop place head) (0 ∷ []))
                ∙ ap (λ (l : List ℕ). l ++ 0 ∷ []) (take-append-drop place head);
            closed = λ e. cc;
            fits = tt;
          },
        ),
      );
      here = λ inside on.
          let prefix = take (place + 1) bytes in
          let there : place < length prefix = omega (arith, length-take (place + 1) bytes) in
          differs inside
          (sym (get_or_append_left prefix on.0 0 place there ∙ get_or-take (place + 1) bytes place 0 (omega arith))
          ∙ byte_of_header generation (prefix ++ on.0) place below on.1);
      broken = λ is_journal.
          differs (omega (arith, journal_size generation bytes is_journal)) (byte_of_header generation bytes place below is_journal);
    }

-- what was seen of the file, and how far it is the header
pub header_seen_fails : (generation : ℕ) (bytes seen : List ℕ) (count same : ℕ) → count ≡ min 16 (length bytes) → seen ≡ take count bytes
    → same ≤ length seen → take same seen ≡ take same (header generation)
    → (same < length seen → same < length (header generation) → get_or seen same 0 ≢ get_or (header generation) same 0)
    → same < 16 → FailsAt generation bytes same
header_seen_fails generation bytes seen count same size is_seen within agrees differs below =
    let seen_size : length seen ≡ count = ap length is_seen ∙ length-take count bytes ∙ omega arith in
    header_fails generation bytes same below (omega arith)
    (sym (ap (λ (l : List ℕ). take same l) is_seen ∙ take-take same count bytes (omega arith)) ∙ agrees)
    (λ inside e.
    let before : same < count = omega arith in
    differs (omega arith) (omega (arith, length-header generation))
    (ap (λ (l : List ℕ). get_or l same 0) is_seen ∙ get_or-take count bytes same 0 before ∙ e))
