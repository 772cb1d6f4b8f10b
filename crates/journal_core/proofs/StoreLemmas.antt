-- what a record that is being stored leaves of a journal
use Rattle.std.proofs.Common.{◌≡◌, ℕ, ◌+◌, ◌<◌, inl, inr, ⊎_elim, List, [], ◌∷◌, ◌++◌, length, take, drop, get_or, Result, Ok, Err, false, ◌-◌, sym, ap, ◌∙◌, subst, arith, append_assoc, length-append}
use Rattle.std.specs.Result.{OnOk, is_err}
use Rattle.std.specs.List.{AllByRecursion}
use Rattle.std.proofs.lemmas.Bool.{cases_eq}
use Rattle.std.proofs.lemmas.List.{take-append-drop, take_at, drop_at, drop_more, length-take}
use Rattle.host_model.specs.declared.file.File.{File}
use Rattle.host_model.specs.Images.{contents, written, IsSynced}
use Rattle.host_model.specs.Past.{Event, of}
use Rattle.host_model.specs.Moments.{Throughout, EveryImage}
use Rattle.host_model.proofs.FileLemmas.{image_when_synced, written-behind}
use Rattle.host_model.proofs.MomentLemmas.{weakened}
use Rattle.host_model.proofs.RunLemmas.{RunsFrom, RunsFrom-images, RunsWithin, RunsWithin-images}
use Rattle.journal_core.specs.Form.{header, length_field, opened, IsShort, StandsFor}
use Rattle.journal_core.specs.Journal.{JournalState, IsOpen, StandsForEither}
use Rattle.journal_core.specs.Store.{KeepsThrough, KeepsBeside, Stages}
use Rattle.journal_core.proofs.FormLemmas.{length-header, length-length_field, opened-more, length-opened_more, short-more}

-- moments

-- writes behind a gate leave what stands up to it
pub through_moments : (file : File) (gate : ℕ) (old new : List Event) → gate < length (contents (of file old))
    → Throughout (RunsFrom file (gate + 1) old) old new → Throughout (EveryImage file (KeepsThrough gate (contents (of file old)))) old new
through_moments file gate old new inside moments =
    weakened (λ past run bytes image.
    let kept = RunsFrom-images file (gate + 1) old past (omega arith) run bytes image in
    record { reaches = omega (arith, kept.enough); prefix = kept.prefix }) moments

-- a write of a gate leaves what stands beside it
pub beside_moments : (file : File) (gate : ℕ) (old new : List Event) → gate < length (contents (of file old))
    → Throughout (RunsWithin file gate (gate + 1) old) old new → Throughout (EveryImage file (KeepsBeside gate (contents (of file old)))) old new
beside_moments file gate old new inside moments =
    weakened (λ past run bytes image.
    let kept = RunsWithin-images file gate (gate + 1) old past (omega arith) run bytes image in
    record { reaches = omega (arith, kept.no_shorter); prefix = kept.prefix; behind = kept.rest }) moments

-- lists of bytes

-- a length, a record and a closed gate, written behind a gate
pub staged : (gate : ℕ) (field body old first second third : List ℕ) → field ≡ length_field (length body) → gate < length old
    → first ≡ written old (gate + 1) field
    → second ≡ written first (gate + 5) body
    → third ≡ written second (gate + 5 + length body) (0 ∷ [])
    → Stages gate body old third
staged gate field body old first second third is_field inside one two three =
    let size : length field ≡ 4 = ap length is_field ∙ length-length_field (length body) in
    let prefix = take (gate + 1) old in
    let prefix_size : length prefix ≡ gate + 1 = omega (arith, length-take (gate + 1) old) in
    let one' : first ≡ (prefix ++ field) ++ drop (gate + 1 + length field) old = one in
    let two' : second ≡ ((prefix ++ field) ++ body) ++ drop (length body) (drop (gate + 1 + length field) old) =
    two ∙ ap (λ (l : List ℕ). written l (gate + 5) body) one'
    ∙ written-behind (prefix ++ field) (drop (gate + 1 + length field) old) (gate + 5) body (omega (arith, length-append prefix field)) in
    let behind = drop (length body) (drop (gate + 1 + length field) old) in
    let three' : third ≡ (((prefix ++ field) ++ body) ++ 0 ∷ []) ++ drop 1 behind =
    three ∙ ap (λ (l : List ℕ). written l (gate + 5 + length body) (0 ∷ [])) two'
    ∙ written-behind ((prefix ++ field) ++ body) behind (gate + 5 + length body) (0 ∷ [])
    (omega (arith, length-append (prefix ++ field) body, length-append prefix field)) in
    record {
      rest = drop 1 behind;
      form =
          three'
          ∙ append_assoc ((prefix ++ field) ++ body) (0 ∷ []) (drop 1 behind)
          ∙ append_assoc (prefix ++ field) body (0 ∷ drop 1 behind)
          ∙ append_assoc prefix field (body ++ 0 ∷ drop 1 behind)
          ∙ ap (λ (f : List ℕ). prefix ++ (f ++ (body ++ 0 ∷ drop 1 behind))) is_field;
    }

-- a list that keeps the prefix of another
prefix_kept : (prefix rest bytes : List ℕ) (mark at : ℕ) → length prefix ≡ at → take (at + 1) bytes ≡ take (at + 1) (prefix ++ mark ∷ rest)
    → bytes ≡ prefix ++ mark ∷ drop (at + 1) bytes
prefix_kept prefix rest bytes mark at size same =
    let through : take (at + 1) (prefix ++ mark ∷ rest) ≡ prefix ++ mark ∷ [] =
    ap (λ (l : List ℕ). take (at + 1) l) (sym (append_assoc prefix (mark ∷ []) rest))
    ∙ take_at (prefix ++ mark ∷ []) rest (at + 1) (omega (arith, length-append prefix (mark ∷ []))) in
    sym (take-append-drop (at + 1) bytes)
    ∙ ap (λ (l : List ℕ). l ++ drop (at + 1) bytes) (same ∙ through)
    ∙ append_assoc prefix (mark ∷ []) (drop (at + 1) bytes)

-- a list that keeps another but for one byte
all_but_one : (prefix rest bytes : List ℕ) (mark at : ℕ) → length prefix ≡ at → at < length bytes
    → take at bytes ≡ take at (prefix ++ mark ∷ rest) → drop (at + 1) bytes ≡ drop (at + 1) (prefix ++ mark ∷ rest)
    → bytes ≡ prefix ++ get_or bytes at 0 ∷ rest
all_but_one prefix rest bytes mark at size reaches before after =
    let first : take at bytes ≡ prefix = before ∙ take_at prefix (mark ∷ rest) at size in
    let last : drop (at + 1) bytes ≡ rest =
    after
    ∙ ap (λ (l : List ℕ). drop (at + 1) l) (sym (append_assoc prefix (mark ∷ []) rest))
    ∙ drop_at (prefix ++ mark ∷ []) rest (at + 1) (omega (arith, length-append prefix (mark ∷ []))) in
    sym (take-append-drop at bytes)
    ∙ ap (λ (l : List ℕ). take at bytes ++ l) (drop_more bytes at 0 reaches)
    ∙ ap (λ (l : List ℕ). l ++ get_or bytes at 0 ∷ drop (at + 1) bytes) first
    ∙ ap (λ (l : List ℕ). prefix ++ get_or bytes at 0 ∷ l) last

-- journals

-- the bytes before the last gate
prefix_size : (generation : ℕ) (records : List (List ℕ)) (at : ℕ) → at ≡ 16 + length (opened records) → length (header generation ++ opened records) ≡ at
prefix_size generation records at here = omega (arith, length-append (header generation) (opened records), length-header generation)

-- the place of the last gate is in the file
pub gate_inside : (generation : ℕ) (bytes : List ℕ) (records : List (List ℕ)) (at : ℕ) → StandsFor generation bytes records → at ≡ 16 + length (opened records) → at < length bytes
gate_inside generation bytes records at stands here =
    omega (
      arith,
      ap length stands.form,
      length-append (header generation) (opened records ++ stands.gate ∷ stands.rest),
      length-append (opened records) (stands.gate ∷ stands.rest),
      length-header generation,
    )

-- what stands behind the closed gate has no meaning
pub through_stands : (generation gate : ℕ) (records : List (List ℕ)) (old bytes : List ℕ) → StandsFor generation old records → gate ≡ 16 + length (opened records)
    → KeepsThrough gate old bytes → StandsFor generation bytes records
through_stands generation gate records old bytes stands here kept = record {
  gate = stands.gate;
  rest = drop (gate + 1) bytes;
  form =
      let grouped = stands.form ∙ sym (append_assoc (header generation) (opened records) (stands.gate ∷ stands.rest)) in
      prefix_kept (header generation ++ opened records) stands.rest bytes stands.gate gate (prefix_size generation records gate here)
      (kept.prefix ∙ ap (λ (l : List ℕ). take (gate + 1) l) grouped)
      ∙ append_assoc (header generation) (opened records) (stands.gate ∷ drop (gate + 1) bytes);
  closed = stands.closed;
  fits = stands.fits;
}

-- the bytes with a record behind the gate
abbrev pub behind_gate : ℕ → List (List ℕ) → ℕ → List ℕ → List ℕ → List ℕ
behind_gate generation records mark body rest = (header generation ++ opened records) ++ mark ∷ (length_field (length body) ++ (body ++ 0 ∷ rest))

pub staged_bytes : (generation gate : ℕ) (records : List (List ℕ)) (body old new : List ℕ) (stands : StandsFor generation old records) → gate ≡ 16 + length (opened records)
    → (stages : Stages gate body old new) → new ≡ behind_gate generation records stands.gate body stages.rest
staged_bytes generation gate records body old new stands here stages =
    let prefix = header generation ++ opened records in
    let tail = length_field (length body) ++ (body ++ 0 ∷ stages.rest) in
    let grouped = stands.form ∙ sym (append_assoc (header generation) (opened records) (stands.gate ∷ stands.rest)) in
    let through : take (gate + 1) old ≡ prefix ++ stands.gate ∷ [] =
    ap (λ (l : List ℕ). take (gate + 1) l) (grouped ∙ sym (append_assoc prefix (stands.gate ∷ []) stands.rest))
    ∙ take_at (prefix ++ stands.gate ∷ []) stands.rest (gate + 1) (omega (arith, prefix_size generation records gate here, length-append prefix (stands.gate ∷ []))) in
    stages.form ∙ ap (λ (l : List ℕ). l ++ tail) through ∙ append_assoc prefix (stands.gate ∷ []) tail

-- behind an open gate the record is there
pub opened_stands : (generation : ℕ) (records : List (List ℕ)) (body rest bytes : List ℕ) → IsShort body → AllByRecursion IsShort records
    → bytes ≡ behind_gate generation records 1 body rest → StandsFor generation bytes (records ++ body ∷ [])
opened_stands generation records body rest bytes short fits form = record {
  gate = 0;
  rest = rest;
  form =
      form
      ∙ append_assoc (header generation) (opened records) (1 ∷ (length_field (length body) ++ (body ++ 0 ∷ rest)))
      ∙ ap (λ (l : List ℕ). header generation ++ l) (sym (opened-more records body (0 ∷ rest)));
  closed = λ e. cc;
  fits = short-more records body fits short;
}

-- behind a gate of this byte the record is there or not
pub either_stands : (generation mark : ℕ) (records : List (List ℕ)) (body rest bytes : List ℕ) → IsShort body → AllByRecursion IsShort records
    → bytes ≡ behind_gate generation records mark body rest → StandsForEither generation records body bytes
either_stands generation mark records body rest bytes short fits form =
    ⊎_elim
    (λ is_open. inr (opened_stands generation records body rest bytes short fits (form ∙ ap (λ (m : ℕ). behind_gate generation records m body rest) is_open)))
    (λ closed. inl (record {
      gate = mark;
      rest = length_field (length body) ++ (body ++ 0 ∷ rest);
      form = form ∙ append_assoc (header generation) (opened records) (mark ∷ (length_field (length body) ++ (body ++ 0 ∷ rest)));
      closed = closed;
      fits = fits;
    }))
    (cases_eq mark 1)

-- all but the gate of a staged record
pub beside_stands : (generation gate : ℕ) (records : List (List ℕ)) (body old middle bytes : List ℕ) (stands : StandsFor generation old records) → gate ≡ 16 + length (opened records)
    → IsShort body → Stages gate body old middle → KeepsBeside gate middle bytes → StandsForEither generation records body bytes
beside_stands generation gate records body old middle bytes stands here short stages kept =
    let prefix = header generation ++ opened records in
    let tail = length_field (length body) ++ (body ++ 0 ∷ stages.rest) in
    let form = staged_bytes generation gate records body old middle stands here stages in
    either_stands generation (get_or bytes gate 0) records body stages.rest bytes short stands.fits
    (all_but_one prefix tail bytes stands.gate gate (prefix_size generation records gate here) kept.reaches
    (kept.prefix ∙ ap (λ (l : List ℕ). take gate l) form)
    (kept.behind ∙ ap (λ (l : List ℕ). drop (gate + 1) l) form))

-- the gate of a staged record, opened
pub written_stands : (generation gate : ℕ) (records : List (List ℕ)) (body old middle new : List ℕ) (stands : StandsFor generation old records) → gate ≡ 16 + length (opened records)
    → IsShort body → Stages gate body old middle → new ≡ written middle gate (1 ∷ []) → StandsFor generation new (records ++ body ∷ [])
written_stands generation gate records body old middle new stands here short stages set_open =
    let prefix = header generation ++ opened records in
    let tail = length_field (length body) ++ (body ++ 0 ∷ stages.rest) in
    let form = staged_bytes generation gate records body old middle stands here stages in
    opened_stands generation records body stages.rest new short stands.fits
    (set_open
    ∙ ap (λ (l : List ℕ). written l gate (1 ∷ [])) form
    ∙ written-behind prefix (stands.gate ∷ tail) gate (1 ∷ []) (prefix_size generation records gate here)
    ∙ append_assoc prefix (1 ∷ []) tail)

-- whatever a crash leaves of an open journal holds its records
pub open_stands : (journal : JournalState) (past : List Event) (records : List (List ℕ)) → IsOpen (of journal.file past) journal records
    → EveryImage journal.file (λ bytes. StandsFor journal.generation bytes records) past
open_stands journal past records is_open bytes image =
    subst (λ (b : List ℕ). StandsFor journal.generation b records)
    (sym (image_when_synced (of journal.file past) bytes is_open.synced image)) is_open.stands

-- a record that was stored joins the records of the open journal
pub after_store : {T E : Type 0} (honest : Type 0) (result : Result T E) (view journal : JournalState) (old new : List Event) (records : List (List ℕ)) (body : List ℕ)
    → view ≡ journal → is_err result ≡ false → honest
    → OnOk result (honest → (generation : ℕ) (before : List (List ℕ)) → StandsFor generation (contents (of view.file old)) before → view.bytes - 1 ≡ 16 + length (opened before)
    → StandsFor generation (contents (of view.file new)) (before ++ body ∷ []))
    → OnOk result (honest → IsSynced (of view.file new))
    → IsOpen (of journal.file old) journal records
    → IsOpen (of journal.file new) (record view { bytes = view.bytes + (5 + length body) }) (records ++ body ∷ [])
after_store honest (Err fault) view journal old new records body same failed h stored synced is_open = absurd cc
after_store honest (Ok value) view journal old new records body same failed h stored synced is_open =
    subst (λ (j : JournalState). IsOpen (of j.file old) j records → IsOpen (of j.file new) (record view { bytes = view.bytes + (5 + length body) }) (records ++ body ∷ [])) same
    (λ before. record {
      stands = stored h view.generation records before.stands (omega (arith, before.size));
      size = omega (arith, before.size, length-opened_more records body);
      synced = synced h;
    }) is_open
