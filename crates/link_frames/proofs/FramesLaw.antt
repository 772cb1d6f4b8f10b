-- The law of bodies and frames, made of the laws of their fields.
use Rattle.std.proofs.Common.{◌≡◌, ℕ, zero, suc, ◌^◌, ◌<◌, ◌≤◌, List, [], ◌∷◌, ◌++◌, length, inl, inr, Result, Ok, Err, refl, sym, ap, subst, ◌∙◌, arith}
use Rattle.std.proofs.lemmas.List.{append-nil}
use Rattle.field_codec.specs.Field.{IsBytes, IsField}
use Rattle.field_codec.specs.Reading.{ReadOf, read_as}
use Rattle.field_codec.specs.Spelling.{u8_bytes}
use Rattle.field_codec.specs.declared.fault.FieldFault.{FieldFault}
use Rattle.field_codec.specs.declared.fault.FieldFault.TheVariants as fields
use Rattle.field_codec.proofs.Combined.{done_is, field_from, read_as-ok}
use Rattle.field_codec.proofs.Fields.{u8_field, u32_field, u64_field, bytes_field}
use Rattle.field_codec.specs.Lists.{IsRefusal}
use Rattle.replication.specs.declared.message.Data.{Data}
use Rattle.replication.specs.Bytes.{data_bytes, data_fields}
use Rattle.link_frames.specs.declared.frame.Frame.{Frame}
use Rattle.link_frames.specs.declared.frame.Frame.TheVariants as frame
use Rattle.link_frames.specs.declared.fault.FrameFault.{FrameFault}
use Rattle.link_frames.specs.declared.fault.FrameFault.TheVariants.{BadFrame}
use Rattle.link_frames.specs.Fault.{frame_fault}
use Rattle.link_frames.specs.Fields.{FitsMessage}
use Rattle.link_frames.specs.Frames.{body_bytes, body_limit, frame_bytes, HasFields, HasSpelling, IsInForm, IsNoBody}
use Rattle.link_frames.specs.Reading.{read_body}
use Rattle.link_frames.proofs.FieldsLaw.{ask_field, data_field}

-- ---- bodies
data_again : (message : Data) (rest : List ℕ) → FitsMessage message → read_body (data_bytes message ++ rest) ≡ Ok (frame.Data message, rest)
unfolding read_body data_bytes u8_bytes
data_again message rest fits = rw (data_field.reads_back message rest fits) refl

-- a body reads as its frame, whatever follows
body_again : (f : Frame) (rest : List ℕ) → HasFields f → read_body (body_bytes f ++ rest) ≡ Ok (f, rest)
unfolding read_body body_bytes
body_again (frame.Hello child) rest fits = rw (u64_field.reads_back child rest fits) refl
body_again (frame.Ask ask) rest fits = rw (ask_field.reads_back ask rest fits) refl
body_again (frame.Data message) rest fits = data_again message rest fits
body_again (frame.Have last) rest fits = rw (u32_field.reads_back last rest fits) refl
body_again (frame.Bye reason) rest fits = rw (u8_field.reads_back reason rest fits) refl

kind_taken : {X : Type 0} {V : X → Type 0} {s : X → List ℕ} {r : List ℕ → ReadOf X} (field : IsField V s r) (make : X → Frame) (kind : ℕ) (bytes : List ℕ) (f : Frame) (rest : List ℕ)
    → ((x : X) → V x → HasFields (make x)) → ((x : X) → kind ∷ s x ≡ body_bytes (make x)) → IsBytes bytes
    → read_as make (r bytes) ≡ Ok (f, rest) → HasFields f × (kind ∷ bytes ≡ body_bytes f ++ rest)
kind_taken {s = s} {r = r} field make kind bytes f rest small spelt fits is =
    let found = read_as-ok make (r bytes) f rest is in
    let prefix : kind ∷ bytes ≡ body_bytes (make found.0) ++ rest =
    ap (λ (after : List ℕ). kind ∷ after) (field.is_spelt bytes found.0 rest fits found.1)
    ∙ ap (λ (all : List ℕ). all ++ rest) (spelt found.0) in
    subst (λ (made : Frame). HasFields made × (kind ∷ bytes ≡ body_bytes made ++ rest)) found.2
    (small found.0 (field.has_spelling bytes found.0 rest fits found.1), prefix)

data_spelt : (message : Data) → 3 ∷ data_fields message ≡ data_bytes message
unfolding data_bytes u8_bytes
data_spelt message = refl

-- what bytes read as, they begin with
body_taken : (bytes : List ℕ) (f : Frame) (rest : List ℕ) → IsBytes bytes → read_body bytes ≡ Ok (f, rest) → HasFields f × (bytes ≡ body_bytes f ++ rest)
unfolding read_body body_bytes
body_taken [] f rest fits is = absurd cc
body_taken (zero ∷ bytes) f rest fits is = absurd cc
body_taken (suc zero ∷ bytes) f rest fits is =
    kind_taken u64_field frame.Hello 1 bytes f rest (λ x small. small) (λ x. refl) (λ place. fits (suc place)) is
body_taken (suc (suc zero) ∷ bytes) f rest fits is =
    kind_taken ask_field frame.Ask 2 bytes f rest (λ x small. small) (λ x. refl) (λ place. fits (suc place)) is
body_taken (suc (suc (suc zero)) ∷ bytes) f rest fits is =
    kind_taken data_field frame.Data 3 bytes f rest (λ x small. small) (λ x. data_spelt x) (λ place. fits (suc place)) is
body_taken (suc (suc (suc (suc zero))) ∷ bytes) f rest fits is =
    kind_taken u32_field frame.Have 4 bytes f rest (λ x small. small) (λ x. refl) (λ place. fits (suc place)) is
body_taken (suc (suc (suc (suc (suc zero)))) ∷ bytes) f rest fits is =
    kind_taken u8_field frame.Bye 5 bytes f rest (λ x small. small) (λ x. refl) (λ place. fits (suc place)) is
body_taken (suc (suc (suc (suc (suc (suc _))))) ∷ bytes) f rest fits is = absurd cc

pub body_field : IsField HasFields body_bytes read_body
body_field = field_from HasFields body_bytes read_body body_again body_taken

-- a body alone reads as its frame
alone : (f : Frame) → HasFields f → read_body (body_bytes f) ≡ Ok (f, [])
alone f fits = ap read_body (sym (append-nil (body_bytes f))) ∙ body_field.reads_back f [] fits

-- ---- what a body is not
abbrev done : Frame × List ℕ → ReadOf Frame
done read = Ok read

-- what is read of a body that a frame has is that frame, with nothing behind it
only : (bytes : List ℕ) (f g : Frame) (rest : List ℕ) → HasSpelling g → read_body bytes ≡ Ok (f, rest) → bytes ≡ body_bytes g → (f ≡ g) × (rest ≡ [])
only bytes f g rest spells is same =
    let both = done_is (f, rest) (g, []) (sym is ∙ ap read_body same ∙ alone g spells.fields) in
    (ap (λ (p : Frame × List ℕ). p.0) both, ap (λ (p : Frame × List ℕ). p.1) both)

refused : (bytes : List ℕ) (fault : FieldFault) → read_body bytes ≡ Err fault → IsNoBody bytes
refused bytes fault is f spells same = differ (f, []) (sym (alone f spells.fields) ∙ ap read_body (sym same) ∙ is)
  where
    differ : (read : Frame × List ℕ) → done read ≡ Err fault → ⊥
    differ read e = cc

-- reading a body ended with a fault that is told as a bad frame
abbrev ended : FrameFault → Result Frame FrameFault
ended fault = Err fault

pub refused_as : (bytes start : List ℕ) (field : FieldFault) → start ≡ bytes → IsRefusal (read_body start) field → ended (frame_fault field) ≡ Err BadFrame → IsNoBody bytes
refused_as bytes start field begins is bad = subst IsNoBody begins (by_fault field is bad)
  where
    by_fault : (field : FieldFault) → IsRefusal (read_body start) field → ended (frame_fault field) ≡ Err BadFrame → IsNoBody start
    by_fault fields.Short (inl is) bad = absurd cc
    by_fault fields.Short (inr is) bad = refused start fields.Short is
    by_fault fields.Range (inl is) bad = absurd cc
    by_fault fields.Range (inr is) bad = refused start fields.Range is
    by_fault fields.NotText (inl is) bad = absurd cc
    by_fault fields.NotText (inr is) bad = refused start fields.NotText is
    by_fault fields.Memory is bad = absurd cc

pub followed : (bytes start : List ℕ) (f : Frame) (rest : List ℕ) → start ≡ bytes → read_body start ≡ Ok (f, rest) → (rest ≡ [] → ⊥) → IsNoBody bytes
followed bytes start f rest begins is some g spells same = some (only start f g rest spells is (begins ∙ same)).1

pub formless : (bytes start : List ℕ) (f : Frame) (rest : List ℕ) → start ≡ bytes → read_body start ≡ Ok (f, rest) → (IsInForm f → ⊥) → IsNoBody bytes
formless bytes start f rest begins is none g spells same = none (subst IsInForm (sym (only start f g rest spells is (begins ∙ same)).0) spells.form)

-- ---- what a body is
pub spells : (bytes start : List ℕ) (f : Frame) (rest : List ℕ) → IsBytes bytes → start ≡ bytes → read_body start ≡ Ok (f, rest) → rest ≡ [] → IsInForm f → length bytes ≤ body_limit → HasSpelling f × (bytes ≡ body_bytes f)
spells bytes start f rest fits begins found end form within =
    let is : read_body bytes ≡ Ok (f, rest) = ap read_body (sym begins) ∙ found in
    let spelt : bytes ≡ body_bytes f = body_field.is_spelt bytes f rest fits is ∙ ap (λ (after : List ℕ). body_bytes f ++ after) end ∙ append-nil (body_bytes f) in
    (record { fields = body_field.has_spelling bytes f rest fits is; form = form; within = subst (λ (b : List ℕ). length b ≤ body_limit) spelt within }, spelt)

-- ---- frames
-- bodies behind their lengths
bodies : (a b : Frame) (x y : List ℕ) → HasSpelling a → HasSpelling b → frame_bytes a ++ x ≡ frame_bytes b ++ y → (body_bytes a ≡ body_bytes b) × (x ≡ y)
unfolding frame_bytes
bodies a b x y spells_a spells_b same =
    let small_a : length (body_bytes a) < 2 ^ 32 = omega (arith, spells_a.within) in
    let small_b : length (body_bytes b) < 2 ^ 32 = omega (arith, spells_b.within) in
    (bytes_field.one_value (body_bytes a) (body_bytes b) x y small_a small_b same, bytes_field.one_end (body_bytes a) (body_bytes b) x y small_a small_b same)

-- two frames at one place are one, and end there
pub one_frame : (a b : Frame) (x y : List ℕ) → HasSpelling a → HasSpelling b → frame_bytes a ++ x ≡ frame_bytes b ++ y → a ≡ b
one_frame a b x y spells_a spells_b same =
    let bodies_same : body_bytes a ++ [] ≡ body_bytes b ++ [] = ap (λ (bytes : List ℕ). bytes ++ []) (bodies a b x y spells_a spells_b same).0 in
    body_field.one_value a b [] [] spells_a.fields spells_b.fields bodies_same

pub one_end : (a b : Frame) (x y : List ℕ) → HasSpelling a → HasSpelling b → frame_bytes a ++ x ≡ frame_bytes b ++ y → x ≡ y
one_end a b x y spells_a spells_b same = (bodies a b x y spells_a spells_b same).1
