-- What children came to, event by event.
use Rattle.std.proofs.Common.{◌≡◌, ℕ, List, [], ◌∷◌, ◌++◌, length, ℤ, Option, Some, None, refl, sym, ap, ◌∙◌, append_assoc, append-nil}
use Rattle.plugin_text.specs.Lines.{parts}
use Rattle.plugin_runner.specs.Course.{Course, Event, Start, Bytes, End, children_after, course_after, IsRunning, answer_after, answer_at_end}
use Rattle.plugin_runner.specs.Text.{Origin, Text, Open, Closed, Heard, hear, at_end, with_child, text}

-- nothing was put, and the clock was not read
pub quiet : (event : Option Event) (course : Course) → course_after event [] [] course ≡ record course { children = children_after event course.children }
quiet event course =
    let after : List Heard = children_after event course.children in
    let one : course_after event [] [] course ≡ record course { children = after; told = course.told ++ [] } =
    ap (λ (r : List ℕ). record course { readings = r; children = after; told = course.told ++ [] }) (append-nil course.readings) in
    one ∙ ap (λ (t : List ℕ). record course { children = after; told = t }) (append-nil course.told)

-- ---- bytes
pub bytes-more : (xs ys : List ℕ) (children : List Heard) → children_after (Some (Bytes ys)) (children_after (Some (Bytes xs)) children) ≡ children_after (Some (Bytes (xs ++ ys))) children
bytes-more xs ys [] = refl
bytes-more xs ys (child ∷ earlier) = ap (λ (b : List ℕ). record child { bytes = b } ∷ earlier) (append_assoc child.bytes xs ys)

pub bytes-none : (children : List Heard) → children_after (Some (Bytes [])) children ≡ children
bytes-none [] = refl
bytes-none (child ∷ earlier) = ap (λ (b : List ℕ). record child { bytes = b } ∷ earlier) (append-nil child.bytes)

pub running-bytes : (bytes : List ℕ) (children : List Heard) → IsRunning children → IsRunning (children_after (Some (Bytes bytes)) children)
running-bytes bytes [] none = none
running-bytes bytes (child ∷ earlier) runs = runs

pub length-bytes : (bytes : List ℕ) (children : List Heard) → length (children_after (Some (Bytes bytes)) children) ≡ length children
length-bytes bytes [] = refl
length-bytes bytes (child ∷ earlier) = refl

pub length-end : (status : ℤ) (children : List Heard) → length (children_after (Some (End status)) children) ≡ length children
length-end status [] = refl
length-end status (child ∷ earlier) = refl

-- ---- the text
-- a new child
pub text-start : (o : Origin) (rs bytes : List ℕ) (children : List Heard) (past : List (List ℕ)) → text o rs children ≡ Open past
    → text o rs (children_after (Some (Bytes bytes)) (children_after (Some Start) children)) ≡ hear o rs past (parts bytes)
text-start o rs bytes children past e = ap (with_child (record { bytes = bytes; status = None }) o rs) e

at_close : (o : Origin) (rs : List ℕ) (status : ℤ) (child : Heard) (before : Text) → child.status ≡ None
    → with_child (record child { status = Some status }) o rs before ≡ at_end (Some status) o rs (with_child child o rs before)
at_close o rs status child (Open past) runs = ap (λ (s : Option ℤ). at_end (Some status) o rs (at_end s o rs (hear o rs past (parts child.bytes)))) (sym runs)
at_close o rs status child (Closed past tail) runs = refl

-- the end of a child
pub text-end : (o : Origin) (rs : List ℕ) (status : ℤ) (children : List Heard) → IsRunning children
    → text o rs (children_after (Some (End status)) children) ≡ at_end (Some status) o rs (text o rs children)
text-end o rs status [] none = absurd none
text-end o rs status (child ∷ earlier) runs = at_close o rs status child (text o rs earlier) runs

-- ---- the answer
pub answer-running : (starts : ℕ) (past : List (List ℕ)) (children : List Heard) → IsRunning children → answer_after starts (Open past) children ≡ None
answer-running starts past [] none = absurd none
answer-running starts past (child ∷ earlier) runs = ap (λ (s : Option ℤ). answer_at_end s starts (length (child ∷ earlier))) runs

pub answer-end : (starts : ℕ) (past : List (List ℕ)) (status : ℤ) (children : List Heard) → IsRunning children
    → answer_after starts (Open past) (children_after (Some (End status)) children) ≡ answer_at_end (Some status) starts (length children)
answer-end starts past status [] none = absurd none
answer-end starts past status (child ∷ earlier) runs = refl
