-- What a collector has made where the end of its text ended a run: all starts, and each child ended with 0.
use Rattle.std.proofs.Common.{◌≡◌, ◌==◌, ℕ, ◌<◌, ◌≤◌, Bool, not, true, false, List, [], ◌∷◌, ◌++◌, length, take, All, ℤ, pos, Option, Some, None, Result, Ok, Err, refl, sym, ap, subst, ◌∙◌, append_assoc, arith, true≢false, if◌then◌else◌}
use Rattle.std.specs.List.{list_any, AllByRecursion, AllPass}
use Rattle.std.specs.Ordering.{int_eq}
use Rattle.std.proofs.lemmas.Bool.{or_parts}
use Rattle.std.proofs.lemmas.Bool.Decides.{nat_tests, Decides-eqb, Decides-int_eq}
use Rattle.std.proofs.lemmas.List.{length-take, take_all}
use Rattle.std.proofs.lemmas.List.Elements.{All-from_recursion, All-take, recursion_from_All}
use Rattle.std.proofs.lemmas.List.Splits.{slice_split_at, slice_split_none}
use Rattle.host_model.specs.Spawner.{Children}
use Rattle.history.specs.Limits.{is_line_feed, is_one_line}
use Rattle.plugin_text.specs.Lines.{fits, last_part, parts, rest, HasNoLongLine}
use Rattle.plugin_text.proofs.OneLineLemmas.{parts-one_line}
use Rattle.plugin_text.proofs.PartsLemmas.{parts-rest, rest-append}
use Rattle.line_stream.specs.Run.{input_limit}
use Rattle.plugin_runner.specs.declared.fault.RunFault.{RunFault}
use Rattle.plugin_runner.specs.declared.fault.RunFault.TheVariants as fault
use Rattle.plugin_runner.specs.declared.fault.Turn.{Turn}
use Rattle.plugin_runner.specs.declared.fault.Turn.TheVariants.{Ended}
use Rattle.plugin_runner.specs.Bytes.{bytes, bytes_of}
use Rattle.plugin_runner.specs.Collected.{no_turn, one_turn, HasTurned, Turns}
use Rattle.plugin_runner.specs.Course.{answer_after, answer_at_end, children_after, new_course, text_of, Bytes, Course, End, Event, HasEnded, IsTold, Start}
use Rattle.plugin_runner.specs.Goes.{Hears}
use Rattle.plugin_runner.specs.Runner.{if_lasting}
use Rattle.plugin_runner.specs.Text.{at_end, disables, hear, put, text, with_child, Closed, Heard, Open, Origin, Text}
use Rattle.agent_app.specs.declared.collect.Collector.{Collector}
use Rattle.agent_app.specs.Collect.{HasHeard, HasMadeAll, Outside}
use Rattle.agent_app.proofs.RunLemmas.{rest-fits}

-- ---- a text that ends within a line that is too long

-- these bytes have no line feed, and are too long for a line
pub record IsLongTail (tail : List ℕ) : Type 0 where
  pub alone : parts tail ≡ tail ∷ []
  pub too_long : fits tail ≡ false

abbrev HasNoFeed : List ℕ → Type 0
HasNoFeed line = All (λ (byte : ℕ). is_line_feed byte ≡ false) line

none-passes : (line : List ℕ) → list_any is_line_feed line ≡ false → AllByRecursion (λ (byte : ℕ). is_line_feed byte ≡ false) line
none-passes [] none = tt
none-passes (byte ∷ line) none =
    let both = or_parts (is_line_feed byte) (list_any is_line_feed line) none in
    (both.0, none-passes line both.1)

no-feed : (line : List ℕ) → is_one_line line ≡ true → HasNoFeed line
no-feed line one = All-from_recursion (λ (byte : ℕ). is_line_feed byte ≡ false) line (none-passes line (of (list_any is_line_feed line) one))
  where
    of : (b : Bool) → not b ≡ true → b ≡ false
    of true e = absurd (true≢false (sym e))
    of false e = refl

tail-of : (line : List ℕ) → is_one_line line ≡ true → fits line ≡ false → IsLongTail (take 8193 line)
tail-of line one long =
    let size : 8192 < length line = grind (arith, nat_tests, long) in
    let taken : length (take 8193 line) ≡ 8193 = omega (arith, size, length-take 8193 line) in
    record {
      alone = slice_split_none is_line_feed (take 8193 line) (All-take (λ (byte : ℕ). is_line_feed byte ≡ false) 8193 line (no-feed line one));
      too_long = grind (arith, nat_tests, taken);
    }

open-closed : (past end : List (List ℕ)) (tail : List ℕ) → Open past ≡ Closed end tail → ⊥
open-closed past end tail e = cc

tail-same : (past end : List (List ℕ)) (a b : List ℕ) → Closed past a ≡ Closed end b → a ≡ b
tail-same past end a b e = cc

some-none : (byte : ℕ) (tail : List ℕ) → [] ≡ byte ∷ tail → ⊥
some-none byte tail e = cc

module _ (o : Origin) (rs : List ℕ) (end : List (List ℕ)) (byte : ℕ) (tail : List ℕ) where
  abbrev Long : Type 0
  Long = IsLongTail (byte ∷ tail)

  at-long : (past : List (List ℕ)) (line : List ℕ) → is_one_line line ≡ true → fits line ≡ false → Closed past (take 8193 line) ≡ Closed end (byte ∷ tail) → Long
  at-long past line one long is = subst IsLongTail (tail-same past end (take 8193 line) (byte ∷ tail) is) (tail-of line one long)

  hear-tail : (ps : List (List ℕ)) (past : List (List ℕ)) → AllByRecursion (λ (part : List ℕ). is_one_line part ≡ true) ps → hear o rs past ps ≡ Closed end (byte ∷ tail) → Long
  hear-tail [] past one is = absurd (open-closed past end (byte ∷ tail) is)
  hear-tail (line ∷ []) past one is = by (fits line) refl is
    where
      by : (b : Bool) → fits line ≡ b → (if b then Open past else Closed past (take 8193 line)) ≡ Closed end (byte ∷ tail) → Long
      by true fit is = absurd (open-closed past end (byte ∷ tail) is)
      by false long is = at-long past line one.0 long is
  hear-tail (line ∷ next ∷ more) past one is = by (fits line) (disables line) refl (λ later. hear-tail (next ∷ more) (put line o rs past) one.1 later) is
    where
      by : (b d : Bool) → fits line ≡ b → (hear o rs (put line o rs past) (next ∷ more) ≡ Closed end (byte ∷ tail) → Long)
          → (if b then (if d then Closed (put line o rs past) [] else hear o rs (put line o rs past) (next ∷ more)) else Closed past (take 8193 line)) ≡ Closed end (byte ∷ tail) → Long
      by true true fit later is = absurd (some-none byte tail (tail-same (put line o rs past) end [] (byte ∷ tail) is))
      by true false fit later is = later is
      by false d long later is = at-long past line one.0 long is

  at-end-tail : (status : Option ℤ) (whole : Text) → at_end status o rs whole ≡ Closed end (byte ∷ tail) → whole ≡ Closed end (byte ∷ tail)
  at-end-tail None whole is = is
  at-end-tail (Some status) (Open past) is = absurd (open-closed _ end (byte ∷ tail) is)
  at-end-tail (Some status) (Closed past other) is = is

  child-tail : (child : Heard) (whole : Text) → (whole ≡ Closed end (byte ∷ tail) → Long) → with_child child o rs whole ≡ Closed end (byte ∷ tail) → Long
  child-tail child (Closed past other) before is = before is
  child-tail child (Open past) before is =
      hear-tail (parts child.bytes) past (recursion_from_All (λ (part : List ℕ). is_one_line part ≡ true) (parts child.bytes) (parts-one_line child.bytes))
      (at-end-tail child.status (hear o rs past (parts child.bytes)) is)

  text-tail : (children : List Heard) → text o rs children ≡ Closed end (byte ∷ tail) → Long
  text-tail [] is = absurd (open-closed [] end (byte ∷ tail) is)
  text-tail (child ∷ earlier) is = child-tail child (text o rs earlier) (text-tail earlier) is

-- what follows the last line feed of bytes that end so
rest-line : (xs : List ℕ) → rest (xs ++ 10 ∷ []) ≡ []
rest-line xs =
    let one = subst (AllPass is_one_line) (parts-rest xs) (parts-one_line (rest xs)) in
    let first = (recursion_from_All (λ (part : List ℕ). is_one_line part ≡ true) (rest xs ∷ []) one).0 in
    rest-append xs (10 ∷ []) ∙ ap last_part (slice_split_at is_line_feed (rest xs) 10 [] (no-feed (rest xs) first) refl)

rest-lines : (past : List (List ℕ)) → rest (bytes past) ≡ []
rest-lines [] = refl
rest-lines (line ∷ past) = ap rest (sym (append_assoc (bytes past) line (10 ∷ []))) ∙ rest-line (bytes past ++ line)

rest-tail : (past : List (List ℕ)) (tail : List ℕ) → parts tail ≡ tail ∷ [] → rest (bytes past ++ tail) ≡ tail
rest-tail past tail alone = rest-append (bytes past) tail ∙ ap (λ (r : List ℕ). rest (r ++ tail)) (rest-lines past) ∙ ap last_part alone

-- ---- the last child

abbrev IsZero : Heard → Type 0
IsZero child = child.status ≡ Some (pos 0)

abbrev IsAtLast : ℕ → List Heard → Type 0
IsAtLast starts [] = ⊥
IsAtLast starts (child ∷ earlier) = IsZero child × (length (child ∷ earlier) ≡ starts)

abbrev end_answer : Option (Result Turn RunFault)
end_answer = Some (Ok Ended)

abbrev other_answer : RunFault → Option (Result Turn RunFault)
other_answer why = Some (Err why)

abbrev no_answer : Option (Result Turn RunFault)
no_answer = None

not-other : (why : RunFault) → end_answer ≡ other_answer why → ⊥
not-other why e = cc

not-none : end_answer ≡ no_answer → ⊥
not-none e = cc

last-made : (starts : ℕ) (whole : Text) (children : List Heard) (told : List ℕ) → told ≡ bytes_of whole → end_answer ≡ answer_after starts whole children → fits (rest told) ≡ true
    → ((past : List (List ℕ)) (byte : ℕ) (tail : List ℕ) → whole ≡ Closed past (byte ∷ tail) → IsLongTail (byte ∷ tail)) → IsAtLast starts children
last-made starts (Closed past []) children told is answer fit long = absurd (not-other (fault.Disabled None) answer)
last-made starts (Closed past (byte ∷ tail)) children told is answer fit long =
    let is_long = long past byte tail refl in
    absurd (true≢false (sym fit ∙ ap fits (ap rest is ∙ rest-tail past (byte ∷ tail) is_long.alone) ∙ is_long.too_long))
last-made starts (Open past) [] told is answer fit long = absurd (not-none answer)
last-made starts (Open past) (child ∷ earlier) told is answer fit long = by child.status refl answer
  where
    tests : (status : ℤ) (z c : Bool) → child.status ≡ Some status → int_eq status (pos 0) ≡ z → (length (child ∷ earlier) == starts) ≡ c
        → end_answer ≡ (if z then (if c then end_answer else no_answer) else other_answer (fault.Disabled (Some status))) → IsAtLast starts (child ∷ earlier)
    tests status true true ended zero count answer = (ended ∙ ap Some ((Decides-int_eq status (pos 0)).0 zero), (Decides-eqb (length (child ∷ earlier)) starts).0 count)
    tests status true false ended zero count answer = absurd (not-none answer)
    tests status false c ended zero count answer = absurd (not-other (fault.Disabled (Some status)) answer)

    by : (status : Option ℤ) → child.status ≡ status → end_answer ≡ answer_at_end status starts (length (child ∷ earlier)) → IsAtLast starts (child ∷ earlier)
    by None ended answer = absurd (not-none answer)
    by (Some status) ended answer = tests status (int_eq status (pos 0)) (length (child ∷ earlier) == starts) ended refl refl answer

-- ---- the children before

-- a child is started where the one before has ended with 0
abbrev HaveEnded : List Heard → Type 0
HaveEnded [] = Unit {0}
HaveEnded (child ∷ earlier) = AllByRecursion IsZero earlier

after-start : (children : List Heard) → HasEnded children → HaveEnded children → AllByRecursion IsZero children
after-start [] ended before = tt
after-start (child ∷ earlier) ended before = (ended, before)

after-bytes : (more : List ℕ) (children : List Heard) → HaveEnded children → HaveEnded (children_after (Some (Bytes more)) children)
after-bytes more [] before = tt
after-bytes more (child ∷ earlier) before = before

after-end : (status : ℤ) (children : List Heard) → HaveEnded children → HaveEnded (children_after (Some (End status)) children)
after-end status [] before = tt
after-end status (child ∷ earlier) before = before

after-turn : (course : Course) (answer : Option (Result Turn RunFault)) (event : Option Event) (now after : Option Children) (faults faults' : ℕ) → Hears course answer event now after faults faults'
    → HaveEnded course.children → HaveEnded (children_after event course.children)
after-turn course answer None now after faults faults' hears before = before
after-turn course answer (Some Start) now after faults faults' hears before = after-start course.children hears.0.0 before
after-turn course answer (Some (Bytes more)) now after faults faults' hears before = after-bytes more course.children before
after-turn course answer (Some (End status)) now after faults faults' hears before = after-end status course.children before

after-turns : (begin : Course) (first : Option Children) (course : Course) (now : Option Children) → Turns begin first course now → HaveEnded begin.children → HaveEnded course.children × (course.starts ≡ begin.starts)
after-turns begin first course now no_turn before = (before, refl)
after-turns begin first course now (one_turn earlier event taken added mid after faults faults' turns hears) before =
    let sooner = after-turns begin first earlier mid turns before in
    (after-turn earlier None event mid after faults faults' hears sooner.0, sooner.1)

-- ---- all of them
pub made-all : (asked : Collector) (last : ℕ) (outside outside' : Outside) (taken : List ℕ) → (heard : HasHeard asked last outside outside' taken) → heard.answer ≡ Ok Ended → length taken < input_limit → HasNoLongLine taken
    → HasMadeAll asked.starts heard.course.children
made-all asked last outside outside' taken heard is below short = by heard.course.children at_last have.0
  where
    first : Course
    first = new_course asked.words asked.every asked.starts last

    turned : HasTurned heard.answer first heard.course outside.children outside'.children outside.readings outside'.readings
    turned = heard.turned

    have : HaveEnded heard.course.children × (heard.course.starts ≡ asked.starts)
    have =
        let sooner = after-turns first outside.children turned.earlier turned.now turned.turns tt in
        subst (λ (c : Course). HaveEnded c.children × (c.starts ≡ asked.starts)) (sym turned.is)
        (after-turn turned.earlier (if_lasting heard.answer) turned.event turned.now outside'.children turned.faults turned.faults' turned.last sooner.0, sooner.1)

    -- all that was put was read
    whole : taken ≡ heard.course.told
    whole =
        let size : length heard.course.told ≤ input_limit = omega (arith, below, ap length heard.takes ∙ length-take input_limit heard.course.told) in
        heard.takes ∙ take_all input_limit heard.course.told size

    told : IsTold end_answer heard.course (text_of heard.course [])
    told = subst (λ (a : Result Turn RunFault). IsTold (if_lasting a) heard.course (text_of heard.course [])) is (turned.tells [])

    at_last : IsAtLast asked.starts heard.course.children
    at_last =
        subst (λ (n : ℕ). IsAtLast n heard.course.children) have.1
        (last-made heard.course.starts (text_of heard.course []) heard.course.children heard.course.told told.0 told.1 (subst (λ (t : List ℕ). fits (rest t) ≡ true) whole (rest-fits taken short))
        (λ past byte tail closed. text-tail heard.course.origin (heard.course.readings ++ []) past byte tail heard.course.children closed))

    by : (children : List Heard) → IsAtLast asked.starts children → HaveEnded children → HasMadeAll asked.starts children
    by [] never before = absurd never
    by (child ∷ earlier) last before = record { count = last.1; each = All-from_recursion IsZero (child ∷ earlier) (last.0, before) }
