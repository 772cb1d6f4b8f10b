-- What was heard of children that a spawner tells.
use Rattle.std.proofs.Common.{◌≡◌, ℕ, suc, ◌<◌, ◌≤◌, Bool, true, false, List, [], ◌∷◌, ◌++◌, length, map, reverse, take, ℤ, pos, Option, Some, None, Result, refl, sym, ap, ◌∙◌, subst, append_assoc, append-nil, arith, if◌then◌else◌}
use Rattle.std.specs.List.{AllByRecursion}
use Rattle.std.specs.Option.{option_map, IfSome, IsSomeAnd}
use Rattle.std.proofs.lemmas.Bool.Decides.{nat_tests}
use Rattle.std.proofs.lemmas.List.{length-map, reverse-append, take-append-le}
use Rattle.host_model.specs.Spawner.{Child, Children, with_bytes, before_bytes, after_start, after_end, first_child, other_children}
use Rattle.plugin_text.specs.Lines.{parts, lines, rest, fits}
use Rattle.plugin_text.proofs.LongLemmas.{fits-append}
use Rattle.plugin_text.proofs.PartsLemmas.{parts_first, parts_whole, parts-append_parts}
use Rattle.plugin_runner.specs.declared.fault.RunFault.{RunFault}
use Rattle.plugin_runner.specs.declared.fault.Turn.{Turn}
use Rattle.plugin_runner.specs.Course.{Course, Event, Start, Bytes, End, children_after, course_after, text_of, IsRunning, HasEnded, answer_after}
use Rattle.plugin_runner.specs.Goes.{Hears}
use Rattle.plugin_runner.specs.Run.{heard_whole, Run, begins, goes_on, Ran}
use Rattle.plugin_runner.specs.Words.{start_words}
use Rattle.plugin_runner.specs.Text.{Origin, Text, Open, Closed, Heard, hear, at_end, with_child, text, put, disables}

-- ---- a text that is closed stays so, however its child goes on
module _ (o : Origin) (rs : List ℕ) (p : List (List ℕ)) (t : List ℕ) where
  closed-line : (past : List (List ℕ)) (line : List ℕ) (b d : Bool) (one other : Text) → (one ≡ Closed p t → other ≡ Closed p t)
      → (if b then (if d then Closed (put line o rs past) [] else one) else Closed past (take 8193 line)) ≡ Closed p t
      → (if b then (if d then Closed (put line o rs past) [] else other) else Closed past (take 8193 line)) ≡ Closed p t
  closed-line past line true true one other on is = is
  closed-line past line true false one other on is = on is
  closed-line past line false d one other on is = is

  pub closed-rest : (past : List (List ℕ)) (r first : List ℕ) (following : List (List ℕ)) (b : Bool) → fits r ≡ b → (if b then Open past else Closed past (take 8193 r)) ≡ Closed p t
      → hear o rs past ((r ++ first) ∷ following) ≡ Closed p t
  closed-rest past r first following true fit is =
      let never : Open past ≡ Closed p t = is in
      absurd (cc never)
  closed-rest past r first following false fit is = long following
    where
      too_long : fits (r ++ first) ≡ false
      too_long = fits-append r first fit

      size : 8193 ≤ length r
      size = grind (arith, nat_tests, fit)

      same : take 8193 (r ++ first) ≡ take 8193 r
      same = take-append-le 8193 r first size

      long : (following : List (List ℕ)) → hear o rs past ((r ++ first) ∷ following) ≡ Closed p t
      long [] = ap (λ (b : Bool). if b then Open past else Closed past (take 8193 (r ++ first))) too_long ∙ ap (Closed past) same ∙ is
      long (next ∷ more) =
          ap (λ (b : Bool). if b then (if disables (r ++ first) then Closed (put (r ++ first) o rs past) [] else hear o rs (put (r ++ first) o rs past) (next ∷ more)) else Closed past (take 8193 (r ++ first))) too_long
          ∙ ap (Closed past) same ∙ is

  closed-lines : (xs : List (List ℕ)) (past : List (List ℕ)) (r first : List ℕ) (following : List (List ℕ)) → hear o rs past (xs ++ r ∷ []) ≡ Closed p t
      → hear o rs past (xs ++ (r ++ first) ∷ following) ≡ Closed p t
  closed-lines [] past r first following is = closed-rest past r first following (fits r) refl is
  closed-lines (x ∷ []) past r first following is =
      closed-line past x (fits x) (disables x) (hear o rs (put x o rs past) (r ∷ [])) (hear o rs (put x o rs past) ((r ++ first) ∷ following))
      (λ one. closed-rest (put x o rs past) r first following (fits r) refl one) is
  closed-lines (x ∷ y ∷ xs) past r first following is =
      closed-line past x (fits x) (disables x) (hear o rs (put x o rs past) (y ∷ (xs ++ r ∷ []))) (hear o rs (put x o rs past) (y ∷ (xs ++ (r ++ first) ∷ following)))
      (λ one. closed-lines (y ∷ xs) (put x o rs past) r first following one) is

  pub hear-closed : (past : List (List ℕ)) (heard more : List ℕ) → hear o rs past (parts heard) ≡ Closed p t → hear o rs past (parts (heard ++ more)) ≡ Closed p t
  hear-closed past heard more is =
      let some = parts_first more in
      let before : hear o rs past (lines heard ++ rest heard ∷ []) ≡ Closed p t = ap (hear o rs past) (sym (parts_whole heard)) ∙ is in
      ap (hear o rs past) (parts-append_parts heard more some.0 some.1 some.2) ∙ closed-lines (lines heard) past (rest heard) some.0 some.1 before

-- ---- what was heard, and which children are to come
abbrev pub so : List ℕ → Option ℤ → Heard
so bytes status = record { bytes = bytes; status = status }

some_same : {A : Type 0} (x y : A) → Some x ≡ Some y → x ≡ y
some_same x y e = cc e

abbrev pub EndedAtZero : List Child → Type 0
EndedAtZero children = AllByRecursion (λ (child : Child). child.status ≡ pos 0) children

-- these children, the latest first, may have been started: not too many, and none behind one that ended with another
-- status than 0
abbrev pub MayRun : ℕ → List Child → Type 0
MayRun starts [] = Unit {0}
MayRun starts (child ∷ earlier) = (length earlier < starts) × EndedAtZero earlier

-- These children, the latest first, ended. Then there may be one of which these bytes were heard.
pub data Stage (coming : List Child) (starts : ℕ) (heard : List Heard) (now : Children) : Type 0 where
  idle : (ran : List Child) → heard ≡ map heard_whole ran → coming ≡ reverse ran ++ now.coming → MayRun starts ran → Stage coming starts heard now
  midway : (ran : List Child) (child : Child) (bytes : List ℕ) → heard ≡ so bytes None ∷ map heard_whole ran → coming ≡ reverse ran ++ with_bytes bytes child ∷ now.coming
      → now.running ≡ Some child → MayRun starts (child ∷ ran) → Stage coming starts heard now

pub data Last (coming : List Child) (starts : ℕ) (heard : List Heard) : Type 0 where
  over : (ran others : List Child) → heard ≡ map heard_whole ran → coming ≡ reverse ran ++ others → MayRun starts ran → Last coming starts heard
  within : (ran others : List Child) (child : Child) (bytes : List ℕ) → heard ≡ so bytes None ∷ map heard_whole ran
      → coming ≡ reverse ran ++ with_bytes bytes child ∷ others → MayRun starts (child ∷ ran) → Last coming starts heard

last_of : (coming : List Child) (starts : ℕ) (heard : List Heard) (now : Children) → Stage coming starts heard now → Last coming starts heard
last_of coming starts heard now (idle ran is whole may) = over ran now.coming is whole may
last_of coming starts heard now (midway ran child bytes is whole runs may) = within ran now.coming child bytes is whole may

not_running : (ran : List Child) → IsRunning (map heard_whole ran) → ⊥
not_running [] runs = runs
not_running (child ∷ ran) runs =
    let never : Some child.status ≡ None = runs in
    cc never

pub reverse-next : (ran : List Child) (child : Child) (others : List Child) → reverse ran ++ child ∷ others ≡ reverse (child ∷ ran) ++ others
reverse-next ran child others = sym (ap (λ (l : List Child). l ++ others) (reverse-append (child ∷ []) ran) ∙ append_assoc (reverse ran) (child ∷ []) others)

-- ---- a start
may_next : (starts : ℕ) (ran : List Child) (child : Child) → HasEnded (map heard_whole ran) → length (map heard_whole ran) < starts → MayRun starts ran → MayRun starts (child ∷ ran)
may_next starts [] child ended below may = (below, tt)
may_next starts (latest ∷ ran) child ended below may =
    (omega (arith, below, length-map ran heard_whole), (some_same latest.status (pos 0) ended, may.1))

begun : (ran : List Child) (coming : List Child) (starts : ℕ) (words : List (List ℕ)) (before after : Children) (list : List Child) → before.coming ≡ list → (list ≡ [] → ⊥) → after ≡ after_start words before
    → coming ≡ reverse ran ++ before.coming → HasEnded (map heard_whole ran) → length (map heard_whole ran) < starts → MayRun starts ran → Stage coming starts (so [] None ∷ map heard_whole ran) after
begun ran coming starts words before after [] is some same whole ended below may = absurd (some refl)
begun ran coming starts words before after (child ∷ more) is some same whole ended below may =
    let told : after.coming ≡ more = ap (λ (c : Children). c.coming) same ∙ ap other_children is in
    let runs : after.running ≡ Some child = ap (λ (c : Children). c.running) same ∙ ap first_child is in
    midway ran child [] refl (whole ∙ ap (λ (l : List Child). reverse ran ++ l) (is ∙ ap (λ (l : List Child). child ∷ l) (sym told))) runs (may_next starts ran child ended below may)

start_stage : (coming : List Child) (starts : ℕ) (heard : List Heard) (words : List (List ℕ)) (before after : Children) → Stage coming starts heard before → HasEnded heard → length heard < starts → (before.coming ≡ [] → ⊥)
    → after ≡ after_start words before → Stage coming starts (children_after (Some Start) heard) after
start_stage coming starts heard words before after (idle ran is whole may) ended below came same =
    subst (λ (h : List Heard). Stage coming starts (so [] None ∷ h) after) (sym is)
    (begun ran coming starts words before after before.coming refl came same whole (subst HasEnded is ended) (subst (λ (h : List Heard). length h < starts) is below) may)
start_stage coming starts heard words before after (midway ran child bytes is whole runs may) ended below came same =
    let never : None ≡ Some (pos 0) = subst HasEnded is ended in
    absurd (cc never)

-- ---- bytes
-- before these bytes were taken, and behind them
pub record Took (bytes : List ℕ) (child : Child) (before between : Children) : Type 0 where
  pub rest_of : Child
  pub runs : between.running ≡ Some rest_of
  pub is : with_bytes bytes rest_of ≡ child
  pub same : before.coming ≡ between.coming

took : (bytes : List ℕ) (child : Child) (before between : Children) (running : Option Child) → between.running ≡ running → before ≡ before_bytes bytes between → before.running ≡ Some child
    → Took bytes child before between
took bytes child before between None none is runs =
    let never : None ≡ Some child = sym (ap (λ (c : Children). c.running) is ∙ ap (option_map (with_bytes bytes)) none) ∙ runs in
    absurd (cc never)
took bytes child before between (Some rest_of) some is runs =
    let here : Some (with_bytes bytes rest_of) ≡ Some child = sym (ap (λ (c : Children). c.running) is ∙ ap (option_map (with_bytes bytes)) some) ∙ runs in
    record { rest_of = rest_of; runs = some; is = some_same (with_bytes bytes rest_of) child here; same = ap (λ (c : Children). c.coming) is }

bytes_twice : (one two : List ℕ) (child : Child) → with_bytes one (with_bytes two child) ≡ with_bytes (one ++ two) child
bytes_twice one two child = ap (λ (b : List ℕ). record child { left = b }) (sym (append_assoc one two child.left))

module _ (coming : List Child) (ran : List Child) (child : Child) (bytes more : List ℕ) (before between : Children) (whole : coming ≡ reverse ran ++ with_bytes bytes child ∷ before.coming) (t : Took more child before between) where
  whole_then : coming ≡ reverse ran ++ with_bytes (bytes ++ more) t.rest_of ∷ between.coming
  whole_then =
      let one : with_bytes bytes child ≡ with_bytes (bytes ++ more) t.rest_of = ap (with_bytes bytes) (sym t.is) ∙ bytes_twice bytes more t.rest_of in
      whole ∙ ap (λ (c : Child). reverse ran ++ c ∷ before.coming) one ∙ ap (λ (l : List Child). reverse ran ++ with_bytes (bytes ++ more) t.rest_of ∷ l) t.same

bytes_heard : (ran : List Child) (bytes more : List ℕ) (heard : List Heard) → heard ≡ so bytes None ∷ map heard_whole ran
    → children_after (Some (Bytes more)) heard ≡ so (bytes ++ more) None ∷ map heard_whole ran
bytes_heard ran bytes more heard is = ap (children_after (Some (Bytes more))) is

bytes_last : (coming : List Child) (starts : ℕ) (heard : List Heard) (more : List ℕ) (before : Children) (between : Option Children) → Stage coming starts heard before → IsRunning heard
    → Some before ≡ option_map (before_bytes more) between → Last coming starts (children_after (Some (Bytes more)) heard)
bytes_last coming starts heard more before between (idle ran is whole may) runs took_is = absurd (not_running ran (subst IsRunning is runs))
bytes_last coming starts heard more before None (midway ran child bytes is whole running may) runs took_is =
    let never : Some before ≡ None = took_is in
    absurd (cc never)
bytes_last coming starts heard more before (Some between) (midway ran child bytes is whole running may) runs took_is =
    let t = took more child before between between.running refl (some_same before (before_bytes more between) took_is) running in
    within ran between.coming t.rest_of (bytes ++ more) (bytes_heard ran bytes more heard is) (whole_then coming ran child bytes more before between whole t) may

bytes_stage : (coming : List Child) (starts : ℕ) (heard : List Heard) (more : List ℕ) (before after : Children) (between : Option Children) → Stage coming starts heard before → IsRunning heard
    → Some before ≡ option_map (before_bytes more) between → Some after ≡ between → Stage coming starts (children_after (Some (Bytes more)) heard) after
bytes_stage coming starts heard more before after between (idle ran is whole may) runs took_is left = absurd (not_running ran (subst IsRunning is runs))
bytes_stage coming starts heard more before after between (midway ran child bytes is whole running may) runs took_is left =
    let here : Some before ≡ Some (before_bytes more after) = took_is ∙ ap (option_map (before_bytes more)) (sym left) in
    let t = took more child before after after.running refl (some_same before (before_bytes more after) here) running in
    midway ran t.rest_of (bytes ++ more) (bytes_heard ran bytes more heard is) (whole_then coming ran child bytes more before after whole t) t.runs may

-- ---- an end
end_stage : (coming : List Child) (starts : ℕ) (heard : List Heard) (status : ℤ) (before after : Children) → Stage coming starts heard before → IsRunning heard → IfSome before.running (λ (c : Child). c.left ≡ [])
    → IsSomeAnd before.running (λ (c : Child). c.status ≡ status) → after ≡ after_end before → Stage coming starts (children_after (Some (End status)) heard) after
end_stage coming starts heard status before after (idle ran is whole may) runs silent with_status ended = absurd (not_running ran (subst IsRunning is runs))
end_stage coming starts heard status before after (midway ran child bytes is whole running may) runs silent with_status ended =
    let none : child.left ≡ [] = subst (λ (r : Option Child). IfSome r (λ (c : Child). c.left ≡ [])) running silent in
    let of_child : child.status ≡ status = subst (λ (r : Option Child). IsSomeAnd r (λ (c : Child). c.status ≡ status)) running with_status in
    let bytes_is : bytes ≡ bytes ++ child.left = sym (ap (λ (b : List ℕ). bytes ++ b) none ∙ append-nil bytes) in
    let one : children_after (Some (End status)) heard ≡ so bytes (Some status) ∷ map heard_whole ran = ap (children_after (Some (End status))) is in
    let two : so bytes (Some status) ∷ map heard_whole ran ≡ heard_whole (with_bytes bytes child) ∷ map heard_whole ran =
    ap (λ (b : List ℕ). so b (Some status) ∷ map heard_whole ran) bytes_is
    ∙ ap (λ (s : ℤ). so (bytes ++ child.left) (Some s) ∷ map heard_whole ran) (sym of_child) in
    let told : before.coming ≡ after.coming = sym (ap (λ (c : Children). c.coming) ended) in
    idle (with_bytes bytes child ∷ ran) (one ∙ two) (whole ∙ reverse-next ran (with_bytes bytes child) before.coming ∙ ap (λ (l : List Child). reverse (with_bytes bytes child ∷ ran) ++ l) told) may

-- ---- a turn, and turns
module _ (coming : List Child) (course : Course) (before after : Children) (faults faults' : ℕ) (stage : Stage coming course.starts course.children before) where
  turn_stage : (event : Option Event) → Hears course None event (Some before) (Some after) faults faults' → Stage coming course.starts (children_after event course.children) after
  turn_stage None hears = subst (Stage coming course.starts course.children) (sym (some_same after before hears)) stage
  turn_stage (Some Start) hears = start_stage coming course.starts course.children (start_words course.words course.origin.every) before after stage hears.0.0 hears.0.1 hears.1.came (some_same after (after_start (start_words course.words course.origin.every) before) hears.1.started)
  turn_stage (Some (Bytes bytes)) hears = bytes_stage coming course.starts course.children bytes before after hears.1.between stage hears.0 hears.1.took hears.1.left
  turn_stage (Some (End status)) hears = end_stage coming course.starts course.children status before after stage hears.0 hears.1.silent hears.1.with_status (some_same after (after_end before) hears.1.ended)

  turn_last : (answer : Option (Result Turn RunFault)) (event : Option Event) → Hears course answer event (Some before) (Some after) faults faults' → Last coming course.starts (children_after event course.children)
  turn_last answer None hears = last_of coming course.starts course.children before stage
  turn_last answer (Some Start) hears =
      last_of coming course.starts (children_after (Some Start) course.children) after (start_stage coming course.starts course.children (start_words course.words course.origin.every) before after stage hears.0.0 hears.0.1 hears.1.came (some_same after (after_start (start_words course.words course.origin.every) before) hears.1.started))
  turn_last answer (Some (Bytes bytes)) hears = bytes_last coming course.starts course.children bytes before hears.1.between stage hears.0 hears.1.took
  turn_last answer (Some (End status)) hears =
      last_of coming course.starts (children_after (Some (End status)) course.children) after (end_stage coming course.starts course.children status before after stage hears.0 hears.1.silent hears.1.with_status (some_same after (after_end before) hears.1.ended))

run_stage : (coming : List Child) (course : Course) (now : Children) → Run coming course now → Stage coming course.starts course.children now
run_stage coming course now (begins words every starts last before) = idle [] refl refl tt
run_stage coming course now (goes_on earlier event taken added before after faults faults' run hears) =
    turn_stage coming earlier before after faults faults' (run_stage coming earlier before run) event hears

-- ---- the text
same_child : (o : Origin) (rs : List ℕ) (starts : ℕ) (bytes : List ℕ) (child : Child) (earlier : List Heard) (before now : Text) (last : Result Turn RunFault)
    → with_child (so bytes None) o rs before ≡ now → answer_after starts now (so bytes None ∷ earlier) ≡ Some last
    → now ≡ with_child (heard_whole (with_bytes bytes child)) o rs before
same_child o rs starts bytes child earlier (Closed p t) now last is answer = sym is
same_child o rs starts bytes child earlier (Open past) (Open p) last is answer =
    let never : None ≡ Some last = answer in
    absurd (cc never)
same_child o rs starts bytes child earlier (Open past) (Closed p t) last is answer =
    sym (ap (at_end (Some child.status) o rs) (hear-closed o rs p t past bytes child.left is))

pub ran_of : (coming : List Child) (course : Course) (later : List ℕ) (last : Result Turn RunFault) → Last coming course.starts course.children
    → answer_after course.starts (text_of course later) course.children ≡ Some last → Ran coming course later
ran_of coming course later last (over ran others is whole may) answer = record {
  ran = ran;
  others = others;
  whole = whole;
  count = sym (ap length is ∙ length-map ran heard_whole);
  same = ap (text course.origin (course.readings ++ later)) is;
}
ran_of coming course later last (within ran others child bytes is whole may) answer =
    let rs = course.readings ++ later in
    let earlier = map heard_whole ran in
    let told : text_of course later ≡ with_child (so bytes None) course.origin rs (text course.origin rs earlier) = ap (text course.origin rs) is in
    record {
      ran = with_bytes bytes child ∷ ran;
      others = others;
      whole = whole ∙ reverse-next ran (with_bytes bytes child) others;
      count = sym (ap length is ∙ ap suc (length-map ran heard_whole));
      same = same_child course.origin rs course.starts bytes child earlier (text course.origin rs earlier) (text_of course later) last (sym told)
          (subst (λ (h : List Heard). answer_after course.starts (text_of course later) h ≡ Some last) is answer);
    }

pub run_last : (coming : List Child) (course : Course) (event : Option Event) (answer : Option (Result Turn RunFault)) (before after : Children) (faults faults' : ℕ) → Run coming course before
    → Hears course answer event (Some before) (Some after) faults faults' → Last coming course.starts (children_after event course.children)
run_last coming course event answer before after faults faults' run hears = turn_last coming course before after faults faults' (run_stage coming course before run) answer event hears

pub run_ran : (coming : List Child) (course : Course) (event : Option Event) (taken added : List ℕ) (answer : Option (Result Turn RunFault)) (before after : Children) (faults faults' : ℕ) → Run coming course before
    → Hears course answer event (Some before) (Some after) faults faults' → (later : List ℕ) (last : Result Turn RunFault)
    → answer_after course.starts (text_of (course_after event taken added course) later) (course_after event taken added course).children ≡ Some last → Ran coming (course_after event taken added course) later
run_ran coming course event taken added answer before after faults faults' run hears later last is =
    ran_of coming (course_after event taken added course) later last
    (run_last coming course event answer before after faults faults' run hears) is
