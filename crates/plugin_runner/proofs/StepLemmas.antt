-- Steps of a text, one after the other.
use Rattle.std.proofs.Common.{◌==◌, Bool, is_some, if◌then◌else◌, Result, Ok, Err, ◌≡◌, ℕ, ◌+◌, ◌<◌, ◌≤◌, true, false, List, [], ◌∷◌, ◌++◌, length, Option, Some, None, refl, sym, ap, ◌∙◌, subst, append-nil, append_assoc, arith, codes}
use Rattle.std.specs.Prelude.{decimal}
use Rattle.std.specs.Result.{OnOk, OnErr}
use Rattle.std.proofs.lemmas.List.{get_or_append_left}
use Rattle.history.specs.declared.line.Line.{Line}
use Rattle.history.specs.declared.line.Line.TheVariants as says
use Rattle.history.specs.Looking.{open_block}
use Rattle.plugin_runner.specs.declared.follower.Follower.{Follower}
use Rattle.plugin_runner.specs.Bytes.{bytes, IsPrefix}
use Rattle.plugin_runner.specs.Follower.{Follows, Notes}
use Rattle.plugin_runner.specs.Looking.{beats_begun, has_begun, reading_at, charts}
use Rattle.plugin_runner.specs.Reads.{Reads}
use Rattle.plugin_runner.specs.Steps.{Puts, PutsPrefix, IsWithin}
use Rattle.plugin_runner.specs.Text.{Origin, Step, meaning, moment, said, with_line, with_line_put, with_moment, moment_line, flush_line, is_due, put, with_due_moment, with_flush, with_last_moment, close}

-- ---- readings
pub Reads-append : (before : Option (List ℕ)) (xs ys : List ℕ) (mid now : Option (List ℕ)) → Reads before xs mid → Reads mid ys now → Reads before (xs ++ ys) now
Reads-append before [] ys mid now same more = subst (λ first. Reads first ys now) same more
Reads-append before (x ∷ xs) ys mid now (is, reads) more = (is, Reads-append _ xs ys mid now reads more)

reading_at-append : (readings later : List ℕ) (count : ℕ) → length readings ≡ count → reading_at (readings ++ later) count ≡ reading_at readings count
reading_at-append readings later count size =
    let within : count < length (0 ∷ readings) = omega (arith, size) in
    get_or_append_left (0 ∷ readings) later 0 count within

-- ---- prefixes
pub prefix-all : (prefix whole : List ℕ) → whole ≡ prefix → IsPrefix prefix whole
prefix-all prefix whole e = ([], e ∙ sym (append-nil prefix))

pub prefix-trans : (xs ys zs : List ℕ) → IsPrefix xs ys → IsPrefix ys zs → IsPrefix xs zs
prefix-trans xs ys zs (a, e) (b, d) = (a ++ b, d ∙ ap (λ l. l ++ b) e ∙ append_assoc xs a b)

pub prefix-append : (xs ys zs : List ℕ) → IsPrefix ys zs → IsPrefix (xs ++ ys) (xs ++ zs)
prefix-append xs ys zs (a, e) = (a, ap (λ l. xs ++ l) e ∙ sym (append_assoc xs ys a))

-- ---- lines behind others
pub le-self : (n : ℕ) → n ≤ n
le-self n = omega arith

pub le-trans : (a b c : ℕ) → a ≤ b → b ≤ c → a ≤ c
le-trans a b c p q = omega (arith, p, q)

beats-begin : (begun : Bool) (n : ℕ) → n ≤ (if begun then n else n + 1)
beats-begin true n = omega arith
beats-begin false n = omega arith

-- a further line ends no beat that has begun
beats-next : (line : Line) (past : List Line) → beats_begun past ≤ beats_begun (line ∷ past)
beats-next (says.Begin chart) past = beats-begin (has_begun past) (beats_begun past)
beats-next says.End past = le-self (beats_begun past)
beats-next says.Flush past = le-self (beats_begun past)
beats-next (says.Moment moment) past = le-self (beats_begun past)
beats-next (says.Chart chart) past = le-self (beats_begun past)
beats-next (says.Dimension dimension) past = le-self (beats_begun past)
beats-next (says.Set id value anomalous) past = le-self (beats_begun past)
beats-next says.Disable past = le-self (beats_begun past)
beats-next (says.Query text) past = le-self (beats_begun past)
beats-next says.Skipped past = le-self (beats_begun past)

beats-with : (line : Option Line) (past : List Line) → beats_begun past ≤ beats_begun (with_line line past)
beats-with None past = le-self (beats_begun past)
beats-with (Some line) past = beats-next line past

-- the former lines begin the latter
abbrev pub IsBehind : List (List ℕ) → List (List ℕ) → Type 0
IsBehind past now = IsPrefix (bytes past) (bytes now) × (beats_begun (said past) ≤ beats_begun (said now))

pub behind-self : (past : List (List ℕ)) → IsBehind past past
behind-self past = (prefix-all (bytes past) (bytes past) refl, le-self (beats_begun (said past)))

pub behind-line : (line : List ℕ) (past : List (List ℕ)) → IsBehind past (line ∷ past)
behind-line line past = ((line ++ 10 ∷ [], refl), beats-with (meaning line) (said past))

pub behind-trans : (xs ys zs : List (List ℕ)) → IsBehind xs ys → IsBehind ys zs → IsBehind xs zs
behind-trans xs ys zs near far = (prefix-trans _ _ _ near.0 far.0, le-trans _ _ _ near.1 far.1)

-- ---- steps that are the same where the follower knows the lines
abbrev pub IsSame : Follower → Step → Step → Type 0
IsSame old s t = (o : Origin) (rs : List ℕ) (past : List (List ℕ)) (later : List ℕ) → Follows old o rs (said past) → t o (rs ++ later) past ≡ s o (rs ++ later) past

pub Puts-as : (s t : Step) (old new : Follower) (before now : Option (List ℕ)) (out out' : List ℕ) → IsSame old s t → Puts s old new before now out out' → Puts t old new before now out out'
Puts-as s t old new before now out out' same p = record {
  taken = p.taken;
  reads = p.reads;
  added = p.added;
  wrote = p.wrote;
  goes = λ o rs past f. let r = p.goes o rs past f in record {
    lines = r.lines;
    leads = λ later.
        let all : (rs ++ p.taken) ++ later ≡ rs ++ (p.taken ++ later) = append_assoc rs p.taken later in
        ap (λ (l : List ℕ). t o l past) all ∙ same o rs past (p.taken ++ later) f ∙ ap (λ (l : List ℕ). s o l past) (sym all) ∙ r.leads later;
    follows = r.follows;
    whole = r.whole;
  };
}

pub PutsPrefix-as : (s t : Step) (old : Follower) (before now : Option (List ℕ)) (out out' : List ℕ) → IsSame old s t → PutsPrefix s old before now out out' → PutsPrefix t old before now out out'
PutsPrefix-as s t old before now out out' same p = record {
  taken = p.taken;
  reads = p.reads;
  added = p.added;
  wrote = p.wrote;
  prefix = λ o rs past f later.
      let all : (rs ++ p.taken) ++ later ≡ rs ++ (p.taken ++ later) = append_assoc rs p.taken later in
      let step : s o ((rs ++ p.taken) ++ later) past ≡ t o ((rs ++ p.taken) ++ later) past =
      ap (λ (l : List ℕ). s o l past) all ∙ sym (same o rs past (p.taken ++ later) f) ∙ ap (λ (l : List ℕ). t o l past) (sym all) in
      subst (λ lines. IsWithin (bytes past ++ p.added) (rs ++ p.taken) lines) step (p.prefix o rs past f later);
}

-- ---- nothing
pub Puts-nothing : (old : Follower) (before : Option (List ℕ)) (out : List ℕ) → Puts (λ o rs past. past) old old before before out out
Puts-nothing old before out = record {
  taken = [];
  reads = refl;
  added = [];
  wrote = sym (append-nil out);
  goes = λ o rs past f. record {
    lines = past;
    leads = λ later. refl;
    follows = subst (λ all. Follows old o all (said past)) (sym (append-nil rs)) f;
    whole = sym (append-nil (bytes past));
  };
}

-- a step that takes nothing away
abbrev pub Grows : Step → Type 0
Grows s = (o : Origin) (rs : List ℕ) (past : List (List ℕ)) → IsBehind past (s o rs past)

pub PutsPrefix-nothing : (s : Step) (old : Follower) (before : Option (List ℕ)) (out : List ℕ) → Grows s → PutsPrefix s old before before out out
PutsPrefix-nothing s old before out grows = record {
  taken = [];
  reads = refl;
  added = [];
  wrote = sym (append-nil out);
  prefix = λ o rs past f later.
      let g = grows o ((rs ++ []) ++ later) past in
      let size : length (rs ++ []) ≤ beats_begun (said past) = omega (arith, ap length (append-nil rs), f.count) in
      (subst (λ prefix. IsPrefix prefix (bytes (s o ((rs ++ []) ++ later) past))) (sym (append-nil (bytes past))) g.0, le-trans _ _ _ size g.1);
}

-- ---- one line
pub Puts-line : (text : List ℕ) (line : Line) (old new : Follower) (before now : Option (List ℕ)) (out out' : List ℕ) → meaning text ≡ Some line → out' ≡ out ++ (text ++ 10 ∷ [])
    → Notes line old new before now → Puts (with_line_put text) old new before now out out'
Puts-line text line old new before now out out' says wrote notes = record {
  taken = notes.taken;
  reads = notes.reads;
  added = text ++ 10 ∷ [];
  wrote = wrote;
  goes = λ o rs past f. record {
    lines = text ∷ past;
    leads = λ later. refl;
    follows = subst (λ m. Follows new o (rs ++ notes.taken) (with_line m (said past))) (sym says) (notes.follows o rs (said past) f);
    whole = refl;
  };
}

pub Puts-refused : (text : List ℕ) (old : Follower) (before : Option (List ℕ)) (out out' : List ℕ) → meaning text ≡ None → out' ≡ out ++ (text ++ 10 ∷ [])
    → Puts (with_line_put text) old old before before out out'
Puts-refused text old before out out' says wrote = record {
  taken = [];
  reads = refl;
  added = text ++ 10 ∷ [];
  wrote = wrote;
  goes = λ o rs past f. record {
    lines = text ∷ past;
    leads = λ later. refl;
    follows = subst (λ m. Follows old o (rs ++ []) (with_line m (said past))) (sym says) (subst (λ all. Follows old o all (said past)) (sym (append-nil rs)) f);
    whole = refl;
  };
}

pub PutsPrefix-line : (line : List ℕ) (old : Follower) (before now : Option (List ℕ)) (out out' added : List ℕ) → now ≡ before → out' ≡ out ++ added → IsPrefix added (line ++ 10 ∷ [])
    → PutsPrefix (with_line_put line) old before now out out'
PutsPrefix-line line old before now out out' added same wrote prefix = record {
  taken = [];
  reads = same;
  added = added;
  wrote = wrote;
  prefix = λ o rs past f later.
      let size : length (rs ++ []) ≤ beats_begun (said past) = omega (arith, ap length (append-nil rs), f.count) in
      (prefix-append (bytes past) added (line ++ 10 ∷ []) prefix, le-trans _ _ _ size (beats-with (meaning line) (said past)));
}

-- the line that closes the open beat
pub same-moment : (old : Follower) → IsSame old (with_line_put (codes "MOMENT " ++ decimal (moment old.every old.last old.reading))) with_moment
same-moment old o rs past later f =
    let reading : reading_at (rs ++ later) (beats_begun (said past)) ≡ old.reading = reading_at-append rs later (beats_begun (said past)) f.count ∙ sym f.reading in
    rw (reading, ← f.every, ← f.last) refl

-- ---- one step after the other
abbrev pub then_ : Step → Step → Step
then_ s t o rs past = t o rs (s o rs past)

module _ (s t : Step) (old mid : Follower) (before between now : Option (List ℕ)) (out out1 out2 : List ℕ) (p : Puts s old mid before between out out1) where
  pub Puts-then : (new : Follower) → Puts t mid new between now out1 out2 → Puts (then_ s t) old new before now out out2
  Puts-then new q = record {
    taken = p.taken ++ q.taken;
    reads = Reads-append before p.taken q.taken between now p.reads q.reads;
    added = p.added ++ q.added;
    wrote = q.wrote ∙ ap (λ l. l ++ q.added) p.wrote ∙ append_assoc out p.added q.added;
    goes = λ o rs past f.
        let r = p.goes o rs past f in
        let r' = q.goes o (rs ++ p.taken) r.lines r.follows in
        let all : (rs ++ p.taken) ++ q.taken ≡ rs ++ (p.taken ++ q.taken) = append_assoc rs p.taken q.taken in
        record {
          lines = r'.lines;
          leads = λ later.
              let far : (rs ++ (p.taken ++ q.taken)) ++ later ≡ (rs ++ p.taken) ++ (q.taken ++ later) = simp append_assoc in
              let near : (rs ++ (p.taken ++ q.taken)) ++ later ≡ ((rs ++ p.taken) ++ q.taken) ++ later = simp append_assoc in
              ap (λ (l : List (List ℕ)). t o ((rs ++ (p.taken ++ q.taken)) ++ later) l) (ap (λ (l : List ℕ). s o l past) far ∙ r.leads (q.taken ++ later))
              ∙ ap (λ (l : List ℕ). t o l r.lines) near ∙ r'.leads later;
          follows = subst (λ l. Follows new o l (said r'.lines)) all r'.follows;
          whole = r'.whole ∙ ap (λ l. l ++ q.added) r.whole ∙ append_assoc (bytes past) p.added q.added;
        };
  }

  pub PutsPrefix-then : PutsPrefix t mid between now out1 out2 → PutsPrefix (then_ s t) old before now out out2
  PutsPrefix-then q = record {
    taken = p.taken ++ q.taken;
    reads = Reads-append before p.taken q.taken between now p.reads q.reads;
    added = p.added ++ q.added;
    wrote = q.wrote ∙ ap (λ l. l ++ q.added) p.wrote ∙ append_assoc out p.added q.added;
    prefix = λ o rs past f later.
        let r = p.goes o rs past f in
        let far : (rs ++ p.taken) ++ (q.taken ++ later) ≡ (rs ++ (p.taken ++ q.taken)) ++ later = simp append_assoc in
        let near : ((rs ++ p.taken) ++ q.taken) ++ later ≡ (rs ++ (p.taken ++ q.taken)) ++ later = simp append_assoc in
        let start : bytes r.lines ++ q.added ≡ bytes past ++ (p.added ++ q.added) = ap (λ l. l ++ q.added) r.whole ∙ append_assoc (bytes past) p.added q.added in
        let lines : r.lines ≡ s o ((rs ++ (p.taken ++ q.taken)) ++ later) past = sym (r.leads (q.taken ++ later)) ∙ ap (λ (l : List ℕ). s o l past) far in
        let end : t o (((rs ++ p.taken) ++ q.taken) ++ later) r.lines ≡ then_ s t o ((rs ++ (p.taken ++ q.taken)) ++ later) past =
        ap (λ (l : List ℕ). t o l r.lines) near ∙ ap (λ (l : List (List ℕ)). t o ((rs ++ (p.taken ++ q.taken)) ++ later) l) lines in
        let q_prefix : IsWithin (bytes r.lines ++ q.added) ((rs ++ p.taken) ++ q.taken) (t o (((rs ++ p.taken) ++ q.taken) ++ later) r.lines) = q.prefix o (rs ++ p.taken) r.lines r.follows later in
        let size : length ((rs ++ p.taken) ++ q.taken) ≡ length (rs ++ (p.taken ++ q.taken)) = ap length (append_assoc rs p.taken q.taken) in
        let here = t o (((rs ++ p.taken) ++ q.taken) ++ later) r.lines in
        subst (λ l. IsWithin (bytes past ++ (p.added ++ q.added)) (rs ++ (p.taken ++ q.taken)) l) end
        (subst (λ l. IsPrefix l (bytes here)) start q_prefix.0, subst (λ (n : ℕ). n ≤ beats_begun (said here)) size q_prefix.1);
  }

-- a prefix of a step is one of it and a further one
pub PutsPrefix-more : (s t : Step) (old : Follower) (before now : Option (List ℕ)) (out out' : List ℕ) → Grows t → PutsPrefix s old before now out out' → PutsPrefix (then_ s t) old before now out out'
PutsPrefix-more s t old before now out out' grows p = record {
  taken = p.taken;
  reads = p.reads;
  added = p.added;
  wrote = p.wrote;
  prefix = λ o rs past f later.
      let near = p.prefix o rs past f later in
      let far = grows o ((rs ++ p.taken) ++ later) (s o ((rs ++ p.taken) ++ later) past) in
      (prefix-trans _ _ _ near.0 far.0, le-trans _ _ _ near.1 far.1);
}

-- ---- steps that take nothing away
if_added : (b : Bool) (line : List ℕ) (past : List (List ℕ)) → IsBehind past (if b then line ∷ past else past)
if_added true line past = behind-line line past
if_added false line past = behind-self past

if_kept : (b : Bool) (line : List ℕ) (past : List (List ℕ)) → IsBehind past (if b then past else line ∷ past)
if_kept true line past = behind-self past
if_kept false line past = behind-line line past

pub grows-line : (line : List ℕ) → Grows (with_line_put line)
grows-line line o rs past = behind-line line past

pub grows-moment : Grows with_moment
grows-moment o rs past = behind-line (moment_line o rs past) past

pub grows-flush : Grows with_flush
grows-flush o rs past = if_added (is_some (open_block (said past))) flush_line past

pub grows-last : Grows with_last_moment
grows-last o rs past = if_kept (length (charts (said past)) == 0) (moment_line o rs past) past

pub grows-due : (next : Option Line) → Grows (with_due_moment next)
grows-due next o rs past = if_added (is_due next (said past)) (moment_line o rs past) past

pub grows-then : (s t : Step) → Grows s → Grows t → Grows (then_ s t)
grows-then s t gs gt o rs past = behind-trans past (s o rs past) (t o rs (s o rs past)) (gs o rs past) (gt o rs (s o rs past))

pub grows-close : Grows close
grows-close = grows-then with_flush with_last_moment grows-flush grows-last

pub grows-put : (line : List ℕ) → Grows (put line)
grows-put line = grows-then (with_due_moment (meaning line)) (with_line_put line) (grows-due (meaning line)) (grows-line line)

-- ---- what the follower's tests say
abbrev pub nothing : Step
nothing o rs past = past

pub flush-none : (old : Follower) → is_some old.block ≡ false → IsSame old nothing with_flush
flush-none old none o rs past later f =
    let test : is_some (open_block (said past)) ≡ false = ap is_some (sym f.block) ∙ none in
    rw test refl

pub flush-some : (old : Follower) → is_some old.block ≡ true → IsSame old (with_line_put flush_line) with_flush
flush-some old some o rs past later f =
    let test : is_some (open_block (said past)) ≡ true = ap is_some (sym f.block) ∙ some in
    rw test refl

pub last-none : (old : Follower) → (length old.rows == 0) ≡ true → IsSame old nothing with_last_moment
last-none old none o rs past later f =
    let test : (length (charts (said past)) == 0) ≡ true = ap (λ (l : List (List ℕ)). length l == 0) (sym f.rows) ∙ none in
    rw test refl

pub last-some : (old : Follower) → (length old.rows == 0) ≡ false → IsSame old with_moment with_last_moment
last-some old some o rs past later f =
    let test : (length (charts (said past)) == 0) ≡ false = ap (λ (l : List (List ℕ)). length l == 0) (sym f.rows) ∙ some in
    rw test refl

abbrev pub IsDue : Follower → Option Line → Bool → Type 0
IsDue old next b = (o : Origin) (rs : List ℕ) (past : List Line) → Follows old o rs past → b ≡ is_due next past

pub due-yes : (old : Follower) (next : Option Line) (b : Bool) → IsDue old next b → b ≡ true → IsSame old with_moment (with_due_moment next)
due-yes old next b due is o rs past later f =
    let test : is_due next (said past) ≡ true = sym (due o rs (said past) f) ∙ is in
    rw test refl

pub due-no : (old : Follower) (next : Option Line) (b : Bool) → IsDue old next b → b ≡ false → IsSame old nothing (with_due_moment next)
due-no old next b due is o rs past later f =
    let test : is_due next (said past) ≡ false = sym (due o rs (said past) f) ∙ is in
    rw test refl

-- ---- results
pub ok-with : {T E : Type 0} (r : Result T E) (P Q : Type 0) → OnOk r P → (P → Q) → OnOk r Q
ok-with (Ok x) P Q h f = f h
ok-with (Err e) P Q h f = tt

pub err-with : {T E : Type 0} (r : Result T E) (P Q : Type 0) → OnErr r P → (P → Q) → OnErr r Q
err-with (Ok x) P Q h f = tt
err-with (Err e) P Q h f = f h

pub on_err : {T E : Type 0} (r : Result T E) (P : Type 0) → P → OnErr r P
on_err (Ok x) P h = tt
on_err (Err e) P h = h

pub on_ok : {T E : Type 0} (r : Result T E) (P : Type 0) → P → OnOk r P
on_ok (Ok x) P h = h
on_ok (Err e) P h = tt
