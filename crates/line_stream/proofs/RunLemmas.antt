-- A run, piece by piece.
use Rattle.std.proofs.Common.{◌≡◌, ℕ, ◌+◌, ◌-◌, ◌<◌, ◌≤◌, inl, inr, Bool, true, false, cond, List, [], ◌∷◌, ◌++◌, length, Option, Some, None, IfSome, Result, Ok, Err, refl, sym, ap, ◌∙◌, subst, append_assoc, append-nil, length-append, arith}
use Rattle.std.specs.List.{onto_first, AllPass}
use Rattle.std.proofs.lemmas.List.Elements.{All-cons, All-head, All-nil, All-tail}
use Rattle.std.proofs.lemmas.Bool.{cases_lt}
use Rattle.history.specs.Limits.{is_line_feed, is_one_line}
use Rattle.host_model.specs.Cause.{Rose}
use Rattle.host_model.specs.Source.{Takes}
use Rattle.host_model.specs.declared.status.Status.{Status}
use Rattle.host_model.specs.declared.status.Status.TheVariants.{InputLimit, Memory}
use Rattle.plugin_text.specs.Lines.{parts, lines, rest, fits, but_last, last_part, HasNoLongLine, IsLongAfter, IsRest}
use Rattle.plugin_text.proofs.LongLemmas.{AllPass-prefix, AllPass-lines, HasNoLongLine-append, IsLongAfter-later}
use Rattle.plugin_text.proofs.OneLineLemmas.{parts-one_line}
use Rattle.plugin_text.proofs.PartsLemmas.{parts_first, parts_whole, lines-append, rest-append}
use Rattle.line_stream.specs.declared.stream.Stream.{Stream}
use Rattle.line_stream.specs.Chain.{Acts, Chain, begins, pauses, not_begun, after_pause}
use Rattle.line_stream.specs.Run.{input_limit, Ended, at_line, at_pause, at_long_line, at_end, at_fault, at_limit, at_want, Ran, Running, Steps, Stops, TookAll}
use Rattle.line_stream.specs.Stream.{BrokeAt, HandsOver, HasTaken, IsFresh}

-- ---- how many lines a text has

size_of : List (List ℕ) → ℕ
size_of parts = length (but_last parts) + length (last_part parts)

size_of-step : (ends : Bool) (byte : ℕ) (first : List ℕ) (others : List (List ℕ)) → size_of (cond ends ([] ∷ first ∷ others) (onto_first byte (first ∷ others))) ≤ size_of (first ∷ others) + 1
unfolding size_of
size_of-step true byte first others = omega arith
size_of-step false byte first [] = omega arith
size_of-step false byte first (other ∷ others) = omega arith

size_of-parts : (text : List ℕ) → size_of (parts text) ≤ length text
unfolding size_of
size_of-parts [] = omega arith
size_of-parts (byte ∷ bytes) =
    let prefix = parts_first bytes in
    let before = rw prefix.2 at (size_of-parts bytes) in
    rw prefix.2 (omega (arith, size_of-step (is_line_feed byte) byte prefix.0 prefix.1, before))

-- a text has no more lines and bytes after them than it has bytes
pub lines_and_rest : (text : List ℕ) → length (lines text) + length (rest text) ≤ length text
unfolding size_of
lines_and_rest text = size_of-parts text

before_part : (before : List (List ℕ)) (long : List ℕ) (more : List (List ℕ)) → length before ≤ length (but_last (before ++ long ∷ more))
before_part [] long more = omega arith
before_part (part ∷ []) long more = omega arith
before_part (part ∷ next ∷ before) long more = omega (arith, before_part (next ∷ before) long more)

-- there are no more lines before a long one than bytes
pub lines_before : (text : List ℕ) (before : List (List ℕ)) → IsLongAfter text before → length before ≤ length text
lines_before text before long =
    let fewer : length before ≤ length (lines text) = rw long.whole (before_part before long.long long.more) in
    omega (arith, fewer, lines_and_rest text)

-- the first parts of a text have no line feed
pub prefix-one_line : (text : List ℕ) (prefix others : List (List ℕ)) → parts text ≡ prefix ++ others → AllPass is_one_line prefix
prefix-one_line text prefix others whole = AllPass-prefix is_one_line prefix others (subst (AllPass is_one_line) whole (parts-one_line text))

-- ---- one piece more

-- a list with something in its midst, and behind it
in_midst : (prefix before more others : List (List ℕ)) (line last : List ℕ) → (next : List ℕ) × (rest_of : List (List ℕ)) × ((prefix ++ (before ++ line ∷ more)) ++ last ∷ others ≡ (prefix ++ before) ++ line ∷ next ∷ rest_of)
in_midst prefix before [] others line last =
    (last, others, append_assoc prefix (before ++ line ∷ []) (last ∷ others) ∙ ap (λ (l : List (List ℕ)). prefix ++ l) (append_assoc before (line ∷ []) (last ∷ others)) ∙ sym (append_assoc prefix before (line ∷ last ∷ others)))
in_midst prefix before (x ∷ more) others line last = (
  x,
  more ++ last ∷ others,
  append_assoc prefix (before ++ line ∷ x ∷ more) (last ∷ others) ∙ ap (λ (l : List (List ℕ)). prefix ++ l) (append_assoc before (line ∷ x ∷ more) (last ∷ others)) ∙ sym (append_assoc prefix before (line ∷ x ∷ (more ++ last ∷ others))),
)

-- of lines that are short each prefix is, and each line
short-prefix : (prefix before more : List (List ℕ)) (line : List ℕ) → AllPass fits (prefix ++ (before ++ line ∷ more)) → AllPass fits (prefix ++ before)
short-prefix prefix before more line short = AllPass-prefix fits (prefix ++ before) (line ∷ more) (subst (AllPass fits) (sym (append_assoc prefix before (line ∷ more))) short)

short-at : (prefix more : List (List ℕ)) (line : List ℕ) → AllPass fits (prefix ++ line ∷ more) → fits line ≡ true
short-at [] more line short = All-head (λ (l : List ℕ). fits l ≡ true) line more short
short-at (x ∷ prefix) more line short = short-at prefix more line (All-tail (λ (l : List ℕ). fits l ≡ true) x (prefix ++ line ∷ more) short)

short-line : (prefix before more : List (List ℕ)) (line : List ℕ) → AllPass fits (prefix ++ (before ++ line ∷ more)) → fits line ≡ true
short-line prefix before more line short = short-at (prefix ++ before) more line (subst (AllPass fits) (sym (append_assoc prefix before (line ∷ more))) short)

-- ---- how many lines there are with a piece

few-lines : (count : ℕ) (text piece held : List ℕ) → count ≡ length (lines text) → held ≡ rest text → length text + length piece ≤ input_limit → count + length (lines (held ++ piece)) ≤ input_limit
few-lines count text piece held counted is within =
    let more = ap (λ (l : List (List ℕ)). length l) (lines-append text piece ∙ ap (λ (r : List ℕ). lines text ++ lines (r ++ piece)) (sym is)) in
    omega (arith, counted, more, length-append (lines text) (lines (held ++ piece)), lines_and_rest (text ++ piece), length-append text piece, within)

few-before : (count : ℕ) (text piece held : List ℕ) (handed : List (List ℕ)) → count ≡ length (lines text) → held ≡ rest text → HasNoLongLine text → IsLongAfter (held ++ piece) handed → length text + length piece ≤ input_limit
    → count + length handed ≤ input_limit
few-before count text piece held handed counted is short long within =
    let all = IsLongAfter-later text piece handed short (subst (λ (r : List ℕ). IsLongAfter (r ++ piece) handed) is long) in
    omega (arith, counted, lines_before (text ++ piece) (lines text ++ handed) all, length-append (lines text) handed, length-append text piece, within)

module _ {T H : Type 0} (acts : Acts T H) (start : T) (begin : H) where
  -- a line of the piece ended the run
  broke_in : (status : Status) (all : List ℕ) (prefix handed : List (List ℕ)) (last : List ℕ) (others : List (List ℕ)) (taker : T) (host : H) (left : Option (List ℕ)) → parts all ≡ (prefix ++ handed) ++ last ∷ others
      → AllPass fits (prefix ++ handed) → BrokeAt acts status start begin prefix handed taker host → Ended acts status start begin all taker host left ⊥
  broke_in status all prefix handed last others taker host left whole short broke =
      let at = in_midst prefix broke.before broke.more others broke.line last in
      let handed_is = ap (λ (l : List (List ℕ)). prefix ++ l) broke.whole in
      let short' = subst (AllPass fits) handed_is short in
      at_line (prefix ++ broke.before) broke.line at.0 at.1 broke.taker' broke.host' (whole ∙ ap (λ (l : List (List ℕ)). l ++ last ∷ others) handed_is ∙ at.2)
      (short-prefix prefix broke.before broke.more broke.line short') (short-line prefix broke.before broke.more broke.line short') broke.chain broke.broke

  module _ (stream : Stream) (text piece : List ℕ) (taker : T) (host : H) (has : HasTaken acts stream start begin text taker host) where
    pub piece-few : length text + length piece ≤ input_limit → stream.count + length (lines (stream.splitter.rest ++ piece)) ≤ input_limit
    piece-few = few-lines stream.count text piece stream.splitter.rest has.count has.rest_is

    pub long-few : (handed : List (List ℕ)) → IsLongAfter (stream.splitter.rest ++ piece) handed → length text + length piece ≤ input_limit → stream.count + length handed ≤ input_limit
    long-few handed = few-before stream.count text piece stream.splitter.rest handed has.count has.rest_is has.took.short

    short-all : HasNoLongLine (stream.splitter.rest ++ piece) → HasNoLongLine (text ++ piece)
    short-all more = HasNoLongLine-append text piece has.took.short (subst (λ (r : List ℕ). HasNoLongLine (r ++ piece)) has.rest_is more)

    lines-all : lines (text ++ piece) ≡ lines text ++ lines (stream.splitter.rest ++ piece)
    lines-all = lines-append text piece ∙ ap (λ (r : List ℕ). lines text ++ lines (r ++ piece)) (sym has.rest_is)

    -- what the lines of the piece come to
    pub handed : {R : Type 0} (result : Result R Status) (new : T) (host' : H) (lines' : List (List ℕ))
        → ((start' : T) (begin' : H) (prefix : List (List ℕ)) → length prefix ≡ stream.count → Chain acts start' begin' prefix taker host → HandsOver acts start' begin' prefix lines' result new host')
        → HandsOver acts start begin (lines text) lines' result new host'
    handed result new host' lines' hands = hands start begin (lines text) (sym has.count) has.took.chain

    -- a line of the piece ended the run
    pub piece-broke : (status : Status) (new : T) (host' : H) (left : Option (List ℕ)) → HasNoLongLine (stream.splitter.rest ++ piece) → BrokeAt acts status start begin (lines text) (lines (stream.splitter.rest ++ piece)) new host'
        → Ended acts status start begin (text ++ piece) new host' left ⊥
    piece-broke status new host' left more broke =
        broke_in status (text ++ piece) (lines text) (lines (stream.splitter.rest ++ piece)) (rest (text ++ piece)) [] new host' left
        (parts_whole (text ++ piece) ∙ ap (λ (l : List (List ℕ)). l ++ rest (text ++ piece) ∷ []) lines-all)
        (subst (AllPass fits) lines-all (AllPass-lines (text ++ piece) (short-all more))) broke

    -- a line before a long one did
    pub long-broke : (status : Status) (prefix : List (List ℕ)) (new : T) (host' : H) (left : Option (List ℕ)) → IsLongAfter (stream.splitter.rest ++ piece) prefix → BrokeAt acts status start begin (lines text) prefix new host'
        → Ended acts status start begin (text ++ piece) new host' left ⊥
    long-broke status prefix new host' left long broke =
        let all = IsLongAfter-later text piece prefix has.took.short (subst (λ (r : List ℕ). IsLongAfter (r ++ piece) prefix) has.rest_is long) in
        broke_in status (text ++ piece) (lines text) prefix all.long all.more new host' left all.whole all.short broke

    -- the long one did
    pub long-ended : (status : Status) (number : ℕ) (prefix : List (List ℕ)) (mid new : T) (host' host'' : H) (left : Option (List ℕ)) → IsLongAfter (stream.splitter.rest ++ piece) prefix → Chain acts start begin (lines text ++ prefix) mid host'
        → number ≡ stream.count + length prefix + 1 → acts.overflows mid host' number status new host'' → Ended acts status start begin (text ++ piece) new host'' left ⊥
    long-ended status number prefix mid new host' host'' left long chain number_is overflows =
        let all = IsLongAfter-later text piece prefix has.took.short (subst (λ (r : List ℕ). IsLongAfter (r ++ piece) prefix) has.rest_is long) in
        let counts : number ≡ length (lines text ++ prefix) + 1 = omega (arith, number_is, has.count, length-append (lines text) prefix) in
        at_long_line (lines text ++ prefix) all.long all.more mid host' all.whole all.short all.too_long chain
        (subst (λ (n : ℕ). acts.overflows mid host' n status new host'') counts overflows)

    all-taken : (mid : T) (host' : H) → HasNoLongLine (stream.splitter.rest ++ piece) → Chain acts start begin (lines text ++ lines (stream.splitter.rest ++ piece)) mid host' → TookAll acts start begin (text ++ piece) mid host'
    all-taken mid host' more chain = record {
      short = short-all more;
      chain = subst (λ (l : List (List ℕ)). Chain acts start begin l mid host') (sym lines-all) chain;
    }

    -- it ended behind the piece
    pub pause-ended : (status : Status) (result : Result (Unit {0}) Status) (mid new : T) (host' host'' : H) (left : Option (List ℕ)) → HasNoLongLine (stream.splitter.rest ++ piece) → Chain acts start begin (lines text ++ lines (stream.splitter.rest ++ piece)) mid host'
        → acts.pauses mid host' result new host'' → result ≡ Err status → Ended acts status start begin (text ++ piece) new host'' left ⊥
    pause-ended status result mid new host' host'' left more chain paused is =
        at_pause mid host' (all-taken mid host' more chain) (subst (λ (r : Result (Unit {0}) Status). acts.pauses mid host' r new host'') is paused)

    -- it goes on behind the piece
    pub piece-taken : (stream' : Stream) (result : Result (Unit {0}) Status) (mid new : T) (host' host'' : H) → HasNoLongLine (stream.splitter.rest ++ piece) → Chain acts start begin (lines text ++ lines (stream.splitter.rest ++ piece)) mid host'
        → acts.pauses mid host' result new host'' → result ≡ Ok tt → stream'.splitter.refused ≡ None → stream'.splitter.rest ≡ rest (stream.splitter.rest ++ piece) → IsRest stream'.splitter.rest
        → stream'.count ≡ stream.count + length (lines (stream.splitter.rest ++ piece)) → HasTaken acts stream' start begin (text ++ piece) new host''
    piece-taken stream' result mid new host' host'' more chain was is going rest_is held count =
        let all = all-taken mid host' more chain in
        let last = subst (λ (r : Result (Unit {0}) Status). acts.pauses mid host' r new host'') is was in
        record {
          going = going;
          rest_is = rest_is ∙ ap (λ (r : List ℕ). rest (r ++ piece)) has.rest_is ∙ sym (rest-append text piece);
          held = held;
          count = count ∙ omega (arith, has.count, ap (λ (l : List (List ℕ)). length l) lines-all, length-append (lines text) (lines (stream.splitter.rest ++ piece)));
          took = record {
            short = all.short;
            chain = pauses (lines (text ++ piece)) mid new host' host'' all.chain last;
          };
          paused = after_pause mid new host' host'' last;
        }

    -- there was no memory for the piece
    pub piece-want : (status : Status) (left : Option (List ℕ)) → status ≡ Memory → Ended acts status start begin (text ++ piece) taker host left ⊥
    piece-want status left is =
        at_want (lines text) is (record {
          begins = record { left = lines (rest text ++ piece); whole = lines-append text piece; short = AllPass-lines text has.took.short };
          chain = has.took.chain;
        })

-- ---- why a run ended

-- a count that rose in a part of a call rose in the call
pub rose-later : (old mid new : ℕ) → old ≤ mid → mid ≤ new → Rose mid new → Rose old new
rose-later old mid new earlier later (inl rise) = inl (omega arith)
rose-later old mid new earlier later (inr stands) = elim (cases_lt old new) [ inl rise ↦ inl rise | inr no_rise ↦ inr (omega arith) ]

module _ {T H : Type 0} (acts : Acts T H) where
  -- it does not hang on when the source failed
  pub ended-later : (status : Status) (taker : T) (host : H) (text : List ℕ) (taker' : T) (host' : H) (left : Option (List ℕ)) (rose rose' : Type 0) → (rose → rose') → Ended acts status taker host text taker' host' left rose → Ended acts status taker host text taker' host' left rose'
  ended-later status taker host text taker' host' left rose rose' by (at_line prefix line next more mid mid_host whole short fit chain takes) = at_line prefix line next more mid mid_host whole short fit chain takes
  ended-later status taker host text taker' host' left rose rose' by (at_pause mid mid_host took paused) = at_pause mid mid_host took paused
  ended-later status taker host text taker' host' left rose rose' by (at_long_line prefix long more mid mid_host whole short fit chain overflows) = at_long_line prefix long more mid mid_host whole short fit chain overflows
  ended-later status taker host text taker' host' left rose rose' by (at_end mid mid_host room nothing took ends) = at_end mid mid_host room nothing took ends
  ended-later status taker host text taker' host' left rose rose' by (at_fault is failed below took last) = at_fault is (by failed) below took last
  ended-later status taker host text taker' host' left rose rose' by (at_limit is size took) = at_limit is size took
  ended-later status taker host text taker' host' left rose rose' by (at_want prefix is took) = at_want prefix is took

-- ---- bytes of the source

-- bytes taken one after another were taken together
pub Takes-append : (left middle right : Option (List ℕ)) (first second : List ℕ) → Takes left first middle → Takes middle second right → Takes left (first ++ second) right
Takes-append left middle None first second takes then_takes = takes ∙ rw then_takes refl
Takes-append left middle (Some rest) first second takes then_takes = takes ∙ rw (then_takes, append_assoc first second rest) refl

pub Takes-none : (left : Option (List ℕ)) → Takes left [] left
Takes-none None = refl
Takes-none (Some rest) = refl

module _ {T H : Type 0} (acts : Acts T H) where
  -- a run that begins
  pub start-taken : (stream : Stream) (taker : T) (host : H) → IsFresh stream → HasTaken acts stream taker host [] taker host
  start-taken stream taker host fresh = record {
    going = fresh.going;
    rest_is = fresh.empty;
    held = subst IsRest (sym fresh.empty) (record { no_line_feed = refl; short = refl });
    count = fresh.none;
    took = record { short = All-cons (λ (l : List ℕ). fits l ≡ true) [] [] refl (All-nil (λ (l : List ℕ). fits l ≡ true)); chain = begins };
    paused = not_begun;
  }

  pub start-running : (Held : List ℕ → Type 0) (left : Option (List ℕ)) → Held [] → Running Held input_limit left left
  start-running Held left held = record { text = []; takes = Takes-none left; held = held; spent = refl }

  -- and goes on by a step
  pub step-running : (Held Held' : List ℕ → Type 0) (budget size : ℕ) (left middle right : Option (List ℕ)) → (before : Running Held budget left middle) → Steps Held' size before.text middle right → size ≤ budget → Running Held' (budget - size) left right
  step-running Held Held' budget size left middle right before step fits_in = record {
    text = before.text ++ step.bytes;
    takes = Takes-append left middle right before.text step.bytes before.takes step.takes;
    held = step.held;
    spent = omega (arith, length-append before.text step.bytes, before.spent, step.size_is, fits_in);
  }

  -- and stops at one
  pub stop-ran : (Held : List ℕ → Type 0) (status : Status) (start taker' : T) (begin host' : H) (budget sf sf' sf'' : ℕ) (left middle right : Option (List ℕ)) → (before : Running Held budget left middle) → sf ≤ sf'
      → Stops acts status start begin before.text taker' host' middle right (Rose sf' sf'') → sf' ≤ sf'' → Ran acts status start begin taker' host' left right (Rose sf sf'')
  stop-ran Held status start taker' begin host' budget sf sf' sf'' left middle right before earlier step later = record {
    text = before.text ++ step.bytes;
    takes = Takes-append left middle right before.text step.bytes before.takes step.takes;
    within = step.within;
    ended = ended-later acts status start begin (before.text ++ step.bytes) taker' host' right (Rose sf' sf'') (Rose sf sf'') (rose-later sf sf' sf'' earlier later) step.ended;
  }

  -- it took as much as it may
  pub limit-ran : (stream : Stream) (start taker' : T) (begin host' : H) (budget : ℕ) (left right : Option (List ℕ)) (source_rose : Type 0) → (before : Running (λ text. HasTaken acts stream start begin text taker' host') budget left right) → budget ≡ 0
      → Ran acts InputLimit start begin taker' host' left right source_rose
  limit-ran stream start taker' begin host' budget left right source_rose before none = record {
    text = before.text;
    takes = before.takes;
    within = omega (arith, before.spent);
    ended = at_limit refl (omega (arith, before.spent, none)) before.held.took;
  }

  -- there was no memory to begin
  pub want-ran : (start : T) (begin : H) (left : Option (List ℕ)) (source_rose : Type 0) → Ran acts Memory start begin start begin left left source_rose
  want-ran start begin left source_rose = record {
    text = [];
    takes = Takes-none left;
    within = omega arith;
    ended = at_want [] refl (record { begins = record { left = []; whole = refl; short = All-nil (λ (l : List ℕ). fits l ≡ true) }; chain = begins });
  }

-- a stream has handed over no more lines than bytes were taken
pub count-within : {T H : Type 0} (acts : Acts T H) (start : T) (begin : H) (stream : Stream) (text : List ℕ) (taker : T) (host : H) → HasTaken acts stream start begin text taker host → length text ≤ input_limit → stream.count ≤ input_limit
count-within acts start begin stream text taker host has within = omega (arith, has.count, lines_and_rest text, within)

-- ---- one step of a run

module _ {T H : Type 0} (acts : Acts T H) (start : T) (begin : H) (stream : Stream) (text : List ℕ) (taker : T) (host : H) (has : HasTaken acts stream start begin text taker host) where
  -- the taker was told the end
  pub end-told : (status : Status) (lines_taken : ℕ) (held : List ℕ) (new : T) (host' : H) → lines_taken ≡ stream.count → held ≡ stream.splitter.rest → acts.ends taker host lines_taken held status new host'
      → acts.ends taker host (length (lines text)) (rest text) status new host'
  end-told status lines_taken held new host' counted held_is ends =
      subst (λ (r : List ℕ). acts.ends taker host (length (lines text)) r status new host') (held_is ∙ has.rest_is) (subst (λ (n : ℕ). acts.ends taker host n held status new host') (counted ∙ has.count) ends)

  -- the input ended
  pub end-stops : (status : Status) (bytes : List ℕ) (new : T) (host' : H) (left left' : Option (List ℕ)) (source_rose : Type 0) → Takes left bytes left' → bytes ≡ [] → length text < input_limit → IfSome left' (λ rest. rest ≡ [])
      → acts.ends taker host (length (lines text)) (rest text) status new host' → Stops acts status start begin text new host' left left' source_rose
  end-stops status bytes new host' left left' source_rose takes none room nothing ends = record {
    bytes = [];
    takes = subst (λ (b : List ℕ). Takes left b left') none takes;
    within = omega (arith, length-append text [], room);
    ended = subst (λ (all : List ℕ). Ended acts status start begin all new host' left' source_rose) (sym (append-nil text)) (at_end taker host room nothing has.took ends);
  }

-- the piece ended the run
pub piece-stops : {T H : Type 0} (acts : Acts T H) (start : T) (begin : H) (status : Status) (text bytes : List ℕ) (new : T) (host' : H) (left left' : Option (List ℕ)) (source_rose : Type 0) → Takes left bytes left' → length text + length bytes ≤ input_limit
    → Ended acts status start begin (text ++ bytes) new host' left' ⊥ → Stops acts status start begin text new host' left left' source_rose
piece-stops acts start begin status text bytes new host' left left' source_rose takes within ended = record {
  bytes = bytes;
  takes = takes;
  within = omega (arith, length-append text bytes, within);
  ended = ended-later acts status start begin (text ++ bytes) new host' left' ⊥ source_rose (λ never. absurd never) ended;
}
