-- The reading of a text, line by line, whatever its rules are.
use Rattle.std.proofs.Common.{◌≡◌, ℕ, ◌+◌, ◌-◌, ◌<◌, ◌≤◌, Bool, true, false, not, nat_lt, List, [], ◌∷◌, ◌++◌, length, take, Result, Ok, Err, refl, sym, ap, subst, ◌∙◌, append_assoc, append-nil, length-append, arith, if◌then◌else◌}
use Rattle.std.proofs.lemmas.List.{take_all, take-append-le}
use Rattle.std.proofs.lemmas.Bool.Decides.{nat_tests}
use Rattle.std.proofs.Math.Seq.{take-append-add}
use Rattle.plugin_text.specs.Lines.{parts, but_last, lines, rest, fits}
use Rattle.plugin_text.proofs.LongLemmas.{fits-append}
use Rattle.plugin_text.proofs.PartsLemmas.{but_last-append, parts_first, parts_whole, parts-append, parts-append_parts}
use Rattle.agent_app.specs.Reading.{Ending, GoesOn, Ends, RefusedAt, HasRead, Reading, Rules, lines_read, over_after, reading, reading_line, reading_of, reads_on, refused_at}

-- a line of a text is one however the text goes on
pub record LineIn (text : List ℕ) (prefix : List (List ℕ)) (line : List ℕ) : Type 0 where
  pub next : List ℕ
  pub more : List (List ℕ)
  pub whole : parts text ≡ prefix ++ line ∷ next ∷ more

pub line-onward : (text : List ℕ) (prefix : List (List ℕ)) (line next : List ℕ) (more : List (List ℕ)) → parts text ≡ prefix ++ line ∷ next ∷ more → (behind : List ℕ) → LineIn (text ++ behind) prefix line
line-onward text prefix line next more whole behind =
    let these : lines text ≡ prefix ++ line ∷ but_last (next ∷ more) = ap but_last whole ∙ but_last-append prefix line (next ∷ more) in
    let ahead = parts_first (rest text ++ behind) in
    let all : parts (text ++ behind) ≡ prefix ++ line ∷ (but_last (next ∷ more) ++ ahead.0 ∷ ahead.1) =
    parts-append text behind ∙ ap (λ (l : List (List ℕ)). l ++ parts (rest text ++ behind)) these ∙ append_assoc prefix (line ∷ but_last (next ∷ more)) (parts (rest text ++ behind))
    ∙ ap (λ (l : List (List ℕ)). prefix ++ line ∷ (but_last (next ∷ more) ++ l)) ahead.2 in
    by (but_last (next ∷ more)) (text ++ behind) prefix line ahead.0 ahead.1 all
  where
    by : (between : List (List ℕ)) (text' : List ℕ) (prefix' : List (List ℕ)) (line' first : List ℕ) (others : List (List ℕ)) → parts text' ≡ prefix' ++ line' ∷ (between ++ first ∷ others) → LineIn text' prefix' line'
    by [] text' prefix' line' first others is = record { next = first; more = others; whole = is }
    by (x ∷ between) text' prefix' line' first others is = record { next = x; more = between ++ first ∷ others; whole = is }

-- what is taken past the end of a text comes from what follows it
pub take-append_past : (limit : ℕ) (text more : List ℕ) → length text ≤ limit → take limit (text ++ more) ≡ text ++ take (limit - length text) more
take-append_past limit text more within =
    let whole : length text + (limit - length text) ≡ limit = omega arith in
    subst (λ (n : ℕ). take n (text ++ more) ≡ text ++ take (limit - length text) more) whole (take-append-add text more (limit - length text))

module _ {Line Refusal : Type 0} (rules : Rules Line Refusal) where
  -- how the reading of the bytes ends that a run takes of a text
  unfoldable pub ending_within : ℕ → List ℕ → Ending Refusal
  ending_within limit text = (reading_of rules (nat_lt (length text) limit) (take limit text)).ending

  -- one that ends at the end of the text
  pub within-ended : (limit : ℕ) (text : List ℕ) (whole : Reading Refusal) → reading_of rules true text ≡ whole → length text < limit → ending_within limit text ≡ whole.ending
  unfolding ending_within
  within-ended limit text whole is within =
      let ended : nat_lt (length text) limit ≡ true = grind (arith, nat_tests) in
      ap (λ (b : Bool). (reading_of rules b (take limit text)).ending) ended ∙ ap (λ (t : List ℕ). (reading_of rules true t).ending) (take_all limit text (omega arith))
      ∙ ap (λ (r : Reading Refusal). r.ending) is

  -- and one of a text that fills the limit
  pub within-limit : (limit : ℕ) (text said more : List ℕ) → reading_of rules false text ≡ record { told = said; ending = GoesOn } → length text ≡ limit → ending_within limit (text ++ more) ≡ GoesOn
  unfolding ending_within
  within-limit limit text said more whole full =
      let longer : limit ≤ length (text ++ more) = omega (arith, length-append text more) in
      let open_end : nat_lt (length (text ++ more)) limit ≡ false = grind (arith, nat_tests) in
      ap (λ (b : Bool). (reading_of rules b (take limit (text ++ more))).ending) open_end
      ∙ ap (λ (t : List ℕ). (reading_of rules false t).ending) (take-append-le limit text more (omega arith) ∙ take_all limit text (omega arith)) ∙ ap (λ (r : Reading Refusal). r.ending) whole

  -- nothing was read
  pub read-start : HasRead rules [] [] []
  read-start = record { count = refl; onward = λ ended next more. refl; says = λ next more. refl }

  -- what a line comes to that is read, and does not end the text
  line-reads : (past : List Line) (line : List ℕ) (said : Line) → fits line ≡ true → rules.lines.judge past line ≡ Ok said → rules.lines.ends_text said ≡ false → (ended : Bool) (next : List ℕ) (more : List (List ℕ))
      → reading rules ended past (line ∷ next ∷ more) ≡ reads_on (rules.tell past said) (reading rules ended (said ∷ past) (next ∷ more))
  line-reads past line said short judged goes_on ended next more = rw (short, judged, goes_on) refl

  line-says : (past : List Line) (line : List ℕ) (said : Line) → fits line ≡ true → rules.lines.judge past line ≡ Ok said → rules.lines.ends_text said ≡ false → (next : List ℕ) (more : List (List ℕ))
      → lines_read rules.lines past (line ∷ next ∷ more) ≡ lines_read rules.lines (said ∷ past) (next ∷ more)
  line-says past line said short judged goes_on next more = rw (short, judged, goes_on) refl

  reads_on-twice : (first second : List ℕ) (r : Reading Refusal) → reads_on first (reads_on second r) ≡ reads_on (first ++ second) r
  reads_on-twice first second r = ap (λ (bytes : List ℕ). record { told = bytes; ending = r.ending }) (sym (append_assoc first second r.told))

  -- ---- a reading that is over, however the text goes on
  long-reads : (past : List Line) (long : List ℕ) (more : List (List ℕ)) (ended : Bool) → fits long ≡ false → reading rules ended past (long ∷ more) ≡ record { told = []; ending = RefusedAt (length past + 1) rules.too_long }
  long-reads past long [] ended over = rw over refl
  long-reads past long (next ∷ more) ended over = rw over refl

  module _ (ended : Bool) (ending : Ending Refusal) (over : ending ≡ GoesOn → ⊥) where
    rest-over : (past : List Line) (r first : List ℕ) (following : List (List ℕ)) (b : Bool) → fits r ≡ b
        → (if not b then refused_at (length past + 1) rules.too_long else record { told = []; ending = GoesOn }).ending ≡ ending
        → (reading rules ended past ((r ++ first) ∷ following)).ending ≡ ending
    rest-over past r first following true fit is = absurd (over (sym is))
    rest-over past r first following false fit is = ap (λ (s : Reading Refusal). s.ending) (long-reads past (r ++ first) following ended (fits-append r first fit)) ∙ is

    said-over : (past : List Line) (said : Line) (d : Bool) (one other : Reading Refusal) → (one.ending ≡ ending → other.ending ≡ ending)
        → (if d then over_after rules past else reads_on (rules.tell past said) one).ending ≡ ending → (if d then over_after rules past else reads_on (rules.tell past said) other).ending ≡ ending
    said-over past said true one other on is = is
    said-over past said false one other on is = on is

    line-over : (past : List Line) (b : Bool) (judged : Result Line Refusal) (one other : Line → Reading Refusal) → ((said : Line) → (one said).ending ≡ ending → (other said).ending ≡ ending)
        → (if not b then refused_at (length past + 1) rules.too_long else reading_line rules past judged one).ending ≡ ending
        → (if not b then refused_at (length past + 1) rules.too_long else reading_line rules past judged other).ending ≡ ending
    line-over past false judged one other on is = is
    line-over past true (Err why) one other on is = is
    line-over past true (Ok said) one other on is = said-over past said (rules.lines.ends_text said) (one said) (other said) (on said) is

    lines-over : (xs : List (List ℕ)) (past : List Line) (r first : List ℕ) (following : List (List ℕ)) → (reading rules false past (xs ++ r ∷ [])).ending ≡ ending
        → (reading rules ended past (xs ++ (r ++ first) ∷ following)).ending ≡ ending
    lines-over [] past r first following is = rest-over past r first following (fits r) refl is
    lines-over (x ∷ []) past r first following is =
        line-over past (fits x) (rules.lines.judge past x) (λ said. reading rules false (said ∷ past) (r ∷ [])) (λ said. reading rules ended (said ∷ past) ((r ++ first) ∷ following))
        (λ said one. rest-over (said ∷ past) r first following (fits r) refl one) is
    lines-over (x ∷ y ∷ xs) past r first following is =
        line-over past (fits x) (rules.lines.judge past x) (λ said. reading rules false (said ∷ past) (y ∷ (xs ++ r ∷ []))) (λ said. reading rules ended (said ∷ past) (y ∷ (xs ++ (r ++ first) ∷ following)))
        (λ said one. lines-over (y ∷ xs) (said ∷ past) r first following one) is

    pub ending-onward : (text more : List ℕ) → (reading_of rules false text).ending ≡ ending → (reading_of rules ended (text ++ more)).ending ≡ ending
    ending-onward text more is =
        let some = parts_first more in
        ap (λ (ps : List (List ℕ)). (reading rules ended [] ps).ending) (parts-append_parts text more some.0 some.1 some.2)
        ∙ lines-over (lines text) [] (rest text) some.0 some.1 (ap (λ (ps : List (List ℕ)). (reading rules false [] ps).ending) (sym (parts_whole text)) ∙ is)

  module _ (prefix : List (List ℕ)) (past : List Line) (made : List ℕ) (has : HasRead rules prefix past made) where
    -- one line more was read
    pub read-next : (line : List ℕ) (said : Line) → fits line ≡ true → rules.lines.judge past line ≡ Ok said → rules.lines.ends_text said ≡ false → HasRead rules (prefix ++ line ∷ []) (said ∷ past) (made ++ rules.tell past said)
    read-next line said short judged goes_on = record {
      count = omega (arith, has.count, length-append prefix (line ∷ []));
      onward = λ ended next more.
          ap (reading rules ended []) (append_assoc prefix (line ∷ []) (next ∷ more)) ∙ has.onward ended line (next ∷ more)
          ∙ ap (reads_on made) (line-reads past line said short judged goes_on ended next more) ∙ reads_on-twice made (rules.tell past said) (reading rules ended (said ∷ past) (next ∷ more));
      says = λ next more.
          ap (lines_read rules.lines []) (append_assoc prefix (line ∷ []) (next ∷ more)) ∙ has.says line (next ∷ more) ∙ line-says past line said short judged goes_on next more;
    }

    -- the next line is refused
    pub read-refused : (text : List ℕ) (line next : List ℕ) (more : List (List ℕ)) (why : Refusal) (ended : Bool) → parts text ≡ prefix ++ line ∷ next ∷ more → fits line ≡ true → rules.lines.judge past line ≡ Err why
        → reading_of rules ended text ≡ record { told = made; ending = RefusedAt (length prefix + 1) why }
    read-refused text line next more why ended whole short judged =
        ap (reading rules ended []) whole ∙ has.onward ended line (next ∷ more) ∙ rw (short, judged, append-nil made, has.count) refl

    pub says-refused : (text : List ℕ) (line next : List ℕ) (more : List (List ℕ)) (why : Refusal) → parts text ≡ prefix ++ line ∷ next ∷ more → fits line ≡ true → rules.lines.judge past line ≡ Err why → lines_read rules.lines [] (parts text) ≡ past
    says-refused text line next more why whole short judged = ap (lines_read rules.lines []) whole ∙ has.says line (next ∷ more) ∙ rw (short, judged) refl

    -- the next line ends the text
    pub read-over : (text : List ℕ) (line next : List ℕ) (more : List (List ℕ)) (said : Line) (ended : Bool) → parts text ≡ prefix ++ line ∷ next ∷ more → fits line ≡ true → rules.lines.judge past line ≡ Ok said → rules.lines.ends_text said ≡ true
        → reading_of rules ended text ≡ record { told = made ++ rules.tell_end past; ending = Ends }
    read-over text line next more said ended whole short judged ends =
        ap (reading rules ended []) whole ∙ has.onward ended line (next ∷ more) ∙ rw (short, judged, ends) refl

    pub says-over : (text : List ℕ) (line next : List ℕ) (more : List (List ℕ)) (said : Line) → parts text ≡ prefix ++ line ∷ next ∷ more → fits line ≡ true → rules.lines.judge past line ≡ Ok said → rules.lines.ends_text said ≡ true → lines_read rules.lines [] (parts text) ≡ past
    says-over text line next more said whole short judged ends = ap (lines_read rules.lines []) whole ∙ has.says line (next ∷ more) ∙ rw (short, judged, ends) refl

    -- what follows the lines is too long
    long-says : (long : List ℕ) (more : List (List ℕ)) → fits long ≡ false → lines_read rules.lines past (long ∷ more) ≡ past
    long-says long [] over = refl
    long-says long (next ∷ more) over = rw over refl

    pub read-long : (text : List ℕ) (long : List ℕ) (more : List (List ℕ)) (ended : Bool) → parts text ≡ prefix ++ long ∷ more → fits long ≡ false → reading_of rules ended text ≡ record { told = made; ending = RefusedAt (length prefix + 1) rules.too_long }
    read-long text long more ended whole over =
        ap (reading rules ended []) whole ∙ has.onward ended long more ∙ ap (reads_on made) (long-reads past long more ended over) ∙ rw (append-nil made, has.count) refl

    pub says-long : (text : List ℕ) (long : List ℕ) (more : List (List ℕ)) → parts text ≡ prefix ++ long ∷ more → fits long ≡ false → lines_read rules.lines [] (parts text) ≡ past
    says-long text long more whole over = ap (lines_read rules.lines []) whole ∙ has.says long more ∙ long-says long more over

    pub over-onward : (text : List ℕ) (line next : List ℕ) (more : List (List ℕ)) (said : Line) → parts text ≡ prefix ++ line ∷ next ∷ more → fits line ≡ true → rules.lines.judge past line ≡ Ok said → rules.lines.ends_text said ≡ true
        → (ended : Bool) (behind : List ℕ) → reading_of rules ended (text ++ behind) ≡ record { told = made ++ rules.tell_end past; ending = Ends }
    over-onward text line next more said whole short judged ends ended behind =
        let on = line-onward text prefix line next more whole behind in
        read-over (text ++ behind) line on.next on.more said ended on.whole short judged ends

    -- all lines of the text were read
    module _ (text : List ℕ) (all : prefix ≡ lines text) where
      whole-is : parts text ≡ prefix ++ rest text ∷ []
      whole-is = parts_whole text ∙ ap (λ (l : List (List ℕ)). l ++ rest text ∷ []) (sym all)

      pub says-all : lines_read rules.lines [] (parts text) ≡ past
      says-all = ap (lines_read rules.lines []) whole-is ∙ has.says (rest text) []

      -- the text may go on
      pub read-open : fits (rest text) ≡ true → reading_of rules false text ≡ record { told = made; ending = GoesOn }
      read-open short = ap (reading rules false []) whole-is ∙ has.onward false (rest text) [] ∙ rw (short, append-nil made) refl

      -- the text ends
      pub read-unfinished : fits (rest text) ≡ true → rules.is_unfinished past (rest text) ≡ true → reading_of rules true text ≡ record { told = made; ending = RefusedAt (length prefix) rules.unfinished }
      read-unfinished short unfinished = ap (reading rules true []) whole-is ∙ has.onward true (rest text) [] ∙ rw (short, unfinished, append-nil made, has.count) refl

      pub read-ended : fits (rest text) ≡ true → rules.is_unfinished past (rest text) ≡ false → reading_of rules true text ≡ record { told = made ++ rules.tell_end past; ending = Ends }
      read-ended short finished = ap (reading rules true []) whole-is ∙ has.onward true (rest text) [] ∙ rw (short, finished) refl
