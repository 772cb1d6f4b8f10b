-- What `clap` makes of the words of a command line.
use Rattle.std.proofs.Common.{◌≡◌, ◌∙◌, ℕ, true, false, refl, sym, ap, List, [], ◌∷◌, ◌++◌, length, Some, None, Result, IfOk, subst, append-nil, append_assoc, codes}
use Rattle.std.proofs.lemmas.Result.{IfOk-weaker}
use Rattle.std.specs.Prelude.{fold, find}
use Rattle.std.specs.List.{list_any}
use Rattle.std.specs.Str.{bytes_eq}
use Rattle.clap.specs.Lexer.{long_of, short_of, usize_max}
use Rattle.clap.specs.Kinds.{FailsBy, Kinds, or_else, range_kinds, values_kinds}
use Rattle.clap.specs.Walk.{answers_to, Held, Names, Rule, Text, Waiting, Walk, idle, positional, value, plain_word, reading_by, rows_after, subcommand_met, takes_several, walk, walk_from, walked, word_met, nothing_held}
use Rattle.clap.specs.Simple.{App, HasMatchesOf, Shape, built, is_simple, label_of, names_of, new_shape, subcommand_of, subcommand_rows_of}
use Rattle.clap.specs.Faults.{fault_of, is_simple_and_free, level_fault, turn_fault, walk_fault, defaults_fault}
use Rattle.clap.specs.declared.builder.value_parser.ValueParser.TheVariants as vp
use Rattle.clap.specs.declared.parser.matches.ValueSource.TheVariants.{CommandLine}
use Rattle.clap.specs.declared.parser.matches.ArgMatches.{ArgMatches}
use Rattle.clap.specs.declared.error.Error.{Error}
use Rattle.clap.specs.declared.error.kind.ErrorKind.TheVariants as kind
use Rattle.agent_app.specs.Command.{is_option}
use Rattle.agent_app.specs.Forms.{forms, words_rule}
pub use Rattle.std.proofs.lemmas.Bool.{or_parts as or_false}

or_else-nil : (k : Kinds) → or_else k [] ≡ k
or_else-nil [] = refl
or_else-nil (k ∷ ks) = refl

-- ---- a word that begins with no `-`

no_dashes : (w : Text) → is_option w ≡ false → bytes_eq w (45 ∷ 45 ∷ []) ≡ false
no_dashes [] e = refl
no_dashes (x ∷ xs) e = rw e refl

no_long : (w : Text) → is_option w ≡ false → long_of w ≡ None
no_long [] e = refl
no_long (x ∷ xs) e = rw e refl

no_short : (w : Text) → is_option w ≡ false → short_of w ≡ None
no_short [] e = refl
no_short (x ∷ xs) e = rw e refl

met : (c : List Rule) (names : Names) (waiting : Waiting) (position : ℕ) (w : Text) (h : Held) → is_option w ≡ false → subcommand_met names waiting w ≡ None
    → plain_word c waiting w h ≡ (h, value) → word_met c names false waiting position w h ≡ (h, value)
met c names waiting position w h plain none goes = rw (none, no_dashes w plain, no_long w plain, no_short w plain) goes

-- ---- a command with words behind its name

-- the argument as building leaves it
abbrev ready : ℕ → ℕ → Rule
ready least most = record (words_rule least most) { index = Some 1; parser = Some vp.String }

abbrev leaf : Text → List Rule → Shape
leaf name rules = record (new_shape name) { rules = rules; no_binary_name = true; disable_help_flag = true; disable_help_subcommand = true; is_built = true }

module _ (least most : ℕ) (several : takes_several (ready least most) ≡ true) where
  abbrev rules : List Rule
  rules = ready least most ∷ []

  -- the walk behind these words
  abbrev at : List Text → Walk
  at words = record {
    held = record { rows = []; pending = Some (codes "words", words); skip = 0 };
    waiting = positional;
    position = 1;
    is_trailing = false;
    stopped = None;
  }

  first : (w : Text) → is_option w ≡ false → walked rules [] (walk_from nothing_held) w ≡ at (w ∷ [])
  unfolding walked
  first w plain = rw (met rules [] idle 1 w nothing_held plain refl refl, several) refl

  next : (words : List Text) (w : Text) → is_option w ≡ false → walked rules [] (at words) w ≡ at (words ++ w ∷ [])
  unfolding walked
  next words w plain = rw (met rules [] positional 1 w (at words).held plain refl refl, several) refl

  all : (words more : List Text) → list_any is_option more ≡ false → fold (walked rules []) (at words) more ≡ at (words ++ more)
  all words [] plain = ap at (sym (append-nil words))
  all words (w ∷ more) plain =
      let each = or_false (is_option w) (list_any is_option more) plain in
      rw (next words w each.0) (all (words ++ w ∷ []) more each.1 ∙ ap at (append_assoc words (w ∷ []) more))

  walked_all : (w : Text) (more : List Text) → list_any is_option (w ∷ more) ≡ false → walk rules [] nothing_held (w ∷ more) ≡ at (w ∷ more)
  walked_all w more plain =
      let each = or_false (is_option w) (list_any is_option more) plain in
      rw (first w each.0) (all (w ∷ []) more each.1)

  module _ (name : Text) where
    turn : (words : List Text) (w : Text) → is_option w ≡ false → turn_fault (leaf name rules) [] (at words) w ≡ []
    turn words w plain = rw (met rules [] positional 1 w (at words).held plain refl refl, no_dashes w plain, no_long w plain, no_short w plain, several) refl

    first_turn : (w : Text) → is_option w ≡ false → turn_fault (leaf name rules) [] (walk_from nothing_held) w ≡ []
    first_turn w plain = rw (met rules [] idle 1 w nothing_held plain refl refl, no_dashes w plain, no_long w plain, no_short w plain) refl

    turns : (words more : List Text) → list_any is_option more ≡ false → walk_fault (leaf name rules) [] (at words) more ≡ []
    unfolding walk_fault
    turns words [] plain = refl
    turns words (w ∷ more) plain =
        let each = or_false (is_option w) (list_any is_option more) plain in
        rw (turn words w each.0, next words w each.0) (turns (words ++ w ∷ []) more each.1)

    all_turns : (w : Text) (more : List Text) → list_any is_option (w ∷ more) ≡ false → walk_fault (leaf name rules) [] (walk_from nothing_held) (w ∷ more) ≡ []
    unfolding walk_fault
    all_turns w more plain =
        let each = or_false (is_option w) (list_any is_option more) plain in
        rw (first_turn w each.0, first w each.0) (turns (w ∷ []) more each.1)

    values : (words : List Text) → values_kinds false vp.String words ≡ []
    values [] = refl
    values (w ∷ words) = values words

    pub leaf_fault : (w : Text) (more : List Text) → list_any is_option (w ∷ more) ≡ false
        → level_fault (leaf name rules) [] nothing_held (w ∷ more) false [] ≡ range_kinds least most (length (w ∷ more))
    unfolding defaults_fault
    leaf_fault w more plain =
        rw (all_turns w more plain, walked_all w more plain, values (w ∷ more)) (or_else-nil _ ∙ or_else-nil _)

    pub leaf_missing : level_fault (leaf name rules) [] nothing_held [] false [] ≡ kind.MissingRequiredArgument ∷ []
    unfolding walk_fault defaults_fault
    leaf_missing = refl

  pub leaf_rows : (w : Text) (more : List Text) → list_any is_option (w ∷ more) ≡ false → rows_after rules [] (w ∷ more) ≡ record {
    id = codes "words";
    values = w ∷ more;
    count = None;
    source = Some CommandLine;
    reading = reading_by (ready least most);
  } ∷ []
  leaf_rows w more plain = rw (walked_all w more plain) refl

-- ---- a command without words

module _ (name : Text) where
  pub alone_fault : level_fault (leaf name []) [] nothing_held [] false [] ≡ []
  unfolding walk_fault defaults_fault
  alone_fault = refl

  pub stray_word : (w : Text) (more : List Text) → is_option w ≡ false → level_fault (leaf name []) [] nothing_held (w ∷ more) false [] ≡ kind.UnknownArgument ∷ []
  unfolding walk_fault
  stray_word w more plain = rw (met [] [] idle 1 w nothing_held plain refl refl, no_dashes w plain, no_long w plain, no_short w plain) refl

-- ---- the program's own walk

abbrev names : Names
names = names_of (built forms)

abbrev top : Shape
top = (built forms).top

abbrev stopped_at : Text → List Text → Walk
stopped_at name words = record (walk_from nothing_held) { stopped = Some (name, words) }

stops : (name : Text) (words more : List Text) → fold (walked [] names) (stopped_at name words) more ≡ stopped_at name (words ++ more)
unfolding walked
stops name words [] = ap (stopped_at name) (sym (append-nil words))
stops name words (w ∷ more) = stops name (words ++ w ∷ []) more ∙ ap (stopped_at name) (append_assoc words (w ∷ []) more)

no_turns : (name : Text) (words more : List Text) → walk_fault top names (stopped_at name words) more ≡ []
unfolding walked walk_fault
no_turns name words [] = refl
no_turns name words (w ∷ more) = no_turns name (words ++ w ∷ []) more

module _ (name : Text) (s : Shape) (found : find (λ sub. answers_to name (label_of sub)) (built forms).subs ≡ Some s) (more : List Text)
    (first : walked [] names (walk_from nothing_held) name ≡ stopped_at name []) (turned : turn_fault top names (walk_from nothing_held) name ≡ []) where
  walked_to : walk [] names nothing_held (name ∷ more) ≡ stopped_at name more
  walked_to = rw first (stops name [] more)

  turns_to : walk_fault top names (walk_from nothing_held) (name ∷ more) ≡ []
  unfolding walk_fault
  turns_to = rw (turned, first) (no_turns name [] more)

  pub entered_by : fault_of forms (name ∷ more) ≡ level_fault s [] nothing_held more false []
  unfolding defaults_fault
  entered_by = rw (turns_to, walked_to, found) (or_else-nil _)

  pub rows_by : subcommand_of forms (name ∷ more) ≡ Some (s.name, rows_after s.rules [] more)
  rows_by = rw (walked_to, found) refl

abbrev collect : Shape
collect = leaf (codes "collect") (ready 3 usize_max ∷ [])

abbrev convert : Shape
convert = leaf (codes "convert") []

abbrev health : Shape
health = leaf (codes "health") []

abbrev log : Shape
log = leaf (codes "log") (ready 1 usize_max ∷ [])

abbrev new : Shape
new = leaf (codes "new") (ready 1 7 ∷ [])

abbrev query : Shape
query = leaf (codes "query") (ready 5 usize_max ∷ [])

abbrev receive : Shape
receive = leaf (codes "receive") (ready 1 usize_max ∷ [])

abbrev run : Shape
run = leaf (codes "run") []

abbrev send : Shape
send = leaf (codes "send") (ready 1 usize_max ∷ [])

pub collect_fault : (more : List Text) → fault_of forms (codes "collect" ∷ more) ≡ level_fault collect [] nothing_held more false []
unfolding walked
collect_fault more = entered_by (codes "collect") collect refl more refl refl

pub convert_fault : (more : List Text) → fault_of forms (codes "convert" ∷ more) ≡ level_fault convert [] nothing_held more false []
unfolding walked
convert_fault more = entered_by (codes "convert") convert refl more refl refl

pub health_fault : (more : List Text) → fault_of forms (codes "health" ∷ more) ≡ level_fault health [] nothing_held more false []
unfolding walked
health_fault more = entered_by (codes "health") health refl more refl refl

pub log_fault : (more : List Text) → fault_of forms (codes "log" ∷ more) ≡ level_fault log [] nothing_held more false []
unfolding walked
log_fault more = entered_by (codes "log") log refl more refl refl

pub new_fault : (more : List Text) → fault_of forms (codes "new" ∷ more) ≡ level_fault new [] nothing_held more false []
unfolding walked
new_fault more = entered_by (codes "new") new refl more refl refl

pub query_fault : (more : List Text) → fault_of forms (codes "query" ∷ more) ≡ level_fault query [] nothing_held more false []
unfolding walked
query_fault more = entered_by (codes "query") query refl more refl refl

pub receive_fault : (more : List Text) → fault_of forms (codes "receive" ∷ more) ≡ level_fault receive [] nothing_held more false []
unfolding walked
receive_fault more = entered_by (codes "receive") receive refl more refl refl

pub run_fault : (more : List Text) → fault_of forms (codes "run" ∷ more) ≡ level_fault run [] nothing_held more false []
unfolding walked
run_fault more = entered_by (codes "run") run refl more refl refl

pub send_fault : (more : List Text) → fault_of forms (codes "send" ∷ more) ≡ level_fault send [] nothing_held more false []
unfolding walked
send_fault more = entered_by (codes "send") send refl more refl refl

pub collect_rows : (more : List Text) → subcommand_of forms (codes "collect" ∷ more) ≡ Some (codes "collect", rows_after collect.rules [] more)
unfolding walked
collect_rows more = rows_by (codes "collect") collect refl more refl refl

pub convert_rows : (more : List Text) → subcommand_of forms (codes "convert" ∷ more) ≡ Some (codes "convert", rows_after convert.rules [] more)
unfolding walked
convert_rows more = rows_by (codes "convert") convert refl more refl refl

pub health_rows : (more : List Text) → subcommand_of forms (codes "health" ∷ more) ≡ Some (codes "health", rows_after health.rules [] more)
unfolding walked
health_rows more = rows_by (codes "health") health refl more refl refl

pub log_rows : (more : List Text) → subcommand_of forms (codes "log" ∷ more) ≡ Some (codes "log", rows_after log.rules [] more)
unfolding walked
log_rows more = rows_by (codes "log") log refl more refl refl

pub new_rows : (more : List Text) → subcommand_of forms (codes "new" ∷ more) ≡ Some (codes "new", rows_after new.rules [] more)
unfolding walked
new_rows more = rows_by (codes "new") new refl more refl refl

pub query_rows : (more : List Text) → subcommand_of forms (codes "query" ∷ more) ≡ Some (codes "query", rows_after query.rules [] more)
unfolding walked
query_rows more = rows_by (codes "query") query refl more refl refl

pub receive_rows : (more : List Text) → subcommand_of forms (codes "receive" ∷ more) ≡ Some (codes "receive", rows_after receive.rules [] more)
unfolding walked
receive_rows more = rows_by (codes "receive") receive refl more refl refl

pub run_rows : (more : List Text) → subcommand_of forms (codes "run" ∷ more) ≡ Some (codes "run", rows_after run.rules [] more)
unfolding walked
run_rows more = rows_by (codes "run") run refl more refl refl

pub send_rows : (more : List Text) → subcommand_of forms (codes "send" ∷ more) ≡ Some (codes "send", rows_after send.rules [] more)
unfolding walked
send_rows more = rows_by (codes "send") send refl more refl refl

pub unknown_fault : (w : Text) (more : List Text) → is_option w ≡ false
    → bytes_eq (codes "collect") w ≡ false → bytes_eq (codes "convert") w ≡ false → bytes_eq (codes "health") w ≡ false → bytes_eq (codes "log") w ≡ false → bytes_eq (codes "new") w ≡ false
    → bytes_eq (codes "query") w ≡ false → bytes_eq (codes "receive") w ≡ false → bytes_eq (codes "run") w ≡ false → bytes_eq (codes "send") w ≡ false
    → fault_of forms (w ∷ more) ≡ kind.UnknownArgument ∷ kind.InvalidSubcommand ∷ []
unfolding walk_fault
unknown_fault w more plain a b c d e f g h i =
    let none : subcommand_met names idle w ≡ None = rw (a, b, c, d, e, f, g, h, i) refl in
    rw (met [] names idle 1 w nothing_held plain none refl, none, no_dashes w plain, no_long w plain, no_short w plain) refl

pub empty_fault : fault_of forms [] ≡ kind.MissingSubcommand ∷ []
unfolding walk_fault defaults_fault
empty_fault = refl

-- ---- what a parse of the program says

module _ (a : App) (same : a ≡ forms) (words : List Text) (r : Result ArgMatches Error) where
  pub fails_as_forms : (is_simple_and_free a ≡ true → FailsBy (fault_of a words) r) → FailsBy (fault_of forms words) r
  fails_as_forms h =
      let simple : is_simple_and_free a ≡ true = ap is_simple_and_free same in
      subst (λ (b : App). FailsBy (fault_of b words) r) same (h simple)

  pub matches_as_forms : IfOk r (HasMatchesOf a words) → IfOk r (λ m. subcommand_rows_of m ≡ subcommand_of forms words)
  matches_as_forms =
      let simple : is_simple a ≡ true = ap is_simple same in
      IfOk-weaker r _ _ (λ m h. (h simple).1 ∙ ap (λ (b : App). subcommand_of b words) same)
