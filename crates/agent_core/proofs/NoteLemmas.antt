-- What the notes of kept beats leave as they are replayed, of whatever history they are.
use Rattle.std.proofs.Common.{◌≡◌, ℕ, Bool, true, false, ◌&&◌, List, [], ◌∷◌, Option, Some, None, Ok, refl, sym, ap, ◌∙◌, true≢false, if◌then◌else◌}
use Rattle.std.specs.Option.{is_some, option_map, option_map_or}
use Rattle.host_model.specs.declared.file.File.{File}
use Rattle.checkpoint_body.specs.declared.body.Body.{Body}
use Rattle.entry_codec.specs.declared.entry.Entry.{Entry}
use Rattle.entry_codec.specs.Entries.{read_entry}
use Rattle.chart_registry.proofs.Steps.{number-yes}
use Rattle.store_core.specs.declared.beats.beat.Beat.{Beat as StoreBeat}
use Rattle.store_core.specs.beats.Records.{with_all}
use Rattle.store_core.specs.Damaged.{HasForm}
use Rattle.store_core.specs.Stands.{is_made}
use Rattle.store_core.specs.Store.{IsReplayed, StoreState}
use Rattle.store_core.proofs.DamageLemmas.{one-form}
use Rattle.store_core.proofs.StandLemmas.{is-made}
use Rattle.agent_core.specs.declared.left.Left.{Left}
use Rattle.agent_core.specs.Notes.{beats_go_on, entry_at, entry_goes_on, entry_in, left_after, left_by, moment_of, names_series, noted_in, noted_in_side, notes_go_on, same_moment, takes_note, with_entry, with_note, NotesGo, Noted}
use Rattle.agent_core.specs.Replay.{HasTaken}

-- ---- the entry of a note
same-itself : (moment : Option ℕ) → same_moment moment moment ≡ true
same-itself None = refl
same-itself (Some moment) = number-yes moment moment (Some moment) refl refl

-- what is read is the entry, where it is of a beat at this moment
pub found-in : (kept : StoreBeat) (found : Entry) → read_entry kept.note ≡ Ok found → kept.moment ≡ moment_of found → entry_in kept ≡ Some found
found-in kept found reads at =
    ap (entry_at kept.moment) reads ∙ ap (λ (moment : Option ℕ). if same_moment (moment_of found) moment then Some found else None) at
    ∙ ap (λ (b : Bool). if b then Some found else None) (same-itself (moment_of found))

-- a beat is not taken whose entry does not go on
never-goes : (left : Noted) (kept : StoreBeat) → option_map_or (entry_goes_on left) (entry_in kept) false ≡ false → takes_note left kept ≡ false
never-goes left kept stops = ap (λ (b : Bool). b && names_series (with_note left kept).registry kept.points) stops

-- nor one that has no such entry
pub no-note : (left : Noted) (kept : StoreBeat) → entry_in kept ≡ None → takes_note left kept ≡ false
no-note left kept none = never-goes left kept (ap (λ (o : Option Entry). option_map_or (entry_goes_on left) o false) none)

module _ (left : Noted) (kept : StoreBeat) (found : Entry) (has : entry_in kept ≡ Some found) where
  -- the note of an entry goes on just as the entry does
  goes-as : (goes : Bool) → entry_goes_on left found ≡ goes → option_map_or (entry_goes_on left) (entry_in kept) false ≡ goes
  goes-as goes e = ap (λ (o : Option Entry). option_map_or (entry_goes_on left) o false) has ∙ e

  pub note-stops : entry_goes_on left found ≡ false → takes_note left kept ≡ false
  note-stops e = never-goes left kept (goes-as false e)

  pub note-left : (left' : Noted) → left' ≡ with_entry left found → left' ≡ with_note left kept
  note-left left' e = e ∙ sym (ap (λ (o : Option Entry). option_map_or (with_entry left) o left) has)

  -- where it goes on, the beat is taken just where its points are of series that are there then
  pub note-takes : (named : Bool) (left' : Noted) → entry_goes_on left found ≡ true → left' ≡ with_entry left found → names_series left'.registry kept.points ≡ named → takes_note left kept ≡ named
  note-takes named left' goes made e =
      ap (λ (b : Bool). b && names_series (with_note left kept).registry kept.points) (goes-as true goes)
      ∙ ap (λ (l : Noted). names_series l.registry kept.points) (sym (note-left left' made)) ∙ e

-- ---- the beats

module _ (start : Noted) where
  -- where a note does not go on, those that come later do not mend it
  never : (beats rest : List StoreBeat) → beats_go_on start beats ≡ false → beats_go_on start (with_all beats rest) ≡ false
  unfolding beats_go_on
  never beats [] e = e
  never beats (next ∷ rest) e = never (next ∷ beats) rest (ap (λ (b : Bool). b && takes_note (left_after start beats) next) e)

  pub go-on-more : (left : Noted) (beats : List StoreBeat) (kept : StoreBeat) (goes : Bool) → beats_go_on start beats ≡ true → left ≡ left_after start beats → takes_note left kept ≡ goes → beats_go_on start (kept ∷ beats) ≡ goes
  unfolding beats_go_on
  go-on-more left beats kept goes before is e =
      ap (λ (b : Bool). b && takes_note (left_after start beats) kept) before ∙ ap (λ (l : Noted). takes_note l kept) (sym is) ∙ e

  pub left-more : (left left' : Noted) (beats : List StoreBeat) (kept : StoreBeat) → left ≡ left_after start beats → left' ≡ with_note left kept → left' ≡ left_after start (kept ∷ beats)
  unfolding left_after
  left-more left left' beats kept is e = e ∙ ap (λ (l : Noted). with_note l kept) is

  pub left-none : left_after start [] ≡ start
  unfolding left_after
  left-none = refl

  pub go-on-none : beats_go_on start [] ≡ true
  unfolding beats_go_on
  go-on-none = refl

  -- ---- a store that replays

  pub taken-begins : (store : StoreState) (left : Left) → noted_in left ≡ start → HasTaken start store.waiting store left
  taken-begins store left is = record { applied = []; whole = refl; go_on = go-on-none; left_is = is ∙ sym left-none }

  module _ (beats : List StoreBeat) (store store' : StoreState) (left : Left) (was : HasTaken start beats store left) where
    module _ (kept : StoreBeat) (takes : store.waiting ≡ kept ∷ store'.waiting) where
      with-more : with_all (kept ∷ was.applied) store'.waiting ≡ with_all [] beats
      with-more = sym (ap (λ (rest : List StoreBeat). with_all was.applied rest) takes) ∙ was.whole

      pub taken-more : (left' : Left) → noted_in left' ≡ with_note (noted_in left) kept → takes_note (noted_in left) kept ≡ true → HasTaken start beats store' left'
      taken-more left' made goes = record {
        applied = kept ∷ was.applied;
        whole = with-more;
        go_on = go-on-more (noted_in left) was.applied kept true was.go_on was.left_is goes;
        left_is = left-more (noted_in left) (noted_in left') was.applied kept was.left_is made;
      }

      pub taken-broken : takes_note (noted_in left) kept ≡ false → beats_go_on start (with_all [] beats) ≡ false
      taken-broken stops =
          ap (λ (all : List StoreBeat). beats_go_on start all) (sym with-more)
          ∙ never (kept ∷ was.applied) store'.waiting (go-on-more (noted_in left) was.applied kept false was.go_on was.left_is stops)

    -- there was none
    pub taken-same : (store.waiting ≡ []) × (store'.waiting ≡ []) → HasTaken start beats store' left
    taken-same none = record {
      applied = was.applied;
      whole = ap (λ (rest : List StoreBeat). with_all was.applied rest) (none.1 ∙ sym none.0) ∙ was.whole;
      go_on = was.go_on;
      left_is = was.left_is;
    }

  module _ (beats : List StoreBeat) (store : StoreState) (left : Left) (was : HasTaken start beats store left) (done : IsReplayed store) where
    all-applied : was.applied ≡ with_all [] beats
    all-applied = sym (ap (λ (rest : List StoreBeat). with_all was.applied rest) done) ∙ was.whole

    -- at the end all notes have gone on
    pub taken-all : beats_go_on start (with_all [] beats) ≡ true
    taken-all = ap (λ (all : List StoreBeat). beats_go_on start all) (sym all-applied) ∙ was.go_on

    -- and this is what they leave
    pub taken-left : noted_in left ≡ left_after start (with_all [] beats)
    taken-left = was.left_is ∙ ap (λ (all : List StoreBeat). left_after start all) all-applied

-- ---- a side, and the beats since

-- where the side is good, the notes go on just as the beats since do
pub goes-by : (start : Noted) (side : List ℕ) (beats : List StoreBeat) (goes : Bool) → noted_in_side side ≡ Some start → beats_go_on start (with_all [] beats) ≡ goes → notes_go_on side beats ≡ goes
goes-by start side beats goes good e = ap (λ (o : Option Noted). option_map_or (λ (s : Noted). beats_go_on s (with_all [] beats)) o false) good ∙ e

-- and they leave what those leave
pub left-is : (start left : Noted) (side : List ℕ) (beats : List StoreBeat) → noted_in_side side ≡ Some start → left ≡ left_after start (with_all [] beats) → left_by side beats ≡ Some left
left-is start left side beats good e =
    ap (λ (o : Option Noted). option_map (λ (s : Noted). left_after s (with_all [] beats)) o) good ∙ ap (λ (l : Noted). Some l) (sym e)

-- and else they do not go on
pub never-good : (side : List ℕ) (beats : List StoreBeat) → noted_in_side side ≡ None → notes_go_on side beats ≡ false
never-good side beats bad = ap (λ (o : Option Noted). option_map_or (λ (s : Noted). beats_go_on s (with_all [] beats)) o false) bad

-- ---- a disk

-- a disk has one form at most
pub notes-once : (disk : File → List ℕ) → NotesGo true disk → NotesGo false disk → ⊥
notes-once disk go stop =
    let one = one-form go.body stop.body go.beats stop.beats disk go.form stop.form in
    true≢false
    (sym go.notes ∙ ap (λ (b : Body). notes_go_on b.side go.beats) one.0 ∙ ap (λ (beats : List StoreBeat). notes_go_on stop.body.side beats) one.1 ∙ stop.notes)

-- so its notes do not go on where those of its form do not
pub never-notes : (disk : File → List ℕ) (body : Body) (beats : List StoreBeat) → HasForm body beats disk → notes_go_on body.side beats ≡ false → NotesGo true disk → ⊥
never-notes disk body beats form stops notes = notes-once disk notes (record { body = body; beats = beats; form = form; notes = stops })

-- there is a database on it
pub notes-made : (goes : Bool) (disk : File → List ℕ) → NotesGo goes disk → is_made disk ≡ true
notes-made goes disk notes = is-made disk ∙ ap is_some notes.form.files.checkpoint.checkpoint
