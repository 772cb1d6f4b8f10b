-- What the files of a database hold: a checkpoint, the extents that it names, and the records of the journal since.
use Rattle.std.specs.Prelude.{ℕ, ◌+◌, List, [], ◌∷◌, ◌++◌}
use Rattle.checkpoint_body.specs.declared.body.Body.{Body}
use Rattle.checkpoint_body.specs.declared.page.RecordPage.{RecordPage}
use Rattle.checkpoint_body.specs.declared.page.SlotPage.{SlotPage}

-- the pages of the kept extents of each tier, in the order in which the body names these
pub record KeptPages : Type 0 where
  pub points : List (List SlotPage)
  pub minutes : List (List RecordPage)
  pub hours : List (List RecordPage)

abbrev pub no_pages : KeptPages
no_pages = record { points = []; minutes = []; hours = [] }

pub record Contents : Type 0 where
  -- the number of the checkpoint, which is the generation of the journal too
  pub number : ℕ
  pub body : Body
  pub kept : KeptPages
  -- the records of the journal, the earliest first
  pub records : List (List ℕ)

-- a database that was just made with this body
abbrev pub new_contents : Body → Contents
new_contents body = record { number = 0; body = body; kept = no_pages; records = [] }

-- with one more record in the journal
abbrev pub with_record : Contents → List ℕ → Contents
with_record contents bytes = record contents { records = contents.records ++ bytes ∷ [] }

-- after the next checkpoint, which has this body and keeps these pages: the journal begins anew
abbrev pub next_contents : Contents → Body → KeptPages → Contents
next_contents contents body kept = record { number = contents.number + 1; body = body; kept = kept; records = [] }
