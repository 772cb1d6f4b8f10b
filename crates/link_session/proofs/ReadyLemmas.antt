-- Where nothing happens to a file, an agent is as ready as before.
use Rattle.std.proofs.Common.{◌≡◌, ◌⊎◌, inl, inr, List, sym, subst}
use Rattle.host_model.specs.declared.file.File.{File}
use Rattle.host_model.specs.Images.{Change, IsImage}
use Rattle.host_model.specs.Past.{of, Event}
use Rattle.journal_core.specs.Journal.{IsOpen}
use Rattle.store_core.specs.disk.Contents.{Contents}
use Rattle.store_core.specs.disk.Files.{FilesState, IsJournalOpen, IsOpenOf}
use Rattle.store_core.specs.disk.Holds.{journal_file}
use Rattle.store_core.specs.Store.{IsLeft, IsReady, IsWhole, StoreState}
use Rattle.agent_core.specs.Agent.{AgentIsReady, AgentState}

-- the files stay open
open-elsewhere : (old new : List Event) (files : FilesState) (contents : Contents) → ((file : File) → of file new ≡ of file old)
    → IsOpenOf old files contents → IsOpenOf new files contents
open-elsewhere old new files contents same opened = record {
  number = opened.number;
  place = opened.place;
  journal = subst (λ (changes : List Change). IsOpen changes files.journal contents.records) (sym (same (journal_file contents.number))) opened.journal;
  holds = λ disk images. opened.holds disk (λ file. subst (λ (changes : List Change). IsImage changes (disk file)) (same file) (images file));
}

-- and so does the journal
journal-elsewhere : (old new : List Event) (files : FilesState) → ((file : File) → of file new ≡ of file old) → IsJournalOpen old files → IsJournalOpen new files
journal-elsewhere old new files same was = record {
  records = was.records;
  is_open = subst (λ (changes : List Change). IsOpen changes files.journal was.records) (sym (same (journal_file files.number))) was.is_open;
}

store-after : (honest : Type 0) (old new : List Event) (store : StoreState) → (honest → (file : File) → of file new ≡ of file old)
    → IsReady honest old store → IsReady honest new store
store-after honest old new store same ready = record { place = ready.place; is = by ready.is }
  where
    by : IsWhole honest old store ⊎ IsLeft honest old store → IsWhole honest new store ⊎ IsLeft honest new store
    by (inl was) =
        inl (record {
          whole = was.whole;
          kept = was.kept;
          stored = was.stored;
          sound = was.sound;
          opened = λ going h.
              let are = was.opened going h in
              record {
                contents = are.contents;
                opened = open-elsewhere old new store.files are.contents (same h) are.opened;
                body = are.body;
                pages = are.pages;
                records = are.records;
              };
        })
    by (inr was) =
        inr (record {
          broken = was.broken;
          tiers = was.tiers;
          waiting = was.waiting;
          opened = λ going h. journal-elsewhere old new store.files (same h) (was.opened going h);
        })

pub ready-after : (honest : Type 0) (old new : List Event) (agent : AgentState) → (honest → (file : File) → of file new ≡ of file old)
    → AgentIsReady honest old agent → AgentIsReady honest new agent
ready-after honest old new agent same ready going =
    let fits = ready going in
    record {
      store = store-after honest old new agent.store same fits.store;
      replayed = fits.replayed;
      going = fits.going;
      same_last = fits.same_last;
      up_to = fits.up_to;
      charts = fits.charts;
      dimensions = fits.dimensions;
      limits = fits.limits;
    }
