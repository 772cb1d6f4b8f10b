use Rattle.std.proofs.Common.{[]}
use Rattle.store_core.proofs.DamageLemmas.{one-damaged}
use Rattle.store_core.proofs.StandLemmas.{advanced-keeps, images-at, never-damaged, stands-made, stands-once, store-of, told-at, told-ready}
use Rattle.store_core.proofs.law.one_disk_holds_one_database.Goals as goal

pub returns : goal.returns
returns c = record {
  once = stands-once;
  made = stands-made;
  whole = never-damaged;
  one_part = one-damaged;
  whole_store = λ past store is going replayed. store-of past is.kept is.stored store is.whole is.sound (is.opened going tt) going replayed;
  told_ready = told-ready (Unit {0});
  images = λ past store stored is_of. images-at past store stored [] is_of;
  told = told-at;
  kept = advanced-keeps;
}
