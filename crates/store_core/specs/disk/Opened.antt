-- What an opened database holds.
use Rattle.store_core.specs.declared.disk.opening.Opened.{Opened}
use Rattle.store_core.specs.disk.Contents.{Contents}

abbrev pub contents_of : Opened → Contents
contents_of opened = record {
  number = opened.files.number;
  body = opened.body;
  kept = record { points = opened.points; minutes = opened.minutes; hours = opened.hours };
  records = opened.records;
}
