-- The labels that the names are those of.
use Rattle.std.specs.Prelude.{List}
use Rattle.meaning.specs.Paths.{Label}
use Rattle.read_entry.specs.Labels.{labels_at}
use Rattle.read_entry.specs.Repeats.{Standing}
use Rattle.write_text.specs.declared.Labels.{Labels}

abbrev pub names : Labels → List Label
names l = labels_at l.count l.records.now

abbrev pub Named : Labels → Type 0
Named l = Standing 6 l.count l.records.now
