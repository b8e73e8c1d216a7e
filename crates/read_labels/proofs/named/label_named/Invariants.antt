use Rattle.std.proofs.Common.{◌-◌}
use Rattle.meaning.specs.Text.{label_named}
use Rattle.read_entry.specs.Labels.{labels_at}
use Rattle.read_labels.specs.Named.{Naming}
use Rattle.read_labels.proofs.named.label_named.Given as goal

abbrev pub invariant-loop : goal.invariant-loop
invariant-loop l = Naming l.class l.name (l.count - l.counter) l.rest (label_named (labels_at l.count l.labels) l.class l.name)
