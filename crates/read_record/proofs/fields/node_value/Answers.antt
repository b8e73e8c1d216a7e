use mathlib.Core.Path.{ap, ◌∙◌}
use borrow.Author.Rules.{part_to_end}
use Rattle.meaning.specs.Records.{read_node, number}
use Rattle.read_record.proofs.fields.node_value.Goals as goal

pub returns : goal.returns
unfolding read_node
returns c = (c.number.ensures.0 ∙ ap number (part_to_end c.args.body.now 3), c.number.ensures.1)
