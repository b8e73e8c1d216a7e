use Rattle.meaning.specs.Records.{read_node}
use borrow.Author.Rules.{rules}
use Rattle.read_record.proofs.fields.node_parent.Goals as goal

pub returns : goal.returns
unfolding read_node
returns c = search rules
