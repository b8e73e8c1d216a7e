use Rattle.op_tree_accepted.specs.BothAccepted.{padded_asked, asked_tree, asked_key, tests_asked}
use Rattle.op_tree_accepted.proofs.keep_accepted.Goals as goal

pub prepare-requires : goal.prepare-requires
prepare-requires c = asked_tree c.requires

pub test_key-requires : goal.test_key-requires
test_key-requires c = (c.prepare.ensures, asked_key c.requires c.body_at_front.ensures)

pub returns : goal.returns
returns c = (tests_asked c.requires c.body_at_front.ensures _ c.test_key.ensures, padded_asked _ _ _ _ c.test_key.ensures)
