use Rattle.std.specs.Prelude.{refl}
use Rattle.op_tree_accepted.specs.BothAccepted.{padded_breaks, asked_tree, asked_key, counted_bodies, breaks_key_lem, counterexample}
use Rattle.op_tree_keys.specs.ProfileKeys.{key_found}
use Rattle.op_tree_accepted.proofs.check_accepted.Goals as goal

pub prepare-requires : goal.prepare-requires
prepare-requires c = asked_tree c.requires.0

pub first_broken-requires : goal.first_broken-requires
first_broken-requires c = (c.prepare.ensures, counted_bodies c.requires.1 c.record_at-part.ensures)

pub witness_of-shown-requires : goal.witness_of-shown-requires
witness_of-shown-requires c = key_found c.prepare.ensures (counted_bodies c.requires.1 c.record_at-part.ensures) c.in-Some.ensures

pub returns-in-Some : goal.returns-in-Some
returns-in-Some c = (breaks_key_lem c.requires.1 c.record_at-part.ensures c.requires.0 c.in-Some.ensures _ c.witness_of-shown.ensures, padded_breaks c.witness_of-shown.ensures)

pub test_key-requires : goal.test_key-requires
test_key-requires c = (c.prepare.ensures, asked_key c.requires.0 c.body_at_front-body.ensures)

pub returns : goal.returns
returns c = counterexample c.requires.1 c.record_at-part.ensures c.requires.0 c.in_default.ensures c.body_at_front-body.ensures _ c.test_key.ensures _ refl c.ok_or.ensures.value
