use Rattle.std.proofs.Common.{rules, tests}
use Rattle.op_proof_line.specs.Writing.{line_none_put, given_again, key_record, key_shape, key_room, key_put, given_first, given_labels}
use Rattle.op_proof_line.proofs.put_key.Goals as goal

pub returns-then-is_empty : goal.returns-then-is_empty
returns-then-is_empty c = line_none_put c.requires.0 _ c.record_at-rest.ensures (search (rules, tests)) _

pub line_key-key-requires : goal.line_key-key-requires
line_key-key-requires c = key_record c.requires.0 _ c.record_at-rest.ensures (search (rules, tests))

pub overflow_sub-accepted : goal.overflow_sub-accepted
overflow_sub-accepted c = given_first c.requires.0 (given_again _ c.accept_profile.ensures c.unwrap-accepted.ensures) c.first_entry-first.ensures

pub put_line-requires : goal.put_line-requires
put_line-requires c =
    let g = given_again _ c.accept_profile.ensures c.unwrap-accepted.ensures in (
      given_labels c.requires.0 g c.first_entry-first.ensures c.record_at-labels.ensures,
      key_shape c.requires.0 _ c.record_at-rest.ensures (search (rules, tests)) c.line_key-key.ensures,
      key_room c.requires.0 g c.first_entry-first.ensures c.record_at-labels.ensures _ c.record_at-rest.ensures (search (rules, tests)) c.line_key-key.ensures _ c.requires.1,
    )

pub returns : goal.returns
returns c =
    let g = given_again _ c.accept_profile.ensures c.unwrap-accepted.ensures in
    key_put c.requires.0 g c.first_entry-first.ensures c.record_at-labels.ensures _ c.record_at-rest.ensures (search (rules, tests)) c.line_key-key.ensures c.put_line.ensures
