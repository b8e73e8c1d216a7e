use Rattle.op_write_line.specs.Writing.{first_low, question_head, labels_stand, question_shape, line_room, line_put}
use Rattle.op_write_line.proofs.put_question.Goals as goal

pub overflow_sub-accepted : goal.overflow_sub-accepted
overflow_sub-accepted c = first_low c.requires.0 c.first_entry-first.ensures

pub slice_bounds-put_line-count : goal.slice_bounds-put_line-count
slice_bounds-put_line-count c = question_head c.requires.0

pub slice_bounds-put_line-start : goal.slice_bounds-put_line-start
slice_bounds-put_line-start c = question_head c.requires.0

pub put_line-requires : goal.put_line-requires
put_line-requires c = (labels_stand c.requires.0 c.first_entry-first.ensures c.record_at-labels.ensures, question_shape c.requires.0, line_room c.requires.0 c.first_entry-first.ensures c.record_at-labels.ensures c.args.out.now c.requires.1)

pub returns : goal.returns
returns c = line_put c.requires.0 c.first_entry-first.ensures c.record_at-labels.ensures c.put_line.ensures
