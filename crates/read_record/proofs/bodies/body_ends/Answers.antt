use Rattle.std.proofs.Common.{◌∙◌, arith}
use borrow.Author.Tests.{lt-leb}
use Rattle.read_record.specs.Bodies.{ends_label, ends_key, ends_node, ends_wide, ends_line_short, ends_line, ends_edition, ends_unknown}
use Rattle.read_record.proofs.bodies.body_ends.Goals as goal

pub returns-in-1 : goal.returns-in-1
returns-in-1 c = ends_label _ _ c.in-1.is

pub returns-in-2 : goal.returns-in-2
returns-in-2 c = ends_key _ _ c.in-2.is c.key_shape.ensures

pub returns-in-3 : goal.returns-in-3
returns-in-3 c = ends_node _ _ c.in-3.is

pub returns-in-5 : goal.returns-in-5
returns-in-5 c = ends_wide _ _ c.in-5.is

pub returns-then-body-ge-LINE_FIELDS : goal.returns-then-body-ge-LINE_FIELDS
returns-then-body-ge-LINE_FIELDS c = ends_line _ _ c.in-4.is c.if-body-ge-LINE_FIELDS.true c.key_shape-then-body-ge-LINE_FIELDS.ensures

pub returns-else-body-ge-LINE_FIELDS : goal.returns-else-body-ge-LINE_FIELDS
returns-else-body-ge-LINE_FIELDS c = lt-leb 5 _ c.if-body-ge-LINE_FIELDS.false ∙ ends_line_short _ _ c.in-4.is c.if-body-ge-LINE_FIELDS.false

pub returns-in-6 : goal.returns-in-6
returns-in-6 c = ends_edition _ _ c.in-6.is

pub returns-in_default : goal.returns-in_default
returns-in_default c = ends_unknown _ _ (omega arith) (omega arith) (omega arith) (omega arith) (omega arith) (omega arith)
