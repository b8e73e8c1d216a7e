use Rattle.std.proofs.Common.{refl}
use Rattle.write_text.specs.Labels.{plain_room, plain_wrote, mark_room, name_room, marked_wrote}
use Rattle.write_text.proofs.put_label.Goals as goal

pub put-requires : goal.put-requires
put-requires c = plain_room c.args.body.now refl c.if-body-ne-ATTRIBUTE.true _ _ c.requires.1

pub returns-then-body-ne-ATTRIBUTE : goal.returns-then-body-ne-ATTRIBUTE
returns-then-body-ne-ATTRIBUTE c = plain_wrote c.args.body.now refl c.if-body-ne-ATTRIBUTE.true c.put.ensures

pub put-name_at-requires : goal.put-name_at-requires
put-name_at-requires c = mark_room c.args.body.now refl c.if-body-ne-ATTRIBUTE.false _ _ c.requires.1

pub put-requires-2 : goal.put-requires-2
put-requires-2 c = name_room c.args.body.now refl c.if-body-ne-ATTRIBUTE.false c.requires.1 c.put-name_at.ensures

pub returns : goal.returns
returns c = marked_wrote c.args.body.now refl c.if-body-ne-ATTRIBUTE.false c.put-2.ensures c.put-name_at.ensures
