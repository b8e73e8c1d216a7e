use Rattle.std.proofs.Common.{refl, arith}
use Rattle.write_listing.specs.Writing.{head_wrote}
use Rattle.tree_table.specs.FileTable.{class_by}
use Rattle.write_listing.proofs.put_head.Goals as goal

pub returns : goal.returns
returns c = head_wrote (class_by c.args.classes.now) _ _ c.size.ensures (let f = c.requires.0.few in let e = c.size.ensures in omega arith) c.requires.1 refl c.put-next.ensures c.put_field.ensures
