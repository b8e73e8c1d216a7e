use Rattle.std.proofs.Common.{◌∙◌, ◌+◌}
use borrow.Author.Rules.{part_to_end}
use Rattle.read_names.specs.Names.{after_to, after_none}
use Rattle.read_names.proofs.after_name.Goals as goal

pub returns-in-Some : goal.returns-in-Some
returns-in-Some c = part_to_end c.args.list.now (c.in-Some.end + 1) ∙ after_to _ c.name_end.ensures c.in-Some.is

pub returns-in-None : goal.returns-in-None
returns-in-None c = after_none _ c.name_end.ensures c.in-None.is
