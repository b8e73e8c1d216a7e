use Rattle.std.proofs.Common.{rules}
use Rattle.write_text.specs.Names.{names}
use Rattle.write_text.specs.Symbols.{any_room, any_wrote, text_room, text_wrote, declared_room, declared_wrote}
use Rattle.write_text.proofs.put_symbol.Goals as goal

pub put-requires : goal.put-requires
put-requires c = any_room (names c.args.labels.now) _ _ _ c.in-0.is c.requires.1

pub returns-in-0 : goal.returns-in-0
returns-in-0 c = any_wrote (names c.args.labels.now) _ c.in-0.is c.put.ensures

pub put-requires-in-1 : goal.put-requires-in-1
put-requires-in-1 c = text_room (names c.args.labels.now) _ _ _ c.in-1.is c.requires.1

pub returns-in-1 : goal.returns-in-1
returns-in-1 c = text_wrote (names c.args.labels.now) _ c.in-1.is c.put-in-1.ensures

pub put_declared-requires : goal.put_declared-requires
put_declared-requires c = (c.requires.0, search (rules, declared_room))

pub returns-in_default : goal.returns-in_default
returns-in_default c = search (rules, declared_wrote)
