use Rattle.write_text.specs.Symbols.{empty_room, empty_wrote, symbol_first, symbol_start, dot_room, symbol_room, symbol_next, symbol_done}
use Rattle.write_text.proofs.put_path_text.Goals as goal

pub put-requires : goal.put-requires
put-requires c = search (empty_room)

pub returns-then-path-eq0 : goal.returns-then-path-eq0
returns-then-path-eq0 c = search (empty_wrote)

pub put_symbol-next-requires : goal.put_symbol-next-requires
put_symbol-next-requires c = (c.requires.0, symbol_first _ _ c.if-path-eq0.false c.args.out.now _ c.from.ensures c.requires.1)

pub loop-i-init : goal.loop-i-init
loop-i-init c = symbol_start _ _ c.if-path-eq0.false c.from.ensures c.put_symbol-next.ensures c.requires.1

pub put-symbol_at-requires : goal.put-symbol_at-requires
put-symbol_at-requires c = search (dot_room)

pub put_symbol-next-requires-in-loop-i : goal.put_symbol-next-requires-in-loop-i
put_symbol-next-requires-in-loop-i c = (c.requires.0, symbol_room _ _ c.loop-i.invariant c.loop-i-test.true c.from-in-loop-i.ensures c.put-symbol_at.ensures)

pub loop-i-preserved : goal.loop-i-preserved
loop-i-preserved c = symbol_next _ _ c.loop-i.invariant c.loop-i-test.true c.from-in-loop-i.ensures c.put-symbol_at.ensures c.put_symbol-next-in-loop-i.ensures

pub returns : goal.returns
returns c = symbol_done _ _ c.if-path-eq0.false c.from.ensures c.put_symbol-next.ensures c.loop-i.invariant c.loop-i-test.false
