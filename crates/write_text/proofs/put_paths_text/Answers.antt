use native.Mathlib.Omega.{arith}
use Rattle.write_text.specs.Symbols.{set_none, set_first, set_start, comma_room, set_room, set_next, set_done}
use Rattle.write_text.proofs.put_paths_text.Goals as goal

pub returns-then-paths-eq0 : goal.returns-then-paths-eq0
returns-then-paths-eq0 c = set_none _ _ c.count-paths.ensures.0 _ _ c.if-paths-eq0.true c.requires.2

pub path-requires : goal.path-requires
path-requires c = (c.requires.1, omega (arith, c.count-paths.ensures.0, c.if-paths-eq0.false))

pub put_path_text-next-requires : goal.put_path_text-next-requires
put_path_text-next-requires c = (c.requires.0, set_first _ _ c.count-paths.ensures.0 c.if-paths-eq0.false c.args.out.now _ c.path.ensures c.requires.2)

pub loop-i-init : goal.loop-i-init
loop-i-init c = set_start _ _ c.count-paths.ensures.0 c.if-paths-eq0.false c.path.ensures c.put_path_text-next.ensures c.requires.2

pub put-path_at-requires : goal.put-path_at-requires
put-path_at-requires c = comma_room _ _ c.count-paths.ensures.0 c.loop-i.invariant c.loop-i-test.true

pub path-requires-in-loop-i : goal.path-requires-in-loop-i
path-requires-in-loop-i c = (c.requires.1, omega (arith, c.count-paths.ensures.0, c.loop-i-test.true))

pub put_path_text-next-requires-in-loop-i : goal.put_path_text-next-requires-in-loop-i
put_path_text-next-requires-in-loop-i c = (c.requires.0, set_room _ _ c.count-paths.ensures.0 c.loop-i.invariant c.loop-i-test.true c.path-in-loop-i.ensures c.put-path_at.ensures)

pub loop-i-preserved : goal.loop-i-preserved
loop-i-preserved c = set_next _ _ c.count-paths.ensures.0 c.loop-i.invariant c.loop-i-test.true c.path-in-loop-i.ensures c.put-path_at.ensures c.put_path_text-next-in-loop-i.ensures

pub returns : goal.returns
returns c = set_done _ _ c.count-paths.ensures.0 c.if-paths-eq0.false c.path.ensures c.put_path_text-next.ensures c.loop-i.invariant c.loop-i-test.false
