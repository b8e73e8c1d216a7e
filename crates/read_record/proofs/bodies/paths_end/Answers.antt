use Rattle.std.proofs.Common.{◌∙◌, ap, sym, not, arith}
use Rattle.read_record.specs.Bodies.{ends_start, ends_stop, ends_next, ends_done}
use Rattle.read_record.proofs.bodies.paths_end.Goals as goal

pub loop-init : goal.loop-init
loop-init c = ends_start _ _ (omega arith)

pub returns-then-not-holds_path : goal.returns-then-not-holds_path
returns-then-not-holds_path c = ends_stop _ _ c.loop.invariant (omega arith) c.holds_path.ensures (ap not c.if-not-holds_path.true)

pub after_path-rest-requires : goal.after_path-rest-requires
after_path-rest-requires c = sym c.holds_path.ensures ∙ c.if-not-holds_path.false

pub loop-preserved : goal.loop-preserved
loop-preserved c = ends_next _ _ c.loop.invariant (omega arith) c.holds_path.ensures (ap not c.if-not-holds_path.false) (omega arith) c.after_path-rest.ensures

pub returns : goal.returns
returns c = c.is_empty.ensures ∙ ends_done _ _ c.loop.invariant (omega arith)
