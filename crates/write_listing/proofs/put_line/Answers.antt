use Rattle.write_listing.specs.Writing.{line_first, line_node}
use Rattle.write_listing.proofs.put_line.Goals as goal

pub returns-then-i-eq0 : goal.returns-then-i-eq0
returns-then-i-eq0 c = line_first _ _ _ c.if-i-eq0.true c.put_head.ensures

pub returns : goal.returns
returns c = line_node _ _ _ c.if-i-eq0.false c.put_node.ensures
