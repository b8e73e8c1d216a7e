use Rattle.op_decider.specs.Upward.{up_first, up_empty, up_other, up_told}
use borrow.Author.Rules.{rules}
use mathlib.Core.Path.{◌≡◌, ap}
use mathlib.Core.Bool.{not, true}
use native.Mathlib.Omega.{arith}
use Rattle.op_decider.proofs.steps_up.Goals as goal

pub returns-then-not-second : goal.returns-then-not-second
returns-then-not-second c = up_first _ _ _ _ (ap not c.if-not-second.true)

pub returns-then-x-eq0 : goal.returns-then-x-eq0
returns-then-x-eq0 c = up_empty _ _ _ _ (let e : c.args.second ≡ true = cc in ap not e) c.target-x.ensures c.if-x-eq0.true

pub returns-then-u-c : goal.returns-then-u-c
returns-then-u-c c = up_other _ _ _ _ (let e : c.args.second ≡ true = cc in ap not e) c.target-x.ensures c.if-x-eq0.false c.context-c.ensures c.if-u-c.true

pub returns : goal.returns
returns c = up_told _ _ _ _ (let e : c.args.second ≡ true = cc in ap not e) c.target-x.ensures c.if-x-eq0.false c.context-c.ensures (omega arith) c.from-last.ensures c.is_attribute.ensures
