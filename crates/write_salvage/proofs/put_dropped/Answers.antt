use native.Mathlib.Omega.{arith}
use Rattle.write_salvage.specs.Blocks.{window_room, drops_most, dropped_all, one_if}
use Rattle.std.proofs.Common.{◌∙◌}
use borrow.Author.Rules.{rules}
use Rattle.write_salvage.proofs.put_dropped.Goals as goal

pub pass_reason-requires : goal.pass_reason-requires
pass_reason-requires c = let w = c.put_reasons-before.ensures in (let r = window_room w in let k = c.put_reasons-before.auto.out in omega arith, search rules, (let m = drops_most 0 c.args.reasons.now in let n = w.counted in omega arith))

pub returns : goal.returns
returns c = dropped_all c.args.reasons.now _ _ c.args.stopped (c.from-stopped.ensures ∙ one_if c.args.stopped) c.count_dropped.ensures.0 c.put_reasons-before.ensures c.pass_reason.ensures
