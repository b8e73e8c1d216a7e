use Prim.Native.Nat.{ℕ}
use mathlib.Core.Path.{◌∙◌, ap}
use mathlib.Core.List.{List}
use borrow.Author.Rules.{part_to_end}
use Rattle.meaning.specs.Refusals.{first_of}
use Rattle.read_tree.specs.Nodes.{node_tests_by}
use Rattle.read_salvage.proofs.records.judge_put.Goals as goal

pub returns : goal.returns
returns c = c.judge_node.ensures ∙ ap (λ (l : List ℕ). first_of (node_tests_by c.args.second c.args.kind c.args.classes.now c.args.out.now c.args.nodes l)) (part_to_end c.args.out.now c.args.at)
