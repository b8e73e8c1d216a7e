use mathlib.Core.Path.{refl, sym, subst}
use Rattle.read_salvage.specs.Told.{told_fault, told_none}
use native.Mathlib.Omega.{arith}
use borrow.Author.Rules.{rules}
use Rattle.theory_records.specs.Bytes.{bytes_from}
use Rattle.theory_records.specs.Encodings.{IsNodeKind}
use Rattle.theory_records.specs.TreeFiles.{kind_in}
use Rattle.read_salvage.specs.Ends.{salvage_over, salvage_begins, salvage_rootless}
use Rattle.read_salvage.proofs.salvage.salvage_into.Goals as goal

pub returns-then-bytes_of-tree : goal.returns-then-bytes_of-tree
returns-then-bytes_of-tree c = salvage_over c.node_kind-kind.ensures c.bytes_of.ensures.0 c.if-bytes_of-tree.true _ refl _ _ _

pub judge_node-requires : goal.judge_node-requires
judge_node-requires c = (subst IsNodeKind (sym c.node_kind-kind.ensures) (kind_in _), omega arith)

pub returns-then-is_err : goal.returns-then-is_err
returns-then-is_err c = salvage_rootless _ _ _ c.node_kind-kind.ensures (bytes_from _ (λ i h. (c.shared_slice_known-1.given i).fits)) c.bytes_of.ensures.0 c.if-bytes_of-tree.false c.judge_node.ensures (told_fault _ (search rules)) _ refl _ _ _

pub pass_records-requires : goal.pass_records-requires
pass_records-requires c = (salvage_begins _ _ _ c.node_kind-kind.ensures (bytes_from _ (λ i h. (c.shared_slice_known-1.given i).fits)) c.bytes_of.ensures.0 c.if-bytes_of-tree.false c.judge_node.ensures (told_none _ (search rules)), c.requires.0, c.requires.1)
