use Rattle.std.proofs.Common.{◌∙◌, refl}
use Rattle.tree_contexts.specs.Least.{label_root, label_other, label_same}
use Rattle.tree_contexts.proofs.from_parent.Goals.{then-v-eq0-via-then-v-eq0, then-v-eq0-via-else-v-eq0+then-label_of-symbol}
use Rattle.tree_contexts.proofs.from_parent.Goals as goal

pub returns-then-v-eq0 : goal.returns-then-v-eq0
returns-then-v-eq0 c = let p = c.requires in elim c.then-v-eq0.branch [
  | then-v-eq0-via-then-v-eq0 w ↦ label_root _ _ _ _ p.2 w.if-v-eq0.true
  | then-v-eq0-via-else-v-eq0+then-label_of-symbol w ↦ label_other _ _ _ _ _ p.2 (w.label_of.ensures.0 ∙ p.0.labels _ p.1) w.if-label_of-symbol.true
]

pub returns : goal.returns
returns c = let p = c.requires in label_same _ _ _ _ _ _ _ p.2 c.if-v-eq0.false p.1 (c.label_of.ensures.0 ∙ p.0.labels _ p.1) c.if-label_of-symbol.false (c.parent_of.ensures.0 ∙ p.0.parents _ p.1) refl
