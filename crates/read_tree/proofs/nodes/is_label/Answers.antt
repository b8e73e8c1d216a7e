use Rattle.read_tree.specs.Labels.{label_text, label_element, label_attribute, label_entry}
use Rattle.read_tree.proofs.nodes.is_label.Goals as goal

pub returns-then-label-eq-TEXT : goal.returns-then-label-eq-TEXT
returns-then-label-eq-TEXT c = label_text _ _ c.if-label-eq-TEXT.true

pub returns-then-label-eq-FILLER_ELEMENT : goal.returns-then-label-eq-FILLER_ELEMENT
returns-then-label-eq-FILLER_ELEMENT c = label_element _ _ c.if-label-eq-FILLER_ELEMENT.true

pub returns-then-label-eq-FILLER_ATTRIBUTE : goal.returns-then-label-eq-FILLER_ATTRIBUTE
returns-then-label-eq-FILLER_ATTRIBUTE c = label_attribute _ _ c.if-label-eq-FILLER_ATTRIBUTE.true

pub returns : goal.returns
returns c = label_entry _ _ c.if-label-eq-TEXT.false c.if-label-eq-FILLER_ELEMENT.false c.if-label-eq-FILLER_ATTRIBUTE.false
