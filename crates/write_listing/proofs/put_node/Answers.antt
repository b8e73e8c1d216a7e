use Rattle.std.proofs.Common.{refl, ap, not, subst, sym, arith}
use Rattle.write_listing.specs.Writing.{field_after, line_wrote}
use Rattle.write_listing.specs.Lines.{Shows, shows_then}
use Rattle.write_listing.proofs.put_node.Goals as goal

pub put_field-after_parent-requires : goal.put_field-after_parent-requires
put_field-after_parent-requires c = let f = c.requires.0.few in
    let g = field_after 33 _ _ (let h = c.requires.1 in omega arith) (let h = c.requires.2 in omega arith) c.put_field-after_number.ensures in
    (subst Shows (sym c.then_some-above.ensures) (shows_then _ _ (let y = c.parent.ensures.1 in omega arith)), omega arith)

pub put_field-after_label-requires : goal.put_field-after_label-requires
put_field-after_label-requires c = let f = c.requires.0.few in
    let g = field_after 33 _ _ (let h = c.requires.1 in omega arith) (let h = c.requires.2 in omega arith) c.put_field-after_number.ensures in
    let s = subst Shows (sym c.then_some-above.ensures) (shows_then _ _ (let y = c.parent.ensures.1 in omega arith)) in
    let g2 = field_after 22 _ _ s (omega arith) c.put_field-after_parent.ensures in
    (let h = c.label-of_node.ensures.1 in omega arith, omega arith)

pub put_field-requires : goal.put_field-requires
put_field-requires c = let f = c.requires.0.few in
    let g = field_after 33 _ _ (let h = c.requires.1 in omega arith) (let h = c.requires.2 in omega arith) c.put_field-after_number.ensures in
    let s = subst Shows (sym c.then_some-above.ensures) (shows_then _ _ (let y = c.parent.ensures.1 in omega arith)) in
    let g2 = field_after 22 _ _ s (omega arith) c.put_field-after_parent.ensures in
    let g3 = field_after 11 _ _ (let h = c.label-of_node.ensures.1 in omega arith) (omega arith) c.put_field-after_label.ensures in
    (subst Shows (sym c.then_some.ensures) (shows_then (not c.is_element-leaf.result) c.value.result c.value.ensures.1), omega arith)

pub returns : goal.returns
returns c = line_wrote _ _ _ _ _ _ _ _ c.requires.2 (let f = c.requires.0.few in let h = c.requires.1 in omega arith) (let y = c.parent.ensures.1 in omega arith) c.label-of_node.ensures.1 c.value.ensures.1
    c.then_some-above.ensures c.then_some.ensures
    c.put_field-after_number.ensures c.put_field-after_parent.ensures c.put_field-after_label.ensures c.put_field.ensures c.parent.ensures.0 refl c.label-of_node.ensures.0 (ap not c.is_element-leaf.ensures) c.value.ensures.0
