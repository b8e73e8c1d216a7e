use Rattle.tap.specs.Fields.{details_put}
use Rattle.tap.proofs.details.put_details.Goals as goal

pub returns : goal.returns
returns c =
    details_put c.args.told c.put_word.ensures c.put_word-last_at.ensures c.put_word-zeros_at.ensures c.put_word-above_at.ensures
    c.put_word-used_at.ensures c.put_word-place_at.ensures c.put_word-input_at.ensures (rw c.number.ensures at c.put_word-number_at.ensures)
