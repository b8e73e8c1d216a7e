use native.Mathlib.Omega.{arith}
use Rattle.write_listing.specs.Writing.{wrote_digit, wrote_digits, digits_room}
use Rattle.write_listing.specs.Decimal.{length_one, length_more}
use Rattle.write_listing.proofs.+put_decimal.Goals as goal

pub bounds-out-at : goal.bounds-out-at
bounds-out-at t c = let e = length_one _ c.if-n-lt-TEN.true in let r = c.requires in omega arith

pub overflow_add-result : goal.overflow_add-result
overflow_add-result t c = let e = length_one _ c.if-n-lt-TEN.true in let r = c.requires in omega arith

pub returns-then-n-lt-TEN : goal.returns-then-n-lt-TEN
returns-then-n-lt-TEN t c = wrote_digit _ _ _ c.if-n-lt-TEN.true c.requires

pub put_decimal-next-requires : goal.put_decimal-next-requires
put_decimal-next-requires t c = (let e = c.decreases in omega arith, let m = length_more _ c.if-n-lt-TEN.false in let r = c.requires in omega arith)

pub bounds-out-next : goal.bounds-out-next
bounds-out-next t c = let p = c.requires in digits_room _ (omega arith) p c.put_decimal-next.ensures

pub overflow_add-result-2 : goal.overflow_add-result-2
overflow_add-result-2 t c = let p = c.requires in let r = digits_room _ (omega arith) p c.put_decimal-next.ensures in let k = c.put_decimal-next.auto.out in omega arith

pub returns : goal.returns
returns t c = let p = c.requires in wrote_digits _ (omega arith) p c.put_decimal-next.ensures
