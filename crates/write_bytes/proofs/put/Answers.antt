use Rattle.std.proofs.Common.{arith, refl, ◌∙◌, ap₂, List, ℕ, ◌++◌, ◌+◌, ◌-◌, ◌≡◌, take, drop, drop-drop, length}
use Rattle.write_bytes.specs.Wrote.{written, wrote_as}
use Rattle.write_bytes.proofs.put.Goals as goal

pub returns : goal.returns
unfolding written
returns c =
    let out = c.args.out.now in
    let at = c.args.at in
    let n = length c.args.bytes.now in
    let e : at + n - at ≡ n = omega arith in
    wrote_as refl c.requires (ap₂ (λ (v : List ℕ) (k : ℕ). take at out ++ (v ++ drop k (drop at out))) c.copy_from_slice.ensures.after e ∙ rw (drop-drop n at out) refl)
