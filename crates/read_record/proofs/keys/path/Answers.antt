use Rattle.std.proofs.Common.{ℕ, ◌≡◌, ◌∙◌, ap, [], get_or, arith}
use Rattle.meaning.specs.Records.{key_in}
use Rattle.read_record.specs.KeyPaths.{at_holds, at_lead, at_next}
use Rattle.read_record.proofs.keys.path.Goals as goal

pub paths-rest-requires : goal.paths-rest-requires
paths-rest-requires c = c.requires.0

pub loop-init : goal.loop-init
loop-init c = c.paths-rest.ensures

pub after_path-rest-requires : goal.after_path-rest-requires
after_path-rest-requires c = at_holds c.loop.invariant (omega arith)

pub loop-preserved : goal.loop-preserved
loop-preserved c = at_next c.loop.invariant (omega arith) c.after_path-rest.ensures

pub lead_path-requires : goal.lead_path-requires
lead_path-requires c = at_holds c.loop.invariant (omega arith)

pub returns : goal.returns
returns c = let i = c.loop.counter in let n = c.args.n in let e : i ≡ n = omega arith in
    c.lead_path.ensures ∙ at_lead c.loop.invariant (omega arith) ∙ ap (λ (m : ℕ). get_or (key_in c.args.body.now).paths m []) e
