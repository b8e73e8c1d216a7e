-- What the prologue found, put into 01's order of refusals: the answer buffer's, then those of profile and question.
use Rattle.std.specs.Prelude.{ℕ, ◌≤◌, ◌<◌, ◌≡◌, Bool, List, length}
use Rattle.std.proofs.Common.{sym, subst}
use Rattle.meaning.specs.Refusals as Table
use Rattle.meaning.specs.Operations.{Decides, refused_by}
use Rattle.op_answers.specs.declared.Refusal.{Refusal}
use Rattle.op_answers.specs.Cases.{meant}
use Rattle.op_accept.specs.Taken.{BothStop, both_stops}
use Rattle.theory_answers.specs.Refusing.{unless_room}
use Rattle.theory_decide.specs.Returns.{decide_small}

pub decide_short : (profile question buffer : List ℕ) (r : Refusal) → length buffer < 65536 → meant r ≡ record { number = 14; input = 4; place = 0 }
    → Decides profile question buffer (refused_by (meant r) buffer)
decide_short profile question buffer r h e =
    subst (λ (x : Table.Refusal). Decides profile question buffer (refused_by x buffer)) (sym e) (decide_small profile question buffer h)

pub decide_stops : {profile question : List ℕ} {r : Refusal} → BothStop profile question r → (buffer : List ℕ) → 65536 ≤ length buffer
    → Decides profile question buffer (refused_by (meant r) buffer)
unfolding Decides
decide_stops s buffer room = unless_room _ buffer _ _ room (both_stops _ buffer _ s)
