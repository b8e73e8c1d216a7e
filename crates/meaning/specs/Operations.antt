-- What each public operation answers, for refused inputs too: document 01, "What the work covers" and "Refusal numbers".
use Rattle.std.specs.Prelude.{ℕ, zero, suc, ◌-◌, ◌≤◌, ◌<◌, ◌≡◌, ◌⊎◌, Bool, cond, length, take, drop}
use mathlib.Core.List.{List, [], ◌∷◌, ◌++◌, map, flatten}
use Rattle.std.proofs.Math.Option.{some}
use Rattle.std.proofs.Math.ListN.{get_elem?}
use Rattle.meaning.specs.Limits.{proof_bytes, edition_kind, second_edition}
use Rattle.meaning.specs.Lists.{Each}
use Rattle.meaning.specs.Paths.{Label, class_of, singles, Included}
use Rattle.meaning.specs.Trees.{Table, table_of}
use Rattle.meaning.specs.Keys.{Key, Keeps, FirstWitness, Implied}
use Rattle.meaning.specs.Rules.{Line, FollowsAt, FollowsBelow, EndsWith}
use Rattle.meaning.specs.Records.{record_length, record_body, record_bytes, label_bytes, key_bytes}
use Rattle.meaning.specs.Refusals
use Rattle.meaning.specs.Refusals.{Refusal, Profile, Walked, first_refusal, profile_in, profile_refusal, question_in, question_refusal, nodes_in, tree_refusal, proof_walked, path_refusal, answer_refusal}
use Rattle.meaning.specs.Pattern.{IsU, written_tree}
use Rattle.meaning.specs.Listing.{block}

-- 01's operations, then those of 02: requests 1, 3, 10, 7 and 12
pub data Verdict : Type 0 where
  refused rewritten included not_included kept broken accepted implied not_implied listed : Verdict
  key_read line_written reduced drop_proved trimmed salvaged reported : Verdict

-- An answer: the verdict, "number, input .. and record number" of a refusal (else 0), bytes used, the answer buffer at the end (empty
-- where an operation is lent none), and the numbers of a witness (none where no key is found broken)
pub record Answer : Type 0 where
  pub verdict : Verdict
  pub number : ℕ
  pub input : ℕ
  pub place : ℕ
  pub used : ℕ
  pub buffer : List ℕ
  pub witness : List ℕ

-- "A refusal returns number, input .. and record number ..; all lent bytes stay."
unfoldable pub refused_by : Refusal → List ℕ → Answer
refused_by r buffer = record { verdict = refused; number = r.number; input = r.input; place = r.place; used = 0; buffer = buffer; witness = [] }

-- "bytes used"; "Bytes after those used are unchanged."
unfoldable pub filled : Verdict → List ℕ → List ℕ → Answer
filled v bytes buffer =
    record { verdict = v; number = 0; input = 0; place = 0; used = length bytes; buffer = bytes ++ drop (length bytes) buffer; witness = [] }

unfoldable pub plain : Verdict → Answer
plain v = record { verdict = v; number = 0; input = 0; place = 0; used = 0; buffer = []; witness = [] }

-- 02, request 9: "Wherever a tree is found to break a key, the answer is to carry the context node, the two target nodes, and for each key
-- path one value-equal pair."
unfoldable pub shown : Verdict → List ℕ → Answer
shown v numbers = record { verdict = v; number = 0; input = 0; place = 0; used = 0; buffer = []; witness = numbers }

-- "12 carries it for the lowest broken key"
unfoldable pub broken_by : ℕ → List ℕ → Answer
broken_by n numbers = record { verdict = refused; number = 12; input = 1; place = n; used = 0; buffer = []; witness = numbers }

-- The answer is that refusal, or where there is none what Q says of it
unfoldable pub choose : ℕ → Type 0 → Type 0 → Type 0
choose zero sound refusing = sound
choose (suc n) sound refusing = refusing

unfoldable pub Unless : List Refusal → List ℕ → (Answer → Type 0) → Answer → Type 0
Unless rs buffer Q answer = choose (first_refusal rs).number (Q answer) (answer ≡ refused_by (first_refusal rs) buffer)

unfoldable pub labels_in : List ℕ → List Label
labels_in profile = (profile_in profile).labels

unfoldable pub keys_in : List ℕ → List Key
keys_in profile = (profile_in profile).keys

-- whether the profile is of edition 2, and which labels are single there
unfoldable pub second_in : List ℕ → Bool
second_in profile = Refusals.has_edition profile

unfoldable pub single_in : List ℕ → ℕ → Bool
single_in profile = singles (second_in profile) (class_of (labels_in profile))

-- "A profile is labels, numbers ascending, then keys.": its bytes. "A profile of edition 2 begins with a record of kind 6, one byte, 2"
unfoldable pub entries_written : Profile → List ℕ
entries_written p = flatten (map label_bytes p.labels) ++ flatten (map key_bytes p.keys)

unfoldable pub edition_written : Bool → List ℕ
edition_written second = cond second (record_bytes edition_kind (second_edition ∷ [])) []

unfoldable pub profile_written : Bool → Profile → List ℕ
profile_written second p = edition_written second ++ entries_written p

-- "read and rewrite a profile": what was read of it, written. ("Profiles read and written back are the same bytes" is a theorem about it.)
unfoldable pub Rewrites : (profile buffer : List ℕ) → Answer → Type 0
Rewrites profile buffer =
    Unless (answer_refusal buffer ∷ profile_refusal profile ∷ []) buffer
    (λ answer. answer ≡ filled rewritten (profile_written (second_in profile) (profile_in profile)) buffer)

-- "give the body of record n of a checked profile"; "if that refuses, or there is no record n, it answers the empty part alone"
unfoldable pub records_from : ℕ → List ℕ → List ℕ
records_from zero l = l
records_from (suc n) l = records_from n (drop (record_length l) l)

unfoldable pub or_nothing : ℕ → List ℕ → List ℕ
or_nothing zero body = body
or_nothing (suc n) body = []

unfoldable pub body_at : List ℕ → ℕ → List ℕ
body_at profile n = or_nothing (profile_refusal profile).number (record_body (records_from n profile))

-- "test inclusion of two paths"
unfoldable pub Includes : (profile P Q : List ℕ) → Answer → Type 0
Includes profile P Q =
    Unless (profile_refusal profile ∷ path_refusal (labels_in profile) 2 P ∷ path_refusal (labels_in profile) 3 Q ∷ []) []
    (λ answer.
    (Included (labels_in profile) P Q × (answer ≡ plain included)) ⊎ ((Included (labels_in profile) P Q → ⊥) × (answer ≡ plain not_included)))

-- the tree that a file says
unfoldable pub tree_in : (profile tree : List ℕ) → Table
tree_in profile tree = table_of (nodes_in (second_in profile) (labels_in profile) tree)

unfoldable pub KeepsIn : (profile tree : List ℕ) → Key → Type 0
KeepsIn profile tree key = Keeps (class_of (labels_in profile)) (tree_in profile tree) key

unfoldable pub FirstIn : (profile tree : List ℕ) → Key → List ℕ → Type 0
FirstIn profile tree key numbers = FirstWitness (class_of (labels_in profile)) (tree_in profile tree) key numbers

-- the refusals of profile, question and tree in their order
unfoldable pub tree_refusals : (profile question tree : List ℕ) → List Refusal
tree_refusals profile question tree =
    profile_refusal profile ∷ question_refusal (labels_in profile) question ∷ tree_refusal (second_in profile) (labels_in profile) tree ∷ []

-- "test whether a tree keeps a key": a broken one with its first witness
unfoldable pub TestsTree : (profile question tree : List ℕ) → Answer → Type 0
TestsTree profile question tree =
    Unless (tree_refusals profile question tree) []
    (λ answer.
    (KeepsIn profile tree (question_in question) × (answer ≡ plain kept))
    ⊎ ((numbers : List ℕ) × FirstIn profile tree (question_in question) numbers × (answer ≡ shown broken numbers)))

-- The lines of a proof judged from the front: the first that does not follow is refused by 9, else the first that is not a line by its own
-- number, else the proof by 10 where its last key is not the question, else it is accepted
pub data ProofJudged (single : ℕ → Bool) (labels : List Label) (keys : List Key) (question : Key) (walked : Walked (List Line)) (answer : Answer) : Type 0 where
  unfollowed : (n : ℕ) → n < length walked.state → FollowsBelow single labels keys walked.state n → (FollowsAt single labels keys walked.state n → ⊥)
      → answer ≡ refused_by (record { number = 9; input = 3; place = n }) [] → ProofJudged single labels keys question walked answer
  faulty : FollowsBelow single labels keys walked.state (length walked.state) → 0 < walked.number
      → answer ≡ refused_by (record { number = walked.number; input = 3; place = walked.at }) [] → ProofJudged single labels keys question walked answer
  other_end : FollowsBelow single labels keys walked.state (length walked.state) → walked.number ≡ 0 → (EndsWith walked.state question → ⊥)
      → answer ≡ refused_by (record { number = 10; input = 3; place = length walked.state - 1 }) []
      → ProofJudged single labels keys question walked answer
  proved : FollowsBelow single labels keys walked.state (length walked.state) → walked.number ≡ 0 → EndsWith walked.state question
      → answer ≡ plain accepted → ProofJudged single labels keys question walked answer

-- "check a proof"
unfoldable pub ChecksProof : (profile question proof : List ℕ) → Answer → Type 0
ChecksProof profile question proof =
    Unless
    (profile_refusal profile ∷ question_refusal (labels_in profile) question ∷ Refusals.oversize 3 proof_bytes proof ∷ [])
    []
    (ProofJudged (single_in profile) (labels_in profile) (keys_in profile) (question_in question) (proof_walked (labels_in profile) proof))

-- An operation that takes an accepted proof and fills the answer buffer with these bytes. 14 comes first; "A proof that is not accepted is refused
-- with the checker's number" (02, request 10)
unfoldable pub of_checked : Verdict → (bytes buffer : List ℕ) → Answer → Answer
of_checked v bytes buffer checked =
    elim checked.number [
      | zero ↦ filled v bytes buffer
      | suc n ↦ refused_by (record { number = suc n; input = checked.input; place = checked.place }) buffer
    ]

pub record OfProof (v : Verdict) (profile question proof bytes buffer : List ℕ) (answer : Answer) : Type 0 where
  pub checked : Answer
  pub checks : ChecksProof profile question proof checked
  pub is : answer ≡ of_checked v bytes buffer checked

unfoldable pub FromProof : Verdict → (profile question proof bytes buffer : List ℕ) → Answer → Type 0
FromProof v profile question proof bytes buffer = Unless (answer_refusal buffer ∷ []) buffer (OfProof v profile question proof bytes buffer)

-- "check a counterexample": 12 "(input 1, as record the lowest such key number)" with that key's first witness, then 13; accepted with the
-- question's first witness
pub data CounterexampleJudged (profile question tree : List ℕ) (answer : Answer) : Type 0 where
  breaks_key : (n : ℕ) (key : Key) → get_elem? (keys_in profile) n ≡ some key → Each (KeepsIn profile tree) (take n (keys_in profile))
      → (numbers : List ℕ) → FirstIn profile tree key numbers → answer ≡ broken_by n numbers → CounterexampleJudged profile question tree answer
  keeps_question : Each (KeepsIn profile tree) (keys_in profile) → KeepsIn profile tree (question_in question)
      → answer ≡ refused_by (record { number = 13; input = 3; place = 0 }) [] → CounterexampleJudged profile question tree answer
  refutes : Each (KeepsIn profile tree) (keys_in profile) → (numbers : List ℕ) → FirstIn profile tree (question_in question) numbers
      → answer ≡ shown accepted numbers → CounterexampleJudged profile question tree answer

unfoldable pub ChecksCounterexample : (profile question tree : List ℕ) → Answer → Type 0
ChecksCounterexample profile question tree =
    Unless (tree_refusals profile question tree) [] (CounterexampleJudged profile question tree)

-- "list a block of a tree"; input 2 is not there
unfoldable pub Lists : (profile tree : List ℕ) (k : ℕ) (buffer : List ℕ) → Answer → Type 0
Lists profile tree k buffer =
    Unless (answer_refusal buffer ∷ profile_refusal profile ∷ tree_refusal (second_in profile) (labels_in profile) tree ∷ []) buffer
    (λ answer. answer ≡ filled listed (block (labels_in profile) (nodes_in (second_in profile) (labels_in profile) tree) k) buffer)

-- "decide a question". Implied: the first `used` bytes of the buffer are a proof that the check accepts. Not implied: they are the tree
-- that is fixed, which the check accepts. (11 is retired: the tree has at most 178 nodes)
pub record ProofWritten (profile question buffer : List ℕ) (answer : Answer) : Type 0 where
  pub holds : Implied (second_in profile) (labels_in profile) (keys_in profile) (question_in question)
  pub bytes : List ℕ
  pub checked : ChecksProof profile question bytes (plain accepted)
  pub answered : answer ≡ filled implied bytes buffer
  pub fits : length bytes ≤ length buffer

pub record TreeWritten (profile question buffer : List ℕ) (answer : Answer) : Type 0 where
  pub fails : Implied (second_in profile) (labels_in profile) (keys_in profile) (question_in question) → ⊥
  pub u : ℕ
  pub is_u : IsU (single_in profile) (keys_in profile) (question_in question) u
  pub witness : List ℕ
  pub checked : ChecksCounterexample profile question (written_tree (class_of (labels_in profile)) (question_in question) u) (shown accepted witness)
  pub answered : answer ≡ filled not_implied (written_tree (class_of (labels_in profile)) (question_in question) u) buffer

unfoldable pub Decides : (profile question buffer : List ℕ) → Answer → Type 0
Decides profile question buffer =
    Unless (answer_refusal buffer ∷ profile_refusal profile ∷ question_refusal (labels_in profile) question ∷ []) buffer
    (λ answer. ProofWritten profile question buffer answer ⊎ TreeWritten profile question buffer answer)
