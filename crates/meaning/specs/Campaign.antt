-- Counting over a campaign: document 02, request 12.
use Rattle.std.specs.Prelude.{ℕ, suc, ◌<◌, ◌≡◌, cond, eqb, ltb, length}
use mathlib.Core.List.{List, [], ◌∷◌, ◌++◌, map, flatten}
use Rattle.std.proofs.Math.Option.{some}
use Rattle.std.proofs.Math.ListN.{get_elem?}
use Rattle.meaning.specs.Lists.{numbers, keep}
use Rattle.meaning.specs.Paths.{class_of}
use Rattle.meaning.specs.Keys.{Key, Breaks}
use Rattle.meaning.specs.Refusals.{Refusal, sound, profile_refusal, tree_refusal, answer_refusal}
use Rattle.meaning.specs.Listing.{decimal, space, newline}
use Rattle.meaning.specs.Operations.{Answer, Unless, filled, reported, labels_in, keys_in, second_in, tree_in, KeepsIn}

-- "A campaign is up to 200 segment files, named one a line": each input is the bytes of a file, or a name that cannot be read
pub data Segment : Type 0 where
  unreadable : Segment
  segment : List ℕ → Segment

-- "exact counts defined over the list of inputs": so many members are of this kind, counted one by one
pub data Counted {A : Type 0} (Q : A → Type 0) : List A → ℕ → Type 0 where
  none : Counted Q [] 0
  one : {x : A} {xs : List A} {n : ℕ} → Q x → Counted Q xs n → Counted Q (x ∷ xs) (suc n)
  other : {x : A} {xs : List A} {n : ℕ} → (Q x → ⊥) → Counted Q xs n → Counted Q (x ∷ xs) n

-- "the number of segments that keep it, that break it": of those that are not refused. A tree breaks a key where there is a witness
unfoldable pub BreaksIn : (profile tree : List ℕ) → Key → Type 0
BreaksIn profile tree key = Breaks (class_of (labels_in profile)) (tree_in profile tree) key

unfoldable pub KeptBy : List ℕ → Key → Segment → Type 0
KeptBy profile key unreadable = ⊥
KeptBy profile key (segment tree) = ((tree_refusal (second_in profile) (labels_in profile) tree).number ≡ 0) × KeepsIn profile tree key

unfoldable pub BrokenBy : List ℕ → Key → Segment → Type 0
BrokenBy profile key unreadable = ⊥
BrokenBy profile key (segment tree) = ((tree_refusal (second_in profile) (labels_in profile) tree).number ≡ 0) × BreaksIn profile tree key

-- "apart from keys, the number refused by each refusal number"
unfoldable pub RefusedBy : List ℕ → ℕ → Segment → Type 0
RefusedBy profile number unreadable = ⊥
RefusedBy profile number (segment tree) = (0 < number) × ((tree_refusal (second_in profile) (labels_in profile) tree).number ≡ number)

-- "`unread` and the count of unreadable names"
unfoldable pub Unread : Segment → Type 0
Unread unreadable = Unit {0}
Unread (segment tree) = ⊥

-- The counts of a campaign: by key number, by refusal number, and of the unreadable names
pub record Counts : Type 0 where
  pub kept : ℕ → ℕ
  pub broken : ℕ → ℕ
  pub refused : ℕ → ℕ
  pub unread : ℕ

pub record IsReport (profile : List ℕ) (segments : List Segment) (c : Counts) : Type 0 where
  pub kept : (n : ℕ) (key : Key) → get_elem? (keys_in profile) n ≡ some key → Counted (KeptBy profile key) segments (c.kept n)
  pub broken : (n : ℕ) (key : Key) → get_elem? (keys_in profile) n ≡ some key → Counted (BrokenBy profile key) segments (c.broken n)
  pub refused : (number : ℕ) → Counted (RefusedBy profile number) segments (c.refused number)
  pub unread : Counted Unread segments c.unread

-- "one line a key (number, kept, broken), then number and count for each refusal number that occurred, ascending, then `unread` and the count"
unfoldable pub key_line : Counts → ℕ → List ℕ
key_line c n = decimal n ++ (space ++ (decimal (c.kept n) ++ (space ++ (decimal (c.broken n) ++ newline))))

unfoldable pub refusal_line : Counts → ℕ → List ℕ
refusal_line c number = decimal number ++ (space ++ (decimal (c.refused number) ++ newline))

-- refusal numbers are 1 to 19
abbrev pub last_number : ℕ
last_number = 19

unfoldable pub occurred : Counts → List ℕ
occurred c = keep (λ (number : ℕ). ltb 0 (c.refused number)) (numbers last_number 1)

unfoldable pub report_bytes : ℕ → Counts → List ℕ
report_bytes keys c =
    flatten (map (key_line c) (numbers keys 0))
    ++ (flatten (map (refusal_line c) (occurred c))
    ++ ((117 ∷ 110 ∷ 114 ∷ 101 ∷ 97 ∷ 100 ∷ 32 ∷ []) ++ (decimal c.unread ++ newline)))

-- "named one a line": names are parted by newlines, and a last newline ends the last name
unfoldable pub in_front : ℕ → List (List ℕ) → List (List ℕ)
in_front b [] = (b ∷ []) ∷ []
in_front b (name ∷ names) = (b ∷ name) ∷ names

unfoldable pub names_in : List ℕ → List (List ℕ)
names_in [] = []
names_in (b ∷ l) = let rest = names_in l in cond (eqb b 10) ([] ∷ rest) (in_front b rest)

-- "a list of over 200 names, 7 with input 3, before the profile"
abbrev pub campaign_names : ℕ
campaign_names = 200

unfoldable pub list_refusal : List ℕ → Refusal
list_refusal list = cond (ltb campaign_names (length (names_in list))) (record { number = 7; input = 3; place = 0 }) sound

-- "report a campaign": 14, then 7 of the list, then the profile; else the exact counts over the list of inputs, as lines
unfoldable pub Reports : (list profile : List ℕ) (segments : List Segment) (buffer : List ℕ) → Answer → Type 0
Reports list profile segments buffer =
    Unless (answer_refusal buffer ∷ list_refusal list ∷ profile_refusal profile ∷ []) buffer
    (λ answer. (c : Counts) × IsReport profile segments c × (answer ≡ filled reported (report_bytes (length (keys_in profile)) c) buffer))
