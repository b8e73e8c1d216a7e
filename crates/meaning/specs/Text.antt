-- Keys in plain text: document 02, request 1. The grammar is the set of lines that `print_key` writes for a typed key whose names are well formed;
-- there is no parser here.
use Rattle.std.specs.Prelude.{ℕ, ◌≡◌, Bool, true, cond, ◌&&◌, List, [], ◌∷◌, ◌++◌, map, T, eqb}
use Rattle.std.proofs.Math.Option.{Option, none, some}
use Rattle.meaning.specs.Limits.{text_label, element_class, attribute_class, in_profile}
use Rattle.meaning.specs.Lists.{every, same, before}
use Rattle.meaning.specs.Paths.{Label, Class, element, attribute, text, declared_class}
use Rattle.meaning.specs.Keys.{Key}
use Rattle.meaning.specs.Records.{and_then, key_bytes}
use Rattle.meaning.specs.Refusals.{is_name, first_of, key_tests, profile_refusal, question_refusal, question_in, answer_refusal}
use Rattle.meaning.specs.Operations.{Answer, Unless, refused_by, filled, labels_in, key_read, line_written}

-- A symbol as it is typed: "`_*` for the any-path, `#` for text, `@` before attribute names"
pub data Typed : Type 0 where
  any_path text_node : Typed
  attribute_named element_named : List ℕ → Typed

pub record TypedKey : Type 0 where
  pub context : List Typed
  pub target : List Typed
  pub paths : List (List Typed)

-- "Names are formed as in label records"
unfoldable pub well_named : Typed → Bool
well_named any_path = true
well_named text_node = true
well_named (attribute_named name) = is_name name
well_named (element_named name) = is_name name

unfoldable pub all_named : TypedKey → Bool
all_named k = every well_named k.context && every well_named k.target && every (every well_named) k.paths

-- the bytes . , space ( ) { }
abbrev pub dot : List ℕ
dot = 46 ∷ []

abbrev pub comma : List ℕ
comma = 44 ∷ 32 ∷ []

unfoldable pub print_symbol : Typed → List ℕ
print_symbol any_path = 95 ∷ 42 ∷ []
print_symbol text_node = 35 ∷ []
print_symbol (attribute_named name) = 64 ∷ name
print_symbol (element_named name) = name

-- texts with a mark before each but the first
unfoldable pub joined_by : List ℕ → List (List ℕ) → List ℕ
joined_by mark [] = []
joined_by mark (t ∷ []) = t
joined_by mark (t ∷ u ∷ ts) = t ++ (mark ++ joined_by mark (u ∷ ts))

-- "labels joined by dots", "a lone `.` for the empty path"
unfoldable pub print_path : List Typed → List ℕ
print_path [] = dot
print_path (s ∷ p) = joined_by dot (map print_symbol (s ∷ p))

-- "one key a line in the manner of document 001: `(port, (frame, {@seq, stamp}))`", "exactly one space after each comma"; "`{}` is in the grammar"
unfoldable pub print_key : TypedKey → List ℕ
print_key k =
    (40 ∷ []) ++ (print_path k.context ++ (comma ++ ((40 ∷ []) ++ (print_path k.target ++ (comma
    ++ ((123 ∷ []) ++ (joined_by comma (map print_path k.paths) ++ (125 ∷ 41 ∷ 41 ∷ []))))))))

-- a line of the grammar, and its reading
pub record IsLine (line : List ℕ) (k : TypedKey) : Type 0 where
  pub named : T (all_named k)
  pub is : line ≡ print_key k

-- 18: "name not in the profile or there with the other class": the number of the label that has the name, where its class is the one typed
unfoldable pub label_named : List Label → ℕ → List ℕ → Option ℕ
label_named [] class name = none
label_named (l ∷ labels) class name =
    cond (same l.name name) (cond (eqb l.class class) (some l.number) none) (label_named labels class name)

unfoldable pub symbol_of : List Label → Typed → Option ℕ
symbol_of labels any_path = some 0
symbol_of labels text_node = some text_label
symbol_of labels (attribute_named name) = label_named labels attribute_class name
symbol_of labels (element_named name) = label_named labels element_class name

-- all of them, or none where one is missing
unfoldable pub every_one : {A B : Type 0} → (A → Option B) → List A → Option (List B)
every_one f [] = some []
every_one f (x ∷ xs) = and_then (f x) (λ y. and_then (every_one f xs) (λ ys. some (y ∷ ys)))

-- "Key paths may be typed in whichever order and are put into record order"
unfoldable pub put_path : List ℕ → List (List ℕ) → List (List ℕ)
put_path p [] = p ∷ []
put_path p (q ∷ qs) = cond (before p q) (p ∷ q ∷ qs) (q ∷ put_path p qs)

unfoldable pub in_record_order : (done typed : List (List ℕ)) → List (List ℕ)
in_record_order done [] = done
in_record_order done (p ∷ typed) = in_record_order (put_path p done) typed

unfoldable pub typed_key : List Label → TypedKey → Option Key
typed_key labels k =
    and_then (every_one (symbol_of labels) k.context)
    (λ c. and_then (every_one (symbol_of labels) k.target)
    (λ t. and_then (every_one (every_one (symbol_of labels)) k.paths)
    (λ s. some (record { context = c; target = t; paths = in_record_order [] s }))))

-- "17 not a line of the grammar, 18 ..; they come with input 2 before 4, 17 first." Two equal paths in record order are not ascending: 5
pub data TextJudged (labels : List Label) (line buffer : List ℕ) (answer : Answer) : Type 0 where
  not_a_line : ((k : TypedKey) → IsLine line k → ⊥) → answer ≡ refused_by (record { number = 17; input = 2; place = 0 }) buffer
      → TextJudged labels line buffer answer
  unknown_name : (k : TypedKey) → IsLine line k → typed_key labels k ≡ none → answer ≡ refused_by (record { number = 18; input = 2; place = 0 }) buffer
      → TextJudged labels line buffer answer
  bad_key : (k : TypedKey) → IsLine line k → (key : Key) → typed_key labels k ≡ some key → (first_of (key_tests labels in_profile key) ≡ 0 → ⊥)
      → answer ≡ refused_by (record { number = first_of (key_tests labels in_profile key); input = 2; place = 0 }) buffer
      → TextJudged labels line buffer answer
  is_key : (k : TypedKey) → IsLine line k → (key : Key) → typed_key labels k ≡ some key → first_of (key_tests labels in_profile key) ≡ 0
      → answer ≡ filled key_read (key_bytes key) buffer → TextJudged labels line buffer answer

-- the reader: a profile and a line, which has no line end
unfoldable pub ReadsLine : (profile line buffer : List ℕ) → Answer → Type 0
ReadsLine profile line buffer =
    Unless (answer_refusal buffer ∷ profile_refusal profile ∷ []) buffer (TextJudged (labels_in profile) line buffer)

-- the writer: the name of each declared symbol
unfoldable pub name_of : List Label → ℕ → List ℕ
name_of [] n = []
name_of (l ∷ labels) n = cond (eqb l.number n) l.name (name_of labels n)

unfoldable pub named : Class → List ℕ → Typed
named element name = element_named name
named attribute name = attribute_named name
named text name = text_node

unfoldable pub typed_symbol : List Label → ℕ → Typed
typed_symbol labels s =
    cond (eqb s 0) any_path (cond (eqb s text_label) text_node (named (declared_class labels s) (name_of labels s)))

unfoldable pub typed_of : List Label → Key → TypedKey
typed_of labels key =
    record {
      context = map (typed_symbol labels) key.context;
      target = map (typed_symbol labels) key.target;
      paths = map (map (typed_symbol labels)) key.paths;
    }

unfoldable pub WritesLine : (profile question buffer : List ℕ) → Answer → Type 0
WritesLine profile question buffer =
    Unless (answer_refusal buffer ∷ profile_refusal profile ∷ question_refusal (labels_in profile) question ∷ []) buffer
    (λ answer. answer ≡ filled line_written (print_key (typed_of (labels_in profile) (question_in question))) buffer)
