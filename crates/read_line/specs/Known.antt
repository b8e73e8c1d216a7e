-- The parts of a line together: what all of them come to is what the line comes to.
use Rattle.std.specs.Prelude.{ℕ, zero, suc, ◌≡◌, refl, Bool, true, ◌&&◌, ltb, List, [], ◌∷◌, length, get_or, is_some, Result}
use Rattle.std.proofs.Common.{sym, ap, subst, ◌∙◌, arith, ltb-true}
use Rattle.std.proofs.Math.Option.{Option, none, some}
use Rattle.meaning.specs.Limits.{in_profile}
use Rattle.meaning.specs.Lists.{every}
use Rattle.meaning.specs.Paths.{Label, simple}
use Rattle.meaning.specs.Keys.{Key}
use Rattle.meaning.specs.Records.{and_then}
use Rattle.meaning.specs.Text.{Typed, symbol_of, every_one, in_record_order, typed_key}
use Rattle.theory_lists.specs.Bools.{and_first, and_second}
use Rattle.theory_text.specs.Reading.{read_text}
use Rattle.theory_text.specs.Passes.{every_order, length_order}
use Rattle.read_record.specs.Classes.{ByteAt, good_path_by, good_symbols_by}
use Rattle.read_record.specs.Tables.{ByteKey}
use Rattle.read_key.specs.Symbols.{good_key_path}
use Rattle.read_text.specs.Cutting.{Parts, together}
use Rattle.read_symbols.specs.declared.errors.TextError.{TextError}
use Rattle.read_symbols.specs.declared.path.PathRead.{PathRead}
use Rattle.read_symbols.specs.Outcomes.{Outcome, Made, both, both_of, outcome_weaker, outcome_read, outcome_both}
use Rattle.read_symbols.specs.Scanning.{Slot, PathHolds, PathTold}
use Rattle.read_typed.specs.declared.set.SetRead.{SetRead}
use Rattle.read_typed.specs.Gathering.{is_bytes, Gathered, SetTold}

-- what is known of a line's key
pub record LineKnown (classes out : List ℕ) (c t : PathRead) (s : SetRead) (key : Key) : Type 0 where
  pub typed : List (List ℕ)
  pub context : PathHolds c key.context
  pub target : PathHolds t key.target
  pub kept : Gathered classes out s typed
  pub are : key.paths ≡ in_record_order [] typed

typed_law : (labels : List Label) (ct : List Typed × List Typed) (s : List (List Typed))
    → typed_key labels (record { context = ct.0; target = ct.1; paths = s })
    ≡ both_of (λ (p : List ℕ × List ℕ) (q : List (List ℕ)). record { context = p.0; target = p.1; paths = in_record_order [] q })
    (both_of (λ (a b : List ℕ). (a, b)) (every_one (symbol_of labels) ct.0) (every_one (symbol_of labels) ct.1)) (every_one (every_one (symbol_of labels)) s)
unfolding typed_key both_of
typed_law labels ct s = go (every_one (symbol_of labels) ct.0) (every_one (symbol_of labels) ct.1) (every_one (every_one (symbol_of labels)) s)
  where
    go : (x y : Option (List ℕ)) (z : Option (List (List ℕ)))
        → and_then x (λ c. and_then y (λ t. and_then z (λ s. some (record { context = c; target = t; paths = in_record_order [] s }))))
        ≡ and_then {B = Key} (and_then {B = List ℕ × List ℕ} x (λ a. and_then y (λ b. some (a, b)))) (λ p. and_then z (λ q. some (record { context = p.0; target = p.1; paths = in_record_order [] q })))
    go none y z = unfold and_then in refl
    go (some c) none z = unfold and_then in refl
    go (some c) (some t) none = unfold and_then in refl
    go (some c) (some t) (some s) = unfold and_then in refl

parts_law : (x y : Option (List Typed)) (z : Option (List (List Typed)))
    → both_of (λ (ct : List Typed × List Typed) (s : List (List Typed)). record { context = ct.0; target = ct.1; paths = s }) (both_of (λ (a b : List Typed). (a, b)) x y) z ≡ together x y z
unfolding both_of together and_then
parts_law none y z = refl
parts_law (some c) none z = refl
parts_law (some c) (some t) none = refl
parts_law (some c) (some t) (some s) = refl

pub line_outcome : {labels : List Label} {classes line context target set : List ℕ} → Parts line context target set → {rc rt : Result PathRead TextError}
    → PathTold labels context rc → PathTold labels target rt → {out : List ℕ} {rs : Result SetRead TextError} → SetTold labels classes set out rs
    → {ends : Result (PathRead × PathRead) TextError} → ends ≡ both rc rt → {all : Result ((PathRead × PathRead) × SetRead) TextError} → all ≡ both ends rs
    → Outcome (read_text line) (typed_key labels) all (λ v key. LineKnown classes out v.0.0 v.0.1 v.1 key)
unfolding Made
line_outcome {labels} {classes} parts {rc} {rt} context target {out} {rs} set e f =
    rw (f, e)
    (outcome_weaker known
    (outcome_read (parts_law _ _ _ ∙ sym parts.reads)
    (outcome_both (λ (ct : List Typed × List Typed) (s : List (List Typed)). record { context = ct.0; target = ct.1; paths = s })
    (λ (p : List ℕ × List ℕ) (q : List (List ℕ)). record { context = p.0; target = p.1; paths = in_record_order [] q }) (typed_key labels) (typed_law labels)
    (outcome_both (λ (a b : List Typed). (a, b)) (λ (a b : List ℕ). (a, b))
    (λ (ct : List Typed × List Typed). both_of (λ (a b : List ℕ). (a, b)) (every_one (symbol_of labels) ct.0) (every_one (symbol_of labels) ct.1)) (λ a b. refl)
    context.told target.told)
    set.told)))
  where
    known : (v : (PathRead × PathRead) × SetRead) (key : Key)
        → (p : List ℕ × List ℕ) × (q : List (List ℕ)) × (key ≡ record { context = p.0; target = p.1; paths = in_record_order [] q })
        × ((a : List ℕ) × (b : List ℕ) × (p ≡ (a, b)) × PathHolds v.0.0 a × PathHolds v.0.1 b) × Gathered classes out v.1 q
        → LineKnown classes out v.0.0 v.0.1 v.1 key
    known v key (p, q, e, (a, b, f, s, u), k) =
        record {
          typed = q;
          context = subst (PathHolds v.0.0) (sym (ap (λ (x : Key). x.context) e ∙ ap (λ (x : List ℕ × List ℕ). x.0) f)) s;
          target = subst (PathHolds v.0.1) (sym (ap (λ (x : Key). x.target) e ∙ ap (λ (x : List ℕ × List ℕ). x.1) f)) u;
          kept = k;
          are = ap (λ (x : Key). x.paths) e;
        }

path_bytes : (p : List ℕ) → every (λ (b : ℕ). ltb b 256) p ≡ true → ByteAt p
unfolding every
path_bytes [] e i = omega arith
path_bytes (b ∷ p) e zero = ltb-true _ _ (and_first (ltb b 256) (every (λ (b : ℕ). ltb b 256) p) e)
path_bytes (b ∷ p) e (suc i) = path_bytes p (and_second (ltb b 256) (every (λ (b : ℕ). ltb b 256) p) e) i

each_bytes : (ps : List (List ℕ)) → every is_bytes ps ≡ true → (n : ℕ) → ByteAt (get_or ps n [])
unfolding every is_bytes
each_bytes [] e n = λ i. omega arith
each_bytes (p ∷ ps) e zero = path_bytes p (and_first (is_bytes p) (every is_bytes ps) e)
each_bytes (p ∷ ps) e (suc n) = each_bytes ps (and_second (is_bytes p) (every is_bytes ps) e) n

-- what 4 asks, and how many paths there are
module _ {classes out : List ℕ} {c t : PathRead} {s : SetRead} {key : Key} (k : LineKnown classes out c t s key) where
  pub known_symbols : {x y : Bool} → ((p : List ℕ) → Slot c.count c.path p → x ≡ good_path_by classes 8 p) → ((p : List ℕ) → Slot t.count t.path p → y ≡ good_path_by classes 8 p)
      → (x && y && is_some s.used) ≡ good_symbols_by classes in_profile key
  unfolding good_symbols_by good_key_path every
  known_symbols x y =
      rw (
        x key.context k.context.slot,
        y key.target k.target.slot,
        k.kept.fit,
        k.are,
        every_order (λ (p : List ℕ). good_path_by classes 8 p && simple p) [] k.typed,
      )

  pub known_count : s.count ≡ length key.paths
  known_count = k.kept.counted ∙ sym (ap length k.are ∙ (length_order [] k.typed ∙ (omega arith)))

  pub known_bytes : ByteKey key
  known_bytes = record { context = k.context.slot.bytes; target = k.target.slot.bytes; paths = λ n. each_bytes key.paths all n }
    where
      all : every is_bytes key.paths ≡ true
      all = unfold every in ap (every is_bytes) k.are ∙ (every_order is_bytes [] k.typed ∙ k.kept.bytes)
