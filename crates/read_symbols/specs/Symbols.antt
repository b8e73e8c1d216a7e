-- One symbol's text, return by return.
use Rattle.std.specs.Prelude.{ℕ, ◌<◌, ◌≡◌, refl, Bool, true, false, ◌&&◌, cond, ◌==◌, List, [], ◌∷◌, Result, Ok, Err}
use Rattle.std.proofs.Common.{sym, ◌∙◌, arith}
use Rattle.std.proofs.lemmas.Bool.{false≢true}
use Rattle.std.proofs.Math.Option.{none, some}
use Rattle.meaning.specs.Lists.{same}
use Rattle.meaning.specs.Paths.{Label}
use Rattle.meaning.specs.Refusals.{is_name}
use Rattle.meaning.specs.Text.{Typed, any_path, text_node, attribute_named, element_named, label_named, symbol_of}
use Rattle.theory_text.specs.Reading.{named_of, read_symbol}
use Rattle.read_text.specs.Cutting.{Missing, Stripped}
use Rattle.read_symbols.specs.declared.errors.TextError.{TextError}
use Rattle.read_symbols.specs.declared.errors.TextError.TheVariants.{UnknownName, NotALine}
use Rattle.read_symbols.specs.Outcomes
use Rattle.read_symbols.specs.Outcomes.{Outcome}

-- the symbol is that number, a byte
abbrev pub IsByte : ℕ → ℕ → Type 0
IsByte r s = (s ≡ r) × (r < 256)

-- what one symbol's text comes to
unfoldable pub SymbolTold : List Label → List ℕ → Result ℕ TextError → Type 0
SymbolTold labels t r = Outcome (read_symbol t) (symbol_of labels) r IsByte

-- what a name comes to
abbrev pub NameTold : List Label → ℕ → List ℕ → Result ℕ TextError → Type 0
NameTold labels class name (Ok r) = (is_name name ≡ true) × (label_named labels class name ≡ some r) × (r < 256)
NameTold labels class name (Err UnknownName) = (is_name name ≡ true) × (label_named labels class name ≡ none)
NameTold labels class name (Err NotALine) = is_name name ≡ false

head_is : (c d : Bool) → (c && true) ≡ d → c ≡ d
head_is true d e = e
head_is false d e = e

module _ (labels : List Label) (t : List ℕ) where
  pub told_any : {b : Bool} → b ≡ same t (95 ∷ 42 ∷ []) → b ≡ true → SymbolTold labels t (Ok 0)
  unfolding SymbolTold read_symbol symbol_of
  told_any e q = Outcomes.known any_path 0 0 refl (rw (sym e ∙ q)) refl (refl, (omega arith))

  module _ {b : Bool} (not_any : b ≡ same t (95 ∷ 42 ∷ [])) (p : b ≡ false) where
    pub told_text : {c : Bool} → c ≡ same t (35 ∷ []) → c ≡ true → SymbolTold labels t (Ok 1)
    unfolding SymbolTold read_symbol symbol_of
    told_text e q = Outcomes.known text_node 1 1 refl (rw (sym not_any ∙ p, sym e ∙ q)) refl (refl, (omega arith))

    module _ {c : Bool} (not_text : c ≡ same t (35 ∷ [])) (q : c ≡ false) where
      by_name : read_symbol t ≡ named_of t
      unfolding read_symbol
      by_name = rw (sym not_any ∙ p, sym not_text ∙ q)

      -- what the name comes to, where the text says the name
      of_name : (typed : List ℕ → Typed) (class : ℕ) (name : List ℕ) → symbol_of labels (typed name) ≡ label_named labels class name
          → named_of t ≡ cond (is_name name) (some (typed name)) none → (r : Result ℕ TextError) → NameTold labels class name r → SymbolTold labels t r
      unfolding SymbolTold
      of_name typed class name its e (Ok r) n = Outcomes.known (typed name) r r refl (by_name ∙ (e ∙ rw n.0 refl)) (its ∙ n.1) (refl, n.2)
      of_name typed class name its e (Err UnknownName) n = Outcomes.unknown (typed name) refl (by_name ∙ (e ∙ rw n.0 refl)) (its ∙ n.1)
      of_name typed class name its e (Err NotALine) n = Outcomes.torn refl (by_name ∙ (e ∙ rw n refl))

      -- a name with `@` before it
      pub told_attribute : {name : List ℕ} → Stripped (64 ∷ []) t name → (r : Result ℕ TextError) → NameTold labels 2 name r → SymbolTold labels t r
      unfolding named_of
      told_attribute {name} s r n = of_name attribute_named 2 name (unfold symbol_of in refl) (at t s) r n
        where
          at : (t : List ℕ) → Stripped (64 ∷ []) t name → named_of t ≡ cond (is_name name) (some (attribute_named name)) none
          at [] s = absurd (false≢true s.0)
          at (b ∷ l) s = rw (head_is (b == 64) true s.0, s.1) refl

      pub told_element : Missing (64 ∷ []) t → (r : Result ℕ TextError) → NameTold labels 1 t r → SymbolTold labels t r
      unfolding named_of is_name
      told_element m r n = of_name element_named 1 t (unfold symbol_of in refl) (at t m) r n
        where
          at : (t : List ℕ) → Missing (64 ∷ []) t → named_of t ≡ cond (is_name t) (some (element_named t)) none
          at [] m = refl
          at (b ∷ l) m = rw (head_is (b == 64) false m) refl
