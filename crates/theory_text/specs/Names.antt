-- A key's own names are read back: of accepted labels each number has one name, and each name one number and class.
use Rattle.std.specs.Prelude.{ℕ, ◌≡◌, refl, ◌⊎◌, Bool, cond, ◌&&◌, ◌||◌, not, eqb, leb, ltb}
use Rattle.std.proofs.Common.{sym, ap, ◌∙◌, inl, inr}
use Rattle.std.proofs.Math.Path.{subst}
use Rattle.std.proofs.Math.Bool.{true, false}
use mathlib.Core.List.{List, [], ◌∷◌, ◌++◌, map, Memᴰ}
use Rattle.std.proofs.Math.Option.{Option, none, some, none-ne-some}
use borrow.Author.Tests.{eqb-true, eq-eqb}
use Rattle.std.proofs.Math.Dec.{T}
use Rattle.meaning.specs.Limits.{KeyLimits}
use Rattle.meaning.specs.Lists.{every, any, same}
use Rattle.meaning.specs.Paths.{Label, Class, element, attribute, declared, declared_class}
use Rattle.meaning.specs.Keys.{Key}
use Rattle.meaning.specs.Records.{and_then}
use Rattle.meaning.specs.Refusals.{is_name, good_label, is_symbol}
use Rattle.meaning.specs.Text.{Typed, any_path, text_node, well_named, all_named, label_named, symbol_of, every_one, typed_key, name_of, named, typed_symbol, typed_of}
use Rattle.theory_lists.specs.Bools.{true_of, of_true, of_false, both, or_cases, T-cases, every_each, same_refl}
use Rattle.theory_paths.specs.Good.{GoodKey, context_symbols, target_symbols, key_path_symbols, paths_ascending}
use Rattle.theory_records.specs.Profiles.{LabelsRead, none_yet, one_more}
use Rattle.theory_text.specs.Order.{in_order}

-- What a good label says beside those before it
record Label-good (labels : List Label) (l : Label) : Type 0 where
  class : (l.class ≡ 1) ⊎ (l.class ≡ 2)
  name : T (is_name l.name)
  new : any (λ (k : Label). same k.name l.name) labels ≡ false

six : (a b c d e f : Bool) → T (a && b && c && d && e && not f) → T d × T e × (f ≡ false)
six true true true true true true t = absurd t
six true true true true true false t = (tt, tt, refl)
six true true true true false f t = absurd t
six true true true false e f t = absurd t
six true true false d e f t = absurd t
six true false c d e f t = absurd t
six false b c d e f t = absurd t

label_good : (labels : List Label) (l : Label) → good_label labels l ≡ true → Label-good labels l
unfolding good_label
label_good labels l e =
    let r =
    six (leb 2 l.number) (leb l.number 200) (every (λ (k : Label). ltb k.number l.number) labels) (eqb l.class 1 || eqb l.class 2) (is_name l.name)
    (any (λ (k : Label). same k.name l.name) labels) (of_true _ e) in
    record { class = go (or_cases (eqb l.class 1) (eqb l.class 2) r.0); name = r.1; new = r.2 }
  where
    go : T (eqb l.class 1) ⊎ T (eqb l.class 2) → (l.class ≡ 1) ⊎ (l.class ≡ 2)
    go (inl t) = inl (eqb-true _ _ (true_of _ t))
    go (inr t) = inr (eqb-true _ _ (true_of _ t))

-- what is found stays found
named_stays : (labels more : List Label) (class : ℕ) (name : List ℕ) (s : ℕ) → label_named labels class name ≡ some s
    → label_named (labels ++ more) class name ≡ some s
unfolding label_named
named_stays [] more class name s e = absurd (none-ne-some _ e)
named_stays (l ∷ labels) more class name s e = go (same l.name name) e (named_stays labels more class name s)
  where
    go : (b : Bool) → cond b (cond (eqb l.class class) (some l.number) none) (label_named labels class name) ≡ some s
        → (label_named labels class name ≡ some s → label_named (labels ++ more) class name ≡ some s)
        → cond b (cond (eqb l.class class) (some l.number) none) (label_named (labels ++ more) class name) ≡ some s
    go true e more = e
    go false e more = more e

-- a name that was not used is found behind
named_new : (labels more : List Label) (class : ℕ) (name : List ℕ) → any (λ (k : Label). same k.name name) labels ≡ false
    → label_named (labels ++ more) class name ≡ label_named more class name
unfolding label_named any
named_new [] more class name e = refl
named_new (l ∷ labels) more class name e = go (same l.name name) e (named_new labels more class name)
  where
    go : (b : Bool) → b || any (λ (k : Label). same k.name name) labels ≡ false
        → (any (λ (k : Label). same k.name name) labels ≡ false → label_named (labels ++ more) class name ≡ label_named more class name)
        → cond b (cond (eqb l.class class) (some l.number) none) (label_named (labels ++ more) class name) ≡ label_named more class name
    go true e more = absurd (of_false true e tt)
    go false e more = more e

-- the name and the class of a number that is declared stay, else they are the next one's
name_stays : (labels more : List Label) (s : ℕ) → T (declared labels s) → (name_of (labels ++ more) s ≡ name_of labels s) × (declared_class (labels ++ more) s ≡ declared_class labels s)
unfolding name_of declared_class declared any
name_stays [] more s t = absurd t
name_stays (l ∷ labels) more s t = go (eqb l.number s) t (name_stays labels more s)
  where
    go : (b : Bool) → T (b || any (λ (k : Label). eqb k.number s) labels)
        → (T (any (λ (k : Label). eqb k.number s) labels) → (name_of (labels ++ more) s ≡ name_of labels s) × (declared_class (labels ++ more) s ≡ declared_class labels s))
        → (cond b l.name (name_of (labels ++ more) s) ≡ cond b l.name (name_of labels s))
        × (cond b (cond (eqb l.class 2) attribute element) (declared_class (labels ++ more) s) ≡ cond b (cond (eqb l.class 2) attribute element) (declared_class labels s))
    go true t more = (refl, refl)
    go false t more = more t

name_new : (labels : List Label) (l : Label) (s : ℕ) → (T (declared labels s) → ⊥) → T (declared (labels ++ (l ∷ [])) s)
    → (l.number ≡ s) × (name_of (labels ++ (l ∷ [])) s ≡ l.name) × (declared_class (labels ++ (l ∷ [])) s ≡ cond (eqb l.class 2) attribute element)
unfolding name_of declared_class declared any
name_new [] l s n t = go (eqb l.number s) refl t
  where
    go : (b : Bool) → eqb l.number s ≡ b → T (b || false)
        → (l.number ≡ s) × (cond b l.name [] ≡ l.name) × (cond b (cond (eqb l.class 2) attribute element) element ≡ cond (eqb l.class 2) attribute element)
    go true e t = (eqb-true _ _ e, refl, refl)
    go false e t = absurd t
name_new (k ∷ labels) l s n t = go (eqb k.number s) n t (name_new labels l s)
  where
    go : (b : Bool) → (T (b || any (λ (k : Label). eqb k.number s) labels) → ⊥) → T (b || any (λ (k : Label). eqb k.number s) (labels ++ (l ∷ [])))
        → ((T (any (λ (k : Label). eqb k.number s) labels) → ⊥) → T (any (λ (k : Label). eqb k.number s) (labels ++ (l ∷ [])))
        → (l.number ≡ s) × (name_of (labels ++ (l ∷ [])) s ≡ l.name) × (declared_class (labels ++ (l ∷ [])) s ≡ cond (eqb l.class 2) attribute element))
        → (l.number ≡ s) × (cond b k.name (name_of (labels ++ (l ∷ [])) s) ≡ l.name)
        × (cond b (cond (eqb k.class 2) attribute element) (declared_class (labels ++ (l ∷ [])) s) ≡ cond (eqb l.class 2) attribute element)
    go true n t more = absurd (n tt)
    go false n t more = more n t

-- A declared number: its name is well formed, and is read as that number with its own class
pub record Known (labels : List Label) (s : ℕ) : Type 0 where
  pub class : ℕ
  pub either : (class ≡ 1) ⊎ (class ≡ 2)
  pub is : declared_class labels s ≡ cond (eqb class 2) attribute element
  pub found : label_named labels class (name_of labels s) ≡ some s
  pub good : T (is_name (name_of labels s))

known_more : (before : List Label) (l : Label) (s : ℕ) → good_label before l ≡ true → T (declared (before ++ (l ∷ [])) s) → (T (declared before s) → Known before s)
    → Known (before ++ (l ∷ [])) s
known_more before l s good t more = go (T-cases (declared before s))
  where
    go : T (declared before s) ⊎ (T (declared before s) → ⊥) → Known (before ++ (l ∷ [])) s
    go (inl d) =
        let k = more d in
        let n = name_stays before (l ∷ []) s d in
        record {
          class = k.class;
          either = k.either;
          is = n.1 ∙ k.is;
          found = ap (label_named (before ++ (l ∷ [])) k.class) n.0 ∙ named_stays before (l ∷ []) k.class (name_of before s) s k.found;
          good = subst (λ (x : List ℕ). T (is_name x)) (sym n.0) k.good;
        }
    go (inr d) =
        let g = label_good before l good in
        let n = name_new before l s d t in
        record {
          class = l.class;
          either = g.class;
          is = n.2;
          found =
              ap (label_named (before ++ (l ∷ [])) l.class) n.1
              ∙ (named_new before (l ∷ []) l.class l.name g.new ∙ (one ∙ ap (λ (m : ℕ). some m) n.0));
          good = subst (λ (x : List ℕ). T (is_name x)) (sym n.1) g.name;
        }
      where
        one : label_named (l ∷ []) l.class l.name ≡ some l.number
        one = unfold label_named in rw (true_of (same l.name l.name) (same_refl l.name), eq-eqb l.class l.class refl)

pub known : {labels : List Label} → LabelsRead labels → (s : ℕ) → T (declared labels s) → Known labels s
known (none_yet e) s t = absurd (unfold declared any in subst (λ (ls : List Label). T (declared ls s)) e t)
known (one_more before l more good e) s t =
    subst (λ (ls : List Label). Known ls s) (sym e)
    (known_more before l s good (subst (λ (ls : List Label). T (declared ls s)) e t) (known more s))

-- A symbol of a good path, written and read
record SymbolBack (labels : List Label) (s : ℕ) : Type 0 where
  back : symbol_of labels (typed_symbol labels s) ≡ some s
  well : T (well_named (typed_symbol labels s))

symbol_back : {labels : List Label} → LabelsRead labels → (s : ℕ) → T (is_symbol labels s) → SymbolBack labels s
unfolding is_symbol typed_symbol symbol_of well_named named
symbol_back {labels} r s t = go (eqb s 0) refl (eqb s 1) refl t
  where
    declared_back : Known labels s → (c : Class) → declared_class labels s ≡ c
        → (symbol_of labels (named c (name_of labels s)) ≡ some s) × T (well_named (named c (name_of labels s)))
    declared_back k c e = at k.either
      where
        at : (k.class ≡ 1) ⊎ (k.class ≡ 2) → (symbol_of labels (named c (name_of labels s)) ≡ some s) × T (well_named (named c (name_of labels s)))
        at (inl one) =
            let f : c ≡ element = sym e ∙ (k.is ∙ ap (λ (n : ℕ). cond (eqb n 2) attribute element) one) in
            subst (λ (d : Class). (symbol_of labels (named d (name_of labels s)) ≡ some s) × T (well_named (named d (name_of labels s)))) (sym f)
            (subst (λ (n : ℕ). label_named labels n (name_of labels s) ≡ some s) one k.found, k.good)
        at (inr two) =
            let f : c ≡ attribute = sym e ∙ (k.is ∙ ap (λ (n : ℕ). cond (eqb n 2) attribute element) two) in
            subst (λ (d : Class). (symbol_of labels (named d (name_of labels s)) ≡ some s) × T (well_named (named d (name_of labels s)))) (sym f)
            (subst (λ (n : ℕ). label_named labels n (name_of labels s) ≡ some s) two k.found, k.good)

    put : (x : Typed) → typed_symbol labels s ≡ x → (symbol_of labels x ≡ some s) × T (well_named x) → SymbolBack labels s
    put x e w = record { back = ap (symbol_of labels) e ∙ w.0; well = subst (λ (y : Typed). T (well_named y)) (sym e) w.1 }

    go : (a : Bool) → eqb s 0 ≡ a → (b : Bool) → eqb s 1 ≡ b → T (a || b || declared labels s) → SymbolBack labels s
    go true e b f t = put any_path (unfold typed_symbol in rw e) (unfold symbol_of well_named in (ap (λ (n : ℕ). some n) (sym (eqb-true s 0 e)), tt))
    go false e true f t = put text_node (unfold typed_symbol in rw (e, f)) (unfold symbol_of well_named in (ap (λ (n : ℕ). some n) (sym (eqb-true s 1 f)), tt))
    go false e false f t =
        put (named (declared_class labels s) (name_of labels s)) (unfold typed_symbol in rw (e, f)) (declared_back (known r s t) (declared_class labels s) refl)

-- all of them read are what they were
pub back_each : {A B : Type 0} (f : A → Option B) (g : B → A) (xs : List B) → ((x : B) → Memᴰ x xs → f (g x) ≡ some x) → every_one f (map g xs) ≡ some xs
unfolding every_one and_then
back_each f g [] h = refl
back_each f g (x ∷ xs) h = rw (h x (Memᴰ.head refl), back_each f g xs (λ y m. h y (Memᴰ.tail m)))

each_well : {A B : Type 0} (f : A → Bool) (g : B → A) (xs : List B) → ((x : B) → Memᴰ x xs → T (f (g x))) → T (every f (map g xs))
unfolding every
each_well f g [] h = tt
each_well f g (x ∷ xs) h = both (f (g x)) (every f (map g xs)) (h x (Memᴰ.head refl)) (each_well f g xs (λ y m. h y (Memᴰ.tail m)))

module _ {labels : List Label} (r : LabelsRead labels) where
  path_back : (p : List ℕ) → T (every (is_symbol labels) p) → every_one (symbol_of labels) (map (typed_symbol labels) p) ≡ some p
  path_back p t = back_each (symbol_of labels) (typed_symbol labels) p (λ s m. (symbol_back r s (every_each (is_symbol labels) p t s m)).back)

  path_well : (p : List ℕ) → T (every (is_symbol labels) p) → T (every well_named (map (typed_symbol labels) p))
  path_well p t = each_well well_named (typed_symbol labels) p (λ s m. (symbol_back r s (every_each (is_symbol labels) p t s m)).well)

  module _ {limits : KeyLimits} (key : Key) (good : GoodKey labels limits key) where
    -- what is written for a good key is a line ..
    pub typed_named : T (all_named (typed_of labels key))
    unfolding all_named typed_of
    typed_named =
        let c : List Typed = map (typed_symbol labels) key.context in
        let t : List Typed = map (typed_symbol labels) key.target in
        both (every well_named c && every well_named t) (every (every well_named) (map (map (typed_symbol labels)) key.paths))
        (both (every well_named c) (every well_named t) (path_well key.context (context_symbols labels limits key good)) (path_well key.target (target_symbols labels limits key good)))
        (each_well (every well_named) (map (typed_symbol labels)) key.paths (λ p m. path_well p (key_path_symbols labels limits key good p m)))

    -- .. and is that key
    pub typed_back : typed_key labels (typed_of labels key) ≡ some key
    unfolding typed_key typed_of and_then
    typed_back =
        rw (
          path_back key.context (context_symbols labels limits key good),
          path_back key.target (target_symbols labels limits key good),
          back_each (every_one (symbol_of labels)) (map (typed_symbol labels)) key.paths (λ p m. path_back p (key_path_symbols labels limits key good p m)),
          in_order key.paths (paths_ascending labels limits key good),
        )
