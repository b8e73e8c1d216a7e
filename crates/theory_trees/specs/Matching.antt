-- Lists in another order: what is pairwise equal to a list can follow it into any order, and a count of its members is the same in any order.
use Rattle.std.specs.Prelude.{ℕ, suc, ◌+◌, ◌<◌, ◌≡◌, refl, Bool, true, false, T, length}
use Rattle.std.proofs.Common.{sym, ◌∙◌, ap, ap₂, subst, arith}
use mathlib.Core.List.Permᴰ
use mathlib.Core.List.{
  List,
  [],
  ◌∷◌,
  Memᴰ,
  Permᴰ,
}
use Rattle.meaning.specs.Paths.{Class}
use Rattle.meaning.specs.Trees.{Table, Equal, EqualSets, matched, EqualLists, ended, paired}

-- a member stays one
pub perm_mem : {x : ℕ} {xs ys : List ℕ} → Permᴰ xs ys → Memᴰ x xs → Memᴰ x ys
perm_mem (Permᴰ.cons e d) (Memᴰ.head p) = Memᴰ.head (p ∙ e)
perm_mem (Permᴰ.cons e d) (Memᴰ.tail m) = Memᴰ.tail (perm_mem d m)
perm_mem (Permᴰ.swap e f) (Memᴰ.head p) = Memᴰ.tail (Memᴰ.head (p ∙ e))
perm_mem (Permᴰ.swap e f) (Memᴰ.tail (Memᴰ.head p)) = Memᴰ.head (p ∙ f)
perm_mem (Permᴰ.swap e f) (Memᴰ.tail (Memᴰ.tail m)) = Memᴰ.tail (Memᴰ.tail m)
perm_mem (Permᴰ.trans d e) m = perm_mem e (perm_mem d m)
perm_mem Permᴰ.nil m = elim m [ ]

unfoldable pub one_if : Bool → ℕ
one_if true = 1
one_if false = 0

-- so many members pass the test
unfoldable pub count_of : (ℕ → Bool) → List ℕ → ℕ
count_of f [] = 0
count_of f (x ∷ xs) = one_if (f x) + count_of f xs

pub perm_count : (f : ℕ → Bool) {xs ys : List ℕ} → Permᴰ xs ys → count_of f xs ≡ count_of f ys
unfolding count_of
perm_count f Permᴰ.nil = refl
perm_count f (Permᴰ.cons {l₁ = l₁} {l₂ = l₂} e d) = ap₂ (λ (a n : ℕ). one_if (f a) + n) e (perm_count f d)
perm_count f (Permᴰ.swap {a = a} {b = b} {a' = c} {b' = d} {l = l} e g) =
    let p = ap (λ (n : ℕ). one_if (f n)) e in
    let q = ap (λ (n : ℕ). one_if (f n)) g in
    omega arith
perm_count f (Permᴰ.trans d e) = perm_count f d ∙ perm_count f e

pub perm_length : {xs ys : List ℕ} → Permᴰ xs ys → length xs ≡ length ys
perm_length Permᴰ.nil = refl
perm_length (Permᴰ.cons e d) = ap suc (perm_length d)
perm_length (Permᴰ.swap e f) = refl
perm_length (Permᴰ.trans d e) = perm_length d ∙ perm_length e

-- a member that passes the test, put in front of the others
pub record Picked (f : ℕ → Bool) (ys : List ℕ) : Type 0 where
  pub member : ℕ
  pub rest : List ℕ
  pub order : Permᴰ ys (member ∷ rest)
  pub passes : T (f member)

pub pick : (f : ℕ → Bool) (ys : List ℕ) → 0 < count_of f ys → Picked f ys
unfolding count_of one_if
pick f [] h = absurd (omega arith)
pick f (y ∷ ys) h = go (f y) refl (pick f ys) h
  where
    go : (b : Bool) → f y ≡ b → (0 < count_of f ys → Picked f ys) → 0 < one_if b + count_of f ys → Picked f (y ∷ ys)
    go true e r k = record { member = y; rest = ys; order = Permᴰ.refl (y ∷ ys); passes = subst T (sym e) tt }
    go false e r k =
        let p = r (omega arith) in
        record {
          member = p.member;
          rest = y ∷ p.rest;
          order = Permᴰ.trans (Permᴰ.cons refl p.order) (Permᴰ.swap refl refl);
          passes = p.passes;
        }

-- what is pairwise equal to a list, in the order that the list is put into
pub record Carried (κ : ℕ → Class) (t : Table) (ys zs : List ℕ) : Type 0 where
  pub other : List ℕ
  pub order : Permᴰ zs other
  pub equal : EqualLists κ t ys other

module _ {κ : ℕ → Class} {t : Table} where
  equal_first : {a b z : ℕ} → a ≡ b → Equal κ t a z → Equal κ t b z
  equal_first {z = z} e h = subst (λ (n : ℕ). Equal κ t n z) e h

  pub carried : {xs ys zs : List ℕ} → Permᴰ xs ys → EqualLists κ t xs zs → Carried κ t ys zs
  carried Permᴰ.nil ended = record { other = []; order = Permᴰ.nil; equal = ended }
  carried (Permᴰ.cons e d) (paired {y = z} h r) =
      let c = carried d r in
      record { other = z ∷ c.other; order = Permᴰ.cons refl c.order; equal = paired (equal_first e h) c.equal }
  carried (Permᴰ.swap e f) (paired {y = z} h (paired {y = w} {ys = zs} g r)) =
      record {
        other = w ∷ z ∷ zs;
        order = Permᴰ.swap refl refl;
        equal = paired (equal_first f g) (paired (equal_first e h) r);
      }
  carried (Permᴰ.trans d e) q =
      let c = carried d q in
      let g = carried e c.equal in
      record { other = g.other; order = Permᴰ.trans c.order g.order; equal = g.equal }

  -- table order is one pairing
  pub lists_sets : {xs ys : List ℕ} → EqualLists κ t xs ys → EqualSets κ t xs ys
  lists_sets {ys = ys} h = matched (Permᴰ.refl ys) h
