-- Texts one behind the other with a mark between them, as a loop writes them: the symbols of a path, the key paths of a set.
use Rattle.std.specs.Prelude.{ℕ, suc, ◌+◌, ◌<◌, ◌≤◌, ◌≡◌, refl, length, get_or, drop}
use Rattle.std.proofs.Common.{sym, ◌∙◌, arith, add-one, length-append, drop_of_length-le, drop-cons}
use Rattle.std.proofs.Math.Path.{ap, subst}
use mathlib.Core.List.{List, [], ◌∷◌, ◌++◌, map, append_assoc, append-nil}
use Rattle.meaning.specs.Text.{joined_by}
use Rattle.write_bytes.specs.Wrote.{Wrote, wrote_more, wrote_is, wrote_none}

-- each with the mark before it
unfoldable pub followed : List ℕ → List (List ℕ) → List ℕ
followed mark [] = []
followed mark (t ∷ ts) = mark ++ (t ++ followed mark ts)

joined_followed : (mark t : List ℕ) (ts : List (List ℕ)) → joined_by mark (t ∷ ts) ≡ t ++ followed mark ts
unfolding joined_by followed
joined_followed mark t [] = sym (append-nil t)
joined_followed mark t (u ∷ ts) = ap (λ (l : List ℕ). t ++ (mark ++ l)) (joined_followed mark u ts)

module _ {A : Type 0} (mark : List ℕ) (f : A → List ℕ) (xs : List A) where
  -- behind the first: so many are written, and the rest is to follow
  pub record Row (out mid : List ℕ) (at i next : ℕ) : Type 0 where
    pub done : List ℕ
    pub wrote : Wrote out mid at done next
    pub rest : done ++ followed mark (map f (drop i xs)) ≡ followed mark (map f (drop 1 xs))
    pub room : at + length (followed mark (map f (drop 1 xs))) ≤ length out

  -- the first
  module _ (d : A) {x : A} (is : x ≡ get_or xs 0 d) (some : 0 < length xs) where
    first : f x ++ followed mark (map f (drop 1 xs)) ≡ joined_by mark (map f xs)
    first = ap (λ (y : A). f y ++ followed mark (map f (drop 1 xs))) is ∙ go xs some
      where
        go : (ys : List A) → 0 < length ys → f (get_or ys 0 d) ++ followed mark (map f (drop 1 ys)) ≡ joined_by mark (map f ys)
        go [] k = absurd (omega arith)
        go (y ∷ ys) k = sym (joined_followed mark (f y) (map f ys))

    first_length : length (f x) + length (followed mark (map f (drop 1 xs))) ≡ length (joined_by mark (map f xs))
    first_length = omega (arith, ap length first, length-append (f x) (followed mark (map f (drop 1 xs))))

    pub row_first : length (f x) ≤ length (joined_by mark (map f xs))
    row_first = omega (arith, first_length)

    module _ {out mid : List ℕ} {at next : ℕ} (w : Wrote out mid at (f x) next) where
      pub row_start : at + length (joined_by mark (map f xs)) ≤ length out → Row mid mid next 1 next
      row_start room =
          let n = w.after in
          let k = w.kept in
          let l = first_length in
          record { done = []; wrote = wrote_none mid next (omega arith); rest = refl; room = omega arith }

      pub row_done : {end : List ℕ} {i last : ℕ} → Row mid end next i last → length xs ≤ i → Wrote out end at (joined_by mark (map f xs)) last
      unfolding followed
      row_done row h =
          wrote_is
          (ap (λ (l : List ℕ). f x ++ l) (sym (append-nil row.done)
          ∙ subst (λ (ys : List A). row.done ++ followed mark (map f ys) ≡ followed mark (map f (drop 1 xs))) (drop_of_length-le xs h) row.rest)
          ∙ first)
          (wrote_more w row.wrote)

  -- the next
  module _ {out mid : List ℕ} {at i next : ℕ} (row : Row out mid at i next) (d : A) {x : A} (is : x ≡ get_or xs i d) (h : i < length xs) where
    split : row.done ++ (mark ++ (f x ++ followed mark (map f (drop (suc i) xs)))) ≡ followed mark (map f (drop 1 xs))
    unfolding followed
    split =
        ap (λ (y : A). row.done ++ (mark ++ (f y ++ followed mark (map f (drop (suc i) xs))))) is
        ∙ subst (λ (ys : List A). row.done ++ followed mark (map f ys) ≡ followed mark (map f (drop 1 xs))) (drop-cons xs i d h) row.rest

    sizes : length row.done + (length mark + length (f x)) ≤ length (followed mark (map f (drop 1 xs)))
    sizes =
        let r : List ℕ = followed mark (map f (drop (suc i) xs)) in
        let x₁ = length-append (f x) r in
        let x₂ = length-append mark (f x ++ r) in
        let x₃ = length-append row.done (mark ++ (f x ++ r)) in
        omega (arith, ap length split)

    pub row_mark : next + length mark ≤ length mid
    row_mark = omega (arith, sizes, row.room, row.wrote.after, row.wrote.kept)

    module _ {marked : List ℕ} {place : ℕ} (m : Wrote mid marked next mark place) where
      pub row_text : place + length (f x) ≤ length marked
      row_text = omega (arith, sizes, row.room, row.wrote.after, row.wrote.kept, m.after, m.kept)

      pub row_more : {end : List ℕ} {last : ℕ} → Wrote marked end place (f x) last → Row out end at (i + 1) last
      row_more w =
          record {
            done = row.done ++ (mark ++ f x);
            wrote = wrote_more row.wrote (wrote_more m w);
            rest = rw (add-one i) again;
            room = row.room;
          }
        where
          r : List ℕ
          r = followed mark (map f (drop (suc i) xs))

          again : (row.done ++ (mark ++ f x)) ++ r ≡ followed mark (map f (drop 1 xs))
          again = append_assoc row.done (mark ++ f x) r ∙ (ap (λ (l : List ℕ). row.done ++ l) (append_assoc mark (f x) r) ∙ split)
