-- The rows that sort the targets of a key, as they are numbered.
use Rattle.std.specs.Prelude.{ℕ, ◌+◌, ◌<◌, ◌≤◌, ◌≡◌, List, length, get_or, set}
use Rattle.std.proofs.Common.{sym, ◌∙◌, ap, subst, arith, get_or-set_same, get_or-set_other}
use Rattle.std.proofs.Math.Decide.{ℕ_discrete}
use Rattle.tree_table.specs.Links.{Nexts}
use Rattle.tree_rows.specs.Chain.{by_family}
use Rattle.tree_rows.specs.declared.rows.Rows.{Rows}
use Rattle.tree_sorted.specs.declared.sorted.Sorted.{Sorted}
use Rattle.tree_sorted.specs.Numbers.{GroupIs, Unstamped, ByLeast, by_least, FamilyNumbered, NumberedTo, numbered_family}
use Rattle.tree_table.specs.FileTable.{file_table, class_by}
use Rattle.tree_table.specs.LinkedTree.{bytes_tree}
use Rattle.tree_rows.specs.Prepared.{Prepared}

-- Contexts and groups stay
pub record Stays (old new : Sorted) : Type 0 where
  pub tops : new.top ≡ old.top
  pub groups : new.group ≡ old.group

pub stays_both : (old mid new : Sorted) → Stays old mid → Stays mid new → Stays old new
stays_both old mid new s r = record { tops = r.tops ∙ s.tops; groups = r.groups ∙ s.groups }

-- the group of the node above, read from the rows as they are
pub group_stays : (count : ℕ) (from : List ℕ) (old new : Sorted) (x r : ℕ) → Stays old new → GroupIs count from new.group x r
    → GroupIs count from old.group x r
group_stays count from old new x r s g = subst (λ (l : List ℕ). GroupIs count from l x r) s.groups g

-- Before the first family: each node is its own number, no stamp is put, for the nodes below v
pub fresh_none : (number stamp : List ℕ) → Unstamped 0 number stamp 1
fresh_none number stamp = record { low = λ x h. absurd (omega arith); stamps = λ g b. absurd (omega arith) }

pub fresh_step : (number stamp : List ℕ) (v : ℕ) → v < 4096 → length number ≡ 4096 → length stamp ≡ 4096 → Unstamped v number stamp 1
    → Unstamped (v + 1) (set number v v) (set stamp v 0) 1
fresh_step number stamp v h ln ls u =
    record { low = λ x b. low x b (ℕ_discrete x v); stamps = λ g b. stamps g b (ℕ_discrete g v) }
  where
    low : (x : ℕ) → x < v + 1 → Dec (x ≡ v) → get_or (set number v v) x 0 ≤ x
    low x b (yes z) =
        let e = ap (λ (k : ℕ). get_or (set number v v) k 0) z ∙ get_or-set_same number v v 0 (omega arith) in
        omega arith
    low x b (no m) = let e = get_or-set_other number v x v 0 m in let l = u.low x (omega arith) in omega arith

    stamps : (g : ℕ) → g < v + 1 → Dec (g ≡ v) → get_or (set stamp v 0) g 0 < 1
    stamps g b (yes z) =
        let e = ap (λ (k : ℕ). get_or (set stamp v 0) k 0) z ∙ get_or-set_same stamp v 0 0 (omega arith) in
        omega arith
    stamps g b (no m) = let e = get_or-set_other stamp v g 0 0 m in let l = u.stamps g (omega arith) in omega arith

pub fresh_all : (number stamp : List ℕ) (v count : ℕ) → count ≤ v → Unstamped v number stamp 1 → Unstamped count number stamp 1
fresh_all number stamp v count h u = record { low = λ x b. u.low x (omega arith); stamps = λ g b. u.stamps g (omega arith) }

-- the families and their chain, for as many nodes as the code counts
pub rows_count : {classes bytes : List ℕ} {rows : Rows} {count : ℕ} → Prepared classes bytes rows → count ≡ (file_table bytes).size
    → Nexts (by_family count rows.family) rows.same × ByLeast count rows.family
rows_count {classes} {bytes} {rows} {count} p e = (
  subst (λ (n : ℕ). Nexts (by_family n rows.family) rows.same) (sym e) p.chained,
  subst (λ (n : ℕ). ByLeast n rows.family) (sym e)
      (by_least (class_by classes) (file_table bytes) rows.family (bytes_tree p.tree) p.families p.smallest),
)

-- one family more, with the groups as they stood before all families
pub family_more : (count : ℕ) (family from : List ℕ) (old now next : Sorted) (c : ℕ) → ByLeast count family → Stays old now
    → NumberedTo count family from old.group now.number now.stamp c
    → FamilyNumbered count family from now.group c now.number next.number next.stamp
    → NumberedTo count family from old.group next.number next.stamp (c + 1)
family_more count family from old now next c l s n r =
    numbered_family count family from old.group l now.number now.stamp next.number next.stamp c n
    (subst (λ (g : List ℕ). FamilyNumbered count family from g c now.number next.number next.stamp) s.groups r)

pub families_done : (size count : ℕ) (family from : List ℕ) (old mid new : Sorted) (c : ℕ) → count ≡ size → c ≡ count → Stays old mid
    → NumberedTo count family from mid.group new.number new.stamp c
    → NumberedTo size family from old.group new.number new.stamp size
families_done size count family from old mid new c e h s n =
    let f : c ≡ size = omega arith in
    subst (λ (m : ℕ). NumberedTo m family from old.group new.number new.stamp size) e
    (subst (λ (g : List ℕ). NumberedTo count family from g new.number new.stamp size) s.groups
    (subst (λ (m : ℕ). NumberedTo count family from mid.group new.number new.stamp m) f n))
