use Rattle.std.proofs.Common.{ℕ, List, ap, subst, sym, ◌≡◌, ◌∙◌, get_or}
use Rattle.tree_table.specs.FileTable.{file_table}
use Rattle.tree_table.specs.Links.{Linked, Nexts}
use Rattle.tree_table.specs.Zeros.{zeros_at}
use Rattle.tree_rows.specs.Chain.{by_family, linked_table}
use Rattle.tree_groups.specs.Lowest.{count_fits, families_named}
use Rattle.tree_groups.proofs.prepare.Goals as goal

kept : {a b : List ℕ} (v : ℕ) → a ≡ b → get_or a v 0 ≡ get_or b v 0
kept v e = ap (λ (l : List ℕ). get_or l v 0) e

pub gather-requires : goal.gather-requires
gather-requires c =
    (record { tree = c.requires; links = linked_table _ _ _ _ _ c.size-count.ensures c.put_fields.ensures.0 c.hang_under.ensures }, c.weigh-weight.ensures)

pub hang_under-requires-2 : goal.hang_under-requires-2
hang_under-requires-2 c =
    let n = families_named c.requires c.gather.ensures.families c.size-count.ensures c.lowest-low.ensures c.name.ensures in
    let f = count_fits c.requires n.0 c.size-count.ensures in
    (f.0, f.1, λ x p h. f.2 x h, λ v h. zeros_at 4096 v)

pub returns : goal.returns
returns c =
    let o = c.gather.ensures.only in
    let n = families_named c.requires c.gather.ensures.families c.size-count.ensures c.lowest-low.ensures c.name.ensures in
    record {
      tree = c.requires;
      parents = λ v h. kept v o.parent ∙ c.put_fields.ensures.0 v h;
      labels = λ v h. kept v o.label ∙ c.put_fields.ensures.1 v h;
      links =
          subst (λ (l : List ℕ). Linked (file_table c.args.tree.now) l c.gather.new.rows.next) (sym o.first)
          (subst (Linked (file_table c.args.tree.now) c.hang_under.new.first) (sym o.next)
          (linked_table _ _ _ _ _ c.size-count.ensures c.put_fields.ensures.0 c.hang_under.ensures));
      families = n.0;
      smallest = n.1;
      chained = subst (λ (k : ℕ). Nexts (by_family k c.name.new.family) c.hang_under-2.new.next) c.size-count.ensures c.hang_under-2.ensures.nexts;
    }
