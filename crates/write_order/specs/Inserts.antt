-- A typed path put into record order in a buffer.
use Rattle.std.specs.Prelude.{ℕ, ◌+◌, ◌<◌, ◌≤◌, ◌≡◌, true}
use mathlib.Core.List.{List}
use Rattle.std.proofs.Math.ListN.{length, take}
use Rattle.read_record.specs.BodyParts.{paths_end, paths_of}
use Rattle.meaning.specs.Text.{put_path}
use Rattle.write_set.specs.Encoded.{SetIn}
use Rattle.write_set.specs.Inserts.{Spliced, spliced_in}
use Rattle.write_order.specs.Places.{Ordered}

pub record InsertFits (buffer : List ℕ) (count used : ℕ) (path : List ℕ) : Type 0 where
  pub few : count < 256
  pub path_short : length path < 256
  pub small : used ≤ 36
  pub room : used + length path + 1 ≤ length buffer
  pub ends : paths_end count (take used buffer) ≡ true

pub record Inserted (buffer : List ℕ) (count used : ℕ) (path end : List ℕ) (last : ℕ) : Type 0 where
  pub holds : SetIn end (count + 1) last (put_path path (paths_of count (take used buffer)))
  pub kept : length end ≡ length buffer
  pub used_up : last ≡ used + length path + 1

pub inserted_new : {buffer path end : List ℕ} {count used passed last : ℕ} → InsertFits buffer count used path → Ordered count (take used buffer) path passed
    → Spliced buffer passed used path end last → Inserted buffer count used path end last
inserted_new f p s = record { holds = spliced_in p s f.room; kept = s.kept; used_up = s.used_up }
