-- What an accepted key gives: it can be read, it has one to four key paths, and they are simple and of at most eight symbols.
use Rattle.std.specs.Prelude.{ℕ, ◌<◌, ◌≤◌, ◌≡◌, true, List, [], T, length, get_or}
use Rattle.meaning.specs.Lists.{every}
use Rattle.meaning.specs.Paths.{simple}
use Rattle.meaning.specs.Records.{read_key, key_in, is_some}
use Rattle.tree_pairs.specs.Pairs.{simple_at}

pub record GoodKey (body : List ℕ) : Type 0 where
  pub reads : is_some (read_key body) ≡ true
  pub some : 0 < length (key_in body).paths
  pub few : length (key_in body).paths ≤ 4
  pub simples : T (every simple (key_in body).paths)
  pub short : (i : ℕ) → i < length (key_in body).paths → length (get_or (key_in body).paths i []) ≤ 8

pub good_simple : {body : List ℕ} → GoodKey body → (i : ℕ) → i < length (key_in body).paths → T (simple (get_or (key_in body).paths i []))
good_simple {body} g i h = simple_at (key_in body).paths g.simples i h
