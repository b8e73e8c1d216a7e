use native.Mathlib.Omega.{arith}
use lib.ListN.{length-take, length-drop}
use borrow.Author.Rules.{rules}
use Rattle.path_words.specs.Search.{empty_word, empty_none, any_word, any_out, any_spent, any_more, label_out, label_none, label_more}
use Rattle.path_words.proofs.+search.Goals as goal

pub returns-then-run-eq0 : goal.returns-then-run-eq0
returns-then-run-eq0 t c = search empty_word

pub returns-else-run-eq0 : goal.returns-else-run-eq0
returns-else-run-eq0 t c = search empty_none

pub search-ended-requires : goal.search-ended-requires
search-ended-requires t c = (simp (length-take, length-drop) (omega arith), tt)

pub search-requires : goal.search-requires
search-requires t c = (simp (length-take, length-drop) (omega arith), tt)

pub returns-in-Word : goal.returns-in-Word
returns-in-Word t c = any_word _ _ (search rules) (search rules) _ c.search-ended.ensures c.in-Word.is

pub returns-in-OutOfLabels : goal.returns-in-OutOfLabels
returns-in-OutOfLabels t c = any_out _ _ (search rules) (search rules) _ c.search-ended.ensures c.in-OutOfLabels.is

pub returns-then-run-eq0-2 : goal.returns-then-run-eq0-2
returns-then-run-eq0-2 t c = any_spent _ _ (search rules) (search rules) _ c.search-ended.ensures c.in-NoWord.is c.if-run-eq0-2.true

pub returns-else-run-eq0-2 : goal.returns-else-run-eq0-2
returns-else-run-eq0-2 t c = any_more _ _ (search rules) (search rules) _ c.search-ended.ensures c.in-NoWord.is (search rules) _ c.search.ensures

pub returns-then-run-eq0-3 : goal.returns-then-run-eq0-3
returns-then-run-eq0-3 t c = search label_out

pub returns-then-run-path : goal.returns-then-run-path
returns-then-run-path t c = search label_none

pub search-requires-2 : goal.search-requires-2
search-requires-2 t c = (simp (length-take, length-drop) (omega arith), tt)

pub returns : goal.returns
returns t c = label_more _ _ (search rules) (search rules) (search rules) (search rules) _ c.search-2.ensures
