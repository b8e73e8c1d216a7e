use Rattle.path_words.specs.Search.{told_word, told_not}
use Rattle.path_words.proofs.member.Goals as goal

pub returns-in-Word : goal.returns-in-Word
returns-in-Word c = told_word _ _ _ c.search.ensures c.in-Word.is

pub returns-in_default : goal.returns-in_default
returns-in_default c = told_not _ _ _ c.search.ensures c.in_default.not-Word
