use Rattle.lexer.proofs.OneWord.{words_are_one}
use Rattle.lexer.proofs.words_reading.no_tokens_are_two_lists_of_words.Goals as goal

pub returns : goal.returns
returns c = words_are_one c.integers_are_tested.ensures
