use Rattle.text_tree.proofs.Halves.{texts_are_one}
use Rattle.text_tree.proofs.text.no_words_are_two_texts.Goals as goal

pub returns : goal.returns
returns c = texts_are_one c.no_tokens_are_two_lists_of_words.ensures
