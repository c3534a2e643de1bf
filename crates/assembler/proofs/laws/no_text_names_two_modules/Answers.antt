use Rattle.assembler.proofs.OneModule.{names_one}
use Rattle.assembler.proofs.laws.no_text_names_two_modules.Goals as goal

pub returns : goal.returns
returns c =
    names_one c.no_text_lexes_to_two_lists.ensures c.no_words_are_two_texts.ensures c.no_text_has_two_lists_of_spaces.ensures c.no_fields_make_two_modules.ensures
