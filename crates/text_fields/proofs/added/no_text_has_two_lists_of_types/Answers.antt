use Rattle.text_fields.proofs.Adding.{types_are_one}
use Rattle.text_fields.proofs.added.no_text_has_two_lists_of_types.Goals as goal

pub returns : goal.returns
returns c = types_are_one
