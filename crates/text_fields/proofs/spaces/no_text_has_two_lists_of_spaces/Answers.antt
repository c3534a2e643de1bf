use Rattle.text_fields.proofs.Listing.{spaces_are_one}
use Rattle.text_fields.proofs.spaces.no_text_has_two_lists_of_spaces.Goals as goal

pub returns : goal.returns
returns c = spaces_are_one
