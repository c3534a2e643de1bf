use Rattle.std.proofs.Common.{◌++◌, map, ap, ◌∙◌}
use Rattle.std.specs.Option.{option_to_list}
use Rattle.std.proofs.lemmas.List.{map_push}
use Rattle.lexer.specs.WordsViews.{views}
use Rattle.text_body.specs.Places.{index_of}
use Rattle.text_body.proofs.Repeats.{table_is}
use Rattle.text_body.proofs.parts.branch_table.Goals as goal

pub returns-clause-value : goal.returns-clause-value
returns-clause-value g c =
    table_is (views c.args.rest.now.now) (views c.indices.new.rest.now) (map index_of c.in_ok-labels.labels.items) (map index_of c.pop.new.self.items) (index_of c.in-Some.last) c.in_ok-labels.ensures.value
    (ap (map index_of) (c.pop.ensures.items ∙ ap (λ o. c.pop.new.self.items ++ option_to_list o) c.in-Some.is) ∙ map_push index_of c.pop.new.self.items c.in-Some.last)
