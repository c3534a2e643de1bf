use Rattle.std.proofs.Common.{rules, ◌≡◌, List, ℕ, MatchOption, ap, sym, subst, ◌∙◌}
use Rattle.std.specs.Prelude.{option_map}
use Rattle.wblock_calls.specs.Words.{texts}
use Rattle.wblock_line.specs.Words.{Line, choices, line_of}
use Rattle.wblock_chain.specs.Words.{IsChain}
use Rattle.wblock_chain.proofs.Asking.{asks_chain, no_chain}
use Rattle.wblock_chain.proofs.start.session_world_of.Goals as goal

pub returns-in-Some : goal.returns-in-Some
returns-in-Some c =
    let words = c.as_slice.ensures.value in
    let options = c.as_slice-in-Some.ensures.value in
    let line : Line = record { words = texts c.as_slice.result.now; options = choices c.as_slice-in-Some.result.now } in
    let same : line ≡ line_of c.in-Some.line = search (words, options, rules) in
    asks_chain (texts c.args.words.now) (line_of c.in-Some.line) c.world_in.result (ap (option_map line_of) (sym c.in-Some.is) ∙ c.in_ok-line.ensures)
    (subst (λ (l : Line). MatchOption c.world_in.result ((world : List ℕ) → ¬ IsChain l world) (λ world. IsChain l world.now)) same c.world_in.ensures)

pub returns-in-None : goal.returns-in-None
returns-in-None c = no_chain (texts c.args.words.now) (ap (option_map line_of) (sym c.in-None.is) ∙ c.in_ok-line.ensures)
