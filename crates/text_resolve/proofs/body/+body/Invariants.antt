use Rattle.std.proofs.Common.{◌≡◌, ℕ, ◌+◌, ◌-◌, ◌*◌, ◌≤◌, true, map, length}
use Rattle.spec_modules.specs.Limits.{instrs_fit}
use Rattle.module_tree.specs.View.{instrs_view, ordinals}
use Rattle.module_tree.specs.Numbering.{Numbered}
use Rattle.text_body.specs.Views.{text_of}
use Rattle.text_resolve.specs.Views.{spaces_of, flats_from}
use Rattle.text_resolve.specs.Bodies.{one_at, body_at, seq_at}
use Rattle.text_resolve.proofs.Turns.{front}
use Rattle.text_resolve.proofs.body.+body.Given as goal

abbrev pub decreases-body_of : goal.decreases-body_of
decreases-body_of g l = 2 * l.depth

abbrev pub decreases-instr_of : goal.decreases-instr_of
decreases-instr_of g l = 2 * l.depth + 1

abbrev pub invariant-body_of-loop-first : goal.invariant-body_of-loop-first
invariant-body_of-loop-first g l =
    let s = spaces_of l.scope.spaces.now in
    let locals = map text_of l.scope.locals.now.names.items in
    let labels = map text_of l.initial.labels.open.items in
    (number : ℕ) × (length (flats_from l.place l.flats) ≤ number)
    × (body_at s locals l.depth labels (flats_from l.at l.flats) ≡ front l.found.items (seq_at (one_at s locals (l.depth - 1) labels) number (flats_from l.place l.flats)))
    × (l.labels.open.items ≡ l.initial.labels.open.items) × (instrs_fit (instrs_view l.found.items) ≡ true) × Numbered l.ordinal l.next (ordinals l.found.items)
    × (l.at ≤ l.place) × (l.place ≤ length l.flats) × (l.next + l.at ≤ l.ordinal + l.place)

abbrev pub decreases-body_of-loop-first : goal.decreases-body_of-loop-first
decreases-body_of-loop-first g l = length l.flats - l.place
