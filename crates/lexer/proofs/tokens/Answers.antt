use Rattle.std.proofs.Common.{◌≡◌, ◌<◌, ◌-◌, List, ℕ, length, sym, ap, ◌∙◌, subst, arith}
use Rattle.std.proofs.lemmas.List.{map_push}
use Rattle.spec_text.specs.Lexical.{LexesFrom}
use Rattle.spec_text.specs.Lexical as T
use Rattle.lexer.specs.Views.{view, views, SpansRise}
use Rattle.lexer.specs.declared.list.Token.{Token}
use Rattle.lexer.proofs.Spans.{spans_wider, spans_push}
use Rattle.lexer.proofs.Lists.{Half, half_start, half_fault, half_blank, half_token, half_all, half_shorter, piece_shorter}
use Rattle.lexer.proofs.tokens.Goals as goal

pub loop-bytes-init : goal.loop-bytes-init
loop-bytes-init g c =
    let bytes = c.as_bytes-bytes.result.now in
    subst (λ (xs : List Token). Half bytes bytes (views bytes xs) × SpansRise 0 xs (length bytes - length bytes)) (sym c.new-items.ensures.items) (half_start bytes, omega arith)

pub returns-in-Err-Bad-clause-refused : goal.returns-in-Err-Bad-clause-refused
returns-in-Err-Bad-clause-refused g c = λ ts l.
    half_fault c.as_bytes-bytes.result.now c.loop-bytes.rest.now (views c.as_bytes-bytes.result.now c.loop-bytes.items.items) c.in-Err-Bad.field-0 c.loop-bytes.invariant.0 (sym c.in-Err-Bad.ensures)
    (grind arith) ts (subst (λ (xs : List ℕ). LexesFrom 0 xs ts) (sym c.as_bytes-bytes.ensures.value) l.pieces)

pub returns-in-Err-Unclosed-clause-refused : goal.returns-in-Err-Unclosed-clause-refused
returns-in-Err-Unclosed-clause-refused g c = λ ts l.
    half_fault c.as_bytes-bytes.result.now c.loop-bytes.rest.now (views c.as_bytes-bytes.result.now c.loop-bytes.items.items) c.in-Err-Unclosed.field-0 c.loop-bytes.invariant.0 (sym c.in-Err-Unclosed.ensures)
    (grind arith) ts (subst (λ (xs : List ℕ). LexesFrom 0 xs ts) (sym c.as_bytes-bytes.ensures.value) l.pieces)

pub loop-bytes-smaller-in-Ok-None-default : goal.loop-bytes-smaller-in-Ok-None-default
loop-bytes-smaller-in-Ok-None-default g c = piece_shorter c.loop-bytes.rest.now c.in-Ok-None-default.field-0-0 c.in-Ok-None-default.after.now (sym c.in-Ok-None-default.ensures)

pub loop-bytes-preserved-in-Ok-None-default : goal.loop-bytes-preserved-in-Ok-None-default
loop-bytes-preserved-in-Ok-None-default g c =
    let bytes = c.as_bytes-bytes.result.now in
    let n = c.in-Ok-None-default in
    let less : length n.after.now < length c.loop-bytes.rest.now = piece_shorter c.loop-bytes.rest.now n.field-0-0 n.after.now (sym n.ensures) in (
      half_blank bytes c.loop-bytes.rest.now (views bytes c.loop-bytes.items.items) n.field-0-0 n.after.now c.loop-bytes.invariant.0 (sym n.ensures) n.field-0-0-is,
      spans_wider 0 c.loop-bytes.items.items (length bytes - length c.loop-bytes.rest.now) (length bytes - length n.after.now) c.loop-bytes.invariant.1 (omega arith),
    )

pub overflow_sub-bytes : goal.overflow_sub-bytes
overflow_sub-bytes g c =
    let less : length c.in-Ok-Some-default.after.now < length c.loop-bytes.rest.now = piece_shorter c.loop-bytes.rest.now c.in-Ok-Some-default.field-0-0 c.in-Ok-Some-default.after.now (sym c.in-Ok-Some-default.ensures) in
    let within = half_shorter c.as_bytes-bytes.result.now c.loop-bytes.rest.now (views c.as_bytes-bytes.result.now c.loop-bytes.items.items) c.loop-bytes.invariant.0 in
    omega arith

pub loop-bytes-smaller : goal.loop-bytes-smaller
loop-bytes-smaller g c = piece_shorter c.loop-bytes.rest.now c.in-Ok-Some-default.field-0-0 c.in-Ok-Some-default.after.now (sym c.in-Ok-Some-default.ensures)

pub loop-bytes-preserved : goal.loop-bytes-preserved
loop-bytes-preserved g c =
    let bytes = c.as_bytes-bytes.result.now in
    let half = half_token bytes c.loop-bytes.rest.now (views bytes c.loop-bytes.items.items) c.in-Ok-Some-default.field-0-0 c.in-Ok-Some-default.kind c.in-Ok-Some-default.after.now
    c.loop-bytes.invariant.0 (sym c.in-Ok-Some-default.ensures) c.in-Ok-Some-default.field-0-0-is in
    let h = c.in_ok-push-in-Ok-Some-default.ensures.items in
    let s = c.in-Ok-Some-default in
    let less : length s.after.now < length c.loop-bytes.rest.now = piece_shorter c.loop-bytes.rest.now s.field-0-0 s.after.now (sym s.ensures) in
    let within = half_shorter bytes c.loop-bytes.rest.now (views bytes c.loop-bytes.items.items) c.loop-bytes.invariant.0 in
    let t : Token = record { kind = s.kind; from = length bytes - length c.loop-bytes.rest.now; upto = length bytes - length s.after.now } in (
      subst (λ (xs : List T.Token). Half bytes s.after.now xs) (sym (ap (views bytes) h ∙ map_push (view bytes) c.loop-bytes.items.items _)) half,
      subst (λ (xs : List Token). SpansRise 0 xs (length bytes - length s.after.now)) (sym h)
          (spans_push 0 c.loop-bytes.items.items (length bytes - length c.loop-bytes.rest.now) t c.loop-bytes.invariant.1 (omega arith) (omega arith)),
    )

pub returns-clause-lexes : goal.returns-clause-lexes
returns-clause-lexes g c =
    let bytes = c.as_bytes-bytes.result.now in
    let none : length c.loop-bytes.rest.now ≡ 0 = grind arith in
    record {
      utf8 = c.utf8.text;
      pieces = subst (λ (xs : List ℕ). LexesFrom 0 xs (views xs c.loop-bytes.items.items)) c.as_bytes-bytes.ensures.value
          (half_all bytes c.loop-bytes.rest.now (views bytes c.loop-bytes.items.items) c.loop-bytes.invariant.0 none);
    }

pub returns-clause-spans : goal.returns-clause-spans
returns-clause-spans g c =
    let bytes = c.as_bytes-bytes.result.now in
    let n = length bytes - length c.loop-bytes.rest.now in
    subst (λ (xs : List ℕ). SpansRise 0 c.loop-bytes.items.items (length xs)) c.as_bytes-bytes.ensures.value
    (spans_wider 0 c.loop-bytes.items.items n (length bytes) c.loop-bytes.invariant.1 (omega arith))
