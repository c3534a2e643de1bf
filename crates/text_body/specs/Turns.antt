-- One turn after another, with what is open, innermost first.
use Rattle.std.specs.Prelude.{ℕ, Bool, true, false, List, [], ◌∷◌, ◌++◌, reverse, map, Option, Some, None, option_map, cond}
use Rattle.wtypes.specs.declared.ValType.{ValType}
use Rattle.spec_text.specs.declared.KeyWord.{KeyWord}
use Rattle.spec_text.specs.declared.KeyWord.TheVariants as k
use Rattle.spec_text.specs.declared.Operator.{Operator}
use Rattle.spec_text.specs.Words.{Word, LeftBracket, RightBracket, Key, Op}
use Rattle.spec_text.specs.FieldsOfPlaces as N
use Rattle.text_body.specs.declared.parts.Part.TheVariants as part
use Rattle.text_body.specs.declared.turns.Form as code_form
use Rattle.text_body.specs.declared.turns.Form.TheVariants as form
use Rattle.text_body.specs.declared.turns.Open as code_open
use Rattle.text_body.specs.declared.turns.Open.TheVariants as opened
use Rattle.text_body.specs.declared.turns.Top as code_top
use Rattle.text_body.specs.declared.turns.Top.TheVariants as top
use Rattle.text_body.specs.declared.turns.ParserStep as code_turn
use Rattle.text_body.specs.declared.turns.ParserStep.TheVariants as turn
use Rattle.text_body.specs.Places.{text_of, flat_of}
use Rattle.text_body.specs.Reading.{Read, id_at, header_at, plain_at, ahead, close_at}

-- a folded block or loop; a flat one, or a flat conditional behind its else; a flat conditional before its else; a folded
-- conditional before its then, behind it, and behind its else
pub data Form : Type 0 where
  Folded Flatly FlatIf Then Otherwise : Form
  Condition : Option N.Placed → Option ValType → Form

-- the operands of an instruction, or a form
pub data Open : Type 0 where
  Operands : N.Flat → Open
  Inside : Form → Open

pub data Top : Type 0 where
  Nothing OfOperands : Top
  OfForm : Form → Top

pub data Move : Type 0 where
  Emits : N.Flat → Move
  Opens : N.Flat → Form → Move
  Begins : Open → Move
  Completes Ends : Move
  Closes : N.Flat → Move
  Turns : N.Flat → Form → Move

abbrev pub form_of : code_form.Form → Form
form_of form.Folded = Folded
form_of form.Flatly = Flatly
form_of form.FlatIf = FlatIf
form_of (form.Condition label result) = Condition (text_of label) result
form_of form.Then = Then
form_of form.Otherwise = Otherwise

abbrev pub open_of : {A : Type 0} → code_open.Open A → Open
open_of (opened.Operands f) = Operands (flat_of f)
open_of (opened.Inside f) = Inside (form_of f)

abbrev pub seen_top : code_top.Top → Top
seen_top top.Nothing = Nothing
seen_top top.Operands = OfOperands
seen_top (top.Inside f) = OfForm (form_of f)

abbrev pub move_of : {A : Type 0} → code_turn.ParserStep A → Move
move_of (turn.Emits f) = Emits (flat_of f)
move_of (turn.Opens f form) = Opens (flat_of f) (form_of form)
move_of (turn.Begins o) = Begins (open_of o)
move_of turn.Completes = Completes
move_of (turn.Closes f) = Closes (flat_of f)
move_of (turn.Turns f form) = Turns (flat_of f) (form_of form)
move_of turn.Ends = Ends

-- what is open, innermost first
abbrev pub top_of : List Open → Top
top_of [] = Nothing
top_of (Operands f ∷ s) = OfOperands
top_of (Inside f ∷ s) = OfForm f

abbrev pub opener_of_key : KeyWord → Option N.Opener
opener_of_key k.Block = Some N.Block
opener_of_key k.Loop = Some N.Loop
opener_of_key k.If = Some N.If
opener_of_key _ = None

abbrev pub folded_move : N.Opener → Option N.Placed → Option ValType → Move
folded_move N.If label result = Begins (Inside (Condition label result))
folded_move o label result = Opens (N.Opens o label result) Folded

abbrev pub flat_form : N.Opener → Form
flat_form N.If = FlatIf
flat_form o = Flatly

abbrev pub folded_block_at : Option N.Opener → List Word → Read Move
folded_block_at None ws = None
folded_block_at (Some o) ws = option_map (λ h. (folded_move o h.0.0 h.0.1, h.1)) (header_at ws)

abbrev pub flat_block_at : Option N.Opener → List Word → Read Move
flat_block_at None ws = None
flat_block_at (Some o) ws = option_map (λ h. (Opens (N.Opens o h.0.0 h.0.1) (flat_form o), h.1)) (header_at ws)

-- behind a (
abbrev pub folded_at : List Word → Read Move
folded_at (Op op ∷ ws) = option_map (λ r. (Begins (Operands r.0), r.1)) (plain_at op ws)
folded_at (Key key ∷ ws) = folded_block_at (opener_of_key key) ws
folded_at _ = None

abbrev pub then_at : Top → List Word → Read Move
then_at (OfForm (Condition label result)) ws = Some (Turns (N.Opens N.If label result) Then, ws)
then_at t ws = None

abbrev pub left_at : Top → List Word → Read Move
left_at t (Key k.Then ∷ ws) = then_at t ws
left_at t ws = folded_at ws

abbrev pub else_in : Option (List Word) → Read Move
else_in None = None
else_in (Some us) = Some (Turns (N.Else None) Otherwise, us)

abbrev pub closes_in : Option (List Word) → Read Move → Read Move
closes_in None next = next
closes_in (Some us) next = Some (Closes (N.End None), us)

-- behind a )
abbrev pub right_at : Top → List Word → Read Move
right_at Nothing ws = Some (Ends, ws)
right_at OfOperands ws = Some (Completes, ws)
right_at (OfForm Folded) ws = Some (Closes (N.End None), ws)
right_at (OfForm Then) ws = closes_in (close_at ws) (else_in (ahead part.Else ws))
right_at (OfForm Otherwise) ws = closes_in (close_at ws) None
right_at (OfForm f) ws = None

abbrev pub end_at : Top → List Word → Read Move
end_at (OfForm Flatly) ws = Some (Closes (N.End (id_at ws).0), (id_at ws).1)
end_at (OfForm FlatIf) ws = Some (Closes (N.End (id_at ws).0), (id_at ws).1)
end_at t ws = None

abbrev pub else_at : Top → List Word → Read Move
else_at (OfForm FlatIf) ws = Some (Turns (N.Else (id_at ws).0) Flatly, (id_at ws).1)
else_at t ws = None

-- instructions that are not folded may stand here
abbrev pub takes_all : Top → Bool
takes_all Nothing = true
takes_all OfOperands = false
takes_all (OfForm (Condition label result)) = false
takes_all (OfForm f) = true

abbrev pub key_at : Top → KeyWord → List Word → Read Move
key_at t k.End ws = end_at t ws
key_at t k.Else ws = else_at t ws
key_at t key ws = cond (takes_all t) (flat_block_at (opener_of_key key) ws) None

abbrev pub op_at : Top → Operator → List Word → Read Move
op_at t op ws = cond (takes_all t) (option_map (λ r. (Emits r.0, r.1)) (plain_at op ws)) None

abbrev pub move_at : Top → List Word → Read Move
move_at t (LeftBracket ∷ ws) = left_at t ws
move_at t (RightBracket ∷ ws) = right_at t ws
move_at t (Op op ∷ ws) = op_at t op ws
move_at t (Key key ∷ ws) = key_at t key ws
move_at t ws = None

-- ---- what a turn does to what is open and to the instructions so far

-- what is open, from the stack, whose last item is the innermost
abbrev pub state_of : {A : Type 0} → List (code_open.Open A) → List Open
state_of stack = map open_of (reverse stack)

abbrev pub is_end : Move → Bool
is_end Ends = true
is_end m = false

-- the operator whose operands are innermost, and what is open without them
abbrev pub completed : List Open → Option N.Flat × List Open
completed [] = (None, [])
completed (Operands f ∷ s) = (Some f, s)
completed (Inside f ∷ s) = (None, s)

-- whether something is open, and what is open around the innermost
abbrev pub left_behind : List Open → Bool × List Open
left_behind [] = (false, [])
left_behind (o ∷ s) = (true, s)

abbrev pub State : Type 0
State = List Open × List N.Flat

abbrev pub step_of : Move → List Open → List N.Flat → Option State
step_of (Emits f) s out = Some (s, out ++ f ∷ [])
step_of (Opens f form) s out = Some (Inside form ∷ s, out ++ f ∷ [])
step_of (Begins o) s out = Some (o ∷ s, out)
step_of Completes (Operands f ∷ s) out = Some (s, out ++ f ∷ [])
step_of Completes s out = None
step_of (Closes f) [] out = None
step_of (Closes f) (o ∷ s) out = Some (s, out ++ f ∷ [])
step_of (Turns f form) [] out = None
step_of (Turns f form) (o ∷ s) out = Some (Inside form ∷ s, out ++ f ∷ [])
step_of Ends s out = None

abbrev pub applied : Bool → State → Option State
applied true state = Some state
applied false state = None
