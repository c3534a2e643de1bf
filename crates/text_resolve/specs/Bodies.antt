-- Sequences of flat instructions, as they are resolved.
use Rattle.std.specs.Prelude.{◌≡◌, ℕ, zero, suc, Bool, true, false, List, [], ◌∷◌, length, Option, Some, None, option_map, option_and_then, cond}
use Rattle.std.specs.Str.{bytes_eq}
use Rattle.wtypes.specs.declared.ValType.{ValType}
use Rattle.spec_modules.specs.Syntax as S
use Rattle.spec_text.specs.FieldsOfBytes as N
use Rattle.spec_modules.specs.Spells.{ExpressionFits}
use Rattle.spec_text.specs.Spaces.{Names, Spaces}
use Rattle.spec_text.specs.Instructions.{Body}
use Rattle.text_resolve.specs.Plain.{plain_at}

-- what is read, and the flat instructions behind it
abbrev pub Read : Type 0 → Type 0
Read X = Option (X × List N.Flat)

-- a sequence stops at an end and at an else
abbrev pub stops : N.Flat → Bool
stops (N.End label) = true
stops (N.Else label) = true
stops flat = false

-- at these flat instructions a sequence stops
abbrev pub is_done : List N.Flat → Bool
is_done [] = true
is_done (f ∷ fs) = stops f

-- a name behind end or else is the label's
abbrev pub closes : (label closing : Option (List ℕ)) → Bool
closes label None = true
closes None (Some id) = false
closes (Some name) (Some id) = bytes_eq name id

-- what is behind the end of a block of this label
abbrev pub behind_end : Option (List ℕ) → List N.Flat → Option (List N.Flat)
behind_end label [] = None
behind_end label (N.End closing ∷ fs) = cond (closes label closing) (Some fs) None
behind_end label (f ∷ fs) = None

-- what is behind the else of a block of this label, if that is next
abbrev pub behind_else : Option (List ℕ) → List N.Flat → Option (Option (List N.Flat))
behind_else label [] = Some None
behind_else label (N.Else other ∷ fs) = cond (closes label other) (Some (Some fs)) None
behind_else label (f ∷ fs) = Some None

-- instructions and the end of a block, as what make makes of them
abbrev pub closed : Option (List ℕ) → (S.Instrs → S.Instr) → S.Instrs × List N.Flat → Read S.Instr
closed label make t = option_map (λ r. (make t.0, r)) (behind_end label t.1)

-- the rest of a conditional behind its then part
abbrev pub branched : (List N.Flat → Read S.Instrs) → Option (List ℕ) → (S.Instrs → S.Instr) → List N.Flat → Option (List N.Flat) → Read S.Instr
branched body label make fs None = closed label make (S.nothing, fs)
branched body label make fs (Some es) = option_and_then (closed label make) (body es)

-- an instruction that opens a block
abbrev pub opened : (List N.Flat → Read S.Instrs) → N.Opener → Option (List ℕ) → Option ValType → List N.Flat → Read S.Instr
opened body N.Block label result fs = option_and_then (closed label (S.Block result)) (body fs)
opened body N.Loop label result fs = option_and_then (closed label (S.Loop result)) (body fs)
opened body N.If label result fs = option_and_then (λ t. option_and_then (branched body label (S.If result t.0) t.1) (behind_else label t.1)) (body fs)

-- one instruction, where body reads the instructions of a block
abbrev pub one_with : (Names → List N.Flat → Read S.Instrs) → Spaces → (locals labels : Names) → N.Flat → List N.Flat → Read S.Instr
one_with body s locals labels (N.Opens opener label result) fs = opened (body (label ∷ labels)) opener label result fs
one_with body s locals labels flat fs = option_map (λ i. (i, fs)) (plain_at s locals labels flat)

-- instructions up to where they stop; the number bounds the turns, and the count of the flat ones is always enough
unfoldable pub seq_at : (N.Flat → List N.Flat → Read S.Instr) → ℕ → List N.Flat → Read S.Instrs
seq_at one n [] = Some (S.nothing, [])
seq_at one zero (f ∷ fs) = None
seq_at one (suc n) (f ∷ fs) = cond (stops f) (Some (S.nothing, f ∷ fs)) (option_and_then (λ r. option_map (λ t. (S.seq r.0 t.0, t.1)) (seq_at one n r.1)) (one f fs))

-- the instructions of a body, which may have so many levels, its own among them
unfoldable pub body_at : Spaces → Names → ℕ → Names → List N.Flat → Read S.Instrs
body_at s locals zero labels fs = None
body_at s locals (suc d) labels fs = seq_at (one_with (body_at s locals d) s locals labels) (length fs) fs

abbrev pub one_at : Spaces → Names → ℕ → Names → N.Flat → List N.Flat → Read S.Instr
one_at s locals d labels = one_with (body_at s locals d) s locals labels

-- no expression within the limits on nesting and labels
abbrev pub NoBody : Spaces → Names → List N.Flat → Type 0
NoBody s locals fs = (is : S.Instrs) → Body s locals [] fs [] is → ExpressionFits is → ⊥

-- no flat instructions are two expressions within the limits
abbrev pub ExpressionsAreOne : Type 0
ExpressionsAreOne = (s : Spaces) (locals : Names) (fs : List N.Flat) (is js : S.Instrs) → Body s locals [] fs [] is → ExpressionFits is → Body s locals [] fs [] js → ExpressionFits js → is ≡ js
