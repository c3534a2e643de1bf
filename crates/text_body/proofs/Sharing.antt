-- The parts that fields share with bodies, by the grammar.
use Rattle.std.proofs.Common.{◌≡◌, ℕ, Bool, true, false, List, Option, Some, None, Result, Ok, Err, refl, sym, ap, ◌∙◌}
use Rattle.std.specs.Prelude.{IfOk, IfErr}
use Rattle.spec_text.specs.Words.{Word}
use Rattle.spec_text.specs.FieldsOfPlaces as N
use Rattle.spec_text.specs.Grammar.{OptionalId, Bindings, Indices, Results, TypeUses}
use Rattle.text_body.specs.declared.unread.ParseFault.{ParseFault}
use Rattle.text_body.specs.declared.parts.Part.{Part}
use Rattle.text_body.specs.Outcome.{Gives, Unless}
use Rattle.text_body.specs.Reading.{Read, id_at, index_at, indices_at, bindings_at, results_at, use_at, key_of, ahead, moved}
use Rattle.text_body.specs.SharedParts.{OneIndex, NoneOf, Entered, IsOne, SharedAreOne}
use Rattle.text_body.proofs.Repeats.{hand_on}
use Rattle.text_body.proofs.Pieces.{none_some, some_same, id_is_read, index_read, indices_read, bindings_read, results_read, use_is_read, ahead_is, ahead_none}

pub granted : {X Y : Type 0} (view : X → Y) (r : Result X ParseFault) (read : Option Y) (P : Y → Type 0) → Gives view r read → ((y : Y) → read ≡ Some y → P y) → IfOk r (λ x. P (view x))
granted view (Ok x) read P g f = f (view x) g
granted view (Err e) read P g f = tt

pub denied : {X Y : Type 0} (view : X → Y) (r : Result X ParseFault) (read : Option Y) (Q : Type 0) → Gives view r read → (read ≡ None → Q) → IfErr r (Unless Q)
denied view (Ok x) read Q g f = tt
denied view (Err e) read Q g f = hand_on e f g

abbrev Part2 : Type 0 → Type 1
Part2 X = List Word → List Word → X → Type 0

one_by : {X : Type 0} (P : Part2 X) (read : List Word → Read X) → ((before after : List Word) (x : X) → P before after x → read before ≡ Some (x, after)) → IsOne P
one_by {X} P read f before after behind x y p q =
    let same : (x, after) ≡ (y, behind) = some_same (x, after) (y, behind) (sym (f before after x p) ∙ f before behind y q) in
    (ap (λ (r : X × List Word). r.1) same, ap (λ (r : X × List Word). r.0) same)

pub index_is : (before after : List Word) (i : N.Index) → OneIndex before after i → index_at before ≡ Some (i, after)
index_is before after i h = ap index_at h.2 ∙ index_read after h.1

id_is : (before after : List Word) (id : Option N.Placed) → OptionalId before after id → ◌≡◌ {A = Read (Option N.Placed)} (Some (id_at before)) (Some (id, after))
id_is before after id h = ap (λ (p : Option N.Placed × List Word). Some p) (id_is_read h)

pub shared_are_one : SharedAreOne
shared_are_one = record {
  ids = one_by OptionalId (λ ws. Some (id_at ws)) id_is;
  one_index = one_by OneIndex index_at index_is;
  indices = one_by Indices indices_at (λ before after x h. indices_read h);
  bindings = λ p. one_by (Bindings (key_of p)) (bindings_at p) (λ before after x h. bindings_read p h);
  results = one_by Results results_at (λ before after x h. results_read h);
  type_uses = one_by TypeUses use_at (λ before after x h. use_is_read h);
}

-- nothing is read where there is nothing
pub none_of : {X : Type 0} (P : Part2 X) (read : List Word → Read X) (before : List Word) → ((after : List Word) (x : X) → P before after x → read before ≡ Some (x, after)) → read before ≡ None → NoneOf P before
none_of P read before f e = λ after x p. none_some (x, after) (sym e ∙ f after x p)

pub entered : (p : Part) (before after : List Word) (b : Bool) → moved b after ≡ ahead p before → (b ≡ false → after ≡ before) → Entered (key_of p) before after b
entered p before after true e k = ahead_is p before after (sym e)
entered p before after false e k = (ahead_none p before (sym e), k refl)
