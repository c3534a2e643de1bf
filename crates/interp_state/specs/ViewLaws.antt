-- Laws of what the parts are in the words of the definitions.
use Rattle.std.proofs.Common.{◌≡◌, List, [], ◌∷◌, ◌++◌, map, refl, ap, ◌∙◌, Option, None}
use Rattle.std.proofs.lemmas.List.{reverse-append}
use Rattle.wtypes.specs.declared.Value.{Value}
use Rattle.module_tree.specs.declared.instr.Instr.{Instr}
use Rattle.spec_execution.specs.Configuration.{State, End}
use Rattle.laws_reduction.specs.Meaning.{Item, Loop, behind, IsOrdered}
use Rattle.interp_state.specs.declared.parts.Entry.{Entry}
use Rattle.interp_state.specs.declared.parts.Parts.{Parts}
use Rattle.interp_state.specs.declared.waiting.Waiting.{Waiting}
use Rattle.interp_state.specs.Views.{item_of, items_of, open_of, opens_of, view}
use Rattle.interp_state.specs.Steps.{IsOrderedParts, IsBehind}
use Rattle.interp_state.specs.Waiting.{tail_of}

-- the items of a list of instructions
pub items_cons : {A : Type 0} (i : Instr A) (is xs : List (Instr A)) → xs ≡ i ∷ is → items_of xs ≡ item_of i ∷ items_of is
items_cons i is xs e = ap items_of e

-- what is open, one more
pub opens_push : {A : Type 0} (es : List (Entry A)) (e : Entry A) → opens_of (es ++ e ∷ []) ≡ open_of e ∷ opens_of es
opens_push es e = ap (map open_of) (reverse-append es (e ∷ []))

pub behind_is : {A : Type 0} (is js : List (Instr A)) → IsBehind is js → items_of js ≡ behind Loop (items_of is)
behind_is [] js h = ap items_of h
behind_is (i ∷ is) js h = ap items_of h

pub items_nil : {A : Type 0} (is : List (Instr A)) → items_of is ≡ [] → is ≡ []
items_nil [] e = refl
items_nil (i ∷ is) e = absurd (cc)

pub ordered_any : {A : Type 0} (b : State) (p : Parts A) → IsOrdered (view b p) → IsOrderedParts p
ordered_any b p o x = record { stands = o.stands; each = o.each }

-- the instruction to come
pub item_of_first : {A : Type 0} (p : Parts A) (i : Instr A) (rest : List (Instr A)) (x : Item) → p.code.now ≡ i ∷ rest → item_of i ≡ x → items_of p.code.now ≡ x ∷ items_of rest
item_of_first p i rest x e f = ap items_of e ∙ ap (λ (y : Item). y ∷ items_of rest) f

-- nothing waits behind an end
pub last_of : {A : Type 0} (args : List Value) (p : Parts A) (w : Option (Waiting A)) → ((p.code.now ≡ []) → w ≡ None) → items_of p.code.now ≡ [] → tail_of args w ≡ End
last_of args p w h e = ap (tail_of args) (h (items_nil p.code.now e))
