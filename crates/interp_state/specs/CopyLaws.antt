-- A run whose parts stand for the same is the same run.
use Rattle.std.proofs.Common.{◌≡◌, ℕ, ◌≤◌, List, [], ◌∷◌, ◌++◌, refl, sym, ap, ap₂, ◌∙◌, subst, Option, Some, None, length}
use Rattle.std.specs.Prelude.{map, reverse}
use Rattle.std.proofs.lemmas.List.{reverse-append, map-append}
use Rattle.wtypes.specs.declared.Value.{Value}
use Rattle.module_tree.specs.declared.instr.Instr.{Instr}
use Rattle.spec_execution.specs.Configuration.{Contract, State, End, Invoke, arguments}
use Rattle.spec_execution.specs.Run.{Reduces}
use Rattle.interp_state.specs.declared.waiting.Waiting.{Waiting}
use Rattle.interp_state.specs.Waiting.{tail_of, alone, frame_of, entered, IsPrepared, Waits, HasEach}
use Rattle.interp_state.specs.declared.parts.Entry.{Entry}
use Rattle.interp_state.specs.declared.parts.Parts.{Parts}
use Rattle.laws_reduction.specs.Meaning.{Item, Open, View, Frame, frames, config, calling}
use Rattle.interp_state.specs.Views.{open_of, opens_of, items_of, view}
use Rattle.interp_state.specs.Steps.{AreNumbered, EachNumbered, IsCounted}
use Rattle.interp_state.specs.Copies.{codes_of, IsPartsCopy, IsWaitingCopy, IsSameEntry}
use Rattle.instance.specs.States.{based}

map-reverse : {X Y : Type 0} (f : X → Y) (xs : List X) → map f (reverse xs) ≡ reverse (map f xs)
map-reverse f [] = refl
map-reverse f (x ∷ xs) = ap (map f) (reverse-append (x ∷ []) xs) ∙ map-append f (reverse xs) (x ∷ []) ∙ ap (λ ys. ys ++ f x ∷ []) (map-reverse f xs) ∙ sym (reverse-append (f x ∷ []) (map f xs))

-- each list of code is numbered
abbrev AllNumbered : {A : Type 0} → List (List (Instr A)) → Type 0
AllNumbered [] = Unit {0}
AllNumbered (is ∷ iss) = AreNumbered is × AllNumbered iss

numbered_codes : {A : Type 0} (es : List (Entry A)) → EachNumbered es → AllNumbered (codes_of es)
numbered_codes [] h = tt
numbered_codes (e ∷ es) h = (h.0, numbered_codes es h.1)

codes_numbered : {A : Type 0} (es : List (Entry A)) → AllNumbered (codes_of es) → EachNumbered es
codes_numbered [] h = tt
codes_numbered (e ∷ es) h = (h.0, codes_numbered es h.1)

module _ {A : Type 0} (p q : Parts A) (k : IsPartsCopy p q) where
  pub same_opens : opens_of q.entries.items ≡ opens_of p.entries.items
  same_opens = map-reverse open_of q.entries.items ∙ ap reverse k.entries.opens ∙ sym (map-reverse open_of p.entries.items)

  pub same_view : (b : State) → view b q ≡ view b p
  same_view b =
      ap₂ (λ (gs : List Value) (bs : List ℕ). record { base = record b { globals = gs; memory = bs; table = q.instance.table.now }; entries = opens_of q.entries.items; stack = q.stack.items; locals = q.locals.items; code = items_of q.code.now }) k.instance.globals (ap (λ m. m.bytes) k.instance.memory)
      ∙ ap (λ (ts : List (Option ℕ)). record { base = record b { globals = p.instance.globals; memory = p.instance.memory.bytes; table = ts }; entries = opens_of q.entries.items; stack = q.stack.items; locals = q.locals.items; code = items_of q.code.now }) k.instance.table
      ∙ ap₂ (λ (es : List Open) (vs : List Value). record { base = based b p.instance; entries = es; stack = vs; locals = q.locals.items; code = items_of q.code.now }) same_opens k.stack
      ∙ ap₂ (λ (ls : List Value) (is : List Item). record { base = based b p.instance; entries = opens_of p.entries.items; stack = p.stack.items; locals = ls; code = is }) k.locals (ap items_of k.code)

  pub same_counted : IsCounted p → IsCounted q
  same_counted c = record {
    count = k.depth ∙ c.count ∙ sym (ap (λ es. frames es 0) same_opens);
    few = subst (λ n. n ≤ 256) (sym k.depth) c.few;
    code = subst AreNumbered (sym k.code) c.code;
    each = codes_numbered q.entries.items (subst AllNumbered (sym k.entries.code) (numbered_codes p.entries.items c.each));
  }

-- ---- an entry that waits

pub same_tail : {A : Type 0} (args : List Value) (w x : Option (Waiting A)) → IsSameEntry w x → tail_of args x ≡ tail_of args w
same_tail args None None h = refl
same_tail args (Some w) (Some x) h = ap (λ f. arguments args (Invoke f End)) h.func
same_tail args None (Some x) h = absurd h
same_tail args (Some w) None h = absurd h

same_entered : {A : Type 0} (w x : Waiting A) → IsWaitingCopy w x → (b : State) (stack locals : List Value) → entered b x stack locals ≡ entered b w stack locals
same_entered w x k b stack locals =
    ap₂ (λ (f : ℕ) (n : ℕ). record { base = b; entries = record { scope = Frame f locals; ordinal = 0; arity = n; height = length stack; from = [] } ∷ []; stack = stack; locals = x.locals.items; code = items_of x.body.now }) k.func k.arity
    ∙ ap₂ (λ (ls : List Value) (is : List Item). record { base = b; entries = frame_of w stack locals ∷ []; stack = stack; locals = ls; code = is }) k.locals (ap items_of k.body)

same_prepared : {A : Type 0} (c : Contract) (args : List Value) (w x : Waiting A) → IsWaitingCopy w x → IsPrepared c args w → IsPrepared c args x
same_prepared c args w x k h = record {
  reduces = λ b stack locals. subst (λ (f : ℕ). Reduces c (calling (alone b (stack ++ args) locals) f) 0 (config (entered b x stack locals))) (sym k.func)
      (subst (λ (v : View). Reduces c (calling (alone b (stack ++ args) locals) w.func) 0 (config v)) (sym (same_entered w x k b stack locals)) (h.reduces b stack locals));
}

pub same_waits : {A : Type 0} (c : Contract) (args : List Value) (w x : Option (Waiting A)) → IsSameEntry w x → Waits c args w → Waits c args x
same_waits c args None None k h = tt
same_waits c args (Some w) (Some x) k h = same_prepared c args w x k h
same_waits c args None (Some x) k h = absurd k
same_waits c args (Some w) None k h = absurd k

pub same_place : {A : Type 0} (w x : Option (Waiting A)) → IsSameEntry w x → HasEach w → HasEach x
same_place None None k h = tt
same_place (Some w) (Some x) k h = record { none_open = k.none_open; room = k.room; numbered = subst AreNumbered (sym k.body) h.numbered }
same_place None (Some x) k h = absurd k
same_place (Some w) None k h = absurd k
