-- What an instruction finds that has a value beside the stack.
use Rattle.std.proofs.Common.{◌≡◌, ◌≢◌, ℕ, ◌+◌, ◌≤◌, List, [], ◌∷◌, ◌++◌, length, refl, sym, ap, ◌∙◌, subst, true, append_assoc}
use Rattle.wtypes.specs.declared.Value.{Value}
use Rattle.wtypes.specs.declared.PlainInstr.{PlainInstr}
use Rattle.wtypes.specs.declared.PlainInstr.TheVariants.{LocalGet, Unary, Binary, Test, Compare, Convert}
use Rattle.spec_modules.specs.Syntax.{Plain}
use Rattle.spec_modules.specs.Operators.{type_of}
use Rattle.spec_execution.specs.Configuration.{Contract, State}
use Rattle.module_tree.specs.declared.instr.Instr.{Instr}
use Rattle.laws_reduction.specs.Meaning.{Item, Open, height, IsOrdered, IsSafeAt, Charged}
use Rattle.laws_reduction.specs.Plain.{Done}
use Rattle.laws_reduction.specs.Forms.{runs_on, operands, IsReadyFor}
use Rattle.laws_reduction.specs.Topmost.{last_one, last_two}
use Rattle.laws_reduction.specs.Charging.{mk}
use Rattle.instance.specs.States.{based}
use Rattle.interp_state.specs.declared.callee.Callee.{Callee}
use Rattle.interp_state.specs.Callee.{contract_of, base_of}
use Rattle.interp_state.specs.TopmostValues.{Pushes, IsReadyToPush, IsReadyToJoin, IsReadyToChange}
use Rattle.interp_state.specs.declared.parts.Parts.{Parts}
use Rattle.interp_state.specs.Views.{items_of, opens_of}
use Rattle.interp_state.specs.ViewLaws.{items_nil}
use Rattle.interp_steps.specs.StraightLine.{IsFirst, with_top}
use Rattle.interp_steps.proofs.Acting.{place, charged_done}

push_by : (locals stack : List Value) (o : PlainInstr) → (runs_on o ≡ true → IsReadyFor o stack locals) → IsReadyToPush o locals
push_by locals stack (LocalGet x) h = h refl
push_by locals stack _ h = tt

join_by : (locals kept : List Value) (a b : Value) (o : PlainInstr) → (runs_on o ≡ true → IsReadyFor o (kept ++ a ∷ b ∷ []) locals) → IsReadyToJoin o a b
join_by locals kept a b (Binary o) h =
    let two = h refl in
    let same = last_two kept two.kept a b two.a two.b two.before in
    (ap type_of same.0 ∙ two.first, ap type_of same.1 ∙ two.second)
join_by locals kept a b (Compare o) h =
    let two = h refl in
    let same = last_two kept two.kept a b two.a two.b two.before in
    (ap type_of same.0 ∙ two.first, ap type_of same.1 ∙ two.second)
join_by locals kept a b _ h = tt

change_by : (locals kept : List Value) (a : Value) (o : PlainInstr) → (runs_on o ≡ true → IsReadyFor o (kept ++ a ∷ []) locals) → IsReadyToChange o a
change_by locals kept a (Unary o) h = let one = h refl in ap type_of (last_one kept one.kept a one.a one.before) ∙ one.first
change_by locals kept a (Test o) h = let one = h refl in ap type_of (last_one kept one.kept a one.a one.before) ∙ one.first
change_by locals kept a (Convert o) h = let one = h refl in ap type_of (last_one kept one.kept a one.a one.before) ∙ one.first
change_by locals kept a _ h = tt

module _ (c : Contract) (b : State) (es : List Open) (stack locals : List Value) (code : List Item) (safe : IsSafeAt c (mk b es stack locals code)) (ordered : IsOrdered (mk b es stack locals code)) (n : ℕ) (op : PlainInstr) (is : List Item)
    (here : code ≡ record { ordinal = n; instr = Plain op } ∷ is) where
  pub finds : runs_on op ≡ true → IsReadyFor op stack locals
  finds on = (place c b es stack locals code safe ordered n op is here on).1

  pub push_ready : IsReadyToPush op locals
  push_ready = push_by locals stack op finds

  pub join_ready : (kept : List Value) (x y : Value) → stack ≡ kept ++ x ∷ y ∷ [] → IsReadyToJoin op x y
  join_ready kept x y e = join_by locals kept x y op (λ on. subst (λ (s : List Value). IsReadyFor op s locals) e (finds on))

  pub change_ready : (kept : List Value) (x : Value) → stack ≡ kept ++ x ∷ [] → IsReadyToChange op x
  change_ready kept x e = change_by locals kept x op (λ on. subst (λ (s : List Value). IsReadyFor op s locals) e (finds on))

-- there is code where an instruction stands first
pub first_some : {A : Type 0} (code : List (Instr A)) (op : PlainInstr) (rest : List (Instr A)) → IsFirst code op rest → code ≢ []
first_some {A} code op rest f e = let gone : [] ≡ record { ordinal = f.ordinal; instr = Plain op } ∷ items_of rest = sym (ap (items_of {A = A}) e) ∙ f.here in absurd (cc)

pub full_some : {X : Type 0} (xs : List X) (x : X) (ys : List X) → xs ≡ x ∷ ys → xs ≢ []
full_some xs x ys h e = let gone : [] ≡ x ∷ ys = sym e ∙ h in absurd (cc)

pub items_some : {A : Type 0} (code : List (Instr A)) → code ≢ [] → items_of code ≢ []
items_some code some e = some (items_nil code e)

-- the same of parts with values beside the stack
module _ {A : Type 0} (l : Callee A) (p : Parts A) (vs : List Value) (code : List (Instr A)) (safe : IsSafeAt (contract_of l) (with_top (base_of l) p vs code)) (ordered : IsOrdered (with_top (base_of l) p vs code))
    (op : PlainInstr) (rest : List (Instr A)) (f : IsFirst code op rest) where
  abbrev c : Contract
  c = contract_of l

  abbrev b : State
  b = based (base_of l) p.instance

  abbrev es : List Open
  es = opens_of p.entries.items

  abbrev stack : List Value
  stack = p.stack.items ++ vs

  pub may_push : IsReadyToPush op p.locals.items
  may_push = push_ready c b es stack p.locals.items (items_of code) safe ordered f.ordinal op (items_of rest) f.here

  pub may_join : (kept : List Value) (x y : Value) → stack ≡ kept ++ x ∷ y ∷ [] → IsReadyToJoin op x y
  may_join = join_ready c b es stack p.locals.items (items_of code) safe ordered f.ordinal op (items_of rest) f.here

  pub may_change : (kept : List Value) (x : Value) → stack ≡ kept ++ x ∷ [] → IsReadyToChange op x
  may_change = change_ready c b es stack p.locals.items (items_of code) safe ordered f.ordinal op (items_of rest) f.here

  module _ (on : runs_on op ≡ true) where
    pub place_there : (height es + operands op ≤ length stack) × IsReadyFor op stack p.locals.items
    place_there = place c b es stack p.locals.items (items_of code) safe ordered f.ordinal op (items_of rest) f.here on

    pub done : (stack' locals' : List Value) → Done op stack p.locals.items stack' locals' → Charged c (with_top (base_of l) p vs code) (mk b es stack' locals' (items_of rest))
    done = charged_done c b es stack p.locals.items (items_of code) safe ordered f.ordinal op (items_of rest) f.here on

-- a value is pushed over the one beside the stack
module _ {A : Type 0} (l : Callee A) (p : Parts A) (v : Value) (code : List (Instr A)) (safe : IsSafeAt (contract_of l) (with_top (base_of l) p (v ∷ []) code)) (ordered : IsOrdered (with_top (base_of l) p (v ∷ []) code))
    (op : PlainInstr) (rest : List (Instr A)) (f : IsFirst code op rest) (w : Value) (pushes : Pushes op p.locals.items w) where
  pub pushed_onto : Charged (contract_of l) (with_top (base_of l) p (v ∷ []) code) (mk (based (base_of l) p.instance) (opens_of p.entries.items) ((p.stack.items ++ v ∷ []) ++ w ∷ []) p.locals.items (items_of rest))
  pushed_onto = done l p (v ∷ []) code safe ordered op rest f pushes.runs _ _ (pushes.does (p.stack.items ++ v ∷ []))

  pub pushed_over : Charged (contract_of l) (with_top (base_of l) p (v ∷ []) code) (with_top (base_of l) p (v ∷ w ∷ []) rest)
  pushed_over = subst (λ (s : List Value). Charged (contract_of l) (with_top (base_of l) p (v ∷ []) code) (mk (based (base_of l) p.instance) (opens_of p.entries.items) s p.locals.items (items_of rest))) (append_assoc p.stack.items (v ∷ []) (w ∷ [])) pushed_onto

-- the same where no value stands beside the stack
module _ {A : Type 0} (l : Callee A) (p : Parts A) (code : List (Instr A)) (safe : IsSafeAt (contract_of l) (mk (based (base_of l) p.instance) (opens_of p.entries.items) p.stack.items p.locals.items (items_of code)))
    (ordered : IsOrdered (mk (based (base_of l) p.instance) (opens_of p.entries.items) p.stack.items p.locals.items (items_of code))) (op : PlainInstr) (rest : List (Instr A)) (f : IsFirst code op rest) where
  pub first_push : IsReadyToPush op p.locals.items
  first_push = push_ready (contract_of l) (based (base_of l) p.instance) (opens_of p.entries.items) p.stack.items p.locals.items (items_of code) safe ordered f.ordinal op (items_of rest) f.here

  pub pushed_first : (w : Value) → Pushes op p.locals.items w → Charged (contract_of l) (mk (based (base_of l) p.instance) (opens_of p.entries.items) p.stack.items p.locals.items (items_of code)) (with_top (base_of l) p (w ∷ []) rest)
  pushed_first w h = charged_done (contract_of l) (based (base_of l) p.instance) (opens_of p.entries.items) p.stack.items p.locals.items (items_of code) safe ordered f.ordinal op (items_of rest) f.here h.runs _ _ (h.does p.stack.items)
