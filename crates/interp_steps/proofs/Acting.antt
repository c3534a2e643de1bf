-- What the steps of the code do to the parts.
use Rattle.std.proofs.Common.{◌≡◌, ℕ, ◌+◌, ◌≤◌, List, [], ◌∷◌, ◌++◌, length, drop, refl, sym, ap, ◌∙◌, subst, Vec, Result, Ok, Err, IfOk, IfErr, true, arith, length-append}
use Rattle.wtypes.specs.declared.Value.{Value}
use Rattle.wtypes.specs.declared.PlainInstr.{PlainInstr}
use Rattle.wtypes.specs.declared.PlainInstr.TheVariants.{Call, LocalTee}
use Rattle.spec_modules.specs.Syntax.{Plain}
use Rattle.module_tree.specs.declared.instr.Instr.{Instr}
use Rattle.spec_execution.specs.Configuration.{Contract, State, Config, End, Trap}
use Rattle.spec_execution.specs.Reduction.{Next, Goes, reduce, execute, execute_plain}
use Rattle.spec_execution.specs.Run.{Reduces}
use Rattle.interp_state.specs.declared.parts.Entry.{Entry}
use Rattle.interp_state.specs.declared.parts.Parts.{Parts}
use Rattle.interp_state.specs.declared.callee.Callee.{Callee}
use Rattle.interp_state.specs.declared.plain.After.{After}
use Rattle.interp_state.specs.declared.plain.After.TheVariants as after
use Rattle.laws_reduction.specs.Meaning.{Item, Open, height, outermost, at, config, Stands, IsOrdered, IsSafeAt, Charged, calling, listed, frames}
use Rattle.laws_reduction.specs.Forms.{operands, runs_on, IsReadyFor}
use Rattle.laws_reduction.specs.Finding.{ready_for}
use Rattle.interp_state.specs.Callee.{contract_of}
use Rattle.laws_reduction.specs.Plain.{onto, Done, at_once, by_two}
use Rattle.interp_state.specs.Plain.{Did}
use Rattle.interp_state.specs.Taking.{plain_takes_memory}
use Rattle.spec_execution.specs.Turns.{Frees, none}
use Rattle.instance.specs.declared.Instance.{Instance}
use Rattle.instance.specs.States.{based}
use Rattle.interp_state.specs.Views.{items_of, opens_of, view}
use Rattle.interp_steps.specs.Steps.{IsReadyToRun, LeadsTo, ViewLeadsTo, Wants}
use Rattle.interp_state.specs.Steps.{IsOrderedParts, IsCounted, AreNumbered, EachNumbered}
use Rattle.laws_reduction.specs.Context.{values_onto}
use Rattle.laws_reduction.specs.Charging.{mk, local, fine_at, fine_after_at, charged_ran, charged_fell, charged_teed, between, Stands_at}

module _ (c : Contract) (b : State) (es : List Open) (stack locals : List Value) (n : ℕ) (op : PlainInstr) (is : List Item) (there : height es + operands op ≤ length stack) (o : IsOrdered (mk b es stack locals (record { ordinal = n; instr = Plain op } ∷ is))) where
  pub led : (a : After) (stack' locals' : List Value) → Did op stack locals a stack' locals' → ViewLeadsTo c (mk b es stack locals (record { ordinal = n; instr = Plain op } ∷ is)) a (mk b es stack' locals' is)
  unfolding reduce execute execute_plain
  led after.Ran stack' locals' (at_once d) =
      let r = charged_ran c b es stack locals n op is there o.stands stack' locals' d in
      record { middle = _; reduces = r.0; frees = none _; ordered = record { stands = r.1; each = o.each } }
  led after.Ran stack' locals' (by_two d) =
      let op_is : operands op ≡ 1 = ap operands d.tees in
      let h : Stands es (length d.kept) = Stands_at es (length stack) (length d.kept) (omega (arith, there, op_is, ap length d.before, length-append d.kept (d.value ∷ []))) o.stands in
      let r = charged_teed c b es d.kept d.value d.old locals n d.local is h d.there in
      let mid : Config = between c b es d.kept d.value d.old locals n d.local is h d.there in
      record {
        middle = mid;
        reduces = subst (λ (p : PlainInstr). Reduces c (config (mk b es stack locals (record { ordinal = n; instr = Plain p } ∷ is))) 1 mid) (sym d.tees)
            (subst (λ (x : List Value). Reduces c (config (mk b es x locals (record { ordinal = n; instr = Plain (LocalTee d.local) } ∷ is))) 1 mid) (sym d.before) r.0);
        frees = subst (λ (x : List Value). Frees c mid (config (mk b es x locals' is))) (sym (d.same ∙ d.before)) (subst (λ (x : List Value). Frees c mid (config (mk b es (d.kept ++ d.value ∷ []) x is))) (sym d.set) r.1);
        ordered = record { stands = subst (λ (x : List Value). Stands es (length x)) (sym d.same) o.stands; each = o.each };
      }
  led (after.Fell t) stack' locals' d =
      record { reduces = subst (λ (x : List Value). Reduces c (config (mk b es stack locals (record { ordinal = n; instr = Plain op } ∷ is))) 1 (Trap (at b (outermost es x)) t)) (sym d.same) (charged_fell c b es stack locals n op is there o.stands t locals' d) }
  led (after.Calls f) stack' locals' d = record {
    reduces =
        subst (λ (p : PlainInstr). Reduces c (config (mk b es stack locals (record { ordinal = n; instr = Plain p } ∷ is))) 1 (calling (mk b es stack' locals' is) f)) (sym d.call)
        (subst (λ (x : List Value). Reduces c (config (mk b es stack locals (record { ordinal = n; instr = Plain (Call f) } ∷ is))) 1 (calling (mk b es x locals' is) f)) (sym d.same)
        (subst (λ (x : List Value). Reduces c (config (mk b es stack locals (record { ordinal = n; instr = Plain (Call f) } ∷ is))) 1 (calling (mk b es stack x is) f)) (sym d.same_locals)
        (local c b b es stack stack locals locals 1 _ _ refl (ap (Goes 1 (at b locals)) (values_onto (drop (height es) stack) [] _)))));
    ordered = record { stands = subst (λ (x : List Value). Stands es (length x)) (sym d.same) o.stands; each = o.each };
  }

pub if_ok : {X E : Type 0} (r : Result X E) (P Q : X → Type 0) → ((x : X) → P x → Q x) → IfOk r P → IfOk r Q
if_ok (Ok x) P Q f h = f x h
if_ok (Err e) P Q f h = h

pub led_parts : {A : Type 0} (l : Callee A) (p q : Parts A) (n : ℕ) (op : PlainInstr) (a : After) → IsOrderedParts p → items_of p.code.now ≡ record { ordinal = n; instr = Plain op } ∷ items_of q.code.now → q.entries ≡ p.entries → q.instance ≡ p.instance →
    height (opens_of p.entries.items) + operands op ≤ length p.stack.items → Did op p.stack.items p.locals.items a q.stack.items q.locals.items → LeadsTo l p a q
led_parts {A} l p q n op a o here same untouched there d b safe suits =
    let c : Contract = contract_of l in
    let u : State = based b p.instance in
    let es : opens_of q.entries.items ≡ opens_of p.entries.items = ap (λ (v : Vec (Entry A) A). opens_of v.items) same in
    let oo : IsOrdered (mk u (opens_of p.entries.items) p.stack.items p.locals.items (record { ordinal = n; instr = Plain op } ∷ items_of q.code.now)) = subst (λ (x : List Item). IsOrdered (mk u (opens_of p.entries.items) p.stack.items p.locals.items x)) here (o b) in
    subst (λ (i : Instance A). ViewLeadsTo c (view b p) a (mk (based b i) (opens_of q.entries.items) q.stack.items q.locals.items (items_of q.code.now))) (sym untouched)
    (subst (λ (x : List Open). ViewLeadsTo c (view b p) a (mk u x q.stack.items q.locals.items (items_of q.code.now))) (sym es)
    (subst (λ (x : List Item). ViewLeadsTo c (mk u (opens_of p.entries.items) p.stack.items p.locals.items x) a (mk u (opens_of p.entries.items) q.stack.items q.locals.items (items_of q.code.now))) (sym here)
    (led c u (opens_of p.entries.items) p.stack.items p.locals.items n op (items_of q.code.now) there oo a q.stack.items q.locals.items d)))

-- the instruction to come finds what it takes, where it is not stuck
module _ (c : Contract) (b : State) (es : List Open) (stack locals : List Value) (code : List Item) (safe : IsSafeAt c (mk b es stack locals code)) (ordered : IsOrdered (mk b es stack locals code)) (n : ℕ) (op : PlainInstr) (is : List Item)
    (here : code ≡ record { ordinal = n; instr = Plain op } ∷ is) (on : runs_on op ≡ true) where
  abbrev inside : List Item → Next
  inside js = reduce c (frames es 0) (at b locals) (onto (drop (height es) stack) []) (listed js End)

  pub place : (height es + operands op ≤ length stack) × IsReadyFor op stack locals
  unfolding reduce execute
  place = ready_for c b es stack locals (listed is End) ordered.stands op on
      (λ h. fine_at c b es stack locals (listed code End) safe.fine.not_stuck (ap inside here ∙ h))
      (λ s y e. fine_after_at c b s es stack locals s.locals (listed code End) y safe.after.not_stuck (ap inside here ∙ e))

  pub charged_done : (stack' locals' : List Value) → Done op stack locals stack' locals' → Charged c (mk b es stack locals code) (mk b es stack' locals' is)
  charged_done stack' locals' d = subst (λ (js : List Item). Charged c (mk b es stack locals js) (mk b es stack' locals' is)) (sym here)
      (led c b es stack locals n op is place.0 (subst (λ (js : List Item). IsOrdered (mk b es stack locals js)) here ordered) after.Ran stack' locals' d)

module _ {A : Type 0} (l : Callee A) (p q : Parts A) (rest : List (Instr A)) (r : IsReadyToRun l p) where
  module _ (n : ℕ) (op : PlainInstr) (is : items_of p.code.now ≡ record { ordinal = n; instr = Plain op } ∷ items_of rest) (on : runs_on op ≡ true) where
    abbrev es : List Open
    es = opens_of p.entries.items

    pub ready_plain : (height es + operands op ≤ length p.stack.items) × IsReadyFor op p.stack.items p.locals.items
    ready_plain = place (contract_of l) (based r.base p.instance) es p.stack.items p.locals.items (items_of p.code.now) r.safe (r.ordered r.base) n op (items_of rest) is on

    pub led_first : q.code.now ≡ rest → q.entries ≡ p.entries → q.instance ≡ p.instance → (a : After) → Did op p.stack.items p.locals.items a q.stack.items q.locals.items → LeadsTo l p a q
    led_first after same untouched a did = led_parts l p q n op a r.ordered (is ∙ ap (λ js. record { ordinal = n; instr = Plain op } ∷ items_of js) (sym after)) same untouched ready_plain.0 did

pub counted_rest : {A : Type 0} (p q : Parts A) → q.entries ≡ p.entries → q.depth ≡ p.depth → AreNumbered q.code.now → IsCounted p → IsCounted q
counted_rest {A} p q e d h k = record {
  count = d ∙ k.count ∙ ap (λ (es : Vec (Entry A) A). frames (opens_of es.items) 0) (sym e);
  few = subst (λ n. n ≤ 256) (sym d) k.few;
  code = h;
  each = subst (λ (es : Vec (Entry A) A). EachNumbered es.items) (sym e) k.each;
}

-- an operator that memory was refused for, or that calls, may take memory
pub wanted : {E : Type 0} (op : PlainInstr) (stack locals stack' locals' : List Value) (r : Result After E) → IfOk r (λ a. Did op stack locals a stack' locals') → IfErr r (λ _. plain_takes_memory op ≡ true) → Wants r → plain_takes_memory op ≡ true
wanted op stack locals stack' locals' (Err e) did takes w = takes
wanted op stack locals stack' locals' (Ok after.Ran) did takes w = absurd w
wanted op stack locals stack' locals' (Ok (after.Fell t)) did takes w = absurd w
wanted op stack locals stack' locals' (Ok (after.Calls f)) did takes w = ap plain_takes_memory did.call
