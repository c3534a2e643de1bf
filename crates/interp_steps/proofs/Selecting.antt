-- Calls of elements of the table.
use Rattle.std.proofs.Common.{◌≡◌, ℕ, ◌+◌, ◌≤◌, Bool, true, false, List, [], ◌∷◌, ◌++◌, length, drop, refl, sym, ap, ◌∙◌, subst, Result, Ok, Err, Option, Some, None, slice_get}
use Rattle.std.specs.Prelude.{if◌then◌else◌, IsSome, option_map, option_and_then}
use Rattle.wtypes.specs.declared.ValType.TheVariants.{I32}
use Rattle.wtypes.specs.declared.Value.{Value}
use Rattle.wtypes.specs.declared.TrapCode.{TrapCode}
use Rattle.wtypes.specs.declared.TrapCode.TheVariants.{TypeMismatch}
use Rattle.wtypes.specs.declared.PlainInstr.TheVariants.{CallIndirect}
use Rattle.spec_modules.specs.Syntax.{Plain, FuncType}
use Rattle.spec_modules.specs.Operators.{type_of, bits_of}
use Rattle.spec_execution.specs.Configuration.{Contract, Function, function_at, function_type, Seq, Invoke, End, State, Trap, values}
use Rattle.spec_execution.specs.Reduction.{Next, Goes, Traps, Stuck, reduce, execute, execute_plain, with_number, found, indirect, same_function_type}
use Rattle.spec_execution.specs.Run.{Reduces}
use Rattle.laws_reduction.specs.Forms.{HasOne}
use Rattle.interp_state.specs.Elements.{called, element_called}
use Rattle.laws_reduction.specs.Meaning.{Item, View, listed, height, frames, outermost, at, config, Stands, IsOrdered, IsSafeAt, ChargedCall, ChargedTrap}
use Rattle.laws_reduction.specs.Plain.{onto}
use Rattle.laws_reduction.specs.Charging.{local_trap, fine_at, onto_top}
use Rattle.laws_reduction.specs.Topmost.{number_is}
use Rattle.interp_steps.proofs.Controlling.{popped, choice_there, choice_goes, view_is}

-- what a call of an element does next
abbrev pub does : State → List Value → Seq → Option (Result ℕ TrapCode) → Next
does s vs rest None = Stuck
does s vs rest (Some (Ok f)) = Goes 1 s (values vs (Invoke f rest))
does s vs rest (Some (Err code)) = Traps 1 code

indirect_is : (c : Contract) (s : State) (t : FuncType) (o : Option (Option ℕ)) (vs : List Value) (rest : Seq) → indirect c 1 s t o vs rest ≡ does s vs rest (called c.deployed t o)
indirect_is c s t None vs rest = refl
indirect_is c s t (Some None) vs rest = refl
indirect_is c s t (Some (Some f)) vs rest = by_function (function_at c.deployed f)
  where
    by_test : (b : Bool) → (if b then Goes 1 s (values vs (Invoke f rest)) else Traps 1 TypeMismatch) ≡ does s vs rest (Some (if b then Ok f else Err TypeMismatch))
    by_test true = refl
    by_test false = refl

    by_function : (o : Option Function) → found o (λ g. if same_function_type t (function_type g) then Goes 1 s (values vs (Invoke f rest)) else Traps 1 TypeMismatch)
        ≡ does s vs rest (option_map (λ g. if same_function_type t (function_type g) then Ok f else Err TypeMismatch) o)
    by_function None = refl
    by_function (Some g) = by_test (same_function_type t (function_type g))

there : {X : Type 0} (o : Option X) → (o ≡ None → ⊥) → IsSome o
there None f = absurd (f refl)
there (Some x) f = refl

module _ (c : Contract) (v : View) (safe : IsSafeAt c v) (ordered : IsOrdered v) (n : ℕ) (is : List Item) (t : ℕ) (here : v.code ≡ record { ordinal = n; instr = Plain (CallIndirect t) } ∷ is) where
  abbrev s : State
  s = at v.base v.locals

  abbrev within : List Value → Next
  within stack = reduce c (frames v.entries 0) s (onto (drop (height v.entries) stack) []) (listed v.code End)

  abbrev under : List Value → List Value
  under kept = onto (drop (height v.entries) kept) []

  abbrev goes : ℕ → List Value → Next
  goes k vs = found (slice_get c.deployed.tree.types t) (λ type. indirect c 1 s type (slice_get v.base.table k) vs (listed is End))

  asks : (stack : List Value) → within stack ≡ with_number I32 (under stack) goes
  unfolding reduce execute execute_plain
  asks stack = ap (λ js. reduce c (frames v.entries 0) s (under stack) (listed js End)) here

  goes_is : (k : ℕ) (vs : List Value) → goes k vs ≡ does s vs (listed is End) (element_called c.deployed v.base.table k t)
  goes_is k vs = by_type (slice_get c.deployed.tree.types t)
    where
      by_type : (o : Option FuncType) → found o (λ type. indirect c 1 s type (slice_get v.base.table k) vs (listed is End)) ≡ does s vs (listed is End) (option_and_then (λ t. called c.deployed t (slice_get v.base.table k)) o)
      by_type None = refl
      by_type (Some type) = indirect_is c s type (slice_get v.base.table k) vs (listed is End)

  pub element_place : (height v.entries + 1 ≤ length v.stack) × HasOne I32 v.stack
  element_place = choice_there c v safe ordered n is goes asks

  module _ (kept : List Value) (a : Value) (before : v.stack ≡ kept ++ a ∷ []) where
    fits : (type_of a ≡ I32) × Stands v.entries (length kept)
    fits = popped v ordered element_place kept a before

    element_is : within v.stack ≡ does s (under kept) (listed is End) (element_called c.deployed v.base.table (bits_of a) t)
    element_is =
        asks v.stack ∙ ap (λ xs. with_number I32 (under xs) goes) before ∙ ap (λ vs. with_number I32 vs goes) (onto_top v.entries kept (a ∷ []) fits.1) ∙ number_is I32 a (under kept) goes fits.0
        ∙ goes_is (bits_of a) (under kept)

    pub element_there : IsSome (element_called c.deployed v.base.table (bits_of a) t)
    element_there = there _ (λ e. fine_at c v.base v.entries v.stack v.locals (listed v.code End) safe.fine.not_stuck (element_is ∙ ap (does s (under kept) (listed is End)) e))

    pub element_calls : (f : ℕ) → element_called c.deployed v.base.table (bits_of a) t ≡ Some (Ok f) →
        (w : View) → w.base ≡ v.base → w.entries ≡ v.entries → w.stack ≡ kept → w.locals ≡ v.locals → w.code ≡ is → ChargedCall c v f w
    element_calls f e w eb ee est el ec =
        subst (λ (y : View). ChargedCall c v f y) (sym (view_is w v.base v.entries kept v.locals is eb ee est el ec)) (record {
          reduces = choice_goes c v safe ordered n is goes asks kept a before fits.0 fits.1 (Invoke f (listed is End)) (goes_is (bits_of a) (under kept) ∙ ap (does s (under kept) (listed is End)) e);
          ordered = record { stands = fits.1; each = ordered.each };
        })

    pub element_falls : (code : TrapCode) → element_called c.deployed v.base.table (bits_of a) t ≡ Some (Err code) → (w : View) → w.base ≡ v.base → w.entries ≡ v.entries → w.locals ≡ v.locals → ChargedTrap c v code w
    element_falls code e w eb ee el = record {
      reduces = subst (λ (y : State). Reduces c (config v) 1 (Trap y code)) (sym (ap (λ b. at b (outermost w.entries w.locals)) eb ∙ ap (λ es. at v.base (outermost es w.locals)) ee ∙ ap (λ ls. at v.base (outermost v.entries ls)) el))
          (local_trap c v.base v.entries v.stack v.locals 1 (listed v.code End) code (element_is ∙ ap (does s (under kept) (listed is End)) e));
    }
