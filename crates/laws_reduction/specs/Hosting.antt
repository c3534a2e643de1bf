-- A call of a function of the host asks the host, by the arguments on top.
use Rattle.std.proofs.Common.{◌≡◌, ℕ, ◌+◌, ◌-◌, ◌<◌, ◌≤◌, Bool, true, false, nat_le, List, [], length, reverse, take, drop, refl, sym, ap, ◌∙◌, arith, Some, slice_get}
use Rattle.std.specs.Prelude.{if◌then◌else◌, option_map, option_and_then}
use mathlib.Core.Path.{fun_ext}
use Rattle.std.proofs.lemmas.Bool.{lt-ltb, leb-true}
use Rattle.std.proofs.lemmas.List.{length-take, length-drop, take-append-drop, take-append-le}
use Rattle.wtypes.specs.declared.HostCall.{HostCall}
use Rattle.wtypes.specs.declared.Value.{Value}
use Rattle.spec_modules.specs.Profile.{host_type}
use Rattle.spec_ledger.specs.declared.Reply.{Reply}
use Rattle.spec_execution.specs.Configuration.{Contract, Function, Hosted, defined, function_at, function_type, Seq, End, State, values, Invoke}
use Rattle.spec_execution.specs.Reduction.{HostEffect, Next, Asks, Stuck, reduce, found, with_values, invoke, effect_of, replied}
use Rattle.spec_execution.specs.Run.{next}
use Rattle.laws_reduction.specs.Meaning.{View, listed, height, around, frames, at, state, whole, invoking, Stands, IsOrdered, IsFineCall}
use Rattle.laws_reduction.specs.Plain.{onto}
use Rattle.laws_reduction.specs.Context.{values_onto, lift, lift_asks}
use Rattle.laws_reduction.specs.Charging.{next_whole, fine_at, above, Stands_at, length-onto, onto_top}
use Rattle.laws_reduction.specs.Finding.{onto_is}
use Rattle.laws_reduction.specs.Calling.{with_values_is, reverse_onto}

-- the number of arguments that a function of the host takes
abbrev pub arity_of : HostCall → ℕ
arity_of h = length (host_type h).params

module _ (c : Contract) (v : View) (f : ℕ) (h : HostCall) (fine : IsFineCall c v f) (ordered : IsOrdered v) (hosted : slice_get c.deployed.hosts f ≡ Some h) (lt : f < length c.deployed.hosts) where
  abbrev b : State
  b = at v.base v.locals

  abbrev rest : Seq
  rest = listed v.code End

  abbrev under : List Value
  under = onto (drop (height v.entries) v.stack) []

  abbrev going : Function → Next
  going g = with_values (length (function_type g).params) under (λ top below. invoke c (frames v.entries 0) b f g (reverse top) below rest)

  is_hosted : function_at c.deployed f ≡ Some (Hosted h)
  is_hosted =
      ap (λ x. if x then option_map Hosted (slice_get c.deployed.hosts f) else option_and_then (defined c.deployed.tree) (slice_get c.deployed.tree.funcs (f - length c.deployed.hosts))) (lt-ltb f (length c.deployed.hosts) lt)
      ∙ ap (option_map Hosted) hosted

  inner : reduce c (frames v.entries 0) b under (Invoke f rest) ≡ going (Hosted h)
  unfolding reduce
  inner = ap (λ o. found o going) is_hosted

  -- the arguments are there
  pub host_room : height v.entries + arity_of h ≤ length v.stack
  host_room = by_test (nat_le (arity_of h) (length under)) refl
    where
      by_test : (x : Bool) → nat_le (arity_of h) (length under) ≡ x → height v.entries + arity_of h ≤ length v.stack
      by_test true x = above v.entries v.stack (arity_of h) ordered.stands (leb-true _ _ x)
      by_test false x = absurd (fine_at c v.base v.entries v.stack v.locals (Invoke f rest) fine.not_stuck (inner
          ∙ ap (λ y. if y then Asks (effect_of c.number h (reverse (take (arity_of h) under))) (λ r. values (drop (arity_of h) under) (replied r rest)) else Stuck) x))

  abbrev cut : ℕ
  cut = length v.stack - arity_of h

  abbrev wish : HostEffect
  wish = effect_of c.number h (drop cut v.stack)

  abbrev low : List Value
  low = onto (drop (height v.entries) (take cut v.stack)) []

  stands_cut : Stands v.entries (length (take cut v.stack))
  stands_cut = Stands_at v.entries (length v.stack) _ (omega (arith, host_room, length-take cut v.stack)) ordered.stands

  local_asks : reduce c (frames v.entries 0) b under (Invoke f rest) ≡ Asks wish (λ r. values low (replied r rest))
  local_asks =
      inner
      ∙ ap (λ vs. with_values (arity_of h) vs (λ top below. invoke c (frames v.entries 0) b f (Hosted h) (reverse top) below rest))
      (ap (λ xs. onto (drop (height v.entries) xs) []) (sym (take-append-drop cut v.stack))
      ∙ onto_top v.entries (take cut v.stack) (drop cut v.stack) stands_cut ∙ onto_is (drop cut v.stack) low)
      ∙ with_values_is (arity_of h) (onto (drop cut v.stack) []) low (λ top below. invoke c (frames v.entries 0) b f (Hosted h) (reverse top) below rest)
      (length-onto (drop cut v.stack) [] ∙ (omega (arith, length-drop cut v.stack, host_room)))
      ∙ ap (λ xs. invoke c (frames v.entries 0) b f (Hosted h) xs low rest) (reverse_onto (drop cut v.stack) [])

  same_below : take (height v.entries) v.stack ≡ take (height v.entries) (take cut v.stack)
  same_below = ap (take (height v.entries)) (sym (take-append-drop cut v.stack)) ∙ take-append-le (height v.entries) (take cut v.stack) (drop cut v.stack) (omega (arith, host_room, length-take cut v.stack))

  -- the wish by the arguments, and on with the reply over what stands below them
  pub host_asks : next c (state v) (invoking v f) ≡ Asks wish (λ r. whole v.entries (take cut v.stack) v.locals (replied r rest))
  host_asks =
      next_whole c v.base v.entries v.stack v.locals (Invoke f rest)
      ∙ ap (lift v.base v.entries (take (height v.entries) v.stack) v.locals) local_asks
      ∙ lift_asks v.base v.entries (take (height v.entries) v.stack) v.locals wish (λ r. values low (replied r rest))
      ∙ ap (Asks wish) (fun_ext (λ r.
      ap (λ x. around v.entries x v.locals (values low (replied r rest))) same_below
      ∙ ap (around v.entries (take (height v.entries) (take cut v.stack)) v.locals) (values_onto (drop (height v.entries) (take cut v.stack)) [] (replied r rest))))
