-- Where an instruction is to come, it is the one whose place is read off the configuration.
use Rattle.std.proofs.Common.{◌≡◌, ℕ, ℤ, pos, zero, suc, ◌+◌, Bool, true, false, cond, List, [], ◌∷◌, ◌++◌, refl, sym, ap₂, ◌∙◌, subst, arith, Option, Some, None, length, slice_get, nat_le, nat_lt, take, drop, reverse, map}
use Rattle.wtypes.specs.declared.Value.{Value}
use Rattle.wtypes.specs.declared.Value.TheVariants as value
use Rattle.wtypes.specs.declared.TrapCode.{TrapCode}
use Rattle.wtypes.specs.declared.TrapCode.TheVariants as trap
use Rattle.spec_modules.specs.Syntax.{Instr, Plain, BrTable, Block, Loop, If, Instrs, nothing}
use Rattle.spec_modules.specs.Shape.{instr_preorder, instr_at}
use Rattle.spec_modules.specs.Profile.{frame_limit}
use Rattle.spec_ledger.specs.declared.Reply.{Reply}
use Rattle.spec_ledger.specs.declared.Reply.TheVariants as reply
use Rattle.spec_ledger.specs.declared.TraceStep.{TraceStep}
use Rattle.spec_ledger.specs.declared.TraceStep.TheVariants.{Kept, Dropped}
use Rattle.spec_execution.specs.Configuration.{Setting, Contract, Function, Hosted, Defined, function_at, function_type, Seq, End, Val, Code, Free, Label, Frame, Invoke, code, values, arguments, State, Config, Running, Trap}
use Rattle.spec_execution.specs.Reduction.{Of, Ask, Answer, Next, Goes, Traps, Asks, Branches, Returns, Ended, Stuck, with_values, found, zero_of, invoke, execute, in_label, in_frame, reduce}
use Rattle.spec_execution.specs.Run.{next, IsCharged, Opening, Refused, Opens, after_start}
use Rattle.spec_execution.specs.Levels.{Level, Levels, Move, On, Host, Over, Nowhere, asked, trap_status, signed_of, no_answer, first_level, back_by, back_to, returned, fallen, entering, by_next, by_config, move, Reached, at_first, moved, replied}
use Rattle.spec_execution.specs.Places.{StandsAt, body_of, IsPlaced, IsPlacedNext, PlacesAreKept}
use Rattle.spec_execution.specs.Turns.{place_in}
use Rattle.laws_soundness.specs.NextInstruction.{ReducesBy, here, behind_value, inside_label, inside_frame, PlacesAreOfWhatComes}
use Rattle.laws_soundness.proofs.Weighing.{weight, free_weight, Lighter, one}

-- ---- what is charged

-- an instruction of the code comes next, seen from inside
abbrev Charges : Next → Type 0
Charges (Goes charge s q) = charge ≡ 1
Charges (Traps charge t) = charge ≡ 1
Charges (Branches charge l vs) = charge ≡ 1
Charges (Returns charge vs) = charge ≡ 1
Charges _ = ⊥

record Is (x : Next) : Type 0 where
  is : Charges x

from_charged : (x : Next) → IsCharged x → Charges x
from_charged (Goes charge s q) h = h
from_charged (Traps charge t) h = h
from_charged (Asks op go) h = h
from_charged (Branches charge l vs) h = absurd h
from_charged (Returns charge vs) h = absurd h
from_charged (Ended vs) h = h
from_charged Stuck h = h

none_free : (m : ℕ) (x : Next) → Lighter 0 m x → Charges x → ⊥
none_free m (Goes charge s q) h g = omega (arith, h.0, g)
none_free m (Traps charge t) h g = omega (arith, h, g)
none_free m (Branches charge l vs) h g = omega (arith, h, g)
none_free m (Returns charge vs) h g = omega (arith, h, g)
none_free m (Asks op go) h g = h
none_free m (Ended vs) h g = h
none_free m Stuck h g = g

top_charges : (n : ℕ) (vs : List Value) (f : List Value → List Value → Next) (P : Type 0) → ((top below : List Value) → Charges (f top below) → P) → Charges (with_values n vs f) → P
top_charges n vs f P h = by_test (nat_le n (length vs))
  where
    by_test : (b : Bool) → Charges (cond b (f (take n vs) (drop n vs)) Stuck) → P
    by_test true g = h (take n vs) (drop n vs) g
    by_test false g = absurd g

of_label : (s : State) (n at : ℕ) (k : Instrs) (vs : List Value) (a : Seq) (x : Next) → Charges (in_label s n at k vs a x) → Charges x
of_label s n at k vs a (Goes charge s' q) h = h
of_label s n at k vs a (Traps charge t) h = h
of_label s n at k vs a (Asks op go) h = h
of_label s n at k vs a (Branches charge zero ws) h = top_charges n ws (λ top below. Goes charge s (values vs (values top (code at k a)))) (charge ≡ 1) (λ top below g. g) h
of_label s n at k vs a (Branches charge (suc l) ws) h = h
of_label s n at k vs a (Returns charge ws) h = h
of_label s n at k vs a (Ended ws) h = absurd (omega (arith, h))
of_label s n at k vs a Stuck h = h

of_frame : (s : State) (f n : ℕ) (ls vs : List Value) (a : Seq) (x : Next) → Charges (in_frame s f n ls vs a x) → Charges x
of_frame s f n ls vs a (Goes charge s' q) h = h
of_frame s f n ls vs a (Traps charge t) h = h
of_frame s f n ls vs a (Asks op go) h = h
of_frame s f n ls vs a (Branches charge l ws) h = absurd h
of_frame s f n ls vs a (Returns charge ws) h = top_charges n ws (λ top below. Goes charge s (values vs (values top a))) (charge ≡ 1) (λ top below g. g) h
of_frame s f n ls vs a (Ended ws) h = absurd (omega (arith, h))
of_frame s f n ls vs a Stuck h = h

no_invoke : (c : Contract) (frames : ℕ) (s : State) (f : ℕ) (g : Function) (args vs : List Value) (a : Seq) → Charges (invoke c frames s f g args vs a) → ⊥
no_invoke c frames s f (Hosted h) args vs a g = g
no_invoke c frames s f (Defined t b) args vs a g = by_test (nat_lt frames frame_limit) g
  where
    by_test : (x : Bool) → Charges (cond x (Goes 0 s (values vs (Frame f (length t.results) (args ++ map zero_of b.locals) (Label (length t.results) 0 nothing (code 0 b.body End) End) a))) (Traps 0 trap.CallDepth)) → ⊥
    by_test true h = omega (arith, h)
    by_test false h = omega (arith, h)

there_charges : {X : Type 0} (o : Option X) (f : X → Next) (P : Type 0) → ((x : X) → Charges (f x) → P) → Charges (found o f) → P
there_charges None f P h g = absurd g
there_charges (Some x) f P h g = h x g

-- ---- what stands at an ordinal

first_at : (before : List Instr) (i : Instr) (later : List Instr) → slice_get (before ++ (instr_preorder i ++ later)) (length before) ≡ Some i
first_at [] (Plain op) later = refl
first_at [] (BrTable ls l) later = refl
first_at [] (Block r b) later = refl
first_at [] (Loop r b) later = refl
first_at [] (If r t e) later = refl
first_at (x ∷ before) i later = first_at before i later

stands_at : (body : Instrs) (n : ℕ) (i : Instr) → StandsAt body n i → instr_at body n ≡ Some i
stands_at body n i h = ap₂ slice_get h.split (sym h.ordinal) ∙ first_at h.before i h.later

nowhere : (before : List Instr) (i : Instr) (later : List Instr) → [] ≡ before ++ (instr_preorder i ++ later) → ⊥
nowhere [] (Plain op) later e = cc
nowhere [] (BrTable ls l) later e = cc
nowhere [] (Block r b) later e = cc
nowhere [] (Loop r b) later e = cc
nowhere [] (If r t e') later e = cc
nowhere (x ∷ before) i later e = cc

-- ---- the instruction to come

record Comes (c : Contract) (around : Option ℕ) (s : State) (vs : List Value) (q : Seq) (x : Next) : Type 0 where
  func : ℕ
  ordinal : ℕ
  instr : Instr
  place : place_in around q ≡ Some (func, ordinal)
  stands : instr_at (body_of c func) ordinal ≡ Some instr
  reduces : ReducesBy c around s vs q func ordinal instr x

-- the body of the function around, if there is one
abbrev body_around : Contract → Option ℕ → Instrs
body_around c None = nothing
body_around c (Some f) = body_of c f

module _ (c : Contract) where
  comes : (around : Option ℕ) (frames : ℕ) (s : State) (vs : List Value) (q : Seq) → IsPlaced c (body_around c around) q → Charges (reduce c frames s vs q) → Comes c around s vs q (reduce c frames s vs q)
  unfolding reduce
  comes around frames s vs End p h = absurd h
  comes around frames s vs (Val v rest) p h =
      let x = comes around frames s (v ∷ vs) rest p h in
      record { func = x.func; ordinal = x.ordinal; instr = x.instr; place = x.place; stands = x.stands; reduces = behind_value around x.func x.ordinal x.instr _ s v vs rest x.reduces }
  comes None frames s vs (Code n i rest) p h = absurd (nowhere (p.0).before i (p.0).later (p.0).split)
  comes (Some f) frames s vs (Code n i rest) p h = record { func = f; ordinal = n; instr = i; place = refl; stands = stands_at (body_of c f) n i p.0; reduces = here f n i s vs rest }
  comes around frames s vs (Free i rest) p h = absurd (none_free (free_weight i + weight rest) (execute c s 0 0 i vs rest) (one c 0 (free_weight i + weight rest) s 0 i vs rest (omega arith)).is h)
  comes around frames s vs (Label n at k inside rest) p h =
      let x = comes around frames s [] inside p.1 (of_label s n at k vs rest (reduce c frames s [] inside) h) in
      record { func = x.func; ordinal = x.ordinal; instr = x.instr; place = x.place; stands = x.stands; reduces = inside_label around x.func x.ordinal x.instr _ s vs n at k inside rest x.reduces }
  comes around frames s vs (Frame g n ls inside rest) p h =
      let x = comes (Some g) (frames + 1) (record s { locals = ls }) [] inside p.0 (of_frame s g n ls vs rest (reduce c (frames + 1) (record s { locals = ls }) [] inside) h) in
      record { func = x.func; ordinal = x.ordinal; instr = x.instr; place = x.place; stands = x.stands; reduces = inside_frame around x.func x.ordinal x.instr _ s vs g n ls inside rest x.reduces }
  comes around frames s vs (Invoke f rest) p h =
      absurd (there_charges (function_at c.deployed f) _ ⊥ (λ g. top_charges (length (function_type g).params) vs _ ⊥ (λ top below. no_invoke c frames s f g (reverse top) below rest)) h)

  -- ---- what is reached

  argued : (args : List Value) (a : Seq) → IsPlaced c nothing a → IsPlaced c nothing (arguments args a)
  argued [] a p = p
  argued (v ∷ args) a p = argued args a p

  started : (start : Option ℕ) (a : Seq) → IsPlaced c nothing a → IsPlaced c nothing (after_start start a)
  started None a p = p
  started (Some f) a p = p

  fresh_placed : (func : ℕ) (args : List Value) → IsPlaced c nothing (after_start c.deployed.tree.start (arguments args (Invoke func End)))
  fresh_placed func args = started c.deployed.tree.start (arguments args (Invoke func End)) (argued args (Invoke func End) tt)

abbrev Good : Contract → Config → Type 0
Good c (Running s q) = IsPlaced c nothing q
Good c (Trap s t) = Unit {0}

abbrev AllGood : List Level → Type 0
AllGood [] = Unit {0}
AllGood (l ∷ outer) = Good l.contract l.config × AllGood outer

-- at each level
abbrev AreGood : Levels → Type 0
AreGood a = Good a.inner.contract a.inner.config × AllGood a.outer

abbrev MoveGood : Move → Type 0
MoveGood (On charge marks a) = AreGood a
MoveGood (Host op go) = (r : Reply) → AreGood (go r)
MoveGood (Over o) = Unit {0}
MoveGood Nowhere = Unit {0}

module _ (setting : Setting) (kept : PlacesAreKept) where
  back_by_good : (l : Level) (outer : List Level) (s : State) (status : ℕ) (answer : ℤ) (mark : TraceStep) (x : Next) → IsPlacedNext l.contract nothing x → AllGood outer → MoveGood (back_by l outer s status answer mark x)
  back_by_good l outer s status answer mark (Asks (Ask n e v) go) g rest = (g (reply.I32 (pos status)), rest)
  back_by_good l outer s status answer mark (Asks (Of op) go) g rest = tt
  back_by_good l outer s status answer mark (Asks Answer go) g rest = tt
  back_by_good l outer s status answer mark (Goes charge s' q) g rest = tt
  back_by_good l outer s status answer mark (Traps charge t) g rest = tt
  back_by_good l outer s status answer mark (Branches charge k vs) g rest = tt
  back_by_good l outer s status answer mark (Returns charge vs) g rest = tt
  back_by_good l outer s status answer mark (Ended vs) g rest = tt
  back_by_good l outer s status answer mark Stuck g rest = tt

  back_good : (l : Level) (outer : List Level) (status : ℕ) (answer : ℤ) (mark : TraceStep) (x : Config) → Good l.contract x → AllGood outer → MoveGood (back_to l outer status answer mark x)
  back_good l outer status answer mark (Running s q) h rest = back_by_good l outer s status answer mark (next l.contract s q) (kept l.contract nothing 0 s [] q h) rest
  back_good l outer status answer mark (Trap s t) h rest = tt

  returned_good : (vs : List Value) (outer : List Level) → AllGood outer → MoveGood (returned vs outer)
  returned_good vs [] h = tt
  returned_good [] (l ∷ outer) h = tt
  returned_good (v ∷ []) (l ∷ outer) h = back_good l outer 0 (signed_of v) Kept l.config h.0 h.1
  returned_good (v ∷ w ∷ vs) (l ∷ outer) h = tt

  fallen_good : (t : TrapCode) (outer : List Level) → AllGood outer → MoveGood (fallen t outer)
  fallen_good t [] h = tt
  fallen_good t (l ∷ outer) h = back_good l outer (trap_status t) no_answer Dropped l.config h.0 h.1

  entering_good : (l : Level) (outer : List Level) (s : State) (go : Reply → Seq) (x : ℤ) (o : Opening) → Good l.contract l.config → ((r : Reply) → IsPlaced l.contract nothing (go r)) → AllGood outer → MoveGood (entering l outer s go x o)
  entering_good l outer s go x (Opens c f) h g rest = (fresh_placed c f (value.I64 x ∷ []), (h, rest))
  entering_good l outer s go x (Refused status) h g rest = (g (reply.I32 (pos status)), rest)

  by_next_good : (l : Level) (outer : List Level) (s : State) (x : Next) → Good l.contract l.config → IsPlacedNext l.contract nothing x → AllGood outer → MoveGood (by_next setting l outer s x)
  by_next_good l outer s (Goes charge s' q) h g rest = (g, rest)
  by_next_good l outer s (Traps charge t) h g rest = (tt, rest)
  by_next_good l outer s (Asks (Of op) go) h g rest = λ r. (g r, rest)
  by_next_good l outer s (Asks (Ask n e x) go) h g rest = entering_good l outer s go x (asked setting (length outer) n e) h g rest
  by_next_good l outer s (Asks Answer go) h g rest = (g (reply.I64 l.answer), rest)
  by_next_good l outer s (Branches charge k vs) h g rest = tt
  by_next_good l outer s (Returns charge vs) h g rest = tt
  by_next_good l outer s (Ended vs) h g rest = returned_good vs outer rest
  by_next_good l outer s Stuck h g rest = tt

  by_config_good : (l : Level) (outer : List Level) (x : Config) → Good l.contract l.config → Good l.contract x → AllGood outer → MoveGood (by_config setting l outer x)
  by_config_good l outer (Running s q) h g rest = by_next_good l outer s (next l.contract s q) h (kept l.contract nothing 0 s [] q g) rest
  by_config_good l outer (Trap s t) h g rest = fallen_good t outer rest

  move_good : (a : Levels) → AreGood a → MoveGood (move setting a)
  move_good a h = by_config_good a.inner a.outer a.inner.config h.0 h.0 h.1

  reached_good : (start : Levels) (limit : ℕ) (trace : List TraceStep) (used : ℕ) (a : Levels) → AreGood start → Reached setting start limit trace used a → AreGood a
  reached_good start limit trace used a h at_first = h
  reached_good start limit trace used a h (moved t u b n marks x r e le) = subst MoveGood e (move_good b (reached_good start limit t u b h r))
  reached_good start limit trace used a h (replied t u b op go r before e is) = subst MoveGood e (move_good b (reached_good start limit t u b h before)) r

pub places_right : PlacesAreKept → PlacesAreOfWhatComes
places_right kept setting c func args limit trace used a s q r is h =
    let good : AreGood a = reached_good setting kept (first_level c func args) limit trace used a (fresh_placed c func args, tt) r in
    let placed : IsPlaced a.inner.contract nothing q = subst (Good a.inner.contract) is good.0 in
    let x = comes a.inner.contract None 0 s [] q placed (from_charged (next a.inner.contract s q) h) in
    record { func = x.func; ordinal = x.ordinal; instr = x.instr; place = x.place; stands = x.stands; reduces = x.reduces }
