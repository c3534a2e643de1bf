-- A sequence in the innermost of the open blocks and calls reduces as it does alone.
use Rattle.std.proofs.Common.{◌≡◌, ℕ, List, [], ◌∷◌, take, drop, refl, ap, ◌∙◌}
use mathlib.Core.Path.{fun_ext}
use Rattle.wtypes.specs.declared.Value.{Value}
use Rattle.wtypes.specs.declared.TrapCode.{TrapCode}
use Rattle.spec_ledger.specs.declared.Reply.{Reply}
use Rattle.spec_modules.specs.Syntax.{nothing}
use Rattle.laws_reduction.specs.Meaning.{Item, Scope, Block, Loop, Frame, Open, listed, put, continuation, behind, outer, item, height, around, deeper, frames, outermost, at}
use Rattle.laws_reduction.specs.Plain.{onto}
use Rattle.spec_execution.specs.Configuration.{Contract, Seq, End, State, values}
use Rattle.spec_execution.specs.Reduction.{HostEffect, Next, Goes, Traps, Asks, Stuck, reduce, in_label, in_frame}

pub values_onto : (vs acc : List Value) (rest : Seq) → values (onto vs acc) rest ≡ values acc (put vs rest)
values_onto [] acc rest = refl
values_onto (v ∷ vs) acc rest = values_onto vs (v ∷ acc) rest

pub reduce_put : (c : Contract) (n : ℕ) (s : State) (vs acc : List Value) (rest : Seq) → reduce c n s acc (put vs rest) ≡ reduce c n s (onto vs acc) rest
unfolding reduce
reduce_put c n s [] acc rest = refl
reduce_put c n s (v ∷ vs) acc rest = reduce_put c n s vs (v ∷ acc) rest

-- what an open block or call makes of a step inside it
abbrev pub through : State → Scope → (ordinal arity : ℕ) → List Item → List Value → List Value → Next → Next
through s Block o n is locals vs step = in_label (at s locals) n o (continuation Block is) (onto vs []) (listed (behind Block is) End) step
through s Loop o n is locals vs step = in_label (at s locals) n o (continuation Loop is) (onto vs []) (listed (behind Loop is) End) step
through s (Frame f saved) o n is locals vs step =
    in_frame (at s saved) f n locals (onto vs []) (listed (behind (Frame f saved) is) End) (in_label (at s locals) n 0 nothing [] End step)

abbrev pub lift : State → List Open → List Value → List Value → Next → Next
lift s [] below locals step = step
lift s (e ∷ es) below locals step =
    lift s es (take (height es) below) (outer e.scope locals) (through s e.scope e.ordinal e.arity e.from locals (drop (height es) below) step)

reduce_item : (c : Contract) (n : ℕ) (s : State) (k : Scope) (o a : ℕ) (is : List Item) (locals vs : List Value) (x : Seq) →
    reduce c n (at s (outer k locals)) [] (put vs (item k o a is locals x)) ≡ through s k o a is locals vs (reduce c (deeper k n) (at s locals) [] x)
unfolding reduce
reduce_item c n s Block o a is locals vs x = reduce_put c n (at s locals) vs [] (item Block o a is locals x)
reduce_item c n s Loop o a is locals vs x = reduce_put c n (at s locals) vs [] (item Loop o a is locals x)
reduce_item c n s (Frame f saved) o a is locals vs x = reduce_put c n (at s saved) vs [] (item (Frame f saved) o a is locals x)

pub reduce_around : (c : Contract) (n : ℕ) (s : State) (es : List Open) (below locals : List Value) (x : Seq) →
    reduce c n (at s (outermost es locals)) [] (around es below locals x) ≡ lift s es below locals (reduce c (frames es n) (at s locals) [] x)
reduce_around c n s [] below locals x = refl
reduce_around c n s (e ∷ es) below locals x =
    reduce_around c n s es (take (height es) below) (outer e.scope locals) (put (drop (height es) below) (item e.scope e.ordinal e.arity e.from locals x))
    ∙ ap (lift s es (take (height es) below) (outer e.scope locals)) (reduce_item c (frames es n) s e.scope e.ordinal e.arity e.from locals (drop (height es) below) x)

through_goes : (s : State) (k : Scope) (o a : ℕ) (is : List Item) (locals vs : List Value) (charge : ℕ) (s' : State) (x : Seq) →
    through s k o a is locals vs (Goes charge s' x) ≡ Goes charge (at s' (outer k s'.locals)) (put vs (item k o a is s'.locals x))
through_goes s Block o a is locals vs charge s' x = ap (Goes charge s') (values_onto vs [] _)
through_goes s Loop o a is locals vs charge s' x = ap (Goes charge s') (values_onto vs [] _)
through_goes s (Frame f saved) o a is locals vs charge s' x = ap (Goes charge (at s' saved)) (values_onto vs [] _)

pub lift_goes : (s : State) (es : List Open) (below locals : List Value) (charge : ℕ) (s' : State) (x : Seq) →
    lift s es below locals (Goes charge s' x) ≡ Goes charge (at s' (outermost es s'.locals)) (around es below s'.locals x)
lift_goes s [] below locals charge s' x = refl
lift_goes s (e ∷ es) below locals charge s' x =
    ap (lift s es (take (height es) below) (outer e.scope locals)) (through_goes s e.scope e.ordinal e.arity e.from locals (drop (height es) below) charge s' x)
    ∙ lift_goes s es (take (height es) below) (outer e.scope locals) charge (at s' (outer e.scope s'.locals)) (put (drop (height es) below) (item e.scope e.ordinal e.arity e.from s'.locals x))

through_stuck : (s : State) (k : Scope) (o a : ℕ) (is : List Item) (locals vs : List Value) → through s k o a is locals vs Stuck ≡ Stuck
through_stuck s Block o a is locals vs = refl
through_stuck s Loop o a is locals vs = refl
through_stuck s (Frame f saved) o a is locals vs = refl

pub lift_stuck : (s : State) (es : List Open) (below locals : List Value) → lift s es below locals Stuck ≡ Stuck
lift_stuck s [] below locals = refl
lift_stuck s (e ∷ es) below locals =
    ap (lift s es (take (height es) below) (outer e.scope locals)) (through_stuck s e.scope e.ordinal e.arity e.from locals (drop (height es) below))
    ∙ lift_stuck s es (take (height es) below) (outer e.scope locals)

through_traps : (s : State) (k : Scope) (o a : ℕ) (is : List Item) (locals vs : List Value) (charge : ℕ) (t : TrapCode) → through s k o a is locals vs (Traps charge t) ≡ Traps charge t
through_traps s Block o a is locals vs charge t = refl
through_traps s Loop o a is locals vs charge t = refl
through_traps s (Frame f saved) o a is locals vs charge t = refl

pub lift_traps : (s : State) (es : List Open) (below locals : List Value) (charge : ℕ) (t : TrapCode) → lift s es below locals (Traps charge t) ≡ Traps charge t
lift_traps s [] below locals charge t = refl
lift_traps s (e ∷ es) below locals charge t =
    ap (lift s es (take (height es) below) (outer e.scope locals)) (through_traps s e.scope e.ordinal e.arity e.from locals (drop (height es) below) charge t)
    ∙ lift_traps s es (take (height es) below) (outer e.scope locals) charge t

through_asks : (s : State) (k : Scope) (o a : ℕ) (is : List Item) (locals vs : List Value) (w : HostEffect) (go : Reply → Seq) → through s k o a is locals vs (Asks w go) ≡ Asks w (λ r. put vs (item k o a is locals (go r)))
through_asks s Block o a is locals vs w go = ap (Asks w) (fun_ext (λ r. values_onto vs [] (item Block o a is locals (go r))))
through_asks s Loop o a is locals vs w go = ap (Asks w) (fun_ext (λ r. values_onto vs [] (item Loop o a is locals (go r))))
through_asks s (Frame f saved) o a is locals vs w go = ap (Asks w) (fun_ext (λ r. values_onto vs [] (item (Frame f saved) o a is locals (go r))))

pub lift_asks : (s : State) (es : List Open) (below locals : List Value) (w : HostEffect) (go : Reply → Seq) → lift s es below locals (Asks w go) ≡ Asks w (λ r. around es below locals (go r))
lift_asks s [] below locals w go = refl
lift_asks s (e ∷ es) below locals w go =
    ap (lift s es (take (height es) below) (outer e.scope locals)) (through_asks s e.scope e.ordinal e.arity e.from locals (drop (height es) below) w go)
    ∙ lift_asks s es (take (height es) below) (outer e.scope locals) w (λ r. put (drop (height es) below) (item e.scope e.ordinal e.arity e.from locals (go r)))
