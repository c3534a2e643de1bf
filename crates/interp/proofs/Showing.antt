-- What is read off the parts of a machine is what the configuration shows.
use Rattle.std.proofs.Common.{◌≡◌, ℕ, zero, suc, ◌≤◌, List, [], ◌∷◌, ◌++◌, length, take, drop, refl, sym, ap, ◌∙◌, subst, arith, Option, None, append_assoc}
use Rattle.std.proofs.lemmas.List.{take-append-drop, drop-append-le, length-take}
use Rattle.wtypes.specs.declared.Value.{Value}
use Rattle.spec_execution.specs.Configuration as c
use Rattle.spec_execution.specs.Configuration.{Seq, End, Val, Code}
use Rattle.spec_execution.specs.Turns.{place_in, stack_in, locals_in}
use Rattle.laws_reduction.specs.Meaning.{Item, Scope, Block, Loop, Frame, Open, put, outer, item, height, around, whole, Stands, outermost}
use Rattle.laws_reduction.specs.Branches.{in_call, from_call}
use Rattle.interp_state.specs.Innermost.{function_of, function_in}
use Rattle.laws_reduction.specs.Tails.{joined}
use Rattle.laws_reduction.specs.Charging.{height-le}
use Rattle.laws_reduction.specs.Joining.{joined_end}

-- ---- values before a sequence

stack_in_put : (vs ws : List Value) (x : Seq) → stack_in vs (put ws x) ≡ stack_in (vs ++ ws) x
stack_in_put vs [] x = ap (λ us. stack_in us x) (sym (append-none vs))
  where
    append-none : (us : List Value) → us ++ [] ≡ us
    append-none [] = refl
    append-none (u ∷ us) = ap (λ ts. u ∷ ts) (append-none us)
stack_in_put vs (w ∷ ws) x = stack_in_put (vs ++ w ∷ []) ws x ∙ ap (λ us. stack_in us x) (append_assoc vs (w ∷ []) ws)

locals_in_put : (ls ws : List Value) (x : Seq) → locals_in ls (put ws x) ≡ locals_in ls x
locals_in_put ls [] x = refl
locals_in_put ls (w ∷ ws) x = locals_in_put ls ws x

place_in_put : (f : Option ℕ) (ws : List Value) (x : Seq) → place_in f (put ws x) ≡ place_in f x
place_in_put f [] x = refl
place_in_put f (w ∷ ws) x = place_in_put f ws x

-- ---- what is open round a sequence

locals_around : (es : List Open) (below locals : List Value) (x : Seq) → locals_in (outermost es locals) (around es below locals x) ≡ locals_in locals x
locals_around [] below locals x = refl
locals_around (e ∷ es) below locals x =
    locals_around es (take (height es) below) (outer e.scope locals) (put (drop (height es) below) (item e.scope e.ordinal e.arity e.from locals x))
    ∙ locals_in_put (outer e.scope locals) (drop (height es) below) (item e.scope e.ordinal e.arity e.from locals x)
    ∙ inside e.scope e.ordinal e.arity e.from
  where
    inside : (k : Scope) (o n : ℕ) (is : List Item) → locals_in (outer k locals) (item k o n is locals x) ≡ locals_in locals x
    inside Block o n is = refl
    inside Loop o n is = refl
    inside (Frame f saved) o n is = refl

pub locals_whole : (es : List Open) (stack locals : List Value) (x : Seq) → locals_in (outermost es locals) (whole es stack locals x) ≡ locals_in locals x
locals_whole es stack locals x = locals_around es (take (height es) stack) locals (put (drop (height es) stack) x) ∙ locals_in_put locals (drop (height es) stack) x

place_around : (es : List Open) (below locals : List Value) (x : Seq) → place_in None (around es below locals x) ≡ place_in (function_in (in_call es)) x
place_around [] below locals x = refl
place_around (e ∷ es) below locals x =
    place_around es (take (height es) below) (outer e.scope locals) (put (drop (height es) below) (item e.scope e.ordinal e.arity e.from locals x))
    ∙ place_in_put (function_in (in_call es)) (drop (height es) below) (item e.scope e.ordinal e.arity e.from locals x)
    ∙ inside e.scope refl
  where
    inside : (k : Scope) → e.scope ≡ k → place_in (function_in (in_call es)) (item k e.ordinal e.arity e.from locals x) ≡ place_in (function_in (from_call k e es (in_call es))) x
    inside Block q = refl
    inside Loop q = refl
    inside (Frame f saved) q = ap (λ k. place_in (function_of k) x) (sym q)

pub place_whole : (es : List Open) (stack locals : List Value) (x : Seq) → place_in None (whole es stack locals x) ≡ place_in (function_in (in_call es)) x
place_whole es stack locals x = place_around es (take (height es) stack) locals (put (drop (height es) stack) x) ∙ place_in_put (function_in (in_call es)) (drop (height es) stack) x

-- the innermost call begins below
pub call-le : (es : List Open) (n : ℕ) → Stands es n → height (in_call es) ≤ height es
call-le [] n h = omega arith
call-le (e ∷ es) n h = by_scope e.scope (omega (arith, call-le es e.height h.1, height-le es e.height h.1))
  where
    by_scope : (k : Scope) → height (in_call es) ≤ e.height → height (from_call k e es (in_call es)) ≤ e.height
    by_scope Block le = le
    by_scope Loop le = le
    by_scope (Frame f saved) le = omega arith

-- what stands above the innermost call, in two parts
above_call : (es : List Open) (stack : List Value) → Stands es (length stack) → drop (height (in_call es)) (take (height es) stack) ++ drop (height es) stack ≡ drop (height (in_call es)) stack
above_call es stack h =
    sym (drop-append-le (height (in_call es)) (take (height es) stack) (drop (height es) stack) (omega (arith, call-le es (length stack) h, height-le es (length stack) h, length-take (height es) stack)))
    ∙ ap (drop (height (in_call es))) (take-append-drop (height es) stack)

stack_around : (es : List Open) (stack locals : List Value) (x : Seq) → Stands es (length stack) → stack_in [] (around es (take (height es) stack) locals x) ≡ stack_in (drop (height (in_call es)) (take (height es) stack)) x
stack_around [] stack locals x h = refl
stack_around (e ∷ es) stack locals x h =
    let below : List Value = take e.height stack in
    let count : length below ≡ e.height = omega (arith, h.0, length-take e.height stack) in
    let stands : Stands es (length below) = subst (Stands es) (sym count) h.1 in
    stack_around es below (outer e.scope locals) (put (drop (height es) below) (item e.scope e.ordinal e.arity e.from locals x)) stands
    ∙ stack_in_put (drop (height (in_call es)) (take (height es) below)) (drop (height es) below) (item e.scope e.ordinal e.arity e.from locals x)
    ∙ ap (λ vs. stack_in vs (item e.scope e.ordinal e.arity e.from locals x)) (above_call es below stands)
    ∙ inside e.scope below count
  where
    none_left : (vs : List Value) (n : ℕ) → length vs ≡ n → drop n vs ≡ []
    none_left [] zero q = refl
    none_left [] (suc n) q = refl
    none_left (v ∷ vs) zero q = absurd (omega (arith, q))
    none_left (v ∷ vs) (suc n) q = none_left vs n (omega (arith, q))

    inside : (k : Scope) (below : List Value) → length below ≡ e.height → stack_in (drop (height (in_call es)) below) (item k e.ordinal e.arity e.from locals x) ≡ stack_in (drop (height (from_call k e es (in_call es))) below) x
    inside Block below n = refl
    inside Loop below n = refl
    inside (Frame f saved) below n = ap (λ vs. stack_in vs x) (sym (none_left below e.height n))

pub stack_whole : (es : List Open) (stack locals : List Value) (x : Seq) → Stands es (length stack) → stack_in [] (whole es stack locals x) ≡ stack_in (drop (height (in_call es)) stack) x
stack_whole es stack locals x h =
    stack_around es stack locals (put (drop (height es) stack) x) h
    ∙ stack_in_put (drop (height (in_call es)) (take (height es) stack)) (drop (height es) stack) x
    ∙ ap (λ vs. stack_in vs x) (above_call es stack h)

-- ---- what waits behind the sequence shows nothing

-- it is more than values
abbrev pub Stops : Seq → Type 0
Stops End = ⊥
Stops (Val v rest) = Stops rest
Stops _ = Unit {0}

pub record IsHidden (tail q : Seq) : Type 0 where
  pub stack : (vs : List Value) → stack_in vs (joined q tail) ≡ stack_in vs q
  pub locals : (ls : List Value) → locals_in ls (joined q tail) ≡ locals_in ls q
  pub place : (f : Option ℕ) → place_in f (joined q tail) ≡ place_in f q

pub hidden_end : (tail q : Seq) → tail ≡ End → IsHidden tail q
hidden_end tail q e =
    let same : joined q tail ≡ q = ap (joined q) e ∙ joined_end q in
    record { stack = λ vs. ap (stack_in vs) same; locals = λ ls. ap (locals_in ls) same; place = λ f. ap (place_in f) same }

pub hidden_stop : (tail q : Seq) → Stops q → IsHidden tail q
hidden_stop tail End h = absurd h
hidden_stop tail (Val v rest) h =
    let more : IsHidden tail rest = hidden_stop tail rest h in
    record { stack = λ vs. more.stack (vs ++ v ∷ []); locals = more.locals; place = more.place }
hidden_stop tail (Code n i rest) h = record { stack = λ vs. refl; locals = λ ls. refl; place = λ f. refl }
hidden_stop tail (c.Free i rest) h = record { stack = λ vs. refl; locals = λ ls. refl; place = λ f. refl }
hidden_stop tail (c.Label n at k inside rest) h = record { stack = λ vs. refl; locals = λ ls. refl; place = λ f. refl }
hidden_stop tail (c.Frame f n ls inside rest) h = record { stack = λ vs. refl; locals = λ ls. refl; place = λ g. refl }
hidden_stop tail (c.Invoke f rest) h = record { stack = λ vs. refl; locals = λ ls. refl; place = λ g. refl }

stops_put : (vs : List Value) (x : Seq) → Stops x → Stops (put vs x)
stops_put [] x h = h
stops_put (v ∷ vs) x h = stops_put vs x h

stops_item : (k : Scope) (o n : ℕ) (is : List Item) (locals : List Value) (x : Seq) → Stops (item k o n is locals x)
stops_item Block o n is locals x = tt
stops_item Loop o n is locals x = tt
stops_item (Frame f saved) o n is locals x = tt

stops_around : (es : List Open) (below locals : List Value) (x : Seq) → Stops x → Stops (around es below locals x)
stops_around [] below locals x h = h
stops_around (e ∷ es) below locals x h = stops_around es (take (height es) below) (outer e.scope locals) _ (stops_put (drop (height es) below) _ (stops_item e.scope e.ordinal e.arity e.from locals x))

pub stops_whole : (es : List Open) (stack locals : List Value) (x : Seq) → Stops x → Stops (whole es stack locals x)
stops_whole es stack locals x h = stops_around es (take (height es) stack) locals _ (stops_put (drop (height es) stack) x h)
