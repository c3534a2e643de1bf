-- What a copy of a machine keeps.
use Rattle.std.proofs.Common.{◌≡◌, ℕ, ℤ, ◌+◌, ◌≤◌, List, [], ◌∷◌, ◌++◌, length, map, take, slice_index_or, refl, sym, ap, ap₂, ◌∙◌, subst, arith, Option}
use Rattle.std.specs.Prelude.{◌<◌, reverse, Vec, vec_len, vec_capacity}
use Rattle.std.proofs.lemmas.List.{reverse-append, map-append, take_more}
use Rattle.wtypes.specs.declared.Value.{Value}
use Rattle.spec_ledger.specs.declared.TraceStep.{TraceStep}
use Rattle.spec_execution.specs.Configuration.{Contract, Seq}
use Rattle.spec_execution.specs.Reduction.{Ask, Asks, most_pages}
use Rattle.spec_execution.specs.Run.{next}
use Rattle.spec_execution.specs.Levels as spec
use Rattle.interp_state.specs.declared.callee.Callee.{Callee}
use Rattle.interp_state.specs.Callee.{contract_of, base_of}
use Rattle.interp_state.specs.Views.{view}
use Rattle.interp_state.specs.Waiting.{tail_of, Waits}
use Rattle.interp_state.specs.CopyLaws.{same_view, same_counted, same_tail, same_waits, same_place}
use Rattle.laws_reduction.specs.Meaning.{View, height, calling, invoking, state, IsOrdered}
use Rattle.laws_reduction.specs.Tails.{with_tail}
use Rattle.interp.specs.declared.turns.Status.{Status}
use Rattle.interp.specs.declared.turns.Status.TheVariants as status
use Rattle.interp.specs.declared.run.Level.{Level}
use Rattle.interp.specs.Machine.{HasRoom}
use Rattle.interp.specs.Run.{args_of, view_of, level_of, levels_of, told_on, IsAround, AreAround, IsCopyOf, AreCopiesOf}

map-reverse : {X Y : Type 0} (f : X → Y) (xs : List X) → map f (reverse xs) ≡ reverse (map f xs)
map-reverse f [] = refl
map-reverse f (x ∷ xs) = ap (map f) (reverse-append (x ∷ []) xs) ∙ map-append f (reverse xs) (x ∷ []) ∙ ap (λ ys. ys ++ f x ∷ []) (map-reverse f xs) ∙ sym (reverse-append (f x ∷ []) (map f xs))

-- room for one more and the open marks is room at each status
pub room_for : {A : Type 0} (x : Status) (depth : ℕ) (v : Vec TraceStep A) → vec_len v + depth < vec_capacity v → HasRoom x depth v
room_for status.Running depth v h = omega (arith, h)
room_for (status.Fallen t) depth v h = omega (arith, h)
room_for (status.Asking op) depth v h = h
room_for status.Closing depth v h = omega (arith, h)
room_for (status.Ended o) depth v h = omega (arith, h)
room_for status.NoMemory depth v h = tt

pub room_kept : {A : Type 0} (x : Status) (depth : ℕ) (v : Vec TraceStep A) → x ≡ status.Running → HasRoom x depth v → HasRoom status.Running depth v
room_kept x depth v e h = subst (λ (y : Status). HasRoom y depth v) e h

module _ {A : Type 0} (l c : Level A) (k : IsCopyOf l c) where
  pub view_same : view_of c ≡ view_of l
  view_same = ap (λ (x : Callee A). view (base_of x) c.parts) k.lent ∙ same_view l.parts c.parts k.parts (base_of l.lent)

  tail_same : (args : List Value) → tail_of (args_of args c.argument) c.waiting ≡ tail_of (args_of args l.argument) l.waiting
  tail_same args = ap (λ (a : Option ℤ). tail_of (args_of args a) c.waiting) k.argument ∙ same_tail (args_of args l.argument) l.waiting c.waiting k.waiting

  pub level_same : (args : List Value) → level_of args c ≡ level_of args l
  level_same args =
      ap (λ (x : Contract). record { contract = x; config = with_tail (tail_of (args_of args c.argument) c.waiting) (calling (view_of c) c.asked); answer = c.answer }) (ap contract_of k.lent)
      ∙ ap₂ (λ (q : Seq) (v : View). record { contract = contract_of l.lent; config = with_tail q (calling v c.asked); answer = c.answer }) (tail_same args) view_same
      ∙ ap₂ (λ (f : ℕ) (a : ℤ). record { contract = contract_of l.lent; config = with_tail (tail_of (args_of args l.argument) l.waiting) (calling (view_of l) f); answer = a }) k.asked k.answer

  pub around_same : (args : List Value) → IsAround args l → IsAround args c
  around_same args h = record {
    ordered = subst IsOrdered (sym view_same) h.ordered;
    room = subst (λ (v : View). height v.entries + 3 ≤ length v.stack) (sym view_same) h.room;
    number = h.number;
    export = h.export;
    value = h.value;
    asks = subst (λ (x : Callee A). next (contract_of x) (state (view_of c)) (invoking (view_of c) c.asked) ≡ Asks (Ask h.number h.export h.value) (told_on (view_of c))) (sym k.lent)
        (subst (λ (v : View). next (contract_of l.lent) (state v) (invoking v c.asked) ≡ Asks (Ask h.number h.export h.value) (told_on v)) (sym view_same)
        (subst (λ (f : ℕ). next (contract_of l.lent) (state (view_of l)) (invoking (view_of l) f) ≡ Asks (Ask h.number h.export h.value) (told_on (view_of l))) (sym k.asked) h.asks));
    counted = same_counted l.parts c.parts k.parts h.counted;
    suits = ap (λ m. m.max) k.parts.instance.memory ∙ h.suits ∙ ap (λ (x : Callee A). most_pages (contract_of x).version (contract_of x).deployed.tree.memories) (sym k.lent);
    waits = subst (λ (x : Callee A). Waits (contract_of x) (args_of args c.argument) c.waiting) (sym k.lent)
        (subst (λ (a : Option ℤ). Waits (contract_of l.lent) (args_of args a) c.waiting) (sym k.argument) (same_waits (contract_of l.lent) (args_of args l.argument) l.waiting c.waiting k.waiting h.waits));
    place = same_place l.waiting c.waiting k.waiting h.place;
  }

all_same : {A : Type 0} (args : List Value) (ls copies : List (Level A)) → AreCopiesOf ls copies → map (level_of args) copies ≡ map (level_of args) ls
all_same args [] [] h = refl
all_same args (l ∷ ls) (c ∷ copies) h = ap₂ (λ (x : spec.Level) (xs : List spec.Level). x ∷ xs) (level_same l c h.0 args) (all_same args ls copies h.1)
all_same args [] (c ∷ copies) h = absurd h
all_same args (l ∷ ls) [] h = absurd h

pub levels_same : {A : Type 0} (args : List Value) (ls copies : List (Level A)) → AreCopiesOf ls copies → levels_of args copies ≡ levels_of args ls
levels_same args ls copies h = map-reverse (level_of args) copies ∙ ap reverse (all_same args ls copies h) ∙ sym (map-reverse (level_of args) ls)

pub all_around : {A : Type 0} (args : List Value) (ls copies : List (Level A)) → AreCopiesOf ls copies → AreAround args ls → AreAround args copies
all_around args [] [] h a = tt
all_around args (l ∷ ls) (c ∷ copies) h a = (around_same l c h.0 args a.0, all_around args ls copies h.1 a.1)
all_around args [] (c ∷ copies) h a = absurd h
all_around args (l ∷ ls) [] h a = absurd h

pub as_long : {A : Type 0} (ls copies : List (Level A)) → AreCopiesOf ls copies → length copies ≡ length ls
as_long [] [] h = refl
as_long (l ∷ ls) (c ∷ copies) h = let same = as_long ls copies h.1 in omega (arith, same)
as_long [] (c ∷ copies) h = absurd h
as_long (l ∷ ls) [] h = absurd h

pub copies_push : {A : Type 0} (ls copies : List (Level A)) (l c : Level A) → AreCopiesOf ls copies → IsCopyOf l c → AreCopiesOf (ls ++ l ∷ []) (copies ++ c ∷ [])
copies_push [] [] l c h k = (k, tt)
copies_push (x ∷ ls) (y ∷ copies) l c h k = (h.0, copies_push ls copies l c h.1 k)
copies_push [] (y ∷ copies) l c h k = absurd h
copies_push (x ∷ ls) [] l c h k = absurd h

-- one more is copied
pub copied_more : {A : Type 0} (ls copies new : List (Level A)) (l c : Level A) (i : ℕ) → i < length ls → new ≡ copies ++ c ∷ [] → l ≡ slice_index_or ls i l → IsCopyOf l c → AreCopiesOf (take i ls) copies → AreCopiesOf (take (i + 1) ls) new
copied_more ls copies new l c i lt more is copy before =
    subst (AreCopiesOf (take (i + 1) ls)) (sym more)
    (subst (λ (xs : List (Level _)). AreCopiesOf xs (copies ++ c ∷ [])) (sym (take_more ls i l lt)) (copies_push (take i ls) copies (slice_index_or ls i l) c before (subst (λ (x : Level _). IsCopyOf x c) is copy)))
