-- The groups of an order, one position more.
use Rattle.std.proofs.Common.{◌≡◌, ℕ, ◌+◌, ◌<◌, ◌≤◌, true, false, cond, Option, Some, None, List, [], ◌∷◌, ◌++◌, ◌^◌, length, map, take, drop, get_or, refl, sym, ◌∙◌, ap, subst, arith}
use Rattle.std.specs.List.{cons_option, AllByRecursion}
use Rattle.std.proofs.lemmas.List.{take_more, drop_more, drop_at, length-map, length-append, length_push}
use Rattle.std.proofs.lemmas.List.Elements.{filter_map-append}
use Rattle.std.specs.FinMap.{get, find, entries, entries_sorted, get-entries, empty}
use Rattle.spec_ledger.specs.declared.Lock.{Lock}
use Rattle.spec_ledger.specs.declared.Mode.{Mode}
use Rattle.spec_ledger.specs.Cells.{lock_cmp}
use Rattle.spec_ledger.specs.Modes.{Modes, goes_with}
use Rattle.spec_ledger.specs.Order.{holders, groups_after, groups_before_last}
use Rattle.lock_profile.specs.Turns.{profile_at}
use Rattle.lock_profile.specs.declared.Group.{Group}
use Rattle.lock_profile.specs.Groups.{held_at, last_group, group_of, turn_next, written, GroupsOf, turns_from, all_held, with_turns}
use Rattle.lock_profile.proofs.Groups.{map_found, call_turns, with_call}

pub last_group-push : (g : Option Group) (ms : List Mode) (m : Mode) → last_group g (ms ++ m ∷ []) ≡ group_of (last_group g ms) (Some m)
last_group-push g [] m = refl
last_group-push g (x ∷ ms) m = last_group-push (group_of g (Some x)) ms m

append_nothing : {X : Type 0} (xs : List X) → xs ++ [] ≡ xs
append_nothing [] = refl
append_nothing (x ∷ xs) = ap (λ ys. x ∷ ys) (append_nothing xs)

-- each lock's last group in an order
abbrev pub groups_in : List Modes → Lock → Option Group
groups_in touched q = last_group None (holders (held_at q) touched)

groups_push : (touched : List Modes) (m : Modes) (q : Lock) → group_of (groups_in touched q) (get m q) ≡ groups_in (touched ++ m ∷ []) q
groups_push touched m q =
    elim (get m q) as (λ o. group_of (groups_in touched q) o ≡ last_group None (holders (held_at q) touched ++ cons_option o [])) [
      | None ↦ ap (last_group None) (sym (append_nothing (holders (held_at q) touched)))
      | Some v ↦ sym (last_group-push None (holders (held_at q) touched) v)
    ]
    ∙ sym (ap (last_group None) (filter_map-append (held_at q) touched (m ∷ [])))

pub groups_after_one : (touched : List Modes) (m : Modes) → (λ q. group_of (groups_in touched q) (find lock_cmp q (entries m))) ≡ groups_in (touched ++ m ∷ [])
groups_after_one touched m = λ i q. (ap (group_of (groups_in touched q)) (sym (get-entries m q)) ∙ groups_push touched m q) i

pub groups_step : (touched : List Modes) (i : ℕ) (d : Modes) (q : Lock) → i < length touched
    → group_of (last_group None (holders (held_at q) (take i touched))) (get (get_or touched i d) q) ≡ last_group None (holders (held_at q) (take (i + 1) touched))
groups_step touched i d q below = groups_push (take i touched) (get_or touched i d) q ∙ ap (λ ms. groups_in ms q) (sym (take_more touched i d below))

-- the turn of a last group
unfoldable pub turn_value : Option Group → ℕ
turn_value None = 0
turn_value (Some g) = g.turn

pub turn_from : (g : Group) (ms : List Mode) → turn_value (last_group (Some g) ms) ≡ g.turn + groups_after g.mode ms
unfolding turn_value
turn_from g [] = omega arith
turn_from g (m ∷ ms) =
    turn_from (record { mode = m; turn = turn_next (Some g) m }) ms
    ∙ elim (goes_with g.mode m) as (λ b. cond b g.turn (g.turn + 1) + groups_after m ms ≡ g.turn + (cond b 0 1 + groups_after m ms)) [ true ↦ omega arith | false ↦ omega arith ]

pub turn_is : (ms : List Mode) → turn_value (last_group None ms) ≡ groups_before_last ms
unfolding turn_value
turn_is [] = refl
turn_is (m ∷ ms) = turn_from (record { mode = m; turn = 0 }) ms ∙ omega arith

pub next_is : (last : Option Group) (m : Mode) → turn_value (group_of last (Some m)) ≡ turn_next last m
unfolding turn_value
next_is last m = refl

-- what a position's entries are
pub written_is : (touched : List Modes) (i : ℕ) (groups : Lock → Option Group) → i < length touched → GroupsOf (take i touched) groups
    → written groups (get_or touched i empty) ≡ profile_at touched i
written_is touched i groups below of =
    map_found _ _ (entries (get_or touched i empty)) (entries_sorted (get_or touched i empty)) (λ q m is.
    let there : get (get_or touched i empty) q ≡ Some m = get-entries (get_or touched i empty) q ∙ is in
    ap (λ t. record { lock = q; mode = m; turn = t })
    (ap (λ g. turn_next g m) (of q) ∙ sym (next_is (last_group None (holders (held_at q) (take i touched))) m)
    ∙ ap (λ o. turn_value (group_of (last_group None (holders (held_at q) (take i touched))) o)) (sym there)
    ∙ ap turn_value (groups_step touched i empty q below)
    ∙ turn_is (holders (held_at q) (take (i + 1) touched))))

after-le-length : (m : Mode) (ms : List Mode) → groups_after m ms ≤ length ms
after-le-length m [] = omega arith
after-le-length m (x ∷ ms) =
    let rest : groups_after x ms ≤ length ms = after-le-length x ms in
    elim (goes_with m x) as (λ b. cond b 0 1 + groups_after x ms ≤ length (x ∷ ms)) [ true ↦ omega (arith, rest) | false ↦ omega (arith, rest) ]

before_last-le-length : (ms : List Mode) → groups_before_last ms ≤ length ms
before_last-le-length [] = omega arith
before_last-le-length (m ∷ ms) = let rest : groups_after m ms ≤ length ms = after-le-length m ms in omega (arith, rest)

cons-le : {X : Type 0} (o : Option X) (xs : List X) (n : ℕ) → length xs ≤ n → length (cons_option o xs) ≤ n + 1
cons-le None xs n h = omega (arith, h)
cons-le (Some x) xs n h = omega (arith, h)

holders-le : (q : Lock) (touched : List Modes) → length (holders (held_at q) touched) ≤ length touched
holders-le q [] = omega arith
holders-le q (m ∷ ms) = let h : length (cons_option (get m q) (holders (held_at q) ms)) ≤ length ms + 1 = cons-le (get m q) (holders (held_at q) ms) (length ms) (holders-le q ms) in omega (arith, h)

next-le : (last : Option Group) (m : Mode) → turn_next last m ≤ turn_value last + 1
unfolding turn_value
next-le None m = omega arith
next-le (Some g) m = elim (goes_with g.mode m) as (λ b. cond b g.turn (g.turn + 1) ≤ g.turn + 1) [ true ↦ omega arith | false ↦ omega arith ]

-- no turn is above the number of positions
pub turn-le : (touched : List Modes) (groups : Lock → Option Group) → GroupsOf touched groups → (q : Lock) (m : Mode) → turn_next (groups q) m ≤ length touched + 1
turn-le touched groups of q m =
    let a : turn_next (groups q) m ≤ turn_value (groups q) + 1 = next-le (groups q) m in
    let b : turn_value (groups q) ≡ groups_before_last (holders (held_at q) touched) = ap turn_value (of q) ∙ turn_is (holders (held_at q) touched) in
    let c : groups_before_last (holders (held_at q) touched) ≤ length (holders (held_at q) touched) = before_last-le-length (holders (held_at q) touched) in
    let d : length (holders (held_at q) touched) ≤ length touched = holders-le q touched in
    omega (arith, a, b, c, d)

all_append : (P : ℕ → Type 0) (xs ys : List ℕ) → AllByRecursion P xs → AllByRecursion P ys → AllByRecursion P (xs ++ ys)
all_append P [] ys a b = b
all_append P (x ∷ xs) ys a b = (a.0, all_append P xs ys a.1 b)

small_now : (touched : List Modes) (es : List (Lock × Mode)) → length touched < 2 ^ 16 → AllByRecursion (λ t. t < 2 ^ 32) (map (λ e. turn_next (groups_in touched e.0) e.1) es)
small_now touched [] few = tt
small_now touched (e ∷ es) few = (let a = turn-le touched (groups_in touched) (λ q. refl) e.0 e.1 in omega (arith, a, few), small_now touched es few)

pub turns_small : (touched rest : List Modes) → length touched + length rest < 2 ^ 16 → AllByRecursion (λ t. t < 2 ^ 32) (turns_from (groups_in touched) (all_held rest))
turns_small touched [] few = tt
turns_small touched (m ∷ ms) few =
    subst (AllByRecursion (λ t. t < 2 ^ 32)) (sym (call_turns (entries m) (all_held ms) (groups_in touched) (entries_sorted m)))
    (all_append (λ t. t < 2 ^ 32) (map (λ e. turn_next (groups_in touched e.0) e.1) (entries m)) _ (small_now touched (entries m) (omega (arith, few)))
    (subst (λ g. AllByRecursion (λ t. t < 2 ^ 32) (turns_from g (all_held ms))) (sym (groups_after_one touched m))
    (turns_small (touched ++ m ∷ []) ms (let l = length_push touched m in omega (arith, few, l)))))

-- what a position's entries are, and what is left after it
module _ (touched : List Modes) (i : ℕ) (below : i < length touched) (turns : List ℕ) (is : turns ≡ turns_from (groups_in (take i touched)) (all_held (drop i touched))) where
  cut : turns ≡ map (λ e. turn_next (groups_in (take i touched) e.0) e.1) (entries (get_or touched i empty)) ++ turns_from (groups_in (take (i + 1) touched)) (all_held (drop (i + 1) touched))
  cut =
      is ∙ ap (λ ms. turns_from (groups_in (take i touched)) (all_held ms)) (drop_more touched i empty below)
      ∙ call_turns (entries (get_or touched i empty)) (all_held (drop (i + 1) touched)) (groups_in (take i touched)) (entries_sorted (get_or touched i empty))
      ∙ ap (λ g. map (λ (e : Lock × Mode). turn_next (groups_in (take i touched) e.0) e.1) (entries (get_or touched i empty)) ++ turns_from g (all_held (drop (i + 1) touched)))
      (groups_after_one (take i touched) (get_or touched i empty) ∙ ap groups_in (sym (take_more touched i empty below)))

  pub profile_written : with_turns (entries (get_or touched i empty)) turns ≡ profile_at touched i
  profile_written =
      ap (with_turns (entries (get_or touched i empty))) cut
      ∙ with_call (λ e. turn_next (groups_in (take i touched) e.0) e.1) (entries (get_or touched i empty)) _
      ∙ written_is touched i (groups_in (take i touched)) below (λ q. refl)

  pub rest_left : drop (length (entries (get_or touched i empty))) turns ≡ turns_from (groups_in (take (i + 1) touched)) (all_held (drop (i + 1) touched))
  rest_left =
      ap (drop (length (entries (get_or touched i empty)))) cut
      ∙ drop_at (map (λ e. turn_next (groups_in (take i touched) e.0) e.1) (entries (get_or touched i empty))) _ _ (length-map (entries (get_or touched i empty)) _)

  pub held_left : length (all_held (drop i touched)) ≡ length (entries (get_or touched i empty)) + length (all_held (drop (i + 1) touched))
  held_left = ap (λ ms. length (all_held ms)) (drop_more touched i empty below) ∙ length-append (entries (get_or touched i empty)) (all_held (drop (i + 1) touched))
