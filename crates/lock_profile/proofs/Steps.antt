-- The loops over an order's holders, one step on and at their ends.
use Rattle.std.proofs.Common.{◌≡◌, ℕ, ◌+◌, ◌<◌, ◌≤◌, ◌^◌, Option, Some, List, [], ◌∷◌, ◌++◌, length, drop, set, get_or, sym, ◌∙◌, ap, subst}
use Rattle.std.proofs.lemmas.List.{drop_more, drop_all, length_push, length-append, append_assoc, append-nil}
use Rattle.std.specs.FinMap.{entries}
use Rattle.spec_ledger.specs.Modes.{Modes}
use Rattle.spec_ledger.specs.declared.Entry.{Entry}
use Rattle.lock_profile.specs.declared.Held.{Held}
use Rattle.lock_profile.specs.declared.Holder.{Holder}
use Rattle.lock_profile.specs.Groups.{pairs, turn_next, numbered, all_held, group_there, entry_next, turns_after, AllFit, with_turns}
use Rattle.lock_profile.proofs.Groups.{numbered-append}
use Rattle.lock_profile.proofs.Dealt.{length-numbered}

module _ (done new all : List Holder) where
  pub held_added : (hs : List Held) (i : ℕ) (d : Held) → i < length hs
      → new ≡ done ++ record { lock = (get_or hs i d).lock; mode = (get_or hs i d).mode; number = length done } ∷ []
      → done ++ numbered (length done) (pairs (drop i hs)) ≡ all → new ++ numbered (length new) (pairs (drop (i + 1) hs)) ≡ all
  held_added hs i d below e was =
      let h : Holder = record { lock = (get_or hs i d).lock; mode = (get_or hs i d).mode; number = length done } in
      let long : length new ≡ length done + 1 = ap length e ∙ length_push done h in
      (λ k. e k ++ numbered (long k) (pairs (drop (i + 1) hs)))
      ∙ append_assoc done (h ∷ []) (numbered (length done + 1) (pairs (drop (i + 1) hs)))
      ∙ sym (ap (λ xs. done ++ numbered (length done) (pairs xs)) (drop_more hs i d below)) ∙ was

  pub call_added : (touched : List Modes) (i : ℕ) (d : Modes) → i < length touched
      → new ≡ done ++ numbered (length done) (entries (get_or touched i d))
      → done ++ numbered (length done) (all_held (drop i touched)) ≡ all → new ++ numbered (length new) (all_held (drop (i + 1) touched)) ≡ all
  call_added touched i d below e was =
      let es = entries (get_or touched i d) in
      let rest = all_held (drop (i + 1) touched) in
      let long : length new ≡ length done + length es = ap length e ∙ length-append done (numbered (length done) es) ∙ ap (λ n. length done + n) (length-numbered (length done) es) in
      (λ k. e k ++ numbered (long k) rest)
      ∙ append_assoc done (numbered (length done) es) (numbered (length done + length es) rest)
      ∙ ap (λ hs. done ++ hs) (sym (numbered-append (length done) es rest))
      ∙ sym (ap (λ ms. done ++ numbered (length done) (all_held ms)) (drop_more touched i d below)) ∙ was

pub all_added : (done all : List Holder) (hs : List Held) (i : ℕ) → length hs ≤ i → done ++ numbered (length done) (pairs (drop i hs)) ≡ all → done ≡ all
all_added done all hs i past was = sym (append-nil done) ∙ sym (ap (λ xs. done ++ numbered (length done) (pairs xs)) (drop_all i hs past)) ∙ was

pub all_calls_added : (done all : List Holder) (touched : List Modes) (i : ℕ) → length touched ≤ i → done ++ numbered (length done) (all_held (drop i touched)) ≡ all → done ≡ all
all_calls_added done all touched i past was = sym (append-nil done) ∙ sym (ap (λ ms. done ++ numbered (length done) (all_held ms)) (drop_all i touched past)) ∙ was

module _ (before : Option Entry) (hs : List Holder) (i : ℕ) (d : Holder) (below : i < length hs) where
  pub fits_here : (n : ℕ) → AllFit before (drop i hs) n → ((get_or hs i d).number < n) × (turn_next (group_there before (get_or hs i d).lock) (get_or hs i d).mode < 2 ^ 32)
  fits_here n fit = let here = subst (λ xs. AllFit before xs n) (drop_more hs i d below) fit in (here.0, here.1.0)

  pub fit_next : (turns new : List ℕ) → length new ≡ length turns → AllFit before (drop i hs) (length turns) → AllFit (Some (entry_next before (get_or hs i d))) (drop (i + 1) hs) (length new)
  fit_next turns new long fit =
      let here = subst (λ xs. AllFit before xs (length turns)) (drop_more hs i d below) fit in
      subst (λ n. AllFit (Some (entry_next before (get_or hs i d))) (drop (i + 1) hs) n) (sym long) here.1.1

  pub written_next : (turns new all : List ℕ) → new ≡ set turns (get_or hs i d).number (turn_next (group_there before (get_or hs i d).lock) (get_or hs i d).mode)
      → turns_after before (drop i hs) turns ≡ all → turns_after (Some (entry_next before (get_or hs i d))) (drop (i + 1) hs) new ≡ all
  written_next turns new all e was =
      ap (turns_after (Some (entry_next before (get_or hs i d))) (drop (i + 1) hs)) e
      ∙ sym (ap (λ xs. turns_after before xs turns) (drop_more hs i d below)) ∙ was

pub all_written : (before : Option Entry) (hs : List Holder) (i : ℕ) (turns all : List ℕ) → length hs ≤ i → turns_after before (drop i hs) turns ≡ all → turns ≡ all
all_written before hs i turns all past was = sym (ap (λ xs. turns_after before xs turns) (drop_all i hs past)) ∙ was

pub entry_added : (done new all : List Entry) (hs : List Held) (i : ℕ) (d : Held) (turns : List ℕ) (place z : ℕ) → i < length hs → place < length turns
    → new ≡ done ++ record { lock = (get_or hs i d).lock; mode = (get_or hs i d).mode; turn = get_or turns place z } ∷ []
    → done ++ with_turns (pairs (drop i hs)) (drop place turns) ≡ all → new ++ with_turns (pairs (drop (i + 1) hs)) (drop (place + 1) turns) ≡ all
entry_added done new all hs i d turns place z below there e was =
    let entry : Entry = record { lock = (get_or hs i d).lock; mode = (get_or hs i d).mode; turn = get_or turns place z } in
    ap (λ es. es ++ with_turns (pairs (drop (i + 1) hs)) (drop (place + 1) turns)) e
    ∙ append_assoc done (entry ∷ []) (with_turns (pairs (drop (i + 1) hs)) (drop (place + 1) turns))
    ∙ sym (λ k. done ++ with_turns (pairs (drop_more hs i d below k)) (drop_more turns place z there k)) ∙ was

pub all_entries_added : (done all : List Entry) (hs : List Held) (i : ℕ) (turns : List ℕ) → length hs ≤ i → done ++ with_turns (pairs (drop i hs)) turns ≡ all → done ≡ all
all_entries_added done all hs i turns past was = sym (append-nil done) ∙ sym (ap (λ xs. done ++ with_turns (pairs xs) turns) (drop_all i hs past)) ∙ was
