-- Modules are read one after another.
use Rattle.std.proofs.Common.{◌≡◌, ℕ, ◌+◌, ◌<◌, List, [], ◌∷◌, ◌++◌, map, take, length, slice_index_or, Some, option_map, Bor, sym, ap, subst, ◌∙◌}
use Rattle.std.proofs.lemmas.List.{map-append, take_more, length-map, get_or-map}
use Rattle.std.proofs.lemmas.Option.{slice_get-map, slice_get-get_or}
use Rattle.std.specs.Global.{Global}
use Rattle.link.specs.declared.deployed.Deployed.{Deployed}
use Rattle.spec_block.specs.Worlds.{Contract}
use Rattle.wblock_io.specs.Holding.{Holding}
use Rattle.world.specs.Views.{contract_view}
use Rattle.wblock_modules.specs.Deploys.{Holds, AreHeld, IsNextModule}

-- one more file holds one more contract
pub held_push : (holds : Holding) (names : List (List ℕ)) (cs : List Contract) (name : List ℕ) (c : Contract) → AreHeld holds names cs → Holds holds name c → AreHeld holds (names ++ name ∷ []) (cs ++ c ∷ [])
held_push holds [] [] name c are is = (is, tt)
held_push holds [] (d ∷ cs) name c are is = absurd are
held_push holds (n ∷ names) [] name c are is = absurd are
held_push holds (n ∷ names) (d ∷ cs) name c are is = (are.0, held_push holds names cs name c are.1 is)

abbrev pub none : Bor (List ℕ)
none = record { ref_ptr = (0, 0); now = [] }

abbrev texts : List (Bor (List ℕ)) → List (List ℕ)
texts ws = map (λ w. w.now) ws

pub held_next : (holds : Holding) (names : List (Bor (List ℕ))) (i : ℕ) (contracts new : List (Deployed Global)) (d : Deployed Global) → i < length names → AreHeld holds (take i (texts names)) (map contract_view contracts)
    → Holds holds (slice_index_or names i none).now (contract_view d) → new ≡ contracts ++ d ∷ [] → AreHeld holds (take (i + 1) (texts names)) (map contract_view new)
held_next holds names i contracts new d lt are is push =
    let more : take (i + 1) (texts names) ≡ take i (texts names) ++ (slice_index_or names i none).now ∷ [] =
    take_more (texts names) i [] (rw length-map lt) ∙ ap (λ (w : List ℕ). take i (texts names) ++ w ∷ []) (get_or-map (λ w. w.now) names i none [] lt) in
    let mapped : map contract_view new ≡ map contract_view contracts ++ contract_view d ∷ [] = ap (map contract_view) push ∙ map-append contract_view contracts (d ∷ []) in
    subst (λ (ns : List (List ℕ)). AreHeld holds ns (map contract_view new)) (sym more)
    (subst (λ (cs : List Contract). AreHeld holds (take i (texts names) ++ (slice_index_or names i none).now ∷ []) cs) (sym mapped) (held_push holds (take i (texts names)) (map contract_view contracts) (slice_index_or names i none).now (contract_view d) are is))

-- the file that is read next
pub is_next : (holds : Holding) (names : List (Bor (List ℕ))) (i : ℕ) (contracts : List (Deployed Global)) (name : List ℕ) → i < length names → AreHeld holds (take i (texts names)) (map contract_view contracts)
    → name ≡ (slice_index_or names i none).now → IsNextModule holds (texts names) name
is_next holds names i contracts name lt are same = record {
  number = i;
  before = map contract_view contracts;
  held_before = are;
  there = slice_get-map (λ w. w.now) names i ∙ (ap (option_map (λ w. w.now)) (slice_get-get_or names i none lt) ∙ ap Some (sym same));
}
