-- What ending a position does to a board.
use Rattle.std.proofs.Common.{◌≡◌, ◌==◌, ◌↔◌, ◌⊎◌, inl, inr, ℕ, ◌+◌, ◌<◌, ◌≤◌, Bool, true, false, List, [], length, get_or, set, replicate, sym, ◌∙◌, ap, subst, arith, eq-eqb}
use Rattle.std.specs.List.{Contains, filter}
use Rattle.std.specs.List.Sorted.{IsStrictlyIncreasing}
use Rattle.std.proofs.lemmas.Bool.{cases_eq, cases_lt}
use Rattle.std.proofs.lemmas.List.{get_or_read, length-set, get_or-set_other, get_or_past, get_or-replicate, length-replicate}
use Rattle.std.proofs.lemmas.Option.{slice_get_within}
use Rattle.spec_ledger.specs.declared.Entry.{Entry}
use Rattle.spec_block.specs.Schedule.{IsEdge}
use Rattle.schedule.specs.Graph.{gathered, list_at, AreGates}
use Rattle.schedule.specs.Board.{Progress, IsFree, IsWaiting, count_in, count_of, pending, zeros, IsBoard}
use Rattle.schedule.proofs.Lists.{kept_by, keeps, gathered_there, there_gathered, among_these, nothing}
use Rattle.schedule.proofs.Counts.{counted_once, pending_none, pending_ended, pending_opened, one_waits, none_waits, all_ended, is_zero, zero_is, zeros_length}

-- a position that has ended is one of the order
ended_is_within : (ended : List Bool) (i n : ℕ) → length ended ≡ n → get_or ended i false ≡ true → i < n
ended_is_within ended i n len done = by (cases_lt i n)
  where
    by : (i < n) ⊎ (n ≤ i) → i < n
    by (inl lt) = lt
    by (inr ge) = let none : get_or ended i false ≡ false = get_or_past ended i false (omega (arith, len, ge)) in absurd (let contrary : true ≡ false = sym done ∙ none in cc contrary)

module _ (profiles : List (List Entry)) (holds behind : List (List ℕ)) (gates : AreGates profiles holds behind) where
  pub edge_within : (i j : ℕ) → IsEdge profiles i j → j < length profiles
  edge_within i j e = slice_get_within profiles j e.holds_second.profile e.holds_second.there

  -- where all gates before a position are open, each predecessor has ended
  open_free : (left : List ℕ) (ended : List Bool) → length left ≡ length behind → length ended ≡ length profiles → ((g : ℕ) → g < length behind → get_or left g 0 ≡ pending holds ended g)
      → (j : ℕ) → pending behind (zeros left) j ≡ 0 → (i : ℕ) → IsEdge profiles i j → get_or ended i false ≡ true
  open_free left ended each ends counted j none i e =
      let t = (gates.edges i j).1 e in
      let within = gates.gates i t.0 t.1 in
      let opened_gate = none_waits behind (zeros left) t.0 j (zeros_length left ∙ each) none t.2 in
      let empty = zero_is left t.0 (omega (arith, within, each)) opened_gate in
      none_waits holds ended i t.0 (ends ∙ sym gates.each) (sym (counted t.0 within) ∙ empty) t.1

  -- and the other way round
  free_open : (left : List ℕ) (ended : List Bool) → length left ≡ length behind → ((g : ℕ) → g < length behind → get_or left g 0 ≡ pending holds ended g)
      → (j : ℕ) → ((i : ℕ) → IsEdge profiles i j → get_or ended i false ≡ true) → (g : ℕ) → Contains (list_at behind g) j → g < length behind → get_or left g 0 ≡ 0
  free_open left ended each counted j free g c within = counted g within ∙ all_ended holds ended g (λ i d. free i ((gates.edges i j).0 (g, d, c)))

  gate_within : (g j : ℕ) → Contains (list_at behind g) j → g < length behind
  gate_within g j c = elim (cases_lt g (length behind)) [
    | inl lt ↦ lt
    | inr ge ↦ absurd (let none = among_these (list_at behind g) [] j (get_or_past behind g [] ge) c in nothing j none)
  ]

  all_open : (left : List ℕ) (ended : List Bool) → length left ≡ length behind → ((g : ℕ) → g < length behind → get_or left g 0 ≡ pending holds ended g)
      → (j : ℕ) → ((i : ℕ) → IsEdge profiles i j → get_or ended i false ≡ true) → pending behind (zeros left) j ≡ 0
  all_open left ended each counted j free = all_ended behind (zeros left) j (λ g c.
      let within = gate_within g j c in
      is_zero left g (omega (arith, within, each)) (free_open left ended each counted j free g c within))

  -- a board on which no position has ended
  pub board_opened : (left shut : List ℕ) (ended : List Bool) (ready : List ℕ) → length left ≡ length behind → length shut ≡ length profiles → ended ≡ replicate (length profiles) false
      → ((g : ℕ) → g < length behind → get_or left g 0 ≡ count_in holds g) → ((j : ℕ) → j < length profiles → get_or shut j 0 ≡ pending behind (zeros left) j)
      → IsStrictlyIncreasing ready → ((j : ℕ) → Contains ready j ↔ ((j < length shut) × (get_or shut j 0 ≡ 0)))
      → IsBoard profiles holds behind left shut ended ready
  board_opened left shut ended ready each positions none counts closed rises exact =
      let size : length ended ≡ length profiles = ap length none ∙ length-replicate (length profiles) false in
      let new : (i : ℕ) → get_or ended i false ≡ true → ⊥ = λ i done. absurd (
      let lt = ended_is_within ended i (length profiles) size done in
      let none : get_or ended i false ≡ false = ap (λ es. get_or es i false) none ∙ get_or-replicate (length profiles) i false false lt in
      let contrary : true ≡ false = sym done ∙ none in cc contrary) in
      let counted : (g : ℕ) → g < length behind → get_or left g 0 ≡ pending holds ended g =
      λ g lt. counts g lt ∙ (sym (pending_none holds g) ∙ ap (λ es. pending holds es g) (ap (λ n. replicate n false) gates.each ∙ sym none)) in
      record {
        gates = gates;
        each_gate = each;
        each_position = positions;
        each_end = size;
        holders = counted;
        shut_gates = closed;
        in_order = λ j done. absurd (new j done);
        ready_rises = rises;
        ready_exact = λ j. (
          λ c.
              let r = (exact j).0 c in
              let lt : j < length profiles = (let k = r.0 in omega (arith, k, positions)) in
              (lt, λ i e. new i (open_free left ended each size counted j (sym (closed j lt) ∙ r.1) i e)),
          λ h. (exact j).1 ((let lt = h.0 in omega (arith, lt, positions)), closed j h.0 ∙ all_open left ended each counted j (λ i e. absurd (h.1 i e))),
        );
      }

module _ (profiles : List (List Entry)) (holds behind : List (List ℕ)) (left shut : List ℕ) (ended : List Bool) (ready : List ℕ) (board : IsBoard profiles holds behind left shut ended ready) where
  -- a position waits exactly where a gate before it is shut
  pub is_waiting : (p : ℕ) → p < length profiles → ¬ (get_or shut p 0 ≡ 0) → IsWaiting (record { profiles = profiles; ended = ended }) p
  is_waiting p lt some =
      let is = board.shut_gates p lt in
      let one = one_waits behind (zeros left) p (omega (arith, is, some)) in
      let within = gate_within profiles holds behind board.gates one.0 p one.1 in
      let its = board.holders one.0 within in
      let size = board.each_gate in
      let full : ¬ (get_or left one.0 0 ≡ 0) = λ none. (let opened_gate = is_zero left one.0 (omega (arith, within, size)) none in let no : true ≡ false = sym opened_gate ∙ one.2 in absurd (cc no)) in
      let two = one_waits holds ended one.0 (omega (arith, its, full)) in
      (two.0, (board.gates.edges two.0 p).0 (one.0, two.1, one.1), two.2)

  pub not_waiting : (p : ℕ) → get_or shut p 0 ≡ 0 → IsWaiting (record { profiles = profiles; ended = ended }) p → ⊥
  not_waiting p none w =
      let lt = edge_within profiles holds behind board.gates w.0 p w.1 in
      let done = open_free profiles holds behind board.gates left ended board.each_gate board.each_end board.holders p (sym (board.shut_gates p lt) ∙ none) w.0 w.1 in
      let contrary : true ≡ false = sym done ∙ w.2 in
      absurd (cc contrary)

  -- the same of the count that was read, and of what contracts see
  pub never_waits : (view : Progress) (p x : ℕ) → record { profiles = profiles; ended = ended } ≡ view → p < length profiles → x ≡ get_or shut p x → x ≡ 0 → IsWaiting view p → ⊥
  never_waits view p x same lt is none w =
      let size = board.each_position in
      let read : x ≡ get_or shut p 0 = get_or_read shut p x (omega (arith, lt, size)) is 0 in
      not_waiting p (sym read ∙ none) (subst (λ v. IsWaiting v p) (sym same) w)

  pub waiting_within : (p : ℕ) → IsWaiting (record { profiles = profiles; ended = ended }) p → p < length profiles
  waiting_within p w = edge_within profiles holds behind board.gates w.0 p w.1

  pub gates_within : (p g : ℕ) → Contains (list_at holds p) g → g < length left
  gates_within p g c = let lt = board.gates.gates p g c in let size = board.each_gate in omega (arith, lt, size)

  module _ (p : ℕ) (lt : p < length profiles) (new : get_or ended p false ≡ false) where
    its_end : (g : ℕ) → pending holds (set ended p true) g + count_of g (list_at holds p) ≡ pending holds ended g
    its_end g = pending_ended holds ended p g (let size = board.gates.each in omega (arith, lt, size)) (board.each_end ∙ sym board.gates.each) new

    pub enough_held : (g : ℕ) → g < length left → count_of g (list_at holds p) ≤ get_or left g 0
    enough_held g k =
        let size = board.each_gate in
        let is = board.holders g (omega (arith, k, size)) in
        let all = its_end g in
        omega (arith, is, all)

    module _ (opening : List ℕ) (opens : opening ≡ filter (λ g. get_or left g 0 == 1) (list_at holds p)) where
      pub opening_within : (g : ℕ) → Contains opening g → g < length behind
      opening_within g c = board.gates.gates p g (kept_by (λ g. get_or left g 0 == 1) (list_at holds p) g (among_these opening _ g opens c)).0

      pub list_within : (j : ℕ) → Contains (gathered behind opening) j → j < length shut
      list_within j c = let r = gathered_there behind opening j c in let lt = board.gates.positions r.0 j r.2 in let size = board.each_position in omega (arith, lt, size)

      -- what the counts are afterwards
      module _ (next : List ℕ) (size : length next ≡ length left) (lowered : (g : ℕ) → g < length left → get_or next g 0 + count_of g (list_at holds p) ≡ get_or left g 0) where
        now_open : (j : ℕ) → pending behind (zeros next) j + count_of j (gathered behind opening) ≡ pending behind (zeros left) j
        now_open j = pending_opened behind left next (list_at holds p) opening j board.each_gate size (board.gates.gates_rise p) (board.gates.gates p) lowered opens

        pub enough_shut : (j : ℕ) → j < length shut → count_of j (gathered behind opening) ≤ get_or shut j 0
        enough_shut j k =
            let each = board.each_position in
            let is = board.shut_gates j (omega (arith, k, each)) in
            let all = now_open j in
            omega (arith, is, all)

        now_held : (g : ℕ) → g < length behind → get_or next g 0 ≡ pending holds (set ended p true) g
        now_held g k =
            let each = board.each_gate in
            let low = lowered g (omega (arith, k, each)) in
            let is = board.holders g k in
            let all = its_end g in
            omega (arith, low, is, all)

        module _ (rest : List ℕ) (room : length rest ≡ length shut) (taken : (j : ℕ) → j < length shut → get_or rest j 0 + count_of j (gathered behind opening) ≡ get_or shut j 0) where
          now_shut : (j : ℕ) → j < length profiles → get_or rest j 0 ≡ pending behind (zeros next) j
          now_shut j k =
              let each = board.each_position in
              let low = taken j (omega (arith, k, each)) in
              let is = board.shut_gates j k in
              let all = now_open j in
              omega (arith, low, is, all)

          pub board_after : get_or shut p 0 ≡ 0 → IsBoard profiles holds behind next rest (set ended p true) ready
          board_after none = record {
            gates = board.gates;
            each_gate = size ∙ board.each_gate;
            each_position = room ∙ board.each_position;
            each_end = length-set ended p true ∙ board.each_end;
            holders = now_held;
            shut_gates = now_shut;
            in_order = λ j done.
                let within = ended_is_within (set ended p true) j (length profiles) (length-set ended p true ∙ board.each_end) done in
                let each = board.each_position in
                let low = taken j (omega (arith, within, each)) in
                let before = was_in_order j done none in
                omega (arith, low, before);
            ready_rises = board.ready_rises;
            ready_exact = board.ready_exact;
          }
            where
              was_in_order : (j : ℕ) → get_or (set ended p true) j false ≡ true → get_or shut p 0 ≡ 0 → get_or shut j 0 ≡ 0
              was_in_order j done none = by (cases_eq j p)
                where
                  by : (j ≡ p) ⊎ (¬ (j ≡ p)) → get_or shut j 0 ≡ 0
                  by (inl same) = ap (λ k. get_or shut k 0) same ∙ none
                  by (inr other) = board.in_order j (sym (get_or-set_other ended p j true false other) ∙ done)

          -- those behind the gates that opened, with no gate shut, are those that are free now
          pub freed_exact : (free : List ℕ) → ((j : ℕ) → Contains free j ↔ (Contains (gathered behind opening) j × (get_or rest j 0 ≡ 0)))
              → (j : ℕ) → Contains free j ↔ (IsEdge profiles p j × IsFree (record { profiles = profiles; ended = set ended p true }) j)
          freed_exact free exact j =
              let each : length next ≡ length behind = size ∙ board.each_gate in
              let ends : length (set ended p true) ≡ length profiles = length-set ended p true ∙ board.each_end in (
                λ c.
                    let r = (exact j).0 c in
                    let through = gathered_there behind opening j r.0 in
                    let held = kept_by (λ g. get_or left g 0 == 1) (list_at holds p) through.0 (among_these opening _ through.0 opens through.1) in
                    let within = board.gates.positions through.0 j through.2 in (
                      (board.gates.edges p j).0 (through.0, held.0, through.2),
                      λ i e. open_free profiles holds behind board.gates next (set ended p true) each ends now_held j (sym (now_shut j within) ∙ r.1) i e,
                    ),
                λ h.
                    let t = (board.gates.edges p j).1 h.0 in
                    let within = board.gates.gates p t.0 t.1 in
                    let here = board.gates.positions t.0 j t.2 in
                    let empty = free_open profiles holds behind board.gates next (set ended p true) each now_held j h.1 t.0 t.2 within in
                    let once = counted_once (list_at holds p) t.0 (board.gates.gates_rise p) t.1 in
                    let low = lowered t.0 (let k = board.each_gate in omega (arith, within, k)) in
                    let one : get_or left t.0 0 ≡ 1 = omega (arith, empty, once, low) in
                    let among : Contains opening t.0 = among_these _ opening t.0 (sym opens) (keeps (λ g. get_or left g 0 == 1) (list_at holds p) t.0 t.1 (eq-eqb (get_or left t.0 0) 1 one)) in
                    (exact j).1 (there_gathered behind opening t.0 j among t.2, now_shut j here ∙ all_open profiles holds behind board.gates next (set ended p true) each now_held j h.1),
              )

-- those behind the gates that a position holds shut are those that wait for it
pub successors_exact : (profiles : List (List Entry)) (holds behind : List (List ℕ)) → AreGates profiles holds behind → (i : ℕ) (list : List ℕ) → ((j : ℕ) → Contains list j ↔ Contains (gathered behind (list_at holds i)) j)
    → (j : ℕ) → Contains list j ↔ IsEdge profiles i j
successors_exact profiles holds behind gates i list exact j = (
  λ c. let r = gathered_there behind (list_at holds i) j ((exact j).0 c) in (gates.edges i j).0 (r.0, r.1, r.2),
  λ e. let t = (gates.edges i j).1 e in (exact j).1 (there_gathered behind (list_at holds i) t.0 j t.1 t.2),
)

-- the same over the lists that a board's makers read
pub opened : (ps : List (List Entry)) (hs bs : List (List ℕ)) → AreGates ps hs bs → (profiles : List (List Entry)) (holds behind : List (List ℕ)) → profiles ≡ ps → holds ≡ hs → behind ≡ bs
    → (left shut : List ℕ) (ended : List Bool) (ready : List ℕ) → IsBoard ps hs bs left shut ended ready → IsBoard profiles holds behind left shut ended ready
opened ps hs bs gates profiles holds behind p h b left shut ended ready board =
    subst (λ xs. IsBoard xs holds behind left shut ended ready) (sym p)
    (subst (λ xs. IsBoard ps xs behind left shut ended ready) (sym h)
    (subst (λ xs. IsBoard ps hs xs left shut ended ready) (sym b) board))
