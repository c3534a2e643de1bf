-- Which positions name no call, and what tells of bytes that are no block.
use Rattle.std.proofs.Common.{◌≡◌, ◌⊎◌, inl, inr, ℕ, ◌+◌, ◌<◌, ◌≤◌, Option, Some, None, List, length, map, get_or, slice_get, refl, sym, ◌∙◌, ap, subst, arith}
use Rattle.std.specs.Option.{option_map}
use Rattle.std.proofs.lemmas.Bool.{cases_eq}
use Rattle.std.proofs.lemmas.List.{length-map}
use Rattle.std.proofs.lemmas.Option.{slice_get_read, slice_get-map, slice_get_within}
use Rattle.spec_block.specs.Worlds.{Block, Call, Position, order_of}
use Rattle.spec_block.specs.Bytes.{SpellsBlock}
use Rattle.spec_block.specs.Verdicts.{IsLeast}
use Rattle.block.specs.Reading.{block_at}
use Rattle.block.specs.Refusals.{Refuses}
use Rattle.records.specs.declared.refusal.BlockRefusal.{BlockRefusal}
use Rattle.records.specs.declared.refusal.BlockRefusal.TheVariants.{NoMemory}
use Rattle.records.specs.Reading.{whole}
use Rattle.wblock_show.specs.Shows.{numbers_of, IsBlockLine, NamesNoCall, TellsNoBlock}

some_is : {A : Type 0} (x y : A) → Some x ≡ Some y → x ≡ y
some_is x y e = cc e

module _ (calls : List Call) (positions : List Position) where
  number_there : (n : ℕ) (item : Position) → n < length positions → item ≡ get_or positions n item → slice_get (numbers_of positions) n ≡ Some item.call
  number_there n item below is = slice_get-map (λ (p : Position). p.call) positions n ∙ ap (option_map (λ (p : Position). p.call)) (slice_get_read positions (length positions) n item refl below is)

  pub least_without : (n call : ℕ) (item : Position) → n < length positions → item ≡ get_or positions n item → call ≡ item.call → length calls ≤ call → ((m : ℕ) → m < n → ¬ NamesNoCall calls (numbers_of positions) m) → IsLeast (NamesNoCall calls (numbers_of positions)) n
  least_without n call item below is same past before = record { holds = (item.call, number_there n item below is, omega (arith, same, past)); none_before = before }

  pub named_more : (n call : ℕ) (item : Position) → n < length positions → item ≡ get_or positions n item → call ≡ item.call → call < length calls → ((m : ℕ) → m < n → ¬ NamesNoCall calls (numbers_of positions) m) → (m : ℕ) → m < n + 1
      → ¬ NamesNoCall calls (numbers_of positions) m
  named_more n call item below is same within before m lt names =
      elim (cases_eq m n) [
        | inl last ↦
            let there : slice_get (numbers_of positions) m ≡ Some item.call = ap (slice_get (numbers_of positions)) last ∙ number_there n item below is in
            let one : names.0 ≡ item.call = some_is names.0 item.call (sym names.1 ∙ there) in
            let past = names.2 in absurd (omega (arith, one, past, same, within))
        | inr other ↦ before m (omega (arith, lt, other)) names
      ]

  pub all_named : (n : ℕ) → length positions ≤ n → ((m : ℕ) → m < n → ¬ NamesNoCall calls (numbers_of positions) m) → (m : ℕ) → ¬ NamesNoCall calls (numbers_of positions) m
  all_named n end before m names =
      let within = slice_get_within (numbers_of positions) m names.0 names.1 in
      let size : length (numbers_of positions) ≡ length positions = length-map positions (λ (p : Position). p.call) in
      before m (omega (arith, within, size, end)) names

pub tells_none : (bytes line : List ℕ) (r : BlockRefusal) → ((r ≡ NoMemory) ⊎ ((b : Block) → ¬ SpellsBlock bytes b)) → Refuses (length bytes) r (whole (block_at bytes)) → IsBlockLine r line → TellsNoBlock bytes line
tells_none bytes line r why first is = record {
  none = elim why [ inl no_memory ↦ absurd (subst (λ x. IsBlockLine x line) no_memory is) | inr none ↦ none ];
  refusal = r;
  first = first;
  line_is = is;
}

pub names_no_more : (calls : List Call) (positions : List Position) (b : Block) → numbers_of positions ≡ order_of b → ((m : ℕ) → ¬ NamesNoCall calls (numbers_of positions) m) → (m : ℕ) → ¬ NamesNoCall calls (order_of b) m
names_no_more calls positions b same none m names = none m (subst (λ (ns : List ℕ). NamesNoCall calls ns m) (sym same) names)
