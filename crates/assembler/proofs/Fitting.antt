-- The limits of a module, list by list.
use Rattle.std.proofs.Common.{◌≡◌, ℕ, Bool, true, false, ◌&&◌, nat_le, List, map, length, refl, ap, ap₂, ◌∙◌, sym}
use Rattle.std.specs.List.{list_all}
use Rattle.std.proofs.lemmas.List.{length-map}
use Rattle.std.proofs.lemmas.List.Folds.{list_all-map}
use Rattle.spec_modules.specs.Limits.{import_fits, func_fits, funcs_fit, limits_fit, global_fits, export_fits, start_fits, element_fits, data_fits, module_fits}
use Rattle.spec_modules.specs.Profile.{function_limit}
use Rattle.module_tree.specs.declared.module.Func.{Func}
use Rattle.module_tree.specs.ModuleView.{import_view, func_view, limits_view, global_view, export_view, element_view, data_view}
use Rattle.assembler.specs.declared.builder_lists.Lists.{Lists}
use Rattle.assembler.specs.ListsView.{lists_view}

all_viewed : {X Y : Type 0} (fits : Y → Bool) (view : X → Y) (xs : List X) (b : Bool) → b ≡ list_all (λ x. fits (view x)) xs → b ≡ list_all fits (map view xs)
all_viewed fits view xs b e = e ∙ sym (list_all-map fits view xs)

pub funcs_judged : {A : Type 0} (fs : List (Func A)) (n : ℕ) (b : Bool) → n ≡ length fs → b ≡ list_all (λ f. func_fits (func_view f)) fs → (nat_le n function_limit && b) ≡ funcs_fit (map func_view fs)
funcs_judged fs n b l e =
    ap₂ (λ k c. nat_le k function_limit && c) (l ∙ sym (length-map fs func_view)) (all_viewed func_fits func_view fs b e)

regroup : (i f t m g e s n d : Bool) → s ≡ true → (((((((i && f) && t) && m) && g) && e) && n) && d) ≡ (i && (f && (t && (m && (g && (e && (s && (n && d))))))))
regroup false f t m g e s n d h = refl
regroup true false t m g e s n d h = refl
regroup true true false m g e s n d h = refl
regroup true true true false g e s n d h = refl
regroup true true true true false e s n d h = refl
regroup true true true true true false s n d h = refl
regroup true true true true true true s n d h = ap (λ b. b && (n && d)) (sym h)

module _ {A : Type 0} (l : Lists A) where
  pub module_judged : (i f t m g e n d : Bool)
      → i ≡ list_all (λ x. import_fits (import_view x)) l.imports.items
      → f ≡ funcs_fit (map func_view l.funcs.items)
      → t ≡ list_all (λ x. limits_fit (limits_view x)) l.tables.items
      → m ≡ list_all (λ x. limits_fit (limits_view x)) l.memories.items
      → g ≡ list_all (λ x. global_fits (global_view x)) l.globals.items
      → e ≡ list_all (λ x. export_fits (export_view x)) l.exports.items
      → start_fits l.start ≡ true
      → n ≡ list_all (λ x. element_fits (element_view x)) l.elements.items
      → d ≡ list_all (λ x. data_fits (data_view x)) l.datas.items
      → (((((((i && f) && t) && m) && g) && e) && n) && d) ≡ module_fits (lists_view l)
  unfolding module_fits
  module_judged i f t m g e n d hi hf ht hm hg he hs hn hd =
      regroup i f t m g e (start_fits l.start) n d hs
      ∙ ap₂ (λ a b. a && b) (all_viewed import_fits import_view l.imports.items i hi)
      (ap₂ (λ a b. a && b) hf
      (ap₂ (λ a b. a && b) (all_viewed limits_fit limits_view l.tables.items t ht)
      (ap₂ (λ a b. a && b) (all_viewed limits_fit limits_view l.memories.items m hm)
      (ap₂ (λ a b. a && b) (all_viewed global_fits global_view l.globals.items g hg)
      (ap₂ (λ a b. a && b) (all_viewed export_fits export_view l.exports.items e he)
      (ap (λ b. start_fits l.start && b)
      (ap₂ (λ a b. a && b) (all_viewed element_fits element_view l.elements.items n hn) (all_viewed data_fits data_view l.datas.items d hd))))))))
