-- Which bytes are no contract's.
use Rattle.std.proofs.Common.{◌≡◌, ◌≢◌, ℕ, List, refl, sym, ap, subst, ◌∙◌}
use Rattle.std.proofs.Math.Logic.{∥∥₁_elim}
use Rattle.wtypes.specs.declared.HostCall.{HostCall}
use Rattle.spec_modules.specs.Syntax.{Module}
use Rattle.spec_modules.specs.Shortest.{shortest}
use Rattle.spec_modules.specs.Spells.{Spells}
use Rattle.spec_typing.specs.Modules.{ModuleTyped}
use Rattle.spec_typing.specs.Linking.{IsLinked}
use Rattle.spec_typing.specs.Laws.{Refuses}
use Rattle.spec_block.specs.Worlds.{Contract}
use Rattle.spec_block.proofs.OneWorld.{TreesAreUnique}
use Rattle.body_typing.specs.declared.scope.TypeRefusal.{TypeRefusal}
use Rattle.body_typing.specs.declared.scope.TypeRefusal.TheVariants.{At, NoMemory}
use Rattle.typing.specs.CheckResults.{Denies}
use Rattle.link.specs.declared.refusal.LinkRefusal.{LinkRefusal}
use Rattle.link.specs.declared.refusal.LinkRefusal.TheVariants as refusal
use Rattle.link.specs.Refusals.{Says}
use Rattle.world.specs.Reading.{IsBody, IsNoBody}

spelled_by : (body : List ℕ) (c : Contract) → IsBody body c → Spells body c.tree
spelled_by body c is = subst (λ (w : List ℕ). Spells w c.tree) (sym is.is) is.tree.tree

same_tree : TreesAreUnique → (body : List ℕ) (m : Module) (c : Contract) → Spells body m → IsBody body c → c.tree ≡ m
same_tree unique body m c spelled is = unique body c.tree m (spelled_by body c is) spelled

pub not_typed : TreesAreUnique → (body : List ℕ) (m : Module) → Spells body m → (e : TypeRefusal) → e ≢ NoMemory → Denies e (ModuleTyped m) → IsNoBody body
not_typed unique body m spelled (At func ordinal rule) other untyped = λ c is. ∥∥₁_elim is.tree.linked (λ a b. absurd a) (λ l. untyped (subst ModuleTyped (same_tree unique body m c spelled is) l.typed))
not_typed unique body m spelled NoMemory other untyped = absurd (other refl)

unlinked : TreesAreUnique → (body : List ℕ) (m : Module) → Spells body m → ((calls : List HostCall) → ¬ IsLinked m calls) → IsNoBody body
unlinked unique body m spelled none = λ c is. ∥∥₁_elim is.tree.linked (λ a b. absurd a) (λ l. none c.hosts (subst (λ (t : Module). IsLinked t c.hosts) (same_tree unique body m c spelled is) l))

-- a refusal for another cause than memory
pub not_linked : TreesAreUnique → ((m : Module) (calls : List HostCall) → Refuses m calls) → (body : List ℕ) (m : Module) → Spells body m → (e : LinkRefusal) → e ≢ refusal.NoMemory → Says e m → IsNoBody body
not_linked unique law body m spelled (refusal.UnknownImport n) other says = unlinked unique body m spelled (λ calls. (law m calls).unknown_import n says)
not_linked unique law body m spelled (refusal.ImportType n) other says = unlinked unique body m spelled (λ calls. (law m calls).import_type n says)
not_linked unique law body m spelled (refusal.SegmentRange n) other says = unlinked unique body m spelled (λ calls. (law m calls).segment_range n says)
not_linked unique law body m spelled refusal.TooManyPages other says = unlinked unique body m spelled (λ calls. (law m calls).too_many_pages says)
not_linked unique law body m spelled refusal.TableTooLarge other says = unlinked unique body m spelled (λ calls. (law m calls).table_too_large says)
not_linked unique law body m spelled refusal.NoMemory other says = absurd (other refl)

pub not_shortest : TreesAreUnique → (body : List ℕ) (m : Module) → Spells body m → body ≢ shortest m → IsNoBody body
not_shortest unique body m spelled other = λ c is. other (is.is ∙ ap shortest (same_tree unique body m c spelled is))

pub is_body : (body : List ℕ) (c : Contract) → Spells body c.tree → ∥ IsLinked c.tree c.hosts ∥₁ → body ≡ shortest c.tree → IsBody body c
is_body body c spelled linked is = record { tree = record { tree = subst (λ (w : List ℕ). Spells w c.tree) is spelled; linked = linked }; is = is }
