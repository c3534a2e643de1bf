-- What the parts of a machine are, in the words of the definitions.
use Rattle.std.specs.Prelude.{List, map, reverse}
use Rattle.module_tree.specs.declared.instr.Instr.{Instr}
use Rattle.module_tree.specs.View.{instr_view, ordinal_of}
use Rattle.spec_execution.specs.Configuration.{State}
use Rattle.interp_state.specs.declared.parts.Kind.{Kind}
use Rattle.interp_state.specs.declared.parts.Kind.TheVariants as kind
use Rattle.interp_state.specs.declared.parts.Entry.{Entry}
use Rattle.interp_state.specs.declared.parts.Parts.{Parts}
use Rattle.instance.specs.States.{based}
use Rattle.laws_reduction.specs.Meaning.{Item, Scope, Block, Loop, Frame, Open, View}

abbrev pub item_of : {A : Type 0} → Instr A → Item
item_of i = record { ordinal = ordinal_of i; instr = instr_view i }

abbrev pub items_of : {A : Type 0} → List (Instr A) → List Item
items_of is = map item_of is

abbrev pub scope_of : {A : Type 0} → Kind A → Scope
scope_of kind.Block = Block
scope_of kind.Loop = Loop
scope_of (kind.Frame f saved) = Frame f saved.items

abbrev pub open_of : {A : Type 0} → Entry A → Open
open_of e = record { scope = scope_of e.kind; ordinal = e.ordinal; arity = e.arity; height = e.height; from = items_of e.from.now }

abbrev pub opens_of : {A : Type 0} → List (Entry A) → List Open
opens_of es = map open_of (reverse es)

abbrev pub view : {A : Type 0} → State → Parts A → View
view b p = record { base = based b p.instance; entries = opens_of p.entries.items; stack = p.stack.items; locals = p.locals.items; code = items_of p.code.now }
