-- The files that are written where a world is left.
use Rattle.std.proofs.Common.{◌≡◌, List, [], ◌∷◌, ◌++◌, Option, Some, None, map, string_bytes, sym, ap, ◌∙◌, append-nil}
use Rattle.std.proofs.lemmas.List.{map-append}
use Rattle.spec_block.specs.Bytes.{world_bytes}
use Rattle.world.specs.Views.{world_view}
use Rattle.wblock_line.specs.declared.answer.Write.{Write}
use Rattle.wblock_line.specs.declared.perform.Status.TheVariants as status
use Rattle.wblock_line.specs.declared.transition.Change.{Change}
use Rattle.wblock_line.specs.declared.transition.NextWorld.{NextWorld}
use Rattle.wblock_line.specs.declared.transition.Transition.{Transition}
use Rattle.wblock_line.specs.declared.transition.Transition.TheVariants.{Done, Refused}
use Rattle.wblock_line.specs.Answers.{Written, Upshot, write_of}
use Rattle.wblock_line.specs.Transitions.{leaving, next_write}

pub no_world : (ws : List Write) (next : Option NextWorld) → next ≡ None → map write_of ws ≡ map write_of ws ++ next_write next
no_world ws next is = sym (ap (λ (n : Option NextWorld). map write_of ws ++ next_write n) is ∙ append-nil (map write_of ws))

pub with_left : (ws all : List Write) (w : Write) (next : Option NextWorld) (left : NextWorld) → next ≡ Some left → all ≡ ws ++ w ∷ []
    → write_of w ≡ (left.name.now, world_bytes (world_view left.world)) → map write_of all ≡ map write_of ws ++ next_write next
with_left ws all w next left is pushed same =
    ap (map write_of) pushed ∙ (map-append write_of ws (w ∷ []) ∙ (ap (λ (x : Written). map write_of ws ++ x ∷ []) same ∙ sym (ap (λ (n : Option NextWorld). map write_of ws ++ next_write n) is)))

abbrev pub done_with : Change → List Written → Upshot
done_with change ws = record { status = status.Done; writes = ws; text = string_bytes change.text; why = [] }

pub leaves : (t : Transition) (change : Change) (ws : List Written) → t ≡ Done change → ws ≡ map write_of change.writes.items ++ next_write change.next → done_with change ws ≡ leaving t
leaves t change ws is written = ap (done_with change) written ∙ sym (ap leaving is)
